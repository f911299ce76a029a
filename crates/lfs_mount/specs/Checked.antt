-- A thread before its slots are read, and the superblock's pairs.
use Rattle.std.specs.Prelude.{ℕ, ◌≡◌, ◌⊎◌, Bool, true, List, [], ◌∷◌, ◌++◌, length, Some, codes}
use Rattle.std.specs.List.{AllByRecursion}
use Rattle.lfs_model.specs.layers.BlockSets.{BlockStates}
use Rattle.lfs_model.specs.format.Content.{current_block, content_at}
use Rattle.lfs_model.specs.format.Disk.{Disk, block_count}
use Rattle.lfs_model.specs.format.Slots.{Slot, is_superblock}
use Rattle.lfs_model.specs.format.Thread.{Pair, IsThread, pairs_blocks, first_address, pairs_from_nonempty, pairs_gstate, count_before_root}
use Rattle.lfs_model.specs.tree.View.{RepeatsSuperblockStruct, HasFirstLogEntry, superblock_entry, IsSuperblockStruct, first_slot_name}
use Rattle.lfs_model.specs.declared.limits.AcceptedVersions.{AcceptedVersions}
use Rattle.lfs_model.specs.tree.Shown.{all_directories}
use Rattle.lfs_mount.specs.Marking.{HasExactlyUsedBlocks}
use Rattle.lfs_mount.specs.Described.{ArePairDescriptions}
use Rattle.lfs_mount.specs.declared.pass.DirectoryPairHeader.{DirectoryPairHeader}
use Rattle.lfs_model.specs.layers.Steps.{directory_addresses}

-- the first slot is a superblock's, with this struct except for an accepted version
abbrev pub FirstSlotIsSuperblock : AcceptedVersions → List ℕ → List Slot → Type 0
FirstSlotIsSuperblock versions bytes [] = ⊥
FirstSlotIsSuperblock versions bytes (s ∷ slots) = (is_superblock s ≡ true) × RepeatsSuperblockStruct versions bytes s

-- the pair has the superblock's slot and no other
pub record HasOnlySuperblockSlot (versions : AcceptedVersions) (bytes : List ℕ) (p : Pair) : Type 0 where
  pub slot : Slot
  pub slots : p.content.slots ≡ slot ∷ []
  pub superblock : is_superblock slot ≡ true
  pub struct : RepeatsSuperblockStruct versions bytes slot

-- a pair of the superblock's chain before the root's first one: no slot, or the superblock's slot alone
abbrev pub IsEmptyOrOnlySuperblock : AcceptedVersions → List ℕ → Pair → Type 0
IsEmptyOrOnlySuperblock versions bytes p = (p.content.slots ≡ []) ⊎ HasOnlySuperblockSlot versions bytes p

-- the superblock's chain up to the root's first pair
pub record HasSuperblockChain (disk : Disk) (chain : List Pair) (p : Pair) (rest : List Pair) (bytes : List ℕ) : Type 0 where
  pub first : HasFirstLogEntry (current_block disk (first_address (pairs_from_nonempty (chain ++ p ∷ rest)))) superblock_entry
  pub named : first_slot_name (pairs_from_nonempty (chain ++ p ∷ rest)) ≡ Some (codes "littlefs")
  pub struct : IsSuperblockStruct disk bytes
  pub bare : AllByRecursion (IsEmptyOrOnlySuperblock disk.profile.versions bytes) chain
  pub start : FirstSlotIsSuperblock disk.profile.versions bytes p.content.slots

-- A thread in three parts: the superblock's chain, the root's first pair, and the others. Its pairs' blocks are used in the map,
-- and `firsts` are the addresses of its directories.
pub record IsDescribedThread (disk : Disk) (sets : BlockStates) (firsts : List (ℕ × ℕ)) (members : List DirectoryPairHeader) (sync : Bool) (chain : List Pair) (p : Pair) (rest : List Pair) : Type 0 where
  pub thread : IsThread (content_at disk) (block_count disk) (chain ++ p ∷ rest)
  pub chain_is : count_before_root (chain ++ p ∷ rest) ≡ length chain
  pub sets_len : length sets ≡ block_count disk
  pub owns : HasExactlyUsedBlocks sets (pairs_blocks (chain ++ p ∷ rest))
  pub described : ArePairDescriptions disk (pairs_gstate (chain ++ p ∷ rest)) true (p ∷ rest) members
  pub places : firsts ≡ directory_addresses (all_directories (chain ++ p ∷ rest))
  pub sync_is : (pairs_gstate (chain ++ p ∷ rest)).sync ≡ sync

abbrev pub DescribesThread : Disk → BlockStates → List (ℕ × ℕ) → List DirectoryPairHeader → Bool → Type 0
DescribesThread disk sets firsts members sync = (chain : List Pair) × (p : Pair) × (rest : List Pair) × IsDescribedThread disk sets firsts members sync chain p rest
