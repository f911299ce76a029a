-- The descriptions of the directories' pairs, before their slots are read.
use Rattle.std.specs.Prelude.{◌≡◌, ◌<◌, Bool, true, false, List, [], ◌∷◌, Some}
use Rattle.lfs_model.specs.format.Disk.{Disk, disk_block, block_count}
use Rattle.lfs_model.specs.format.Content.{current_block, content_at}
use Rattle.lfs_model.specs.format.Slots.{Gstate, address_of_array}
use Rattle.lfs_model.specs.format.Thread.{Pair, is_hard_tail, begins_with_superblock, moved_id}
use Rattle.lfs_mount.specs.declared.pass.DirectoryPairHeader.{DirectoryPairHeader}

-- The pair is on the disk, and this is its description. The first pair has the superblock.
pub record IsPairDescription (disk : Disk) (g : Gstate) (is_first : Bool) (p : Pair) (m : DirectoryPairHeader) : Type 0 where
  pub at : address_of_array m.at ≡ p.at
  pub content : content_at disk p.at ≡ Some p.content
  pub within : m.active < block_count disk
  pub active : current_block disk p.at ≡ Some (disk_block disk m.active)
  pub hard : m.is_hard ≡ is_hard_tail p.content.tail
  pub first : m.has_superblock ≡ is_first
  pub starts : is_first ≡ true → begins_with_superblock p.content.slots ≡ true
  pub moved : m.moved ≡ moved_id g p

abbrev pub ArePairDescriptions : Disk → Gstate → Bool → List Pair → List DirectoryPairHeader → Type 0
ArePairDescriptions disk g is_first [] [] = Unit {0}
ArePairDescriptions disk g is_first [] (m ∷ ms) = ⊥
ArePairDescriptions disk g is_first (p ∷ ps) [] = ⊥
ArePairDescriptions disk g is_first (p ∷ ps) (m ∷ ms) = IsPairDescription disk g is_first p m × ArePairDescriptions disk g false ps ms
