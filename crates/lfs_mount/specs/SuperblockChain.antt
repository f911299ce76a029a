-- The superblock's pairs, as a mount reads them.
use Rattle.std.specs.Prelude.{ℕ, suc, ◌≡◌, ◌==◌, ◌&&◌, ◌||◌, Bool, true, false, if◌then◌else◌, List, [], ◌∷◌, ◌++◌, length, drop, Option, Some, None, codes}
use Rattle.std.specs.Option.{option_and_then, option_map}
use Rattle.std.specs.Str.{bytes_eq}
use Rattle.lfs_model.specs.format.Content.{RawSlot, content_after, content_at, empty_raw_content}
use Rattle.lfs_model.specs.format.EntryTypes.{inline_struct_type, superblock_fields}
use Rattle.lfs_model.specs.format.Disk.{Disk, disk_block, block_count}
use Rattle.lfs_model.specs.session.History.{CallEvent}
use Rattle.lfs_model.specs.format.Log.{block_entries}
use Rattle.lfs_model.specs.format.Thread.{Pair, IsThread, is_hard_tail, count_before_root}
use Rattle.lfs_model.specs.declared.limits.AcceptedVersions.{AcceptedVersions}
use Rattle.lfs_model.specs.declared.violations.Violation.{Violation}
use Rattle.lfs_model.specs.declared.violations.Violation.TheVariants as violation
use Rattle.lfs_model.specs.tree.View.{HasFirstLogEntry, accepts_version, superblock_entry}
use Rattle.lfs_tag.specs.ContentView.{tail_view}
use Rattle.lfs_tag.specs.KindView.{is_superblock_name}
use Rattle.lfs_thread.specs.Kept.{PairHeader, AreHeaders, header_pairs}
use Rattle.lfs_mount.specs.Checked.{HasSuperblockChain}

-- ---- slots

-- the bytes of an inline struct
abbrev pub inline_bytes : Option (ℕ × List ℕ) → Option (List ℕ)
inline_bytes None = None
inline_bytes (Some struct) = if struct.0 == inline_struct_type then Some struct.1 else None

-- whether the name is these bytes
abbrev pub has_name : List ℕ → Option (ℕ × List ℕ) → Bool
has_name bytes None = false
has_name bytes (Some name) = bytes_eq name.1 bytes

-- whether these bytes are a superblock's struct of an accepted version, for `count` blocks of this size
abbrev pub is_geometry_struct : AcceptedVersions → ℕ → ℕ → List ℕ → Bool
is_geometry_struct versions block_size count bytes =
    length bytes == 24 && (accepts_version versions (superblock_fields bytes).version && ((superblock_fields bytes).block_size == block_size && (superblock_fields bytes).block_count == count))

abbrev pub struct_if_geometry_matches : AcceptedVersions → ℕ → ℕ → Option (List ℕ) → Option (List ℕ)
struct_if_geometry_matches versions block_size count None = None
struct_if_geometry_matches versions block_size count (Some bytes) = if is_geometry_struct versions block_size count bytes then Some bytes else None

-- the struct in the first slot, if that is the superblock of a device of `count` blocks of this size
abbrev pub first_slot_struct : AcceptedVersions → ℕ → ℕ → List RawSlot → Option (List ℕ)
first_slot_struct versions block_size count [] = None
first_slot_struct versions block_size count (s ∷ slots) =
    if is_superblock_name s.name && has_name (codes "littlefs") s.name then struct_if_geometry_matches versions block_size count (inline_bytes s.struct) else None

-- whether a struct has an accepted version, followed by the same bytes as in the superblock's struct
abbrev pub repeats_superblock_struct : AcceptedVersions → List ℕ → List ℕ → Bool
repeats_superblock_struct versions bytes own =
    length own == length bytes && (accepts_version versions (superblock_fields own).version && bytes_eq (drop 4 own) (drop 4 bytes))

abbrev pub repeats_superblock_if_struct : AcceptedVersions → List ℕ → Option (List ℕ) → Option Bool
repeats_superblock_if_struct versions bytes None = None
repeats_superblock_if_struct versions bytes (Some own) = if repeats_superblock_struct versions bytes own then Some true else None

-- whether the first slot is a superblock's; None if it is one with another struct
abbrev pub first_repeats_superblock : AcceptedVersions → List ℕ → List RawSlot → Option Bool
first_repeats_superblock versions bytes [] = Some false
first_repeats_superblock versions bytes (s ∷ slots) = if is_superblock_name s.name then repeats_superblock_if_struct versions bytes (inline_bytes s.struct) else Some false

-- ---- blocks

-- the superblock's struct in the first slot of a block's log, and whether that slot repeats one
abbrev pub superblock_in_log : AcceptedVersions → ℕ → ℕ → List ℕ → Option (List ℕ)
superblock_in_log versions block_size count block = option_and_then (λ c. first_slot_struct versions block_size count c.slots) (content_after empty_raw_content (block_entries block))

abbrev pub repeats_superblock : AcceptedVersions → List ℕ → List ℕ → Option Bool
repeats_superblock versions bytes block = option_and_then (λ c. first_repeats_superblock versions bytes c.slots) (content_after empty_raw_content (block_entries block))

-- the block's log begins with the superblock's entry, and this is its struct
pub record BlockHasSuperblock (disk : Disk) (block : ℕ) (bytes : List ℕ) : Type 0 where
  pub begins : HasFirstLogEntry (Some (disk_block disk block)) superblock_entry
  pub struct : superblock_in_log disk.profile.versions disk.block_size (block_count disk) (disk_block disk block) ≡ Some bytes

-- ---- pairs

-- the log of the first pair that has a slot begins with another entry, or has no superblock's struct in slot 0
abbrev pub BreaksFirstSuperblock : Disk → PairHeader → Violation → Type 0
BreaksFirstSuperblock disk h (violation.FirstEntry pair) = (pair ≡ h.blocks) × ¬ HasFirstLogEntry (Some (disk_block disk h.active)) superblock_entry
BreaksFirstSuperblock disk h (violation.Superblock pair) = (pair ≡ h.blocks) × (superblock_in_log disk.profile.versions disk.block_size (block_count disk) (disk_block disk h.active) ≡ None)
BreaksFirstSuperblock disk h _ = ⊥

-- whether the superblock's chain may continue behind the pair: it has at most one slot, and a hard tail
abbrev pub may_superblock_chain_continue : PairHeader → Bool
may_superblock_chain_continue h = (h.slot_count == 0 || h.slot_count == 1) && is_hard_tail (option_map tail_view h.tail)

-- the index of the first pair that has a slot, if the pairs before it have hard tails
abbrev pub first_filled : List PairHeader → Option ℕ
first_filled [] = None
first_filled (h ∷ hs) = if h.slot_count == 0 then (if is_hard_tail (option_map tail_view h.tail) then option_map (λ k. suc k) (first_filled hs) else None) else Some 0

-- ---- the thread

-- these are the headers of the disk's thread
pub record AreThreadHeaders (disk : Disk) (history : List CallEvent) (headers : List PairHeader) : Type 0 where
  pub each : AreHeaders disk history headers
  pub thread : IsThread (content_at disk) (block_count disk) (header_pairs disk headers)

-- `count` pairs come before the root's first pair
pub record HasSuperblockChainLength (disk : Disk) (ps : List Pair) (count : ℕ) : Type 0 where
  pub chain : List Pair
  pub p : Pair
  pub rest : List Pair
  pub parts : ps ≡ chain ++ p ∷ rest
  pub chain_is : length chain ≡ count
  pub before : count_before_root ps ≡ count
  pub bytes : List ℕ
  pub head : HasSuperblockChain disk chain p rest bytes
