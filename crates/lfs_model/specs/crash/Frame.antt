-- The blocks that an operation doesn't change, the most reads of a look-up, and the operations that
-- need no call of the device.
use Rattle.std.specs.Prelude.{ℕ, ◌≡◌, ◌≤◌, Bool, true, false, if◌then◌else◌, not, List, [], ◌∷◌, ◌++◌, length, map, Option, Some, None, All, Any, Contains, sum_by}
use Rattle.lfs_model.specs.format.Disk.{Disk, disk_block}
use Rattle.lfs_model.specs.format.Slots.{Slot, same_pair, is_superblock}
use Rattle.lfs_model.specs.format.Thread.{Pair, is_hard_tail, root_address}
use Rattle.lfs_model.specs.tree.Tree.{Path, address_at_path}
use Rattle.lfs_model.specs.format.Names.{Name, same_name}
use Rattle.lfs_model.specs.session.TreeEdits.{parent_path, last_name}
use Rattle.lfs_model.specs.tree.Shown.{all_entries, all_unmoved_slots, struct_blocks, IsDirectoryAtPath}
use Rattle.lfs_model.specs.session.History.{CallEvent, read_count}
use Rattle.lfs_model.specs.session.Operations as ops
use Rattle.lfs_model.specs.session.Operations.{Operation, Refusal, BadFile, Invalid, ReadOnly, Failed}
use Rattle.lfs_model.specs.session.Session.{Session, OpenFile, file_path, file_numbered}
use Rattle.lfs_model.specs.session.Refusals.{path_or_root, is_root_path}
use Rattle.lfs_model.specs.session.State.{is_remount}
use Rattle.lfs_model.specs.session.Run.{writes_or_truncates, needs_no_device}

-- ---- the pairs of a directory

-- The first pair, and the pairs that hard tails join to it.
abbrev pub tail_pairs : Pair → List Pair → List Pair
tail_pairs p [] = p ∷ []
tail_pairs p (q ∷ ps) = p ∷ (if is_hard_tail p.content.tail then tail_pairs q ps else [])

-- The pairs of the directory that begins at the address `at`.
abbrev pub directory_pairs : List Pair → ℕ × ℕ → List Pair
directory_pairs [] at = []
directory_pairs (p ∷ ps) at = if same_pair p.at at then tail_pairs p ps else directory_pairs ps at

-- ---- blocks

-- The path of the open file, if there is one.
abbrev pub open_file_paths : Option OpenFile → List Path
open_file_paths None = []
open_file_paths (Some file) = file_path file ∷ []

-- The paths whose entries an operation may change.
abbrev pub changed_paths : Session → Operation → List Path
changed_paths s (ops.Open path flags) = path_or_root path ∷ []
changed_paths s (ops.Mkdir path) = path_or_root path ∷ []
changed_paths s (ops.Remove path) = path_or_root path ∷ []
changed_paths s (ops.Rename old new) = path_or_root old ∷ path_or_root new ∷ []
changed_paths s (ops.SetAttr path kind bytes) = path_or_root path ∷ []
changed_paths s (ops.RemoveAttr path kind) = path_or_root path ∷ []
changed_paths s (ops.Sync fd) = open_file_paths (file_numbered s.files fd)
changed_paths s (ops.Close fd) = open_file_paths (file_numbered s.files fd)
changed_paths s _ = []

-- The slot is an entry with this name. A superblock isn't an entry.
abbrev pub IsEntryNamed : Name → Slot → Type 0
IsEntryNamed name s = (is_superblock s ≡ false) × (same_name name s.name ≡ true)

-- The pair holds the entry of the path.
abbrev pub HoldsSlotOfPath : List Pair → Pair → Path → Type 0
HoldsSlotOfPath ps p path = (at : ℕ × ℕ) × (IsDirectoryAtPath ps (parent_path path) at × Contains (directory_pairs ps at) p
    × Any (IsEntryNamed (last_name path)) p.content.slots)

-- Both blocks of the pair keep their bytes.
abbrev pub KeepsPairBytes : Disk → Disk → Pair → Type 0
KeepsPairBytes disk new p = (disk_block new p.at.0 ≡ disk_block disk p.at.0) × (disk_block new p.at.1 ≡ disk_block disk p.at.1)

-- Every block of a file's list keeps its bytes. So do both blocks of a pair that is among the pairs
-- before and after the operation, unless it holds an entry that the operation may change.
pub record KeepsUnrelatedBlocks (disk : Disk) (ps : List Pair) (s : Session) (op : Operation) (new : Disk) (qs : List Pair) : Type 0 where
  pub files : All (λ t. All (λ b. disk_block new b ≡ disk_block disk b) (struct_blocks disk t.struct)) (all_unmoved_slots ps)
  pub pairs : (p : Pair) → Contains ps p → Contains qs p → (Any (HoldsSlotOfPath ps p) (changed_paths s op) → ⊥) → KeepsPairBytes disk new p

-- ---- reads

-- The paths of all directories above a path, the root first.
abbrev pub ancestor_paths : Path → List Path
ancestor_paths [] = []
ancestor_paths (name ∷ path) = [] ∷ map (λ p. name ∷ p) (ancestor_paths path)

-- The paths of the directories that a look-up searches.
abbrev pub searched_directories : Operation → List Path
searched_directories (ops.Stat path) = ancestor_paths (path_or_root path)
searched_directories (ops.GetAttr path kind) = ancestor_paths (path_or_root path)
searched_directories (ops.ListAll path) = ancestor_paths (path_or_root path) ++ path_or_root path ∷ []
searched_directories _ = []

-- Whether the operation is a look-up.
abbrev pub is_look_up : Operation → Bool
is_look_up (ops.Stat path) = true
is_look_up (ops.GetAttr path kind) = true
is_look_up (ops.ListAll path) = true
is_look_up _ = false

-- The number of pairs of the directory at a path, or 0 if there is none.
abbrev pub directory_pair_count : List Pair → Path → ℕ
directory_pair_count ps path = count (address_at_path (all_entries ps) (root_address ps) path)
  where
    count : Option (ℕ × ℕ) → ℕ
    count None = 0
    count (Some at) = length (directory_pairs ps at)

-- A look-up makes at most one read for each pair of the directories that it searches.
abbrev pub ReadsEachPairOnce : List Pair → Operation → List CallEvent → Type 0
ReadsEachPairOnce ps op calls = is_look_up op ≡ true → read_count calls ≤ sum_by (directory_pair_count ps) (searched_directories op)

-- Whether the session answers the operation from its state, without the device.
abbrev pub is_session_query : Operation → Bool
is_session_query ops.AskGstate = true
is_session_query (ops.IsUsed block) = true
is_session_query ops.UsedCount = true
is_session_query _ = false

-- The operation `op` searches only directories that the status query `before` has just searched.
-- These are at most eight, of one pair each.
pub record SearchesSameDirectories (ps : List Pair) (before op : Operation) : Type 0 where
  pub path : List ℕ
  pub stat : before ≡ ops.Stat path
  pub below : is_root_path (path_or_root path) ≡ false
  pub again : is_look_up op ≡ true
  pub within : All (λ p. Contains (searched_directories before) p) (searched_directories op)
  pub few : length (searched_directories before) ≤ 8
  pub small : All (λ p. directory_pair_count ps p ≡ 1) (searched_directories before)

-- ---- operations without a look-up

-- Whether the operation neither calls the device nor allocates memory: the session has the answer,
-- or only a position changes.
abbrev pub needs_session_alone : Session → Operation → Bool
needs_session_alone s (ops.Seek fd position) = true
needs_session_alone s op = needs_no_device s op

-- Whether an operation is refused with this error before any look-up. This holds for every error of
-- a write or a truncation.
abbrev pub refused_before_search : Operation → Refusal → Bool
refused_before_search op Failed = not (is_remount op)
refused_before_search op ReadOnly = true
refused_before_search op BadFile = true
refused_before_search op Invalid = true
refused_before_search op _ = writes_or_truncates op
