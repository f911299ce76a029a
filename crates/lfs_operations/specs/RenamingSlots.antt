-- A slot that is renamed: its copy without its name, and the slot at its new id.
use Rattle.std.specs.Prelude.{ℕ, ◌≡◌, ◌<◌, Bool, true, false, None, List, [], length, unwrap_or}
use Rattle.lfs_model.specs.layers.SlotChanges.{NamelessSlot, slot_without_name}
use Rattle.lfs_model.specs.format.Content.{RawSlot, empty_raw_content, raw_content, slot_of_id}
use Rattle.lfs_model.specs.format.Disk.{Disk}
use Rattle.lfs_model.specs.format.Names.{Name, is_valid_name}
use Rattle.lfs_model.specs.session.InDirectory.{IsInsertionPosition, IsPositionOfName}
use Rattle.lfs_model.specs.tree.Shown.{struct_blocks}
use Rattle.lfs_model.specs.tree.Tree.{struct_directory_address}
use Rattle.lfs_thread.specs.Kept.{KeptThread}
use Rattle.lfs_thread.specs.ThreadSteps.{thread_pair}

-- the slot with an id, as the log of a pair has it
abbrev pub raw_log_slot : Disk → ℕ × ℕ → ℕ → RawSlot
raw_log_slot disk at id = slot_of_id (unwrap_or (raw_content disk at) empty_raw_content).slots id

abbrev pub slot_without_name_at : KeptThread → ℕ → ℕ → NamelessSlot
slot_without_name_at t index id = slot_without_name (raw_log_slot t.disk (thread_pair t index).at id)

-- the pair of that index has a slot with that id
pub record PairHasSlotId (t : KeptThread) (index id : ℕ) : Type 0 where
  pub below : index < length t.pairs
  pub there : id < length (thread_pair t index).content.slots

-- The name is new in the directory that begins with the pair of index `first`, and belongs at the id of the pair.
pub record IsNewNamePosition (t : KeptThread) (first : ℕ) (name : Name) (pair id : ℕ) (gone : List ℕ) : Type 0 where
  pub belongs : IsInsertionPosition t.disk.order t.pairs first name pair id
  pub is_name : is_valid_name name ≡ true
  pub none : gone ≡ []

-- The pair has an entry of that name with the id: a file, or with `sync` also a directory. The blocks of its list are `gone`.
pub record IsReplacedEntryPosition (sync : Bool) (t : KeptThread) (first : ℕ) (name : Name) (pair id : ℕ) (gone : List ℕ) : Type 0 where
  pub there : IsPositionOfName t.pairs first name pair id
  pub file : sync ≡ false → struct_directory_address there.stands.slot.struct ≡ None
  pub blocks : struct_blocks t.disk there.stands.slot.struct ≡ gone

-- The target of a rename: a new name, or an entry that is replaced.
abbrev pub IsRenameTargetPosition : (replaces sync : Bool) → KeptThread → (first : ℕ) → Name → (pair id : ℕ) → (gone : List ℕ) → Type 0
IsRenameTargetPosition false sync t first name pair id gone = IsNewNamePosition t first name pair id gone
IsRenameTargetPosition true sync t first name pair id gone = IsReplacedEntryPosition sync t first name pair id gone
