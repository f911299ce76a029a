-- A rename within a pair.
use Rattle.std.specs.Prelude.{ℕ, ◌≡◌, ◌≢◌, ◌⊎◌, ◌≤◌, ◌+◌, ◌-◌, true, false, nat_lt, if◌then◌else◌, List, [], ◌∷◌, ◌++◌, Result, Err, Bool}
use Rattle.lfs_device.specs.declared.error.Error.{Error}
use Rattle.lfs_device.specs.declared.error.Error.TheVariants.{NoSpace}
use Rattle.lfs_model.specs.session.TreeEdits.{tree_renaming}
use Rattle.lfs_model.specs.layers.Changes.{ContentChange, Delete}
use Rattle.lfs_model.specs.format.Names.{Name}
use Rattle.lfs_model.specs.session.Operations as ops
use Rattle.lfs_model.specs.session.Session.{Session}
use Rattle.lfs_model.specs.session.Refusals.{path_or_root}
use Rattle.lfs_model.specs.tree.Tree.{Path, Tree}
use Rattle.lfs_model.specs.tree.Profile.{IsWritableEntry}
use Rattle.lfs_model.specs.tree.Shown.{disk_tree, used_blocks}
use Rattle.lfs_model.specs.layers.Steps.{CompletesOperation, occurrence_count}
use Rattle.lfs_thread.specs.Kept.{KeptThread, ThreadView}
use Rattle.lfs_thread.specs.ThreadSteps.{OnlyReadsThread}
use Rattle.lfs_operations.specs.Changing.{OverfillsPair, ReportsSpaceErrors, has_failed_after}
use Rattle.lfs_operations.specs.Editing.{CanEditIn, editable_slot}
use Rattle.lfs_operations.specs.Ready.{HasTreeBeforeMapUpdate}
use Rattle.lfs_operations.specs.RenamingSlots.{IsRenameTargetPosition, slot_without_name_at}
use Rattle.lfs_model.specs.layers.SlotChanges.{slot_creation_changes}
use Rattle.lfs_operations.specs.MovingAcross.{removal_changes}

-- an id after the slot with another id was deleted
abbrev pub id_after_removal : ℕ → ℕ → ℕ
id_after_removal id place = if nat_lt id place then place - 1 else place

-- the slot is deleted, and so is the one that it replaces, if any; then the slot is created at the new id under the name
abbrev pub renaming_changes : (replaces : Bool) → KeptThread → ℕ → ℕ → ℕ → Name → List ContentChange
renaming_changes replaces t pair id place name = Delete id ∷ (removal_changes replaces (id_after_removal id place) ++ slot_creation_changes (id_after_removal id place) name (slot_without_name_at t pair id))

-- The image may be changed. The pair has an entry with the id. Another name belongs at another id of the same pair and
-- directory: it is new, or with `replaces` a file's. The entry may have that name.
pub record CanRenameInPair (replaces : Bool) (t : KeptThread) (pair id place : ℕ) (name : Name) : Type 0 where
  pub can : CanEditIn t pair id
  pub gone : List ℕ
  pub target : IsRenameTargetPosition replaces false t can.first name pair place gone
  pub differs : replaces ≡ true → name ≢ can.name
  pub fits : IsWritableEntry t.disk.profile t.disk.block_size t.disk.page (record (editable_slot can) { name = name })

-- the tree in which the entry of the one name has the other
abbrev pub tree_with_entry_renamed : KeptThread → Path → Name → Name → Tree
tree_with_entry_renamed t path from to = tree_renaming (path ++ from ∷ []) (path ++ to ∷ []) (disk_tree t.disk t.pairs)

abbrev pub CompletesRename : KeptThread → KeptThread → Path → Name → Name → Type 0
CompletesRename old new path from to = (s : Session) (given to_given : List ℕ) → s.tree ≡ disk_tree old.disk old.pairs → path_or_root given ≡ path ++ from ∷ [] → path_or_root to_given ≡ path ++ to ∷ []
    → CompletesOperation old.disk old.pairs s (ops.Rename given to_given) new.disk new.pairs

-- The tree has the entry under the other name, and its slot is in the right pair. So a rename of its path is complete. The
-- blocks of a replaced file's list are `gone`, each once, and none of them is the image's.
pub record IsRenamedInPair (old new : KeptThread) (path : Path) (from to : Name) (gone : List ℕ) : Type 0 where
  pub now : HasTreeBeforeMapUpdate old new (tree_with_entry_renamed old path from to) gone []
  pub once : (b : ℕ) → occurrence_count b (used_blocks new.disk new.pairs) + occurrence_count b gone ≤ 1
  pub completed : CompletesRename old new path from to

-- The errors of an operation that reads a slot before it changes or splits the pair: as `ReportsCommitOrSplit`, unless the slot couldn't
-- be read; then the thread hasn't failed and is as it was.
pub record ReportsReadCommitOrSplit {X : Type 0} (old new : ThreadView) (index : ℕ) (changes : List ContentChange) (result : Result X Error) : Type 0 where
  pub failed : (new.failed ≡ has_failed_after result) ⊎ ((new.failed ≡ false) × OnlyReadsThread old.kept new.kept)
  pub reports : ReportsSpaceErrors old.kept new.kept result
  pub too_large : result ≡ Err NoSpace → OverfillsPair old.kept index changes
