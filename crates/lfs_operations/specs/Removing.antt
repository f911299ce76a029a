-- The removal of a file.
use Rattle.std.specs.Prelude.{ℕ, ◌≡◌, ◌≤◌, ◌+◌, ◌-◌, ◌==◌, ◌&&◌, if◌then◌else◌, Bool, not, List, [], ◌∷◌, ◌++◌, length, None, Result, is_err}
use Rattle.lfs_device.specs.declared.error.Error.{Error}
use Rattle.lfs_model.specs.session.TreeEdits.{tree_removing}
use Rattle.lfs_model.specs.format.Names.{Name}
use Rattle.lfs_model.specs.session.Operations as ops
use Rattle.lfs_model.specs.session.Session.{Session}
use Rattle.lfs_model.specs.format.Slots.{Struct}
use Rattle.lfs_model.specs.session.Refusals.{path_or_root}
use Rattle.lfs_model.specs.tree.Tree.{Path, Tree, struct_directory_address}
use Rattle.lfs_model.specs.tree.Shown.{struct_blocks, disk_tree, used_blocks}
use Rattle.lfs_model.specs.layers.Steps.{CompletesOperation, occurrence_count}
use Rattle.lfs_thread.specs.Kept.{KeptThread, ThreadView}
use Rattle.lfs_thread.specs.ThreadSteps.{ThreadReportsErrors, thread_pair}
use Rattle.lfs_operations.specs.Editing.{CanEditIn, editable_slot}
use Rattle.lfs_operations.specs.Dropping.{HasTreeAfterDrops}

-- The pair has a file with the id, in the directory that begins with the pair of index `first`.
pub record CanRemoveIn (t : KeptThread) (pair id first : ℕ) : Type 0 where
  pub can : CanEditIn t pair id
  pub file : struct_directory_address (editable_slot can).struct ≡ None
  pub begins : can.first ≡ first

-- whether the pair is dropped with its slot: it has no other slot, and isn't the first of the directory
abbrev pub drops_pair_after_removal : KeptThread → ℕ → ℕ → Bool
drops_pair_after_removal t pair first = not (pair == first) && length (thread_pair t pair).content.slots == 1

-- the pair that is written: the slot's, or the one before it if that is dropped
abbrev pub removal_written_address : KeptThread → ℕ → ℕ → ℕ × ℕ
removal_written_address t pair first = if drops_pair_after_removal t pair first then (thread_pair t (pair - 1)).at else (thread_pair t pair).at

abbrev pub tree_without_entry : KeptThread → Path → Name → Tree
tree_without_entry t path name = tree_removing (path ++ name ∷ []) (disk_tree t.disk t.pairs)

-- The tree no longer has the file, and the other slots are in the right pairs. So a remove of its path is complete. The blocks
-- of the file's list are `gone`, each once, and none of them is the image's.
pub record IsFileRemoved (old new : KeptThread) (path : Path) (name : Name) (struct : Struct) : Type 0 where
  pub now : HasTreeAfterDrops old new (tree_without_entry old path name) (struct_blocks old.disk struct)
  pub completed : (s : Session) (given : List ℕ) → s.tree ≡ disk_tree old.disk old.pairs → path_or_root given ≡ path ++ name ∷ []
      → CompletesOperation old.disk old.pairs s (ops.Remove given) new.disk new.pairs
  pub once : (b : ℕ) → occurrence_count b (used_blocks new.disk new.pairs) + occurrence_count b (struct_blocks old.disk struct) ≤ 1

-- the errors of a step that allocates no block, and whether the thread has failed after it
pub record ReportsCommit {X : Type 0} (old new : ThreadView) (result : Result X Error) : Type 0 where
  pub failed : new.failed ≡ is_err result
  pub reported : ThreadReportsErrors old.kept new.kept result
