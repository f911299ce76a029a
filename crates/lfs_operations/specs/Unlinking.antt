-- The removal of an empty directory: first its entry, which sets the sync bit, and then its pair, which clears it.
use Rattle.std.specs.Prelude.{ℕ, ◌≡◌, ◌⊎◌, ◌<◌, true, false, List, [], ◌∷◌, ◌++◌, length, ◌-◌, Result, is_err, IfErr, IsErrOf, if◌then◌else◌}
use Rattle.lfs_device.specs.declared.error.Error.{Error}
use Rattle.lfs_device.specs.declared.error.Error.TheVariants.{Io, NoMemory}
use Rattle.lfs_model.specs.layers.Changes.{ContentChange, Delete, PutMove}
use Rattle.lfs_model.specs.session.History.{fault_count}
use Rattle.lfs_model.specs.format.Names.{Name}
use Rattle.lfs_model.specs.session.Operations as ops
use Rattle.lfs_model.specs.session.Session.{Session}
use Rattle.lfs_model.specs.format.Slots.{Branch, gstate_xor, same_pair}
use Rattle.lfs_model.specs.session.Refusals.{path_or_root}
use Rattle.lfs_model.specs.format.Thread.{is_hard_tail}
use Rattle.lfs_model.specs.tree.Tree.{Path}
use Rattle.lfs_model.specs.tree.Shown.{disk_tree}
use Rattle.lfs_model.specs.layers.Steps.{CompletesOperation, sync_bit_delta}
use Rattle.lfs_model.specs.layers.StepResults.{pair_index_after_drop}
use Rattle.lfs_thread.specs.Kept.{KeptThread, ThreadView}
use Rattle.lfs_thread.specs.ThreadSteps.{thread_pair, IsPairCommitted, LossLeavesPair}
use Rattle.lfs_operations.specs.Changing.{IsPairChangedOrDropped}
use Rattle.lfs_operations.specs.Dropping.{HasTreeAfterDrops, IsPairDropped, LeftByDrop}
use Rattle.lfs_operations.specs.Editing.{CanEditIn, editable_slot}
use Rattle.lfs_operations.specs.Removing.{drops_pair_after_removal, tree_without_entry}
use Rattle.lfs_model.specs.format.Blocks.{Blocks}

-- ---- the entry is removed

-- the entry is deleted, and the pair's delta flips the sync bit
abbrev pub unlink_changes : KeptThread → ℕ → ℕ → List ContentChange
unlink_changes t pair id = Delete id ∷ PutMove (gstate_xor (thread_pair t pair).content.move sync_bit_delta) ∷ []

-- The image may be changed, and the pair has an entry with the id, in the directory that begins with the pair of index `first`.
pub record CanUnlinkEntry (t : KeptThread) (pair id first : ℕ) : Type 0 where
  pub can : CanEditIn t pair id
  pub begins : can.first ≡ first

-- the pair has these changes, or is dropped with the entry
pub record IsEntryUnlinked (old : KeptThread) (pair id first : ℕ) (new : KeptThread) : Type 0 where
  pub stays : drops_pair_after_removal old pair first ≡ false → IsPairCommitted old pair (unlink_changes old pair id) new
  pub goes : drops_pair_after_removal old pair first ≡ true → IsPairDropped old (pair - 1) sync_bit_delta new

-- what a power loss leaves of that step
pub record LeftByUnlink (old : KeptThread) (pair id first : ℕ) (left : Blocks) : Type 0 where
  pub stays : drops_pair_after_removal old pair first ≡ false → LossLeavesPair old pair (unlink_changes old pair id) left
  pub goes : drops_pair_after_removal old pair first ≡ true → LeftByDrop old (pair - 1) sync_bit_delta left

-- ---- the operation

-- The pair has a directory's entry with the id, in the directory that begins with the pair of index `first`. The pair of index
-- `gone` is the only one of the directory that is removed, and has no slots.
pub record CanRemoveDirectory (t : KeptThread) (pair id first gone : ℕ) : Type 0 where
  pub can : CanEditIn t pair id
  pub begins : can.first ≡ first
  pub to : ℕ × ℕ
  pub branch : (editable_slot can).struct ≡ Branch to
  pub below : gone < length t.pairs
  pub at : same_pair (thread_pair t gone).at to ≡ true
  pub empty : (thread_pair t gone).content.slots ≡ []
  pub alone : is_hard_tail (thread_pair t gone).content.tail ≡ false

-- the index of the directory's own pair after the entry was deleted
abbrev pub pair_index_after_unlink : KeptThread → ℕ → ℕ → ℕ → ℕ
pair_index_after_unlink t pair first gone = if drops_pair_after_removal t pair first then pair_index_after_drop pair gone else gone

-- The tree no longer has the directory, the other slots are in the right pairs, and its pair is dropped. So a remove of its
-- path is complete.
pub record IsDirectoryRemoved (old new : KeptThread) (path : Path) (name : Name) : Type 0 where
  pub now : HasTreeAfterDrops old new (tree_without_entry old path name) []
  pub completed : (s : Session) (given : List ℕ) → s.tree ≡ disk_tree old.disk old.pairs → path_or_root given ≡ path ++ name ∷ []
      → CompletesOperation old.disk old.pairs s (ops.Remove given) new.disk new.pairs

-- The pair before the directory's own one was changed or dropped, and so was the one before the entry's pair if that was
-- dropped, too.
pub record ArePredecessorsChangedOrDropped (old : KeptThread) (pair first gone : ℕ) (new : KeptThread) : Type 0 where
  pub front : IsPairChangedOrDropped old (gone - 1) new
  pub entry : drops_pair_after_removal old pair first ≡ true → IsPairChangedOrDropped old (pair - 1) new

-- The errors of several steps that allocate no block: The result is `Io` exactly if a device call failed. After an error the
-- thread has failed.
pub record ReportsCommits {X : Type 0} (old new : ThreadView) (result : Result X Error) : Type 0 where
  pub failed : new.failed ≡ is_err result
  pub errors : IfErr result (λ e. (e ≡ Io) ⊎ (e ≡ NoMemory))
  pub fault : IsErrOf result Io → fault_count old.kept.history < fault_count new.kept.history
  pub no_fault : ¬ IsErrOf result Io → fault_count new.kept.history ≡ fault_count old.kept.history
