-- The making of an empty directory.
use Rattle.std.specs.Prelude.{ℕ, ◌≡◌, ◌<◌, ◌≤◌, ◌+◌, ◌⊎◌, ◌++◌, true, false, List, [], ◌∷◌, length, Some, Result, is_err, IfErr, IsErrOf}
use Rattle.std.specs.List.{AllByRecursion}
use Rattle.lfs_device.specs.declared.error.Error.{Error}
use Rattle.lfs_device.specs.declared.error.Error.TheVariants.{Io, NoMemory}
use Rattle.lfs_model.specs.session.TreeEdits.{tree_creating}
use Rattle.lfs_model.specs.layers.BlockSets.{BlockStates, IsFree, used_count, in_flight_count}
use Rattle.lfs_model.specs.layers.Changes.{ContentChange, Create, PutMove, PutStruct, PutTail}
use Rattle.lfs_model.specs.format.EntryTypes.{directory_name_type, directory_struct_type}
use Rattle.lfs_model.specs.format.Disk.{half_pair_capacity}
use Rattle.lfs_model.specs.session.History.{fault_count}
use Rattle.lfs_model.specs.session.InDirectory.{IsPairAt, IsInsertionPosition}
use Rattle.lfs_model.specs.format.Names.{Name, is_valid_name}
use Rattle.lfs_model.specs.session.Operations as ops
use Rattle.lfs_model.specs.session.Session.{Session}
use Rattle.lfs_model.specs.format.Slots.{PairContent, FitsInPair, reserved_entry_size}
use Rattle.lfs_model.specs.session.Refusals.{path_or_root}
use Rattle.lfs_model.specs.tree.Tree.{Path, Tree, DirectoryNode}
use Rattle.lfs_model.specs.tree.Shown.{IsDirectoryAtPath, disk_tree}
use Rattle.lfs_model.specs.layers.WrittenContent.{address_bytes}
use Rattle.lfs_model.specs.layers.Steps.{CompletesOperation, with_sync_inverted}
use Rattle.lfs_model.specs.format.Thread.{address_blocks}
use Rattle.lfs_thread.specs.Kept.{KeptThread, ThreadView}
use Rattle.lfs_thread.specs.ThreadSteps.{CanThreadIn, ThreadReportsKeepingOthers, ChangesThreadBlocks, complete_after, thread_pair}
use Rattle.lfs_operations.specs.Changing.{IsPairChangedOrDropped}
use Rattle.lfs_operations.specs.Ready.{IsRecoveredWithTree, IsRecoveredWritableImage}
use Rattle.lfs_model.specs.layers.StepResults.{IsDirectoryEnd}

-- ---- premises

-- at least so many blocks are free
abbrev pub HasFreeBlocks : ℕ → BlockStates → Type 0
HasFreeBlocks n sets = used_count sets + in_flight_count sets + n ≤ length sets

-- The image may be changed. The name is a valid new one, and belongs at the id of the pair, in the directory at a path. Four
-- blocks are free: two for the directory, and two for a split.
pub record CanMakeDirectoryAt (t : KeptThread) (pair id : ℕ) (name : Name) : Type 0 where
  pub ready : IsRecoveredWritableImage t
  pub path : Path
  pub at : ℕ × ℕ
  pub leads : IsDirectoryAtPath t.pairs path at
  pub first : ℕ
  pub begins : IsPairAt t.pairs at first
  pub belongs : IsInsertionPosition t.disk.order t.pairs first name pair id
  pub is_name : is_valid_name name ≡ true
  pub fits : reserved_entry_size t.disk.profile t.disk.block_size name [] ≤ half_pair_capacity t.disk.block_size t.disk.page
  pub room : HasFreeBlocks 4 t.map

-- ---- the two steps

-- the last pair's tail names the fresh pair, and the sync bit is flipped
abbrev pub threading_changes : KeptThread → ℕ → ℕ × ℕ → List ContentChange
threading_changes t last fresh = PutTail false (Some fresh) ∷ PutMove (with_sync_inverted (thread_pair t last).content.move) ∷ []

-- the entry is created with a struct of these bytes, and the sync bit is flipped
abbrev pub entry_changes : KeptThread → ℕ → ℕ → Name → List ℕ → List ContentChange
entry_changes t pair id name branch =
    Create id directory_name_type name ∷ PutStruct id directory_struct_type branch ∷ PutMove (with_sync_inverted (thread_pair t pair).content.move) ∷ []

abbrev pub directory_entry_changes : KeptThread → ℕ → ℕ → Name → ℕ × ℕ → List ContentChange
directory_entry_changes t pair id name to = entry_changes t pair id name (address_bytes to)

-- the result of the first commit fits the pair
abbrev pub FitsWithNewTail : KeptThread → ℕ → ℕ × ℕ → Type 0
FitsWithNewTail t last fresh = (content : PairContent) → complete_after t last (threading_changes t last fresh) ≡ Some content → FitsInPair t.disk.block_size t.disk.page content

-- The fresh pair can be inserted into the thread behind the last one, and the new content of the last one fits it.
pub record CanLinkPairAfter (t : KeptThread) (last : ℕ) (fresh : ℕ × ℕ) : Type 0 where
  pub can : CanThreadIn t last fresh (threading_changes t last fresh)
  pub fits : FitsWithNewTail t last fresh

-- the errors of the first step, and whether the thread has failed after it
pub record ReportsPairLink {X : Type 0} (old new : ThreadView) (fresh : ℕ × ℕ) (result : Result X Error) : Type 0 where
  pub failed : new.failed ≡ is_err result
  pub reported : ThreadReportsKeepingOthers (address_blocks fresh) old.kept new.kept result

-- ---- results

-- the tree with the new directory
abbrev pub tree_with_directory : KeptThread → Path → Name → Tree
tree_with_directory t path name = tree_creating (path ++ name ∷ []) (DirectoryNode [] []) (disk_tree t.disk t.pairs)

-- The tree has the directory, and its slot and its pair are in the right pairs. So a mkdir of its path is complete.
pub record IsDirectoryMade (old new : KeptThread) (path : Path) (name : Name) : Type 0 where
  pub now : IsRecoveredWithTree old new (tree_with_directory old path name)
  pub completed : (s : Session) (given : List ℕ) → s.tree ≡ disk_tree old.disk old.pairs → path_or_root given ≡ path ++ name ∷ []
      → CompletesOperation old.disk old.pairs s (ops.Mkdir given) new.disk new.pairs

-- Both the pair and the directory's last pair were changed or dropped.
pub record AreBothChangedOrDropped (old : KeptThread) (pair : ℕ) (new : KeptThread) : Type 0 where
  pub entry : IsPairChangedOrDropped old pair new
  pub end : (last : ℕ) → IsDirectoryEnd old.pairs pair last → IsPairChangedOrDropped old last new

-- The result is `Io` exactly if a device call failed. After an error the thread has failed.
pub record ReportsDirectoryCreation {X : Type 0} (old new : ThreadView) (result : Result X Error) : Type 0 where
  pub failed : new.failed ≡ is_err result
  pub errors : IfErr result (λ e. (e ≡ Io) ⊎ (e ≡ NoMemory))
  pub fault : IsErrOf result Io → fault_count old.kept.history < fault_count new.kept.history
  pub no_fault : ¬ IsErrOf result Io → fault_count new.kept.history ≡ fault_count old.kept.history

-- Only blocks of the pair and of the directory's last pair, and at most four that were free, have changed.
pub record WritesPairsAndFourFree (old : KeptThread) (pair : ℕ) (new : KeptThread) : Type 0 where
  pub last : ℕ
  pub is_last : IsDirectoryEnd old.pairs pair last
  pub fresh : List ℕ
  pub few : length fresh ≤ 4
  pub free : AllByRecursion (IsFree old.map) fresh
  pub writes : ChangesThreadBlocks ((thread_pair old pair).at.0 ∷ (thread_pair old pair).at.1 ∷ (thread_pair old last).at.0 ∷ (thread_pair old last).at.1 ∷ fresh) old new
