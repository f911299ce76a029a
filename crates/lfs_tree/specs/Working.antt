-- Threads that haven't failed, and may be read or changed.
use Rattle.std.specs.Prelude.{ℕ, ◌≡◌, false, true, IfErr, OnOk, Result}
use Rattle.lfs_device.specs.declared.error.Error.{Error}
use Rattle.lfs_model.specs.layers.BlockSets.{in_flight_count}
use Rattle.lfs_model.specs.session.History.{fault_count}
use Rattle.lfs_model.specs.tree.Shown.{disk_tree}
use Rattle.lfs_model.specs.tree.Tree.{Path}
use Rattle.lfs_model.specs.session.TreeEdits.{is_file}
use Rattle.lfs_thread.specs.Kept.{KeptThread, ThreadView}
use Rattle.lfs_tree.specs.TreeChanges.{HasThreadCause, CanChangeRecovered}

-- the thread hasn't failed, and its state meets a condition
pub record IsWorkingAndMeets (t : ThreadView) (Can : KeptThread → Type 0) : Type 0 where
  pub works : t.failed ≡ false
  pub can : Can t.kept

-- At Ok the thread hasn't failed, and no device call failed. At an error a device call failed exactly if it is `Io`.
pub record WorksOrReportsFault {X : Type 0} (old new : ThreadView) (result : Result X Error) : Type 0 where
  pub works : OnOk result (new.failed ≡ false)
  pub no_fault : OnOk result (fault_count new.kept.history ≡ fault_count old.kept.history)
  pub errors : IfErr result (HasThreadCause old.kept new.kept)

-- the image may be changed, no block is in flight, and the path has a file
pub record CanOpenFile (t : ThreadView) (root : ℕ) (path : Path) : Type 0 where
  pub rests : CanChangeRecovered t root
  pub idle : in_flight_count t.kept.map ≡ 0
  pub file : is_file (disk_tree t.kept.disk t.kept.pairs path) ≡ true
