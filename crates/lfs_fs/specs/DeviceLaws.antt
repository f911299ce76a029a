-- Facts of a session's device, for proofs.
use Rattle.std.specs.Prelude.{◌≡◌, false}
use Rattle.lfs_model.specs.session.History.{LeftByLatestCall}
use Rattle.lfs_model.specs.crash.Conformance.{CallsConform}
use Rattle.lfs_tree.specs.TreeState.{TreeState}
use Rattle.lfs_fs.specs.FileView.{RuntimeFiles}
use Rattle.lfs_fs.specs.SessionView.{IsReady}

-- The disk is as the latest device call left it, and each call that didn't fail conforms to the laws.
pub record DeviceConforms (t : TreeState) : Type 0 where
  pub newest : LeftByLatestCall t.history t.disk.blocks
  pub conforms : CallsConform t.history

-- The invariant of a session between its calls: unless it has failed, it is ready for the next call, and its device has met the
-- laws of its calls.
pub record HasSessionInvariant (t : TreeState) (files : RuntimeFiles) : Type 0 where
  pub ready : t.failed ≡ false → IsReady t files
  pub reported : t.failed ≡ false → DeviceConforms t
