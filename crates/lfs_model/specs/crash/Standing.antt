-- The disk of a device between its calls.
use Rattle.std.specs.Prelude.{◌≡◌}
use Rattle.lfs_model.specs.session.History.{LeftByLatestCall}
use Rattle.lfs_model.specs.crash.Conformance.{CallsConform}
use Rattle.lfs_model.specs.crash.PowerLoss.{with_blocks}
use Rattle.lfs_model.specs.session.Run.{SystemState}

-- Both states have the same device, which conforms. Its disk changes only by calls, and only in its
-- blocks. The newest call left the blocks that the disk has.
pub record SameConformingDevice (from to : SystemState) : Type 0 where
  pub stays : to.calls ≡ from.calls → to.disk ≡ from.disk
  pub same : to.disk ≡ with_blocks to.disk.blocks from.disk
  pub newest : LeftByLatestCall to.calls to.disk.blocks
  pub conforms : CallsConform to.calls
