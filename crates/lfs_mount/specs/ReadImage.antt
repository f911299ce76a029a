-- A thread that was read, and the rule that its image breaks in each order of names, if it breaks one.
use Rattle.std.specs.Prelude.{◌≡◌, ◌≤◌, ◌<◌, ◌+◌, false, List, Some, None}
use Rattle.lfs_model.specs.format.Disk.{disk_with_order, Disk}
use Rattle.lfs_model.specs.session.History.{CallEvent, OnlyReadsSince, fault_count, read_count}
use Rattle.lfs_model.specs.format.Thread.{count_before_root}
use Rattle.lfs_model.specs.tree.View.{IsAccepted}
use Rattle.lfs_model.specs.layers.Violations.{Breaks}
use Rattle.lfs_model.specs.declared.order.NameOrder.{NameOrder}
use Rattle.lfs_model.specs.declared.violations.Violation.{Violation}
use Rattle.lfs_thread.specs.Kept.{ThreadView}
use Rattle.lfs_mount.specs.Accepted.{IsMountedUnwritten}
use Rattle.lfs_mount.specs.Orders.{violation_in_order}
use Rattle.lfs_mount.specs.MountReads.{mount_reads}
use Rattle.lfs_mount.specs.declared.findings.ImageFindings.{ImageFindings}

-- the same thread, with that order of names
abbrev pub thread_with_order : NameOrder → ThreadView → ThreadView
thread_with_order order t = record t { kept = record t.kept { disk = disk_with_order order t.kept.disk } }

-- at least one read since then, and at most as many as a mount of the image costs
pub record ReadsAtMostMount (disk : Disk) (history : List CallEvent) (t : ThreadView) : Type 0 where
  pub called : read_count history < read_count t.kept.history
  pub few : read_count t.kept.history ≤ read_count history + mount_reads disk t.kept.pairs

-- The thread of a device that was only read, without a fault, and the index of its root. For each order of names, the image is
-- accepted, with few reads, or the disk breaks the rule that was found.
pub record IsReadImage (disk : Disk) (history : List CallEvent) (t : ThreadView) (found : ImageFindings) : Type 0 where
  pub works : t.failed ≡ false
  pub disk_is : t.kept.disk ≡ disk
  pub reads : OnlyReadsSince disk.blocks history t.kept.history
  pub no_fault : fault_count t.kept.history ≡ fault_count history
  pub root : found.root ≡ count_before_root t.kept.pairs
  pub mounted : (order : NameOrder) → violation_in_order order found.violations ≡ None → IsMountedUnwritten (disk_with_order order disk) history (thread_with_order order t)
  pub few : (order : NameOrder) → violation_in_order order found.violations ≡ None → ReadsAtMostMount disk history t
  pub broken : (order : NameOrder) (violation : Violation) → violation_in_order order found.violations ≡ Some violation → Breaks (disk_with_order order disk) violation

-- The image is mounted in the thread's order of names, in which it breaks no rule. The findings are those of the image.
pub record IsMountedImage (disk : Disk) (history : List CallEvent) (t : ThreadView) (found : ImageFindings) : Type 0 where
  pub mounted : IsMountedUnwritten (disk_with_order t.kept.disk.order disk) history t
  pub root : found.root ≡ count_before_root t.kept.pairs
  pub fits : violation_in_order t.kept.disk.order found.violations ≡ None
  pub accepted : (order : NameOrder) → violation_in_order order found.violations ≡ None → IsAccepted (disk_with_order order disk) t.kept.pairs
  pub broken : (order : NameOrder) (violation : Violation) → violation_in_order order found.violations ≡ Some violation → Breaks (disk_with_order order disk) violation
