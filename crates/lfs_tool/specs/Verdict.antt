-- The meaning of a verdict on a disk.
use Rattle.std.specs.Prelude.{ℕ, ◌≡◌, false, List}
use Rattle.lfs_model.specs.format.Disk.{disk_with_order, Disk}
use Rattle.lfs_model.specs.format.Thread.{Pair, count_before_root}
use Rattle.lfs_model.specs.layers.BlockSets.{AreUsed}
use Rattle.lfs_model.specs.tree.Shown.{used_blocks}
use Rattle.lfs_model.specs.tree.View.{IsAccepted}
use Rattle.lfs_model.specs.declared.order.NameOrder.{NameOrder}
use Rattle.lfs_model.specs.declared.order.NameOrder.TheVariants.{LongerFirst}
use Rattle.lfs_model.specs.layers.Violations.{Breaks}
use Rattle.lfs_model.specs.declared.violations.Violation.{Violation}
use Rattle.lfs_thread.specs.Kept.{ThreadView}
use Rattle.lfs_tool.specs.ImageSummaries.{HasAcceptedOrders, HasSummary}
use Rattle.lfs_tool.specs.declared.verdict.AcceptedOrders.{AcceptedOrders}
use Rattle.lfs_tool.specs.declared.verdict.ImageSummary.{ImageSummary}
use Rattle.lfs_tool.specs.declared.verdict.ImageVerdict.{ImageVerdict}
use Rattle.lfs_tool.specs.declared.verdict.ImageVerdict.TheVariants as verdict

-- the disk is accepted in these orders of names, with this summary
pub record IsSummarized (disk : Disk) (summary : ImageSummary) (orders : AcceptedOrders) : Type 0 where
  pub order : NameOrder
  pub pairs : List Pair
  pub accepted : IsAccepted (disk_with_order order disk) pairs
  pub has : HasSummary (disk_with_order order disk) pairs summary
  pub fits : HasAcceptedOrders disk orders

-- The thread of an image that is accepted in the orders of names `orders`, of which `order` is one. Its root begins at the pair
-- of index `root`.
pub record IsAcceptedThread (t : ThreadView) (root : ℕ) (order : NameOrder) (orders : AcceptedOrders) : Type 0 where
  pub works : t.failed ≡ false
  pub accepted : IsAccepted (disk_with_order order t.kept.disk) t.kept.pairs
  pub used : AreUsed t.kept.map (used_blocks t.kept.disk t.kept.pairs)
  pub root_is : root ≡ count_before_root t.kept.pairs
  pub fits : HasAcceptedOrders (disk_with_order LongerFirst t.kept.disk) orders

-- it is accepted in neither order of names
abbrev pub IsRejectedDisk : Disk → Type 0
IsRejectedDisk disk = (order : NameOrder) (ps : List Pair) → ¬ IsAccepted (disk_with_order order disk) ps

-- it breaks the rule in one of them
abbrev pub BreaksInSomeOrder : Disk → Violation → Type 0
BreaksInSomeOrder disk violation = (order : NameOrder) × Breaks (disk_with_order order disk) violation

-- accepted, with its summary; or refused, with a rule that it breaks
abbrev pub IsDiskVerdict : Disk → ImageVerdict → Type 0
IsDiskVerdict disk (verdict.Accepted summary orders) = IsSummarized disk summary orders
IsDiskVerdict disk (verdict.Refused rule) = IsRejectedDisk disk × BreaksInSomeOrder disk rule.violation
