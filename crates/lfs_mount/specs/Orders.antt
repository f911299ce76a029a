-- Sets of orders of names, and a result for each order.
use Rattle.std.specs.Prelude.{Bool, Option}
use Rattle.lfs_model.specs.declared.order.NameOrder.{NameOrder}
use Rattle.lfs_model.specs.declared.order.NameOrder.TheVariants.{LongerFirst, ShorterFirst}
use Rattle.lfs_model.specs.declared.violations.Violation.{Violation}
use Rattle.lfs_mount.specs.declared.orders.NameOrderSet.{NameOrderSet}
use Rattle.lfs_mount.specs.declared.orders.OrderViolations.{OrderViolations}

abbrev pub includes_order : NameOrder → NameOrderSet → Bool
includes_order LongerFirst orders = orders.longer_first
includes_order ShorterFirst orders = orders.shorter_first

-- the rule that is broken in an order, if one is
abbrev pub violation_in_order : NameOrder → OrderViolations → Option Violation
violation_in_order LongerFirst found = found.longer_first
violation_in_order ShorterFirst found = found.shorter_first
