-- In which orders of names an image is accepted, by the rules that were found.
use Rattle.std.proofs.Common.{ℕ, ◌≡◌, ◌⊎◌, inl, inr, List, Option, Some, None, subst, sym}
use Rattle.lfs_tool.proofs.Common.{disk_with_order, Disk, CallEvent, Pair, IsAccepted}
use Rattle.lfs_model.proofs.BrokenRules.{accepted_breaks_none}
use Rattle.lfs_model.specs.declared.order.NameOrder.{NameOrder}
use Rattle.lfs_model.specs.declared.order.NameOrder.TheVariants.{LongerFirst, ShorterFirst}
use Rattle.lfs_model.specs.declared.violations.Violation.{Violation}
use Rattle.lfs_model.specs.layers.Violations.{Breaks}
use Rattle.lfs_mount.specs.Orders.{violation_in_order}
use Rattle.lfs_mount.specs.ReadImage.{IsReadImage}
use Rattle.lfs_mount.specs.declared.findings.ImageFindings.{ImageFindings}
use Rattle.lfs_thread.specs.Kept.{ThreadView}
use Rattle.lfs_tool.specs.ImageSummaries.{AcceptedInOrder, HasAcceptedOrders}
use Rattle.lfs_tool.specs.Verdict.{BreaksInSomeOrder, IsRejectedDisk, IsAcceptedThread}
use Rattle.lfs_tool.specs.declared.verdict.AcceptedOrders.{AcceptedOrders}
use Rattle.lfs_tool.specs.declared.verdict.AcceptedOrders.TheVariants as orders

-- ---- a rule is broken in each order

pub in_neither : (disk : Disk) (longer shorter : Violation) → Breaks (disk_with_order LongerFirst disk) longer → Breaks (disk_with_order ShorterFirst disk) shorter → IsRejectedDisk disk
in_neither disk longer shorter a b LongerFirst ps accepted = accepted_breaks_none (disk_with_order LongerFirst disk) longer a ps accepted
in_neither disk longer shorter a b ShorterFirst ps accepted = accepted_breaks_none (disk_with_order ShorterFirst disk) shorter b ps accepted

pub in_some_order : (disk : Disk) (told longer shorter : Violation) → (told ≡ longer) ⊎ (told ≡ shorter) → Breaks (disk_with_order LongerFirst disk) longer → Breaks (disk_with_order ShorterFirst disk) shorter → BreaksInSomeOrder disk told
in_some_order disk told longer shorter (inl is) a b = (LongerFirst, subst (Breaks (disk_with_order LongerFirst disk)) (sym is) a)
in_some_order disk told longer shorter (inr is) a b = (ShorterFirst, subst (Breaks (disk_with_order ShorterFirst disk)) (sym is) b)

-- ---- no rule is broken in one of the orders

module _ (history : List CallEvent) (t : ThreadView) (found : ImageFindings) (read : IsReadImage t.kept.disk history t found) where
  fits : (order : NameOrder) → violation_in_order order found.violations ≡ None → AcceptedInOrder order t.kept.disk
  fits order none = (t.kept.pairs, (read.mounted order none).accepted)

  broken : (order : NameOrder) (v : Violation) → violation_in_order order found.violations ≡ Some v → AcceptedInOrder order t.kept.disk → ⊥
  broken order v some (ps, accepted) = accepted_breaks_none (disk_with_order order t.kept.disk) v (read.broken order v some) ps accepted

  accepted_thread : (order : NameOrder) (os : AcceptedOrders) → violation_in_order order found.violations ≡ None → HasAcceptedOrders (disk_with_order LongerFirst t.kept.disk) os → IsAcceptedThread t found.root order os
  accepted_thread order os none has = record {
    works = read.works;
    accepted = (read.mounted order none).accepted;
    used = (read.mounted order none).used;
    root_is = read.root;
    fits = has;
  }

  pub in_either : found.violations.longer_first ≡ None → found.violations.shorter_first ≡ None → IsAcceptedThread t found.root LongerFirst orders.Either
  in_either longer shorter = accepted_thread LongerFirst orders.Either longer (fits LongerFirst longer, fits ShorterFirst shorter)

  pub in_longer : (v : Violation) → found.violations.longer_first ≡ None → found.violations.shorter_first ≡ Some v → IsAcceptedThread t found.root LongerFirst orders.LongerFirst
  in_longer v longer shorter = accepted_thread LongerFirst orders.LongerFirst longer (fits LongerFirst longer, broken ShorterFirst v shorter)

  pub in_shorter : (v : Violation) → found.violations.longer_first ≡ Some v → found.violations.shorter_first ≡ None → IsAcceptedThread t found.root ShorterFirst orders.ShorterFirst
  in_shorter v longer shorter = accepted_thread ShorterFirst orders.ShorterFirst shorter (broken LongerFirst v longer, fits ShorterFirst shorter)
