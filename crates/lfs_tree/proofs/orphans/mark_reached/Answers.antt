use Rattle.std.proofs.Common.{◌≡◌, ◌∙◌, true, set, Some, ap, sym, subst}
use Rattle.lfs_tree.proofs.Common.{MarksAndQueues}
use Rattle.lfs_tree.proofs.Reached.{mark_new, mark_old}
use Rattle.lfs_tree.proofs.Scanned.{got}
use Rattle.lfs_tree.proofs.orphans.mark_reached.Goals as goal

pub returns-in_ok-push : goal.returns-in_ok-push
returns-in_ok-push c =
    subst (λ p. MarksAndQueues (λ n. n ≡ c.args.number) c.args.marks.now.items c.args.pending.now.items (set c.args.marks.now.items c.args.number true) p) (sym c.in_ok-push.ensures.items)
    (mark_new c.args.marks.now.items c.args.pending.now.items c.args.number
    (got c.args.marks.now.items c.args.number c.index.result.now c.requires ∙ ap Some (sym c.index.ensures ∙ c.if-not-index.true)))

pub returns-else-not-index : goal.returns-else-not-index
returns-else-not-index c =
    mark_old c.args.marks.now.items c.args.pending.now.items c.args.number
    (got c.args.marks.now.items c.args.number c.index.result.now c.requires ∙ ap Some (sym c.index.ensures ∙ c.if-not-index.false))
