use Rattle.std.proofs.Common.{sym, subst}
use Rattle.lfs_thread.proofs.Common.{InFlight, IsFree, ThreadView}
use Rattle.lfs_thread.proofs.Coming.{free_unused, kept_with}
use Rattle.lfs_thread.proofs.thread.Thread.take_at.Goals as goal

pub invariant_of-self : goal.invariant_of-self
invariant_of-self g c works =
    let was = c.self.invariant works in
    let free = subst (λ (v : ThreadView). IsFree v.kept.map c.args.block) (sym c.self.view_is) c.requires in
    (kept_with _ _ _ c.self.inside.parts.map _ c.args.block InFlight c.take_at.ensures (free_unused c.self.inside.parts.map c.args.block free) was.0, was.1)
