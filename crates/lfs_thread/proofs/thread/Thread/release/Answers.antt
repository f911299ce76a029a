use Rattle.std.proofs.Common.{sym, subst}
use Rattle.lfs_thread.proofs.Common.{Free, IsInFlight, ThreadView}
use Rattle.lfs_thread.proofs.Coming.{in_flight_unused, kept_with}
use Rattle.lfs_thread.proofs.thread.Thread.release.Goals as goal

pub invariant_of-self : goal.invariant_of-self
invariant_of-self g c works =
    let was = c.self.invariant works in
    let flies = subst (λ (v : ThreadView). IsInFlight v.kept.map c.args.block) (sym c.self.view_is) c.requires in
    (kept_with _ _ _ c.self.inside.parts.map _ c.args.block Free c.release.ensures (in_flight_unused c.self.inside.parts.map c.args.block flies) was.0, was.1)
