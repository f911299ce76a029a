use Rattle.std.proofs.Common.{List, ap, map, ◌∙◌}
use Rattle.lfs_thread.proofs.Common.{fold, gstate_xor, zero_gstate, move_view, pairs_gstate, PairHeader, ThreadView, disk_of_device}
use Rattle.lfs_thread.proofs.GlobalState.{state_is}
use Rattle.lfs_thread.proofs.thread.Thread.state.Goals as goal

pub returns : goal.returns
returns g c =
    let works = ap (λ (v : ThreadView). v.failed) c.self.view_is ∙ c.requires.works in
    let kept = (c.self.invariant works).0 in
    c.headers_gstate.ensures ∙ ap (λ (hs : List PairHeader). fold gstate_xor zero_gstate (map (λ (p : PairHeader). move_view p.move_state) hs)) c.deref.ensures.value
    ∙ state_is (disk_of_device g.D.BlockDevice c.self.inside.parts.device) (g.D.BlockDevice.history c.self.inside.parts.device) c.self.inside.parts.pairs.items kept.each
    ∙ ap (λ (v : ThreadView). pairs_gstate v.kept.pairs) c.self.view_is
