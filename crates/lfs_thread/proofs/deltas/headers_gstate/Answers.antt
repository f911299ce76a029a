use Rattle.std.proofs.Common.{◌∙◌, sym, ap}
use Rattle.lfs_thread.proofs.Common.{Gstate, gstate_xor, move_view}
use Rattle.lfs_thread.proofs.GlobalState.{joined_more}
use Rattle.lfs_thread.proofs.deltas.headers_gstate.Goals as goal

pub loop-pair-preserved : goal.loop-pair-preserved
loop-pair-preserved c =
    let all = c.args.pairs.now in
    c.gstate_xor_delta-state.ensures ∙ ap (λ (g : Gstate). gstate_xor g (move_view c.pair-item.result.move_state)) c.loop-pair.invariant
    ∙ sym (joined_more all c.loop-pair.pair-index c.pair-item.result c.loop-pair-test.true c.pair-item.is)
