use Rattle.std.proofs.Common.{◌≡◌, map, take}
use Rattle.lfs_thread.proofs.Common.{fold, gstate_xor, zero_gstate, move_view}
use Rattle.lfs_thread.proofs.deltas.headers_gstate.Given as goal

abbrev pub invariant-loop-pair : goal.invariant-loop-pair
invariant-loop-pair l = move_view l.state ≡ fold gstate_xor zero_gstate (map (λ p. move_view p.move_state) (take l.pair-index l.pairs))
