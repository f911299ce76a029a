use Rattle.lfs_operations.proofs.Common.{ℕ, ◌≡◌, Bool, ap, sym, subst₂, on_ok_weaker, Gstate, pairs_blocks, pairs_gstate, thread_pair, CanEndMoveAt, HasEndedMoveAt, move_ending_written_pair}
use Rattle.lfs_operations.proofs.MakingContents.{logged_there}
use Rattle.lfs_operations.proofs.RecoverEnded.{can_at, ended_at, written_below}
use Rattle.lfs_operations.proofs.RecoverWrites.{two_fewer, writes_fewer}
use Rattle.lfs_operations.proofs.recovery.end_move.Goals as goal

pub end_move-requires-clause-can : goal.end_move-requires-clause-can
end_move-requires-clause-can g c =
    let t = c.args.thread.now.kept in
    let i = c.in-Some.index in
    let n : c.state-state.result.id ≡ (pairs_gstate t.pairs).id = ap (λ (x : Gstate). x.id) c.state-state.ensures in
    subst₂ (λ (k : ℕ) (b : Bool). CanEndMoveAt t i k b) (sym n) (sym c.is_droppable_pair-goes.ensures)
    (can_at t c.requires.can i c.in-Some.ensures.there (logged_there t.disk (thread_pair t i).at c.lemma_device_facts.ensures.bytes))

pub returns-clause-device : goal.returns-clause-device
returns-clause-device g c =
    writes_fewer _ (pairs_blocks c.args.thread.now.kept.pairs) (two_fewer c.args.thread.now.kept.pairs (move_ending_written_pair c.in-Some.index c.is_droppable_pair-goes.result) (written_below c.args.thread.now.kept c.in-Some.index c.is_droppable_pair-goes.result c.in-Some.ensures.there.below)) c.end_move.ensures.device

pub returns-clause-ended : goal.returns-clause-ended
returns-clause-ended g c =
    on_ok_weaker c.end_move.result (λ is.
    let t = c.args.thread.now.kept in
    let i = c.in-Some.index in
    let n : c.state-state.result.id ≡ (pairs_gstate t.pairs).id = ap (λ (x : Gstate). x.id) c.state-state.ensures in
    ended_at t c.requires.can i c.in-Some.ensures.there c.end_move.new.thread.kept
    (subst₂ (λ (k : ℕ) (b : Bool). HasEndedMoveAt t i k b c.end_move.new.thread.kept) n c.is_droppable_pair-goes.ensures is))
    c.end_move.ensures.ended
