use Rattle.lfs_operations.proofs.Common.{sym, subst, ◌-◌, on_ok_weaker, Gstate, CleanLossLeaves, CanDropAt, IsPairDropped, LeftByDrop}
use Rattle.lfs_operations.proofs.MovEndGoes.{can_drop_moved, goes_survives, has_gone}
use Rattle.lfs_operations.proofs.moves.end_move_dropping.Goals as goal

pub drop_pair_at-requires-clause-can : goal.drop_pair_at-requires-clause-can
drop_pair_at-requires-clause-can g c = subst (CanDropAt c.args.thread.now.kept c.args.pair) (sym c.gstate_ending_move-state.ensures) (can_drop_moved c.args.thread.now.kept c.args.pair c.args.id c.requires.can)

pub returns-clause-ended : goal.returns-clause-ended
returns-clause-ended g c =
    on_ok_weaker c.drop_pair_at.result (λ is.
    has_gone c.args.thread.now.kept c.args.pair c.args.id c.requires.can c.drop_pair_at.new.thread.kept
    (subst (λ (s : Gstate). IsPairDropped c.args.thread.now.kept (c.args.pair - 1) s c.drop_pair_at.new.thread.kept) c.gstate_ending_move-state.ensures is))
    c.drop_pair_at.ensures.is_dropped

pub returns-clause-survives : goal.returns-clause-survives
returns-clause-survives g c =
    goes_survives c.args.thread.now.kept c.args.pair c.args.id c.requires.can c.drop_pair_at.new.thread.kept.history
    (subst (λ (s : Gstate). CleanLossLeaves c.args.thread.now.kept.history c.drop_pair_at.new.thread.kept.history (LeftByDrop c.args.thread.now.kept (c.args.pair - 1) s)) c.gstate_ending_move-state.ensures c.drop_pair_at.ensures.stops)
