use Rattle.lfs_operations.proofs.Common.{sym, subst, [], ◌∷◌, Delete, PutMove, AreU32Addresses, Gstate, CleanLossLeaves, IsPairCommitted, LossLeavesPair, CanCommit, on_ok_weaker}
use Rattle.lfs_operations.proofs.MovEnding.{can_end, end_not_refused, end_survives, has_ended}
use Rattle.lfs_operations.proofs.moves.end_move_committing.Goals as goal

pub commit_without_split-requires-clause-can : goal.commit_without_split-requires-clause-can
commit_without_split-requires-clause-can g c =
    let e = c.delta_without_move-state.ensures in
    let address = subst (λ (m : Gstate). AreU32Addresses m.pair) e.delta e.address in
    subst (λ m. CanCommit c.args.thread.now.kept c.args.pair (Delete c.args.id ∷ PutMove m ∷ [])) (sym e.delta)
    (record { can = can_end c.args.thread.now.kept c.args.pair c.args.id c.requires.can address; fits = end_not_refused c.args.thread.now.kept c.args.pair c.args.id c.requires.can address })

pub returns-clause-ended : goal.returns-clause-ended
returns-clause-ended g c =
    let e = c.delta_without_move-state.ensures in
    let address = subst (λ (m : Gstate). AreU32Addresses m.pair) e.delta e.address in
    on_ok_weaker c.commit_without_split.result (λ is. has_ended c.args.thread.now.kept c.args.pair c.args.id c.requires.can address c.commit_without_split.new.thread.kept
    (subst (λ m. IsPairCommitted c.args.thread.now.kept c.args.pair (Delete c.args.id ∷ PutMove m ∷ []) c.commit_without_split.new.thread.kept) e.delta is)) c.commit_without_split.ensures.is_changed

pub returns-clause-survives : goal.returns-clause-survives
returns-clause-survives g c =
    let e = c.delta_without_move-state.ensures in
    let address = subst (λ (m : Gstate). AreU32Addresses m.pair) e.delta e.address in
    end_survives c.args.thread.now.kept c.args.pair c.args.id c.requires.can address c.commit_without_split.new.thread.kept.history
    (subst (λ m. CleanLossLeaves c.args.thread.now.kept.history c.commit_without_split.new.thread.kept.history (LossLeavesPair c.args.thread.now.kept c.args.pair (Delete c.args.id ∷ PutMove m ∷ []))) e.delta c.commit_without_split.ensures.stops)
