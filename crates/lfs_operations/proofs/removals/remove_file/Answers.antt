use Rattle.lfs_operations.proofs.Common.{sym, subst, ◌∙◌, ◌-◌, Gstate, zero_gstate, CleanLossLeaves, CanDropAt, IsPairDropped, LeftByDrop, on_ok_weaker, arith}
use Rattle.lfs_operations.proofs.Removed.{gone, remove_survives}
use Rattle.lfs_operations.proofs.RemovedWhole.{can_drop_file, gone_whole, whole_survives}
use Rattle.lfs_operations.proofs.removals.remove_file.Goals as goal
use Rattle.lfs_operations.proofs.Unlinked.{can_go, delta_stays}
use Rattle.lfs_operations.proofs.AlteredDrops.{drop_alters}

pub drop_pair_at-requires-clause-can : goal.drop_pair_at-requires-clause-can
drop_pair_at-requires-clause-can g c =
    subst (CanDropAt c.args.thread.now.kept c.args.pair) (sym c.none.ensures) (can_drop_file c.args.thread.now.kept c.args.pair c.args.id c.args.first c.requires.can.can c.requires.can.begins (sym c.must_drop_pair.ensures ∙ c.if-must_drop_pair.true))

pub returns-then-must_drop_pair-clause-is_removed : goal.returns-then-must_drop_pair-clause-is_removed
returns-then-must_drop_pair-clause-is_removed g c = on_ok_weaker c.drop_pair_at.result (λ is take.
    gone_whole c.args.thread.now.kept c.args.pair c.args.id c.args.first take.can take.begins (sym c.must_drop_pair.ensures ∙ c.if-must_drop_pair.true) take.file c.drop_pair_at.new.thread.kept
    (subst (λ (s : Gstate). IsPairDropped c.args.thread.now.kept (c.args.pair - 1) s c.drop_pair_at.new.thread.kept) c.none.ensures is)) c.drop_pair_at.ensures.is_dropped

pub returns-then-must_drop_pair-clause-alters : goal.returns-then-must_drop_pair-clause-alters
returns-then-must_drop_pair-clause-alters g c = on_ok_weaker c.drop_pair_at.result (λ is whole.
    let d = subst (λ (s : Gstate). IsPairDropped c.args.thread.now.kept (c.args.pair - 1) s c.drop_pair_at.new.thread.kept) c.none.ensures is in
    drop_alters c.args.thread.now.kept c.args.pair zero_gstate c.drop_pair_at.new.thread.kept (can_drop_file c.args.thread.now.kept c.args.pair c.args.id c.args.first c.requires.can.can c.requires.can.begins whole) d c.drop_pair_at.new.thread.kept d.thread.links (λ b. omega arith))
    c.drop_pair_at.ensures.is_dropped

pub returns-then-must_drop_pair-clause-survives : goal.returns-then-must_drop_pair-clause-survives
returns-then-must_drop_pair-clause-survives g c take =
    whole_survives c.args.thread.now.kept c.args.pair c.args.id c.args.first take.can take.begins (sym c.must_drop_pair.ensures ∙ c.if-must_drop_pair.true) take.file c.drop_pair_at.new.thread.kept.history
    (subst (λ (s : Gstate). CleanLossLeaves c.args.thread.now.kept.history c.drop_pair_at.new.thread.kept.history (LeftByDrop c.args.thread.now.kept (c.args.pair - 1) s)) c.none.ensures c.drop_pair_at.ensures.stops)

pub commit_without_split-requires-clause-can : goal.commit_without_split-requires-clause-can
commit_without_split-requires-clause-can g c = can_go c.requires.can.can (delta_stays c.requires.can.can.stands.pair)

pub returns-else-must_drop_pair-clause-is_removed : goal.returns-else-must_drop_pair-clause-is_removed
returns-else-must_drop_pair-clause-is_removed g c = on_ok_weaker c.commit_without_split.result (λ is take. gone c.args.thread.now.kept c.args.pair c.args.id c.args.first take (sym c.must_drop_pair.ensures ∙ c.if-must_drop_pair.false) c.commit_without_split.new.thread.kept is) c.commit_without_split.ensures.is_changed

pub returns-else-must_drop_pair-clause-alters : goal.returns-else-must_drop_pair-clause-alters
returns-else-must_drop_pair-clause-alters g c = on_ok_weaker c.commit_without_split.result (λ is whole. absurd (let k = sym whole ∙ sym c.must_drop_pair.ensures ∙ c.if-must_drop_pair.false in cc)) c.commit_without_split.ensures.is_changed

pub returns-else-must_drop_pair-clause-survives : goal.returns-else-must_drop_pair-clause-survives
returns-else-must_drop_pair-clause-survives g c take = remove_survives c.args.thread.now.kept c.args.pair c.args.id c.args.first take (sym c.must_drop_pair.ensures ∙ c.if-must_drop_pair.false) c.commit_without_split.new.thread.kept.history c.commit_without_split.ensures.stops
