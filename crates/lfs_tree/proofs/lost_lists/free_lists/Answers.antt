use Rattle.std.proofs.Common.{◌∙◌, subst, sym, rules}
use Rattle.lfs_tree.proofs.Common.{CanFreeLists, empty_list}
use Rattle.lfs_tree.proofs.LostLists.{all_freed, besides_then, can_settle_first, first_flying, first_left, none_left, rest_left}
use Rattle.lfs_tree.proofs.lost_lists.free_lists.Goals as goal

pub replace_used_list-requires-clause-can : goal.replace_used_list-requires-clause-can
replace_used_list-requires-clause-can g c =
    can_settle_first c.loop-list.thread.kept _ _
    (subst (CanFreeLists c.loop-list.thread.kept) (first_left c.args.lists.now c.loop-list.list-index empty_list c.loop-list-test.true) c.loop-list.invariant.can)

pub returns-in_err-replace_used_list-clause-only : goal.returns-in_err-replace_used_list-clause-only
returns-in_err-replace_used_list-clause-only g c = besides_then _ _ _ c.loop-list.invariant.only c.replace_used_list.ensures.only

pub loop-list-preserved : goal.loop-list-preserved
loop-list-preserved g c =
    let inv = c.loop-list.invariant in
    let can = subst (CanFreeLists c.loop-list.thread.kept) (first_left c.args.lists.now c.loop-list.list-index empty_list c.loop-list-test.true) inv.can in
    let only = c.replace_used_list.ensures.only in
    let settled = c.in_ok-replace_used_list.ensures.settled in
    let flying = first_flying c.loop-list.thread.kept _ _ can c.replace_used_list.new.thread.kept only settled c.lemma_settled_map.ensures in
    record {
      can = rest_left c.loop-list.thread.kept _ _ can c.replace_used_list.new.thread.kept only settled c.lemma_settled_map.ensures;
      works = search rules;
      flying = λ b. ((λ flies. (inv.flying b).0 ((flying b).0 flies)), (λ flies. (flying b).1 ((inv.flying b).1 flies)));
      only = besides_then _ _ _ inv.only only;
      no_fault = c.replace_used_list.ensures.reports.no_fault (λ io. let z = sym c.in_ok-replace_used_list.was ∙ io in absurd (cc)) ∙ inv.no_fault;
    }

pub returns-clause-ready : goal.returns-clause-ready
returns-clause-ready g c = all_freed c.loop-list.thread.kept _ (none_left c.args.lists.now c.loop-list.list-index c.loop-list-test.false) c.loop-list.invariant.can
