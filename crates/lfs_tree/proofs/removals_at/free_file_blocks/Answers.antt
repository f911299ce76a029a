use Rattle.std.proofs.Common.{ap, subst, sym}
use Rattle.std.specs.Prelude.{OnOk}
use Rattle.lfs_tree.proofs.Common.{CanReplaceUsedList, IsUsedListReplaced, stored_list_blocks, HasSameBlocksInFlight, IsRecoveredWritableImage, list_in_storage, empty_list}
use Rattle.lfs_tree.proofs.CarryFreed.{can_settle, freed_flying, freed_ready, none_freed, ok_then}
use Rattle.lfs_tree.proofs.removals_at.free_file_blocks.Goals as goal

pub returns-in-Inline-clause-ready : goal.returns-in-Inline-clause-ready
returns-in-Inline-clause-ready g c = none_freed c.args.thread.now.kept c.args.contents c.requires.can (ap (λ k. stored_list_blocks c.args.thread.now.kept (list_in_storage k)) c.in-Inline.is)

pub replace_used_list-requires-clause-can : goal.replace_used_list-requires-clause-can
replace_used_list-requires-clause-can g c = subst (λ k. CanReplaceUsedList c.args.thread.now.kept (list_in_storage k) empty_list) c.in-List.is (can_settle c.args.thread.now.kept c.args.contents c.requires.can)

pub returns-in-List-clause-ready : goal.returns-in-List-clause-ready
returns-in-List-clause-ready g c =
    let t = c.args.thread.now.kept in
    let new = c.replace_used_list.new.thread.kept in
    ok_then c.replace_used_list.result (IsUsedListReplaced t (list_in_storage c.args.contents) empty_list new) (IsRecoveredWritableImage new) (λ s. freed_ready t c.args.contents c.requires.can new c.replace_used_list.ensures.only s c.lemma_settled_map.ensures)
    (subst (λ k. OnOk c.replace_used_list.result (IsUsedListReplaced t (list_in_storage k) empty_list new)) (sym c.in-List.is) c.replace_used_list.ensures.settled)

pub returns-in-List-clause-flying : goal.returns-in-List-clause-flying
returns-in-List-clause-flying g c =
    let t = c.args.thread.now.kept in
    let new = c.replace_used_list.new.thread.kept in
    ok_then c.replace_used_list.result (IsUsedListReplaced t (list_in_storage c.args.contents) empty_list new) (HasSameBlocksInFlight t.map new.map) (λ s. freed_flying t c.args.contents c.requires.can new c.replace_used_list.ensures.only s c.lemma_settled_map.ensures)
    (subst (λ k. OnOk c.replace_used_list.result (IsUsedListReplaced t (list_in_storage k) empty_list new)) (sym c.in-List.is) c.replace_used_list.ensures.settled)
