use Rattle.std.proofs.Common.{◌<◌, ◌∙◌, ◌++◌, List, ap, length, slice_index_or, subst, sym, take}
use Rattle.lfs_tree.proofs.Common.{err_from_is_err_and, Pair, slots_of_pairs_at, empty_anchor, slots_lists, answered, both, further, passed}
use Rattle.lfs_tree.proofs.LostLists.{named_more}
use Rattle.lfs_tree.proofs.Recovered.{numbers_below}
use Rattle.lfs_tree.proofs.lost_lists.lists_of_pairs.Goals as goal

pub push_pair_lists-requires-clause-below : goal.push_pair_lists-requires-clause-below
push_pair_lists-requires-clause-below g c =
    subst (λ (ps : List Pair). slice_index_or c.args.numbers.now c.loop-number.number-index 0 < length ps) (sym c.loop-number.invariant.read.only.pairs)
    (numbers_below c.args.thread.now.kept.pairs c.args.numbers.now c.requires.unreached c.loop-number.number-index c.loop-number-test.true)

pub returns-in_err-push_pair_lists-clause-reading : goal.returns-in_err-push_pair_lists-clause-reading
returns-in_err-push_pair_lists-clause-reading g c =
    let p = err_from_is_err_and c.from_residual.result c.from_residual.ensures.1 in
    passed _ _ c.push_pair_lists.result c.from_residual.result _ p.0 c.in_err-push_pair_lists.was p.1 p.2 (further _ _ _ c.push_pair_lists.result c.loop-number.invariant.read c.push_pair_lists.ensures.reading)

pub loop-number-preserved : goal.loop-number-preserved
loop-number-preserved g c =
    let inv = c.loop-number.invariant in
    let numbers = c.args.numbers.now in
    let number = slice_index_or c.args.numbers.now c.loop-number.number-index 0 in
    record {
      lists = c.in_ok-push_pair_lists.ensures.lists ∙ ap (λ z. z ++ slots_lists (slice_index_or c.loop-number.thread.kept.pairs number empty_anchor).content.slots) inv.lists
          ∙ ap (λ (ps : List Pair). slots_lists (slots_of_pairs_at c.args.thread.now.kept.pairs (take c.loop-number.number-index c.args.numbers.now)) ++ slots_lists (slice_index_or ps number empty_anchor).content.slots) inv.read.only.pairs
          ∙ named_more c.args.thread.now.kept.pairs numbers c.loop-number.number-index c.loop-number-test.true;
      read = both _ _ _ inv.read (answered _ _ c.push_pair_lists.result c.in_ok-push_pair_lists.field-0 c.in_ok-push_pair_lists.was c.push_pair_lists.ensures.reading);
    }
