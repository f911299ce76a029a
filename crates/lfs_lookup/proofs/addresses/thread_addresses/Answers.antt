use Rattle.std.proofs.Common.{◌<◌, slice_index_or, ◌∙◌, ◌++◌, ◌∷◌, [], length, nat_eq, take_all, sym, ap, subst, arith}
use Rattle.std.specs.List.{IsDistinct}
use Rattle.lfs_lookup.proofs.Common.{blocks_of_addresses, empty_anchor, pairs_addresses}
use Rattle.lfs_lookup.proofs.PairAddresses.{next_added, next_apart}
use Rattle.lfs_lookup.proofs.addresses.thread_addresses.Goals as goal

pub loop-index-init : goal.loop-index-init
loop-index-init g c = c.new-addresses.ensures

pub add-requires : goal.add-requires
add-requires g c =
    let below : c.loop-index.index < length c.args.thread.now.kept.pairs = subst (λ n. c.loop-index.index < n) c.len-index-end.ensures c.loop-index-test.true in
    let apart = next_apart c.args.thread.now.kept.pairs c.loop-index.index empty_anchor below c.requires.thread.distinct in
    subst (λ at. IsDistinct nat_eq (blocks_of_addresses (c.loop-index.addresses ++ at ∷ []))) (sym c.blocks_of_pair.ensures)
    (subst (λ xs. IsDistinct nat_eq (blocks_of_addresses (xs ++ (slice_index_or c.args.thread.now.kept.pairs c.loop-index.index empty_anchor).at ∷ []))) (sym c.loop-index.invariant) apart)

pub loop-index-preserved : goal.loop-index-preserved
loop-index-preserved g c =
    let below : c.loop-index.index < length c.args.thread.now.kept.pairs = subst (λ n. c.loop-index.index < n) c.len-index-end.ensures c.loop-index-test.true in
    c.in_ok-add.ensures.added ∙ ap (λ at. c.loop-index.addresses ++ at ∷ []) c.blocks_of_pair.ensures
    ∙ ap (λ xs. xs ++ (slice_index_or c.args.thread.now.kept.pairs c.loop-index.index empty_anchor).at ∷ []) c.loop-index.invariant
    ∙ next_added c.args.thread.now.kept.pairs c.loop-index.index empty_anchor below

pub returns-clause-all : goal.returns-clause-all
returns-clause-all g c =
    let len = c.len-index-end.ensures in
    let out = c.loop-index-test.false in
    let upto = c.loop-index.auto in
    c.loop-index.invariant ∙ ap pairs_addresses (take_all c.loop-index.index c.args.thread.now.kept.pairs (omega arith))
