use Rattle.lfs_operations.proofs.Common.{ap, ◌∙◌, set, address_of_array, BlockStates, Free, ThreadView}
use Rattle.lfs_operations.proofs.Taking.{both_back}
use Rattle.lfs_operations.proofs.wear.find_free_pair.Goals as goal

pub returns-clause-same : goal.returns-clause-same
returns-clause-same g c =
    let old = c.args.thread.now in
    let fresh = address_of_array c.in-Some.fresh in
    c.release-2.ensures
    ∙ ap (λ (t : ThreadView). record t { kept = record t.kept { map = set t.kept.map fresh.0 Free } })
    (c.release.ensures ∙ ap (λ (t : ThreadView). record t { kept = record t.kept { map = set t.kept.map fresh.1 Free } }) c.in-Some.ensures.taken)
    ∙ ap (λ (m : BlockStates). record old { kept = record old.kept { map = m } }) (both_back old.kept.map fresh c.in-Some.ensures.were_free)
