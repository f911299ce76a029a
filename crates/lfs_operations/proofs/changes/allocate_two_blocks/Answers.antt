use Rattle.lfs_operations.proofs.Common.{ap, sym, subst, ◌∙◌, set, BlockStates, IsFree, Free, InFlight, ThreadView}
use Rattle.lfs_operations.proofs.Taking.{two_free, not_two, put_back}
use Rattle.lfs_operations.proofs.changes.allocate_two_blocks.Goals as goal

pub returns-clause-were_free : goal.returns-clause-were_free
returns-clause-were_free g c =
    two_free c.args.thread.now.kept.map c.in-Some.first c.in-Some-take.second c.in-Some.ensures.was_free
    (subst (λ (t : ThreadView). IsFree t.kept.map c.in-Some-take.second) c.in-Some.ensures.taken c.in-Some-take.ensures.was_free)

pub returns-in_default-take-clause-same : goal.returns-in_default-take-clause-same
returns-in_default-take-clause-same g c =
    let old = c.args.thread.now in
    c.release.ensures
    ∙ ap (λ (t : ThreadView). record t { kept = record t.kept { map = set t.kept.map c.in-Some.first Free } }) (c.in_default-take.ensures.same ∙ c.in-Some.ensures.taken)
    ∙ ap (λ (m : BlockStates). record old { kept = record old.kept { map = m } }) (put_back old.kept.map c.in-Some.first InFlight Free c.in-Some.ensures.was_free)

pub returns-in_default-take-clause-none : goal.returns-in_default-take-clause-none
returns-in_default-take-clause-none g c h =
    not_two c.args.thread.now.kept.map c.in-Some.first
    (λ b f. c.in_default-take.ensures.none b (subst (λ (t : ThreadView). IsFree t.kept.map b) (sym c.in-Some.ensures.taken) f)) h.0 h.1
