use Rattle.lfs_operations.proofs.Common.{ℕ, ◌≡◌, ap, sym, subst, ◌∙◌, false, AllByRecursion, IsPairAt, Gstate, same_pair, IfNone, IfSome}
use Rattle.lfs_operations.proofs.RecoverMoved.{found_none, found_there}
use Rattle.lfs_operations.proofs.recovery.moved_slot_pair.Goals as goal

pub returns-clause-there : goal.returns-clause-there
returns-clause-there g c =
    let t = c.args.thread.now.kept in
    found_there t c.number_at_address.result c.requires.accepted (sym (ap (λ (x : Gstate). x.kind) c.requires.state) ∙ c.if-state-ne-DELETE.false)
    (subst (λ (at : ℕ × ℕ). IfSome c.number_at_address.result (IsPairAt t.pairs at)) (ap (λ (x : Gstate). x.pair) c.requires.state) c.number_at_address.ensures.there)

pub returns-clause-none : goal.returns-clause-none
returns-clause-none g c =
    let t = c.args.thread.now.kept in
    found_none t c.number_at_address.result c.requires.accepted (sym (ap (λ (x : Gstate). x.kind) c.requires.state) ∙ c.if-state-ne-DELETE.false)
    (subst (λ (at : ℕ × ℕ). IfNone c.number_at_address.result (AllByRecursion (λ p. same_pair p.at at ≡ false) t.pairs)) (ap (λ (x : Gstate). x.pair) c.requires.state) c.number_at_address.ensures.nowhere)
