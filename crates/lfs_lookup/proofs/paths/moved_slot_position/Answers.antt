use Rattle.std.proofs.Common.{ℕ, ◌==◌, refl, ap, arith}
use Rattle.lfs_lookup.proofs.Common.{ne_eqb, Gstate}
use Rattle.lfs_tag.specs.FieldsView.{move_view}
use Rattle.lfs_lookup.proofs.HiddenSlots.{hides_nothing, hides_nowhere, hides_there}
use Rattle.lfs_lookup.proofs.paths.moved_slot_position.Goals as goal

pub returns-then-state-ne-DELETE-clause-hides : goal.returns-then-state-ne-DELETE-clause-hides
returns-then-state-ne-DELETE-clause-hides g c = hides_nothing (move_view c.args.state.now) c.args.thread.now.kept.pairs (ne_eqb c.args.state.now.kind 0x4ff c.if-state-ne-DELETE.true)

pub returns-in-Some-clause-hides : goal.returns-in-Some-clause-hides
returns-in-Some-clause-hides g c =
    hides_there (move_view c.args.state.now) c.args.thread.now.kept.pairs _ (ap (λ (k : ℕ). k == 0x4ff) c.if-state-ne-DELETE.false) refl c.requires.thread.distinct c.in-Some.ensures.there

pub returns-in-None-clause-hides : goal.returns-in-None-clause-hides
returns-in-None-clause-hides g c = hides_nowhere (move_view c.args.state.now) c.args.thread.now.kept.pairs c.in-None.ensures.nowhere

pub returns-in-Some-clause-none : goal.returns-in-Some-clause-none
returns-in-Some-clause-none g c e = absurd (let k = ap (λ (s : Gstate). s.kind) e in let d = c.if-state-ne-DELETE.false in omega (arith, k, d))
