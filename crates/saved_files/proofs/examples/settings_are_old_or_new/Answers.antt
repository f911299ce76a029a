use Rattle.std.proofs.Common.{inl, inr, [], ◌∷◌, Some, None, refl}
use Rattle.std.specs.Prelude.{codes}
use Rattle.saved_files.specs.Settings.{IsEither, IsOneOfSettings}
use Rattle.saved_files.proofs.examples.settings_are_old_or_new.Goals as goal

pub returns-clause-either : goal.returns-clause-either
returns-clause-either c = inr refl

neither : IsEither None (codes "ab") (Some (codes "a")) → ⊥
neither (inl e) = absurd (cc)
neither (inr e) = absurd (cc)

pub returns-clause-part : goal.returns-clause-part
returns-clause-part c = neither

pub returns-clause-one : goal.returns-clause-one
returns-clause-one c = inr (inl refl)

no_other : IsOneOfSettings (codes "a" ∷ []) None → ⊥
no_other (inl e) = absurd (cc)
no_other (inr none) = none

pub returns-clause-other : goal.returns-clause-other
returns-clause-other c = no_other
