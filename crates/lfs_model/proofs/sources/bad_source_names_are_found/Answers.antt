use Rattle.std.proofs.Common.{◌+◌, ◌≤◌, ◌≡◌, inl, inr, Bool, true, false, cond, [], ◌∷◌, refl, sym, ap, ◌∙◌, subst, arith}
use Rattle.std.specs.Prelude.{codes, slice_index}
use Rattle.lfs_model.proofs.Common.{Name, same_name, is_component}
use Rattle.lfs_model.specs.layers.Source.{name_occurrences}
use Rattle.lfs_model.proofs.Paths.{name_from_same}
use Rattle.lfs_model.proofs.sources.bad_source_names_are_found.Goals as goal

pub returns-clause-slash : goal.returns-clause-slash
returns-clause-slash c = inl (codes "a/b", refl, omega arith)

pub returns-clause-twice : goal.returns-clause-twice
returns-clause-twice c = inr (codes "a", omega arith)

counted : (name : Name) → name_occurrences name (codes "a" ∷ codes "b" ∷ []) ≡ 0 + cond (same_name name (codes "a")) 1 0 + cond (same_name name (codes "b")) 1 0
counted name = refl

no_odd : (name : Name) (x y : Bool) → same_name name (codes "a") ≡ x → same_name name (codes "b") ≡ y → is_component name ≡ false → 1 ≤ 0 + cond x 1 0 + cond y 1 0 → ⊥
no_odd name true y e f odd some = absurd (let k = sym (ap is_component (name_from_same name (codes "a") e)) ∙ odd in cc)
no_odd name false true e f odd some = absurd (let k = sym (ap is_component (name_from_same name (codes "b") f)) ∙ odd in cc)
no_odd name false false e f odd some = absurd (omega arith)

no_two : (name : Name) (x y : Bool) → same_name name (codes "a") ≡ x → same_name name (codes "b") ≡ y → 2 ≤ 0 + cond x 1 0 + cond y 1 0 → ⊥
no_two name true true e f some = absurd (let k : 97 ≡ 98 = ap (λ n. slice_index n 0) (sym (name_from_same name (codes "a") e) ∙ name_from_same name (codes "b") f) in omega arith)
no_two name true false e f some = absurd (omega arith)
no_two name false true e f some = absurd (omega arith)
no_two name false false e f some = absurd (omega arith)

pub returns-clause-good : goal.returns-clause-good
returns-clause-good c (inl (name, odd, some)) = no_odd name (same_name name (codes "a")) (same_name name (codes "b")) refl refl odd (subst (λ n. 1 ≤ n) (counted name) some)
returns-clause-good c (inr (name, some)) = no_two name (same_name name (codes "a")) (same_name name (codes "b")) refl refl (subst (λ n. 2 ≤ n) (counted name) some)
