use Rattle.std.proofs.Common.{ℕ, ◌≡◌, inl, inr, List, [], ◌∷◌, refl}
use Rattle.std.specs.Prelude.{codes}
use Rattle.saved_files.specs.Log.{HasPrefixOfEntries}
use Rattle.saved_files.proofs.examples.log_has_whole_entries.Goals as goal

pub returns-clause-begins : goal.returns-clause-begins
returns-clause-begins c = inr (inl refl)

part : HasPrefixOfEntries (codes "a") (codes "bc" ∷ codes "d" ∷ []) (codes "ab") → ⊥
part (inl e) = absurd (cc)
part (inr (inl e)) = absurd (cc)
part (inr (inr e)) = absurd (cc)

pub returns-clause-part : goal.returns-clause-part
returns-clause-part c = part

pub returns-clause-sessions : goal.returns-clause-sessions
returns-clause-sessions c = (codes "a", (inr (inl refl), (codes "ac", (inr refl, refl))))

-- what the first session left, and what the second one did
other_order : (first second : List ℕ) → HasPrefixOfEntries [] ((1 ∷ []) ∷ []) first → HasPrefixOfEntries first ((2 ∷ []) ∷ []) second → 2 ∷ 1 ∷ [] ≡ second → ⊥
other_order first second (inl e) (inl f) is = absurd (cc)
other_order first second (inl e) (inr f) is = absurd (cc)
other_order first second (inr e) (inl f) is = absurd (cc)
other_order first second (inr e) (inr f) is = absurd (cc)

pub returns-clause-other_order : goal.returns-clause-other_order
returns-clause-other_order c = λ h. other_order h.0 h.1.1.0 h.1.0 h.1.1.1.0 h.1.1.1.1
