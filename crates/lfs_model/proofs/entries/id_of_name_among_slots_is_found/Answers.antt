use Rattle.std.proofs.Common.{ℕ, zero, suc, ◌≡◌, ◌<◌, Bool, false, refl, arith}
use Rattle.lfs_model.proofs.entries.id_of_name_among_slots_is_found.Goals as goal

-- nothing below an id passes, and nothing at all
below : (p : ℕ → Bool) → p 0 ≡ false → (k : ℕ) → k < 1 → p k ≡ false
below p first zero l = first
below p first (suc k) l = absurd (omega arith)

below_two : (p : ℕ → Bool) → p 0 ≡ false → p 1 ≡ false → (k : ℕ) → k < 2 → p k ≡ false
below_two p first second zero l = first
below_two p first second (suc zero) l = second
below_two p first second (suc (suc k)) l = absurd (omega arith)

anywhere : (p : ℕ → Bool) → p 0 ≡ false → p 1 ≡ false → ((k : ℕ) → p (suc (suc k)) ≡ false) → (k : ℕ) → p k ≡ false
anywhere p first second others zero = first
anywhere p first second others (suc zero) = second
anywhere p first second others (suc (suc k)) = others k

pub returns-clause-found : goal.returns-clause-found
returns-clause-found c = record { named = refl; least = below _ refl }

pub returns-clause-before : goal.returns-clause-before
returns-clause-before c = record { absent = anywhere _ refl refl (λ k. refl); least = below _ refl; greater = λ l. refl; within = omega arith }

pub returns-clause-behind : goal.returns-clause-behind
returns-clause-behind c = record { absent = anywhere _ refl refl (λ k. refl); least = below_two _ refl refl; greater = λ l. absurd (omega arith); within = omega arith }

pub returns-clause-passed_over : goal.returns-clause-passed_over
returns-clause-passed_over c = record { absent = anywhere _ refl refl (λ k. refl); least = below_two _ refl refl; greater = λ l. absurd (omega arith); within = omega arith }

pub returns-clause-second : goal.returns-clause-second
returns-clause-second c = record { named = refl; least = below_two _ refl refl }
