-- Tables by number.
use Rattle.std.proofs.Common.{inl, inr, ℕ, zero, suc, ◌≡◌, ◌<◌, ◌≤◌, List, [], ◌∷◌, length, Option, Some, None, refl, sym, ap, arith}
use Rattle.std.specs.Prelude.{◌⊎◌, slice_index_or, slice_set}
use Rattle.std.specs.Option.{option_map}
use Rattle.lfs_volume.specs.Volume.{entry_at}

pub entry_set : {A : Type 0} (xs : List (Option A)) (i : ℕ) (o : Option A) → i < length xs → entry_at (slice_set xs i o) i ≡ o
entry_set [] i o less = absurd (omega arith)
entry_set (x ∷ xs) zero o less = refl
entry_set (x ∷ xs) (suc i) o less = entry_set xs i o (omega arith)

pub entry_other : {A : Type 0} (xs : List (Option A)) (i j : ℕ) (o : Option A) → (i ≡ j → ⊥) → entry_at (slice_set xs i o) j ≡ entry_at xs j
entry_other [] i j o ne = refl
entry_other (x ∷ xs) zero zero o ne = absurd (ne refl)
entry_other (x ∷ xs) zero (suc j) o ne = refl
entry_other (x ∷ xs) (suc i) zero o ne = refl
entry_other (x ∷ xs) (suc i) (suc j) o ne = entry_other xs i j o (λ e. ne (ap suc e))

pub set_twice : {A : Type 0} (xs : List (Option A)) (i : ℕ) (o p : Option A) → slice_set (slice_set xs i o) i p ≡ slice_set xs i p
set_twice [] i o p = refl
set_twice (x ∷ xs) zero o p = refl
set_twice (x ∷ xs) (suc i) o p = ap (λ ys. x ∷ ys) (set_twice xs i o p)

pub set_same : {A : Type 0} (xs : List (Option A)) (i : ℕ) → slice_set xs i (entry_at xs i) ≡ xs
set_same [] i = refl
set_same (x ∷ xs) zero = refl
set_same (x ∷ xs) (suc i) = ap (λ ys. x ∷ ys) (set_same xs i)

pub entry_inside : {A : Type 0} (xs : List (Option A)) (i : ℕ) (x : A) → entry_at xs i ≡ Some x → i < length xs
entry_inside [] i x e = absurd (cc)
entry_inside (y ∷ xs) zero x e = omega arith
entry_inside (y ∷ xs) (suc i) x e = let k = entry_inside xs i x e in omega arith

pub no_entry : {A : Type 0} (xs : List (Option A)) (i : ℕ) → length xs ≤ i → entry_at xs i ≡ None
no_entry [] i e = refl
no_entry (y ∷ xs) zero e = absurd (omega arith)
no_entry (y ∷ xs) (suc i) e = no_entry xs i (omega arith)

pub set_length : {A : Type 0} (xs : List (Option A)) (i : ℕ) (o : Option A) → length (slice_set xs i o) ≡ length xs
set_length [] i o = refl
set_length (x ∷ xs) zero o = refl
set_length (x ∷ xs) (suc i) o = ap suc (set_length xs i o)

pub entry_index : {A : Type 0} (xs : List (Option A)) (i : ℕ) (o : Option A) → i < length xs → o ≡ slice_index_or xs i o → entry_at xs i ≡ o
entry_index [] i o less e = absurd (omega arith)
entry_index (x ∷ xs) zero o less e = sym e
entry_index (x ∷ xs) (suc i) o less e = entry_index xs i o (omega arith) e

-- one entry changes
pub changed_entry : {A : Type 0} (xs : List (Option A)) (i j : ℕ) (f : A → A) → (entry_at (slice_set xs i (option_map f (entry_at xs i))) j ≡ entry_at xs j) ⊎ ((i ≡ j) × (entry_at (slice_set xs i (option_map f (entry_at xs i))) j ≡ option_map f (entry_at xs j)))
changed_entry [] i j f = inl refl
changed_entry (x ∷ xs) zero zero f = inr (refl, refl)
changed_entry (x ∷ xs) zero (suc j) f = inl refl
changed_entry (x ∷ xs) (suc i) zero f = inl refl
changed_entry (x ∷ xs) (suc i) (suc j) f = go (changed_entry xs i j f)
  where
    go : (entry_at (slice_set xs i (option_map f (entry_at xs i))) j ≡ entry_at xs j) ⊎ ((i ≡ j) × (entry_at (slice_set xs i (option_map f (entry_at xs i))) j ≡ option_map f (entry_at xs j))) →
        (entry_at (slice_set xs i (option_map f (entry_at xs i))) j ≡ entry_at xs j) ⊎ ((suc i ≡ suc j) × (entry_at (slice_set xs i (option_map f (entry_at xs i))) j ≡ option_map f (entry_at xs j)))
    go (inl e) = inl e
    go (inr p) = inr (ap suc p.0, p.1)

pub changed_entry_to : {A : Type 0} (xs : List (Option A)) (i j : ℕ) → (entry_at (slice_set xs i None) j ≡ entry_at xs j) ⊎ (entry_at (slice_set xs i None) j ≡ None)
changed_entry_to [] i j = inl refl
changed_entry_to (x ∷ xs) zero zero = inr refl
changed_entry_to (x ∷ xs) zero (suc j) = inl refl
changed_entry_to (x ∷ xs) (suc i) zero = inl refl
changed_entry_to (x ∷ xs) (suc i) (suc j) = changed_entry_to xs i j
