-- Tables by number.
use Rattle.std.proofs.Common.{ℕ, zero, suc, ◌≡◌, ◌<◌, List, [], ◌∷◌, length, Option, Some, None, is_some, true, refl, sym, ap, arith}
use Rattle.std.specs.Prelude.{slice_index_or, slice_set}
use Rattle.lfs_volume.specs.Volume.{entry_at}

pub entry_index : {A : Type 0} (xs : List (Option A)) (i : ℕ) (o : Option A) → i < length xs → o ≡ slice_index_or xs i o → entry_at xs i ≡ o
entry_index [] i o less e = absurd (omega arith)
entry_index (x ∷ xs) zero o less e = sym e
entry_index (x ∷ xs) (suc i) o less e = entry_index xs i o (omega arith) e

-- what is found there is put there again
pub set_found : {A : Type 0} (xs : List (Option A)) (i : ℕ) (o : Option A) → i < length xs → o ≡ slice_index_or xs i o → slice_set xs i o ≡ xs
set_found [] i o less e = absurd (omega arith)
set_found (x ∷ xs) zero o less e = ap (λ y. y ∷ xs) e
set_found (x ∷ xs) (suc i) o less e = ap (λ ys. x ∷ ys) (set_found xs i o (omega arith) e)

pub some_entry : {A : Type 0} (o : Option A) → is_some o ≡ true → (x : A) × (o ≡ Some x)
some_entry None e = absurd (cc)
some_entry (Some x) e = (x, refl)
