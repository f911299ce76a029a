-- Pairs in a list, by their numbers.
use Rattle.std.proofs.Common.{ℕ, suc, ◌≡◌, ◌+◌, List, [], ◌∷◌, ◌++◌, length, Some, refl, ap, ◌∙◌, arith, get_or, set, insert, slice_get, take}
use Rattle.lfs_model.proofs.Common.{Pair}

pub get_at : (xs : List Pair) (p : Pair) (zs : List Pair) (d : Pair) → get_or (xs ++ p ∷ zs) (length xs) d ≡ p
get_at [] p zs d = refl
get_at (x ∷ xs) p zs d = get_at xs p zs d

pub get_behind : (xs : List Pair) (p : Pair) (ys : List Pair) → slice_get (xs ++ p ∷ ys) (length xs) ≡ Some p
get_behind [] p ys = refl
get_behind (x ∷ xs) p ys = get_behind xs p ys

pub set_at : (xs : List Pair) (p : Pair) (zs : List Pair) (q : Pair) → set (xs ++ p ∷ zs) (length xs) q ≡ xs ++ q ∷ zs
set_at [] p zs q = refl
set_at (x ∷ xs) p zs q = ap (λ z. x ∷ z) (set_at xs p zs q)

pub insert_at : (xs : List Pair) (q : Pair) (zs : List Pair) (f : Pair) → insert (xs ++ q ∷ zs) (length xs + 1) f ≡ xs ++ q ∷ f ∷ zs
insert_at [] q zs f = refl
insert_at (x ∷ xs) q zs f =
    let e : suc (length xs) + 1 ≡ suc (length xs + 1) = omega arith in
    ap (λ (n : ℕ). insert (x ∷ (xs ++ q ∷ zs)) n f) e ∙ ap (λ z. x ∷ z) (insert_at xs q zs f)

pub take_front : (xs ys : List Pair) (n : ℕ) → n ≡ length xs → take n (xs ++ ys) ≡ xs
take_front [] ys n e = ap (λ k. take k ys) e
take_front (x ∷ xs) ys n e = ap (λ k. take k (x ∷ (xs ++ ys))) e ∙ ap (λ z. x ∷ z) (take_front xs ys (length xs) refl)
