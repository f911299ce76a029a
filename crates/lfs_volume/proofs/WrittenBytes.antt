-- Bytes in memory that are written and cut.
use Rattle.std.proofs.Common.{inl, inr, ℕ, ◌≡◌, ◌+◌, ◌-◌, ◌<◌, ◌≤◌, List, [], ◌∷◌, ◌++◌, length, take, drop, replicate, refl, sym, ap, ap₂, ◌∙◌, append_assoc, arith}
use Rattle.std.specs.Prelude.{◌⊎◌}
use Rattle.std.specs.List.{AllByRecursion}
use Rattle.std.proofs.lemmas.List.{append-nil, drop_all, length-append, length-replicate, length-take, replicate-append-replicate, take-append-le, take-take, take_all, take_at, nil_from_length}
use Rattle.std.proofs.lemmas.Bool.{cases_lt}
use Rattle.lfs_model.specs.format.Blocks.{overwritten_at}
use Rattle.lfs_model.specs.session.Writers.{written_contents, zero_padded}

all_zero : (ys : List ℕ) → AllByRecursion (λ y. (y ≡ 0) ⊎ (y ≡ 0)) ys → ys ≡ replicate (length ys) 0
all_zero [] h = refl
all_zero (y ∷ ys) h = ap₂ (λ x xs. x ∷ xs) (one h.0) (all_zero ys h.1)
  where
    one : (y ≡ 0) ⊎ (y ≡ 0) → y ≡ 0
    one (inl e) = e
    one (inr e) = e

-- what a resize leaves
pub resized : (old new ys : List ℕ) (n : ℕ) → new ≡ take n old ++ ys → AllByRecursion (λ y. (y ≡ 0) ⊎ (y ≡ 0)) ys → length new ≡ n → new ≡ take n (zero_padded n old)
resized old new ys n is zeros len = go (cases_lt (length old) n)
  where
    lengths : length (take n old) + length ys ≡ n
    lengths = sym (length-append (take n old) ys) ∙ sym (ap length is) ∙ len

    go : (length old < n) ⊎ (n ≤ length old) → new ≡ take n (zero_padded n old)
    go (inl lt) =
        let whole = take_all n old (omega arith) in
        let count : length ys ≡ n - length old = (let a = lengths in let b = ap length whole in omega arith) in
        let all : length (zero_padded n old) ≡ length old + length (replicate {A = ℕ} (n - length old) 0) = length-append old (replicate (n - length old) 0) in
        let more : length (replicate {A = ℕ} (n - length old) 0) ≡ n - length old = length-replicate (n - length old) 0 in
        is ∙ ap₂ (λ x y. x ++ y) whole (all_zero ys zeros ∙ ap (λ k. replicate k 0) count) ∙ sym (take_all n (zero_padded n old) (omega arith))
    go (inr le) =
        let cut = length-take n old in
        let none : ys ≡ [] = nil_from_length ys (let a = lengths in omega arith) in
        is ∙ ap (λ y. take n old ++ y) none ∙ append-nil (take n old) ∙ sym (take-append-le n old (replicate (n - length old) 0) le)

-- bytes written over contents that reach to their end
pub over_long : (old bytes : List ℕ) (at : ℕ) → at + length bytes ≤ length old → overwritten_at old at bytes ≡ written_contents old at bytes
over_long old bytes at le = ap (λ x. x ++ bytes ++ drop (at + length bytes) old) (sym (take-append-le at old (replicate (at - length old) 0) (omega arith)))

-- and over contents that were lengthened to it
pub over_short : (old bytes : List ℕ) (at : ℕ) → length old < at + length bytes → overwritten_at (take (at + length bytes) (zero_padded (at + length bytes) old)) at bytes ≡ written_contents old at bytes
over_short old bytes at lt = ap₂ (λ x y. (x ++ bytes) ++ y) (take-take at (at + length bytes) (zero_padded (at + length bytes) old) (omega arith) ∙ front (cases_lt (length old) at)) back
  where
    back : drop (at + length bytes) (take (at + length bytes) (zero_padded (at + length bytes) old)) ≡ drop (at + length bytes) old
    back = drop_all (at + length bytes) (take (at + length bytes) (zero_padded (at + length bytes) old)) (let a = length-take (at + length bytes) (zero_padded (at + length bytes) old) in omega arith) ∙ sym (drop_all (at + length bytes) old (omega arith))

    front : (length old < at) ⊎ (at ≤ length old) → take at (zero_padded (at + length bytes) old) ≡ take at (zero_padded at old)
    front (inr le) = take-append-le at old (replicate (at + length bytes - length old) 0) le ∙ sym (take-append-le at old (replicate (at - length old) 0) le)
    front (inl less) =
        let sum : at - length old + length bytes ≡ at + length bytes - length old = omega arith in
        let split : replicate (at + length bytes - length old) 0 ≡ replicate (at - length old) 0 ++ replicate (length bytes) 0 = ap (λ k. replicate k 0) (sym sum) ∙ sym (replicate-append-replicate (at - length old) (length bytes) 0) in
        let len : length (old ++ replicate (at - length old) 0) ≡ at = (let a : length (old ++ replicate {A = ℕ} (at - length old) 0) ≡ length old + length (replicate {A = ℕ} (at - length old) 0) = length-append old (replicate (at - length old) 0) in let b : length (replicate {A = ℕ} (at - length old) 0) ≡ at - length old = length-replicate (at - length old) 0 in omega arith) in
        ap (λ z. take at (old ++ z)) split ∙ ap (take at) (sym (append_assoc old (replicate (at - length old) 0) (replicate (length bytes) 0))) ∙ take_at (old ++ replicate (at - length old) 0) (replicate (length bytes) 0) at len
        ∙ sym (take_all at (zero_padded at old) (omega arith))
