-- The blocks that only one of two lists has.
use Rattle.std.proofs.Common.{ℕ, ◌≡◌, ◌≢◌, ◌+◌, ◌≤◌, ◌⊎◌, inl, inr, ⊎_elim, Bool, true, false, cond, nat_eq, List, [], ◌∷◌, refl, sym, ap, subst, ◌∙◌, arith, eqb-true}
use Rattle.std.specs.Prelude.{All, Contains}
use Rattle.lfs_file.proofs.Common.{All-contains_itself, occurrence_count-Contains, occurrence_count}
use Rattle.std.specs.List.{IsDistinct}
use Rattle.lfs_model.proofs.Counts.{distinct_from_once}

abbrev keep : Bool → ℕ → List ℕ → List ℕ
keep true x xs = x ∷ xs
keep false x xs = xs

-- those of the second that the first hasn't
abbrev pub outside : List ℕ → List ℕ → List ℕ
outside own [] = []
outside own (x ∷ xs) = keep (nat_eq (occurrence_count x own) 0) x (outside own xs)

pub out_none : (b : ℕ) (own xs : List ℕ) → occurrence_count b own ≡ 0 → occurrence_count b (outside own xs) ≡ occurrence_count b xs
out_none b own [] none = refl
out_none b own (x ∷ xs) none = go (nat_eq (occurrence_count x own) 0) refl (nat_eq b x) refl (out_none b own xs none)
  where
    go : (t : Bool) → nat_eq (occurrence_count x own) 0 ≡ t → (u : Bool) → nat_eq b x ≡ u → occurrence_count b (outside own xs) ≡ occurrence_count b xs → occurrence_count b (keep t x (outside own xs)) ≡ cond (nat_eq b x) 1 0 + occurrence_count b xs
    go true e u f n = ap (λ n. cond (nat_eq b x) 1 0 + n) n
    go false e true f n = absurd (let same = eqb-true b x f in let z : occurrence_count x own ≡ 0 = ap (λ y. occurrence_count y own) (sym same) ∙ none in let k = sym e ∙ ap (λ n. nat_eq n 0) z in cc)
    go false e false f n = let z = ap (λ v. cond v 1 0 + occurrence_count b xs) f in omega arith

pub out_some : (b : ℕ) (own xs : List ℕ) → 1 ≤ occurrence_count b own → occurrence_count b (outside own xs) ≡ 0
out_some b own [] some = refl
out_some b own (x ∷ xs) some = go (nat_eq (occurrence_count x own) 0) refl (nat_eq b x) refl (out_some b own xs some)
  where
    go : (t : Bool) → nat_eq (occurrence_count x own) 0 ≡ t → (u : Bool) → nat_eq b x ≡ u → occurrence_count b (outside own xs) ≡ 0 → occurrence_count b (keep t x (outside own xs)) ≡ 0
    go true e true f n = absurd (let same = eqb-true b x f in let z = eqb-true (occurrence_count x own) 0 e in let k = ap (λ y. occurrence_count y own) same in omega (arith, k, z, some))
    go true e false f n = let z = ap (λ v. cond v 1 0 + occurrence_count b (outside own xs)) f in omega arith
    go false e u f n = n

pub none_or_some : (n : ℕ) → (n ≡ 0) ⊎ (1 ≤ n)
none_or_some n = go (nat_eq n 0) refl
  where
    go : (t : Bool) → nat_eq n 0 ≡ t → (n ≡ 0) ⊎ (1 ≤ n)
    go true e = inl (eqb-true n 0 e)
    go false e = inr (let ne : n ≡ 0 → ⊥ = λ z. absurd (let k = sym e ∙ ap (λ m. nat_eq m 0) z in cc) in omega (arith, ne))

module _ (now was : List ℕ) (once : (b : ℕ) → occurrence_count b now ≤ 1) (once_was : (b : ℕ) → occurrence_count b was ≤ 1) where
  pub come_once : (b : ℕ) → occurrence_count b (outside was now) ≤ 1
  come_once b = ⊎_elim
      (λ none. let e = out_none b was now none in let k = once b in omega arith)
      (λ some. let e = out_some b was now some in omega arith)
      (none_or_some (occurrence_count b was))

  pub come_apart : IsDistinct nat_eq (outside was now)
  come_apart = distinct_from_once (outside was now) come_once

  pub counted_both : (b : ℕ) → occurrence_count b now + occurrence_count b (outside now was) ≡ occurrence_count b (outside was now) + occurrence_count b was
  counted_both b = ⊎_elim
      (λ none. let e = out_none b was now none in ⊎_elim
      (λ zero. let f = out_none b now was zero in omega arith)
      (λ some. let f = out_some b now was some in omega arith)
      (none_or_some (occurrence_count b now)))
      (λ has. let e = out_some b was now has in ⊎_elim
      (λ zero. let f = out_none b now was zero in omega arith)
      (λ some. let f = out_some b now was some in let k = once b in let l = once_was b in omega arith)
      (none_or_some (occurrence_count b now)))
      (none_or_some (occurrence_count b was))

-- what comes is in the one list and not in the other
pub came : (b : ℕ) (was now : List ℕ) → 1 ≤ occurrence_count b (outside was now) → (occurrence_count b was ≡ 0) × (1 ≤ occurrence_count b now)
came b was now some = ⊎_elim
    (λ none. (none, let e = out_none b was now none in omega arith))
    (λ has. absurd (let e = out_some b was now has in omega arith))
    (none_or_some (occurrence_count b was))

-- a block that doesn't stand there differs from each that does
pub not_there : (b : ℕ) (bs : List ℕ) → occurrence_count b bs ≡ 0 → All (λ x. x ≢ b) bs
not_there b bs none = λ k x l same. absurd (let has : Contains bs b = subst (Contains bs) same (All-contains_itself bs k x l) in let some = occurrence_count-Contains bs b has in omega arith)
