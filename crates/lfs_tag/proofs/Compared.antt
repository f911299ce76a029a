-- The order with the longer name first, by the bytes that two names share.
use Rattle.std.proofs.Common.{ℕ, zero, suc, ◌≡◌, ◌<◌, ◌≤◌, ◌⊎◌, inl, inr, [], ◌∷◌, length, take, refl, ap, ◌∙◌, nat_cmp, Ordering, Less, Equal, Greater, arith}
use Rattle.lfs_tag.proofs.Common.{ordering_then, slice_cmp, Name}
use Rattle.std.specs.Ordering.{MatchOrdering}
use Rattle.std.specs.Cmp.{nat_cmp_is}
use Rattle.std.proofs.lemmas.Cmp.{ranked}
use Rattle.lfs_model.specs.format.Names.{cmp_longer_first}

both_more : (p q : ℕ) → nat_cmp p q ≡ nat_cmp (suc p) (suc q)
both_more p q = nat_cmp_is (suc p) (suc q) (nat_cmp p q) (go (nat_cmp p q) (ranked p q (nat_cmp p q) refl))
  where
    go : (r : Ordering) → MatchOrdering r (p < q) (p ≡ q) (q < p) → MatchOrdering r (suc p < suc q) (suc p ≡ suc q) (suc q < suc p)
    go Less h = omega arith
    go Equal h = ap suc h
    go Greater h = omega arith

then_both : (o p q : Ordering) → ordering_then o (ordering_then p q) ≡ ordering_then (ordering_then o p) q
then_both Less p q = refl
then_both Equal p q = refl
then_both Greater p q = refl

-- n bytes are all of one of the names
pub by_shared : (a b : Name) (n : ℕ) → n ≤ length a → n ≤ length b → (n ≡ length a) ⊎ (n ≡ length b)
    → cmp_longer_first a b ≡ ordering_then (slice_cmp nat_cmp (take n a) (take n b)) (nat_cmp (length b) (length a))
by_shared [] [] zero in_a in_b ends = nat_cmp_is 0 0 Equal refl
by_shared [] (y ∷ ys) zero in_a in_b ends = nat_cmp_is (length (y ∷ ys)) 0 Greater (omega arith)
by_shared (x ∷ xs) [] zero in_a in_b ends = nat_cmp_is 0 (length (x ∷ xs)) Less (omega arith)
by_shared (x ∷ xs) (y ∷ ys) zero in_a in_b (inl e) = absurd (omega arith)
by_shared (x ∷ xs) (y ∷ ys) zero in_a in_b (inr e) = absurd (omega arith)
by_shared [] b (suc n) in_a in_b ends = absurd (omega arith)
by_shared (x ∷ xs) [] (suc n) in_a in_b ends = absurd (omega arith)
by_shared (x ∷ xs) (y ∷ ys) (suc n) in_a in_b ends =
    ap (ordering_then (nat_cmp x y)) (by_shared xs ys n (omega arith) (omega arith) (less ends) ∙ ap (ordering_then (slice_cmp nat_cmp (take n xs) (take n ys))) (both_more (length ys) (length xs)))
    ∙ then_both (nat_cmp x y) (slice_cmp nat_cmp (take n xs) (take n ys)) (nat_cmp (length (y ∷ ys)) (length (x ∷ xs)))
  where
    less : (suc n ≡ length (x ∷ xs)) ⊎ (suc n ≡ length (y ∷ ys)) → (n ≡ length xs) ⊎ (n ≡ length ys)
    less (inl e) = inl (omega arith)
    less (inr e) = inr (omega arith)
