-- Two free blocks that are taken.
use Rattle.lfs_operations.proofs.Common.{ℕ, zero, suc, ◌≡◌, ◌≢◌, ◌<◌, Bool, true, false, nat_eq, [], ◌∷◌, length, Some, refl, sym, ap, subst, ◌∙◌, arith, set, slice_get, eqb-true, eq-eqb, same_Some, BlockState, BlockStates, IsFree, Free, InFlight, slice_get-set_same, slice_get-set_other, AreTwoFreeBlocks, map_allocating_two}

pub within : (sets : BlockStates) (b : ℕ) (s : BlockState) → slice_get sets b ≡ Some s → b < length sets
within [] b s e = absurd (cc)
within (x ∷ sets) zero s e = omega arith
within (x ∷ sets) (suc b) s e = let l = within sets b s e in omega arith

-- a block that was free and is made free again
pub put_back : (sets : BlockStates) (b : ℕ) (x s : BlockState) → slice_get sets b ≡ Some s → set (set sets b x) b s ≡ sets
put_back [] b x s e = refl
put_back (y ∷ sets) zero x s e = ap (λ z. z ∷ sets) (sym (same_Some y s e))
put_back (y ∷ sets) (suc b) x s e = ap (λ z. y ∷ z) (put_back sets b x s e)

flies : Free ≡ InFlight → ⊥
flies e = absurd (cc)

-- the second one is another
pub two_free : (sets : BlockStates) (a b : ℕ) → IsFree sets a → IsFree (set sets a InFlight) b → AreTwoFreeBlocks sets (a, b)
two_free sets a b first second = record {
  apart = apart;
  first = first;
  second = sym (slice_get-set_other sets a b InFlight (λ e. apart (sym e))) ∙ second;
}
  where
    apart : a ≢ b
    apart e = flies (sym (same_Some InFlight Free (sym (slice_get-set_same sets a InFlight (within sets a Free first)) ∙ subst (λ z. slice_get (set sets a InFlight) z ≡ Some Free) (sym e) second)))

-- where the second isn't there, no two are
pub not_two : (sets : BlockStates) (a : ℕ) → ((b : ℕ) → IsFree (set sets a InFlight) b → ⊥) → (fresh : ℕ × ℕ) → AreTwoFreeBlocks sets fresh → ⊥
not_two sets a none fresh two = go (nat_eq fresh.0 a) refl
  where
    go : (t : Bool) → nat_eq fresh.0 a ≡ t → ⊥
    go false e = none fresh.0 (slice_get-set_other sets a fresh.0 InFlight (λ k. absurd (let z = sym (eq-eqb fresh.0 a k) ∙ e in cc)) ∙ two.first)
    go true e = none fresh.1 (slice_get-set_other sets a fresh.1 InFlight (λ k. two.apart (eqb-true fresh.0 a e ∙ sym k)) ∙ two.second)

-- both are made free again, the last one first
pub both_back : (sets : BlockStates) (fresh : ℕ × ℕ) → AreTwoFreeBlocks sets fresh → set (set (map_allocating_two sets fresh) fresh.1 Free) fresh.0 Free ≡ sets
both_back sets fresh two =
    ap (λ z. set z fresh.0 Free) (put_back (set sets fresh.0 InFlight) fresh.1 InFlight Free (slice_get-set_other sets fresh.0 fresh.1 InFlight (λ e. two.apart (sym e)) ∙ two.second))
    ∙ put_back sets fresh.0 InFlight Free two.first
