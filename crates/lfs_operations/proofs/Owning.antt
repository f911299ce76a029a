-- The map once two blocks that were free are used.
use Rattle.lfs_operations.proofs.Common.{ℕ, ◌≡◌, ◌≢◌, ◌+◌, ◌≤◌, Bool, true, false, cond, eqb-true, eq-eqb, nat_eq, List, [], ◌∷◌, length, Some, refl, sym, ap, subst, ◌∙◌, arith, set, slice_get, length-set, AreUsed, BlockStates, IsFree, IsInFlight, IsUsedBlock, Free, InFlight, Used, occurrence_count-Contains, Contains-occurrence_count, slice_get-set_same, slice_get-set_other, occurrence_count, map_using, Contains, ◌↔◌, AreTwoFreeBlocks, map_allocating_two, AddsNoneInFlight, KeepsNonFreeStates}
use Rattle.lfs_operations.proofs.Taking.{within}

-- two blocks come
module _ (sets : BlockStates) (fresh : ℕ × ℕ) (two : AreTwoFreeBlocks sets fresh) where
  abbrev now : BlockStates
  now = map_using (map_allocating_two sets fresh) fresh

  pub elsewhere : (b : ℕ) → b ≢ fresh.0 → b ≢ fresh.1 → slice_get now b ≡ slice_get sets b
  elsewhere b e f =
      slice_get-set_other (set (map_allocating_two sets fresh) fresh.0 Used) fresh.1 b Used f
      ∙ slice_get-set_other (map_allocating_two sets fresh) fresh.0 b Used e
      ∙ slice_get-set_other (set sets fresh.0 InFlight) fresh.1 b InFlight f
      ∙ slice_get-set_other sets fresh.0 b InFlight e

  pub length_now : length now ≡ length sets
  length_now = length-set (set (map_allocating_two sets fresh) fresh.0 Used) fresh.1 Used ∙ length-set (map_allocating_two sets fresh) fresh.0 Used
      ∙ length-set (set sets fresh.0 InFlight) fresh.1 InFlight ∙ length-set sets fresh.0 InFlight

  second_used : slice_get now fresh.1 ≡ Some Used
  second_used = slice_get-set_same (set (map_allocating_two sets fresh) fresh.0 Used) fresh.1 Used
      (let w = within sets fresh.1 Free two.second in let e = length-set (map_allocating_two sets fresh) fresh.0 Used ∙ length-set (set sets fresh.0 InFlight) fresh.1 InFlight ∙ length-set sets fresh.0 InFlight in omega arith)

  first_used : slice_get now fresh.0 ≡ Some Used
  first_used = slice_get-set_other (set (map_allocating_two sets fresh) fresh.0 Used) fresh.1 fresh.0 Used two.apart
      ∙ slice_get-set_same (map_allocating_two sets fresh) fresh.0 Used
      (let w = within sets fresh.0 Free two.first in let e = length-set (set sets fresh.0 InFlight) fresh.1 InFlight ∙ length-set sets fresh.0 InFlight in omega arith)

  pub stay_taken : KeepsNonFreeStates sets now
  stay_taken b taken = elsewhere b (λ e. taken (subst (IsFree sets) (sym e) two.first)) (λ e. taken (subst (IsFree sets) (sym e) two.second))

  pub none_comes_now : AddsNoneInFlight sets now
  none_comes_now b flies = go (nat_eq b fresh.0) (nat_eq b fresh.1) refl refl
    where
      used_there : slice_get now b ≡ Some Used → ⊥
      used_there is = absurd (let wrong : Some Used ≡ Some InFlight = sym is ∙ flies in cc)

      go : (x y : Bool) → nat_eq b fresh.0 ≡ x → nat_eq b fresh.1 ≡ y → IsInFlight sets b
      go true y e f = absurd (used_there (ap (slice_get now) (eqb-true b fresh.0 e) ∙ first_used))
      go false true e f = absurd (used_there (ap (slice_get now) (eqb-true b fresh.1 f) ∙ second_used))
      go false false e f = sym (elsewhere b (λ k. absurd (let z = sym (eq-eqb b fresh.0 k) ∙ e in cc)) (λ k. absurd (let z = sym (eq-eqb b fresh.1 k) ∙ f in cc))) ∙ flies

  pub used_more : (us vs : List ℕ) → ((b : ℕ) → occurrence_count b vs ≡ occurrence_count b (fresh.0 ∷ fresh.1 ∷ []) + occurrence_count b us) → AreUsed sets us → AreUsed now vs
  used_more us vs more used b = go (nat_eq b fresh.0) (nat_eq b fresh.1) refl refl (more b)
    where
      both : slice_get now b ≡ Some Used → 1 ≤ occurrence_count b vs → IsUsedBlock now b ↔ Contains vs b
      both is some = ((λ h. Contains-occurrence_count vs b some), (λ h. is))

      go : (x y : Bool) → nat_eq b fresh.0 ≡ x → nat_eq b fresh.1 ≡ y → occurrence_count b vs ≡ (cond x 1 0 + (cond y 1 0 + 0)) + occurrence_count b us → IsUsedBlock now b ↔ Contains vs b
      go true y e f m = both (ap (slice_get now) (eqb-true b fresh.0 e) ∙ first_used) (omega arith)
      go false true e f m = both (ap (slice_get now) (eqb-true b fresh.1 f) ∙ second_used) (omega arith)
      go false false e f m =
          let same = elsewhere b (λ k. absurd (let z = sym (eq-eqb b fresh.0 k) ∙ e in cc)) (λ k. absurd (let z = sym (eq-eqb b fresh.1 k) ∙ f in cc)) in (
            (λ h. Contains-occurrence_count vs b (let n = occurrence_count-Contains us b ((used b).0 (sym same ∙ h)) in omega arith)),
            (λ h. same ∙ (used b).1 (Contains-occurrence_count us b (let n = occurrence_count-Contains vs b h in omega arith))),
          )
