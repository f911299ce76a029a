-- The addresses of a thread's pairs, by which their numbers are found.
use Rattle.std.proofs.Common.{ℕ, zero, suc, ◌≡◌, ◌+◌, ◌<◌, ◌≤◌, ◌∙◌, true, false, true≢false, List, [], ◌∷◌, ◌++◌, length, take, get_or, Option, Some, None, nat_eq, slice_get, option_map, refl, sym, ap, subst, arith}
use Rattle.std.specs.Prelude.{IfNone, IsSome}
use Rattle.lfs_lookup.proofs.Common.{AllByRecursion, same_Some, IsPairAt, same_pair, Pair, pairs_blocks, SameAddressAt, blocks_of_addresses, pairs_addresses}
use Rattle.std.specs.List.{IsDistinct}
use Rattle.std.proofs.lemmas.List.{take_more}
use Rattle.std.proofs.lemmas.Option.{slice_get-map}
use Rattle.lfs_model.proofs.Counts.{occurrence_count, distinct_from_once, once_from_distinct}

-- ---- no two pairs have a block in common

addresses_append : (xs ys : List Pair) → pairs_addresses (xs ++ ys) ≡ pairs_addresses xs ++ pairs_addresses ys
addresses_append [] ys = refl
addresses_append (x ∷ xs) ys = ap (λ zs. x.at ∷ zs) (addresses_append xs ys)

pub next_added : (ps : List Pair) (index : ℕ) (d : Pair) → index < length ps → pairs_addresses (take index ps) ++ (get_or ps index d).at ∷ [] ≡ pairs_addresses (take (index + 1) ps)
next_added ps index d below = sym (ap pairs_addresses (take_more ps index d below) ∙ addresses_append (take index ps) (get_or ps index d ∷ []))

first_count : (b n : ℕ) (ps : List Pair) → occurrence_count b (blocks_of_addresses (pairs_addresses (take n ps))) ≤ occurrence_count b (pairs_blocks ps)
first_count b zero ps = omega arith
first_count b (suc n) [] = omega arith
first_count b (suc n) (p ∷ ps) = let rest = first_count b n ps in omega arith

pub next_apart : (ps : List Pair) (index : ℕ) (d : Pair) → index < length ps → IsDistinct nat_eq (pairs_blocks ps) → IsDistinct nat_eq (blocks_of_addresses (pairs_addresses (take index ps) ++ (get_or ps index d).at ∷ []))
next_apart ps index d below distinct =
    subst (λ xs. IsDistinct nat_eq (blocks_of_addresses xs)) (sym (next_added ps index d below))
    (distinct_from_once (blocks_of_addresses (pairs_addresses (take (index + 1) ps))) (λ b. let o = once_from_distinct (pairs_blocks ps) distinct b in let n = first_count b (index + 1) ps in omega arith))

-- ---- the list index of an address is the index of its pair

begins_from : (ps : List Pair) (at a : ℕ × ℕ) (i : ℕ) (o : Option Pair) → slice_get ps i ≡ o → option_map (λ (p : Pair). p.at) o ≡ Some a → same_pair a at ≡ true → IsPairAt ps at i
begins_from ps at a i None is f same = absurd (cc)
begins_from ps at a i (Some p) is f same = record { pair = p; there = is; same = subst (λ x. same_pair x at ≡ true) (sym (same_Some p.at a f)) same }

pub place_begins : (ps : List Pair) (at : ℕ × ℕ) (i : ℕ) → SameAddressAt (pairs_addresses ps) at i → IsPairAt ps at i
place_begins ps at i s = begins_from ps at s.address i (slice_get ps i) refl (sym (slice_get-map (λ (p : Pair). p.at) ps i) ∙ s.there) s.same

none_begins : (ps : List Pair) (at : ℕ × ℕ) (i : ℕ) (p : Pair) → AllByRecursion (λ a. same_pair a at ≡ false) (pairs_addresses ps) → slice_get ps i ≡ Some p → same_pair p.at at ≡ true → ⊥
none_begins [] at i p none there same = absurd (cc)
none_begins (q ∷ ps) at zero p none there same = true≢false (sym same ∙ ap (λ (x : Pair). same_pair x.at at) (sym (same_Some q p there)) ∙ none.0)
none_begins (q ∷ ps) at (suc i) p none there same = none_begins ps at i p none.1 there same

pub place_there : (ps : List Pair) (at : ℕ × ℕ) (i : ℕ) (place : Option ℕ) → IsPairAt ps at i → IfNone place (AllByRecursion (λ a. same_pair a at ≡ false) (pairs_addresses ps)) → IsSome place
place_there ps at i None b nowhere = absurd (none_begins ps at i b.pair nowhere b.there b.same)
place_there ps at i (Some k) b nowhere = refl
