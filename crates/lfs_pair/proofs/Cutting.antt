-- The cut of slots into two parts.
use Rattle.std.proofs.Common.{ℕ, zero, suc, ◌≡◌, ◌+◌, ◌*◌, ◌-◌, ◌^◌, ◌<◌, ◌≤◌, inl, inr, List, [], ◌∷◌, length, take, drop, map, min, get_or, sum_by, sym, subst, arith, length-drop, drop_of_length-le}
use Rattle.lfs_pair.proofs.Common.{cases_lt, length-map, length-take-le, pair_capacity, slots_limit, RawSlot, raw_slot_size, IsFittingSplit, IsHalfCut}
use Rattle.std.proofs.lemmas.List.Sums.{sum_by-cons, sum_by-take-drop, sum_by-take-le}
use Rattle.lfs_pair.specs.HalfCut.{SlotsFitPair, AreSplittable}

-- a longer front is no smaller
front_grows : {X : Type 0} (f : X → ℕ) (xs : List X) (a b : ℕ) → a ≤ b → sum_by f (take a xs) ≤ sum_by f (take b xs)
front_grows f xs zero b l = omega arith
front_grows f [] (suc a) b l = omega arith
front_grows f (x ∷ xs) (suc a) zero l = absurd (omega arith)
front_grows f (x ∷ xs) (suc a) (suc b) l = omega (arith, front_grows f xs a b (omega arith), sum_by-cons f x (take a xs), sum_by-cons f x (take b xs))

-- what is cut fits two pairs
total_small : (block_size page : ℕ) (slots : List RawSlot) → AreSplittable block_size page slots → sum_by raw_slot_size slots ≤ 2 * pair_capacity block_size page
total_small block_size page slots can = omega (arith, sum_by-take-drop raw_slot_size slots can.cut, can.is_cut.front.size, can.is_cut.back.size)

-- behind a longer front the back fits too
cut_after : (block_size page : ℕ) (slots : List RawSlot) (first cut : ℕ) → IsFittingSplit block_size page slots first → first ≤ cut → cut ≤ length slots → SlotsFitPair block_size page (take cut slots) → IsFittingSplit block_size page slots cut
cut_after block_size page slots first cut is before within fits =
    let less = front_grows raw_slot_size slots first cut before in
    record {
      within = within;
      front = fits;
      back = record {
        size = omega (arith, sum_by-take-drop raw_slot_size slots first, sum_by-take-drop raw_slot_size slots cut, less, is.back.size);
        count = omega (arith, length-drop first slots, length-drop cut slots, is.back.count);
      };
    }

-- if a longer front doesn't fit, no later cut does
not_later : (block_size page : ℕ) (slots : List RawSlot) (cut k : ℕ) → (cut + 1 ≤ slots_limit → sum_by raw_slot_size (take (cut + 1) slots) ≤ pair_capacity block_size page → ⊥) → IsFittingSplit block_size page slots k → k ≤ cut
not_later block_size page slots cut k full is = elim (cases_lt cut k) [
  | inl later ↦ absurd (full (omega (arith, length-take-le k slots is.within, is.front.count)) (omega (arith, front_grows raw_slot_size slots (cut + 1) k (omega arith), is.front.size)))
  | inr le ↦ le
]

-- an earlier cut isn't the last, since more slots may be in front
abbrev pub Passes : ℕ → ℕ → List RawSlot → ℕ → Type 0
Passes block_size page slots cut = (k : ℕ) → k < cut → IsFittingSplit block_size page slots k → 2 * sum_by raw_slot_size (take cut slots) ≤ sum_by raw_slot_size slots

-- the slots that may be in front of the cut
pub record Fronts (block_size page : ℕ) (slots : List RawSlot) (cut : ℕ) : Type 0 where
  pub fits : SlotsFitPair block_size page (take cut slots)
  pub passes : Passes block_size page slots cut

pub nothing_in_front : (block_size page : ℕ) (slots : List RawSlot) → Fronts block_size page slots 0
nothing_in_front block_size page slots = record { fits = record { size = omega arith; count = omega arith }; passes = λ k l is. absurd (omega arith) }

-- at the end all are in front
pub cut_at_end : (block_size page : ℕ) (slots : List RawSlot) (cut : ℕ) → cut ≡ length slots → Fronts block_size page slots cut → IsHalfCut block_size page slots cut
cut_at_end block_size page slots cut is front =
    let none : drop cut slots ≡ [] = drop_of_length-le slots (omega arith) in
    record {
      is_cut = record { within = omega arith; front = front.fits; back = subst (SlotsFitPair block_size page) (sym none) (record { size = omega arith; count = omega arith }) };
      later = λ k l other. absurd (omega (arith, other.within));
      earlier = front.passes;
    }

-- the back fits, and one slot more in front is past the middle
pub cut_where_fits : (block_size page : ℕ) (slots : List RawSlot) (cut : ℕ) → cut ≤ length slots → Fronts block_size page slots cut
    → sum_by raw_slot_size slots - sum_by raw_slot_size (take cut slots) ≤ pair_capacity block_size page → length slots - cut ≤ slots_limit
    → sum_by raw_slot_size slots < 2 * sum_by raw_slot_size (take (cut + 1) slots) → IsHalfCut block_size page slots cut
cut_where_fits block_size page slots cut within front size count past =
    record {
      is_cut = record {
        within = within;
        front = front.fits;
        back = record { size = omega (arith, sum_by-take-drop raw_slot_size slots cut, size); count = omega (arith, length-drop cut slots, count) };
      };
      later = λ k l other. omega (arith, past, front_grows raw_slot_size slots (cut + 1) k (omega arith));
      earlier = front.passes;
    }

-- the next slot doesn't fit in front
pub cut_where_full : (block_size page : ℕ) (slots : List RawSlot) (cut : ℕ) → cut < length slots → Fronts block_size page slots cut → AreSplittable block_size page slots
    → (cut + 1 ≤ slots_limit → sum_by raw_slot_size (take (cut + 1) slots) ≤ pair_capacity block_size page → ⊥) → IsHalfCut block_size page slots cut
cut_where_full block_size page slots cut within front can full =
    record {
      is_cut = cut_after block_size page slots can.cut cut can.is_cut (not_later block_size page slots cut can.cut full can.is_cut) (omega arith) front.fits;
      later = λ k l other. absurd (omega (arith, not_later block_size page slots cut k full other));
      earlier = front.passes;
    }

-- one slot more in front
pub passes_where_small : (block_size page : ℕ) (slots : List RawSlot) (cut : ℕ) → 2 * sum_by raw_slot_size (take (cut + 1) slots) ≤ sum_by raw_slot_size slots → Passes block_size page slots (cut + 1)
passes_where_small block_size page slots cut small = λ k l is. small

pub passes_where_back : (block_size page : ℕ) (slots : List RawSlot) (cut : ℕ) → cut ≤ length slots → SlotsFitPair block_size page (take cut slots)
    → (length slots - cut ≤ slots_limit → sum_by raw_slot_size slots - sum_by raw_slot_size (take cut slots) ≤ pair_capacity block_size page → ⊥) → Passes block_size page slots (cut + 1)
passes_where_back block_size page slots cut within fits back = λ k l is.
    let here = cut_after block_size page slots k cut is (omega arith) within fits in
    absurd (back (omega (arith, length-drop cut slots, here.back.count)) (omega (arith, sum_by-take-drop raw_slot_size slots cut, here.back.size)))

-- its bytes
pub front_more : (f : RawSlot → ℕ) {X : Type 0} (g : X → RawSlot) (xs : List X) (i : ℕ) (x : X) → i < length xs → x ≡ get_or xs i x
    → sum_by f (take (i + 1) (map g xs)) ≡ sum_by f (take i (map g xs)) + f (g x)
front_more f g [] i x l at = absurd (omega arith)
front_more f g (y ∷ xs) zero x l at = rw (sym at) (omega arith)
front_more f g (y ∷ xs) (suc i) x l at =
    let next : suc i + 1 ≡ suc (i + 1) = omega arith in
    rw next (omega (arith, front_more f g xs i x (omega arith) at, sum_by-cons f (g y) (take (i + 1) (map g xs)), sum_by-cons f (g y) (take i (map g xs))))

-- ---- the numbers of the code

pub total_is : (block_size page : ℕ) (slots : List RawSlot) (total : ℕ) → block_size < 2 ^ 32 → AreSplittable block_size page slots → total ≡ min (sum_by raw_slot_size slots) (2 ^ 64 - 1)
    → total ≡ sum_by raw_slot_size slots
total_is block_size page slots total device can is = omega (arith, total_small block_size page slots can)

-- no sum is so large that it saturates
pub record Sums (block_size page : ℕ) (slots : List RawSlot) (i size : ℕ) : Type 0 where
  pub small : sum_by raw_slot_size slots < 2 ^ 34
  pub longer : sum_by raw_slot_size (take i slots) + size ≡ sum_by raw_slot_size (take (i + 1) slots)
  pub within : sum_by raw_slot_size (take i slots) + size ≤ sum_by raw_slot_size slots

pub sums_of : {X : Type 0} (g : X → RawSlot) (block_size page : ℕ) (xs : List X) (i : ℕ) (x : X) (size : ℕ) → block_size < 2 ^ 32 → AreSplittable block_size page (map g xs) → i < length xs → x ≡ get_or xs i x
    → size ≡ min (raw_slot_size (g x)) (2 ^ 64 - 1) → Sums block_size page (map g xs) i size
sums_of g block_size page xs i x size device can l at is =
    let small = total_small block_size page (map g xs) can in
    let more = front_more raw_slot_size g xs i x l at in
    let less = sum_by-take-le raw_slot_size (map g xs) (i + 1) in
    let here : size ≡ raw_slot_size (g x) = omega arith in
    record { small = omega arith; longer = omega arith; within = omega arith }

pub fits_more : {X : Type 0} (g : X → RawSlot) (block_size page : ℕ) (xs : List X) (i : ℕ) → i < length xs → i + 1 ≤ slots_limit → sum_by raw_slot_size (take (i + 1) (map g xs)) ≤ pair_capacity block_size page
    → SlotsFitPair block_size page (take (i + 1) (map g xs))
fits_more g block_size page xs i l count within = record { size = within; count = omega (arith, length-take-le (i + 1) (map g xs) (omega (arith, length-map xs g))) }
