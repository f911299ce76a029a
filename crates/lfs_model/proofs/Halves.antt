-- Slots of which one is no larger than half of a pair, and whose others fit a pair, can be cut into two parts that fit.
use Rattle.std.proofs.Common.{ℕ, zero, suc, ◌≡◌, ◌+◌, ◌*◌, ◌<◌, ◌≤◌, ⊎_elim, List, [], ◌∷◌, ◌++◌, length, take, drop, Some, refl, sym, ap, subst, ◌∙◌, arith, length-append, sum_by, append_assoc}
use Rattle.lfs_model.proofs.Common.{insert, cases_lt, take_at, drop_at, take-append-drop, sum_by-cons, sum_by-append, pair_capacity, slots_limit, Slot, Struct, Inline, Ctz, Branch, slot_size, struct_len, attributes_size, PairContent, FitsInPair, RawSlot, RawContent, decoded_content, decoded_slot, decoded_slots, raw_slot_size, RawContentFitsInPair, IsWellFormedSlot, AreWellFormed, IsWellFormed, InlineBytesFit}
use Rattle.std.proofs.lemmas.List.Sums.{sum_by-take-drop}
use Rattle.lfs_model.specs.declared.limits.Profile.{Profile}
use Rattle.lfs_model.specs.format.Disk.{half_pair_capacity, inline_limit, struct_max}
use Rattle.lfs_model.specs.layers.Cut.{SlotsFitPair, IsFittingSplit, AreSplittable}
use Rattle.lfs_model.specs.tree.Profile.{IsWritableEntry}
use Rattle.lfs_model.proofs.Completed.{complete_parts, completed_parts, complete_cons, complete_length, slot_size_is, slots_size_is, fits_pair}

-- ---- slots of any log

-- a cut between two parts that fit
pub cut_between : (block_size page : ℕ) (front back : List RawSlot) → SlotsFitPair block_size page front → SlotsFitPair block_size page back → AreSplittable block_size page (front ++ back)
cut_between block_size page front back f b = record {
  cut = length front;
  is_cut = record {
    within = omega (arith, length-append front back);
    front = subst (SlotsFitPair block_size page) (sym (take_at front back (length front) refl)) f;
    back = subst (SlotsFitPair block_size page) (sym (drop_at front back (length front) refl)) b;
  };
}

-- It is cut before the slot or after it. After it only where there is room for one slot more.
pub can_be_cut : (block_size page : ℕ) (front : List RawSlot) (s : RawSlot) (back : List RawSlot) → raw_slot_size s ≤ half_pair_capacity block_size page
    → sum_by raw_slot_size front + sum_by raw_slot_size back ≤ pair_capacity block_size page → length front + length back ≤ slots_limit → AreSplittable block_size page (front ++ s ∷ back)
can_be_cut block_size page front s back small size count = ⊎_elim
    (λ few. ⊎_elim (λ light. behind light few) (λ heavy. in_front (omega (arith, sum_by-cons raw_slot_size s back)) (omega (arith, some front (omega arith)))) (cases_lt (2 * sum_by raw_slot_size front) (pair_capacity block_size page + 1)))
    (λ many. in_front (omega (arith, sum_by-cons raw_slot_size s back, ap (sum_by raw_slot_size) (none many))) (omega (arith, ap length (none many))))
    (cases_lt (length front) slots_limit)
  where
    empty : (xs : List RawSlot) → length xs ≡ 0 → xs ≡ []
    empty [] e = refl
    empty (x ∷ xs) e = absurd (omega arith)

    some : (xs : List RawSlot) → 1 ≤ sum_by raw_slot_size xs → 1 ≤ length xs
    some [] l = absurd (omega arith)
    some (x ∷ xs) l = omega arith

    none : slots_limit ≤ length front → back ≡ []
    none many = empty back (omega arith)

    in_front : sum_by raw_slot_size (s ∷ back) ≤ pair_capacity block_size page → length back + 1 ≤ slots_limit → AreSplittable block_size page (front ++ s ∷ back)
    in_front fits few = cut_between block_size page front (s ∷ back) (record { size = omega arith; count = omega arith }) (record { size = fits; count = omega arith })

    behind : 2 * sum_by raw_slot_size front < pair_capacity block_size page + 1 → length front < slots_limit → AreSplittable block_size page (front ++ s ∷ back)
    behind light few = subst (AreSplittable block_size page) (append_assoc front (s ∷ []) back) (cut_between block_size page (front ++ s ∷ []) back
        (record { size = omega (arith, sum_by-append raw_slot_size front (s ∷ []), sum_by-cons raw_slot_size s []); count = omega (arith, length-append front (s ∷ [])) })
        (record { size = omega arith; count = omega arith }))

-- Where the whole doesn't fit, no part of a cut is the whole.
pub record IsInside (slots : List RawSlot) (cut : ℕ) : Type 0 where
  pub some : 1 ≤ cut
  pub fewer : cut < length slots

pub cut_inside : (block_size page : ℕ) (slots : List RawSlot) (cut : ℕ) → ¬ (SlotsFitPair block_size page slots) → IsFittingSplit block_size page slots cut → IsInside slots cut
cut_inside block_size page slots cut full is = record { some = some cut is; fewer = fewer }
  where
    some : (cut : ℕ) → IsFittingSplit block_size page slots cut → 1 ≤ cut
    some zero k = absurd (full k.back)
    some (suc n) k = omega arith

    whole : (xs : List RawSlot) (n : ℕ) → length xs ≤ n → take n xs ≡ xs
    whole [] zero l = refl
    whole [] (suc n) l = refl
    whole (x ∷ xs) zero l = absurd (omega arith)
    whole (x ∷ xs) (suc n) l = ap (λ z. x ∷ z) (whole xs n (omega arith))

    fewer : cut < length slots
    fewer = ⊎_elim (λ less. less) (λ all. absurd (full (subst (SlotsFitPair block_size page) (whole slots cut all) is.front))) (cases_lt cut (length slots))

pub slots_fit : (block_size page : ℕ) (raw : RawContent) → SlotsFitPair block_size page raw.slots → RawContentFitsInPair block_size page raw
slots_fit block_size page raw fits = record { size = fits.size; count = fits.count }

-- ---- complete ones

-- an entry of the profile takes at most half of a pair
pub entry_small : (profile : Profile) (block_size page : ℕ) (s : Slot) → 1024 ≤ block_size → IsWritableEntry profile block_size page s → slot_size s ≤ half_pair_capacity block_size page
entry_small profile block_size page s large fits = go s.struct refl fits.inline
  where
    charge : 4 + length s.name + (4 + struct_max profile block_size) + attributes_size s.attributes ≤ half_pair_capacity block_size page
    charge = fits.charge

    bounded : struct_len s.struct ≤ struct_max profile block_size → slot_size s ≤ half_pair_capacity block_size page
    bounded l = omega arith

    go : (t : Struct) → s.struct ≡ t → InlineBytesFit (inline_limit profile block_size) t → slot_size s ≤ half_pair_capacity block_size page
    go (Inline bytes) e h = bounded (omega (arith, ap struct_len e))
    go (Ctz head size) e h = bounded (omega (arith, ap struct_len e))
    go (Branch to) e h = bounded (omega (arith, ap struct_len e))

-- slots as they are in a log, one of them apart
record AreRaw (xs : List RawSlot) (front : List Slot) (s : Slot) (back : List Slot) : Type 0 where
  pub before : List RawSlot
  pub here : RawSlot
  pub behind : List RawSlot
  pub are : xs ≡ before ++ here ∷ behind
  pub front_is : decoded_slots before ≡ Some front
  pub here_is : decoded_slot here ≡ Some s
  pub back_is : decoded_slots behind ≡ Some back
  pub front_parts : AreWellFormed before
  pub here_parts : IsWellFormedSlot here
  pub back_parts : AreWellFormed behind

are_raw : (xs : List RawSlot) (front : List Slot) (s : Slot) (back : List Slot) → AreWellFormed xs → decoded_slots xs ≡ Some (front ++ s ∷ back) → AreRaw xs front s back
are_raw [] front s back h e = absurd (none front e)
  where
    none : (front : List Slot) → decoded_slots [] ≡ Some (front ++ s ∷ back) → ⊥
    none [] k = cc
    none (t ∷ front) k = cc
are_raw (x ∷ xs) [] s back h e =
    let p = complete_parts x xs (s ∷ back) e in
    record {
      before = [];
      here = x;
      behind = xs;
      are = refl;
      front_is = refl;
      here_is = p.is_first ∙ ap Some (first p.all_are);
      back_is = p.are_others ∙ ap Some (rest p.all_are);
      front_parts = tt;
      here_parts = h.0;
      back_parts = h.1;
    }
  where
    first : {a b : Slot} {us vs : List Slot} → a ∷ us ≡ b ∷ vs → b ≡ a
    first k = cc

    rest : {a b : Slot} {us vs : List Slot} → a ∷ us ≡ b ∷ vs → vs ≡ us
    rest k = cc
are_raw (x ∷ xs) (t ∷ front) s back h e =
    let p = complete_parts x xs (t ∷ (front ++ s ∷ back)) e in
    let more = are_raw xs front s back h.1 (p.are_others ∙ ap Some (rest p.all_are)) in
    record {
      before = x ∷ more.before;
      here = more.here;
      behind = more.behind;
      are = ap (λ z. x ∷ z) more.are;
      front_is = complete_cons x more.before t front (p.is_first ∙ ap Some (first p.all_are)) more.front_is;
      here_is = more.here_is;
      back_is = more.back_is;
      front_parts = (h.0, more.front_parts);
      here_parts = more.here_parts;
      back_parts = more.back_parts;
    }
  where
    first : {a b : Slot} {us vs : List Slot} → a ∷ us ≡ b ∷ vs → b ≡ a
    first k = cc

    rest : {a b : Slot} {us vs : List Slot} → a ∷ us ≡ b ∷ vs → vs ≡ us
    rest k = cc

-- A content whose slots but one fit a pair can be cut in two.
pub content_cut : (block_size page : ℕ) (raw : RawContent) (c : PairContent) (front : List Slot) (s : Slot) (back : List Slot) → IsWellFormed raw → decoded_content raw ≡ Some c → c.slots ≡ front ++ s ∷ back
    → slot_size s ≤ half_pair_capacity block_size page → sum_by slot_size front + sum_by slot_size back ≤ pair_capacity block_size page → length front + length back ≤ slots_limit → AreSplittable block_size page raw.slots
content_cut block_size page raw c front s back logged is slots small size count =
    let r = are_raw raw.slots front s back logged.slots ((completed_parts raw c is).slots ∙ ap Some slots) in
    subst (AreSplittable block_size page) (sym r.are) (can_be_cut block_size page r.before r.here r.behind
    (omega (arith, slot_size_is r.here s r.here_parts r.here_is))
    (omega (arith, slots_size_is r.before front r.front_parts r.front_is, slots_size_is r.behind back r.back_parts r.back_is))
    (omega (arith, complete_length r.before front r.front_is, complete_length r.behind back r.back_is)))

-- a slot comes into a pair that fitted
pub insert_cut : (block_size page : ℕ) (raw : RawContent) (c old : PairContent) (id : ℕ) (s : Slot) → IsWellFormed raw → decoded_content raw ≡ Some c → c.slots ≡ insert old.slots id s
    → slot_size s ≤ half_pair_capacity block_size page → FitsInPair block_size page old → AreSplittable block_size page raw.slots
insert_cut block_size page raw c old id s logged is slots small fits =
    content_cut block_size page raw c (take id old.slots) s (drop id old.slots) logged is slots small
    (omega (arith, sum_by-take-drop slot_size old.slots id, fits.size))
    (omega (arith, ap length (take-append-drop id old.slots), length-append (take id old.slots) (drop id old.slots), fits.count))

-- a slot of a pair that fitted changes
pub set_cut : (block_size page : ℕ) (raw : RawContent) (c old : PairContent) (front : List Slot) (was s : Slot) (back : List Slot) → IsWellFormed raw → decoded_content raw ≡ Some c
    → old.slots ≡ front ++ was ∷ back → c.slots ≡ front ++ s ∷ back → slot_size s ≤ half_pair_capacity block_size page → FitsInPair block_size page old → AreSplittable block_size page raw.slots
set_cut block_size page raw c old front was s back logged is before slots small fits =
    content_cut block_size page raw c front s back logged is slots small
    (omega (arith, ap (sum_by slot_size) before, sum_by-append slot_size front (was ∷ back), sum_by-cons slot_size was back, fits.size))
    (omega (arith, ap length before, length-append front (was ∷ back), fits.count))

-- where the content doesn't fit, the cut leaves slots before and after
pub content_cut_inside : (block_size page : ℕ) (raw : RawContent) (c : PairContent) (cut : ℕ) → IsWellFormed raw → decoded_content raw ≡ Some c → ¬ (FitsInPair block_size page c) → IsFittingSplit block_size page raw.slots cut
    → IsInside raw.slots cut
content_cut_inside block_size page raw c cut logged is full cuts =
    cut_inside block_size page raw.slots cut (λ fits. full (fits_pair block_size page raw c logged is (slots_fit block_size page raw fits))) cuts
