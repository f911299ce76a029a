-- What the moves of a worn pair make of an image, wherever the pair is. The steps that move pairs cite these laws. RootSteps has the
-- one for the superblock's pair.
use Rattle.std.proofs.Common.{ℕ, Some, zero, suc, nat_eq, eqb-true, ap₂, ◌≡◌, ◌≢◌, ◌⊎◌, inl, inr, ◌+◌, ◌<◌, ◌≤◌, Bool, true, false, cond, List, [], ◌∷◌, ◌++◌, length, take, drop, refl, sym, ap, subst, ◌∙◌, arith, append_assoc, length-take, take-append-drop}
use Rattle.std.specs.Prelude.{Contains}
use Rattle.lfs_model.proofs.Common.{cases_lt, All-from_recursion, recursion_from_All, Disk, block_count, Slot, PairContent, zero_gstate, current_block, Pair, address_blocks, pairs_from_nonempty, first_address, has_slots, is_hard_tail, pairs_gstate, count_before_root, HasFirstLogEntry, superblock_entry, IsAccepted, IsWritable, used_blocks, AreUnused, last_tail_is_hard, IsWritableChange}
use Rattle.lfs_model.specs.session.Moved.{pair_joined_to, pair_behind}
use Rattle.lfs_model.proofs.Counts.{Each, occurrence_count, count_append, once_from_distinct, distinct_from_once}
use Rattle.lfs_model.proofs.BlockSets.{Contains-occurrence_count}
use Rattle.lfs_model.proofs.Global.{HasNoMove}
use Rattle.lfs_model.proofs.Splices.{AreFree}
use Rattle.lfs_model.proofs.Superblocks.{IsChain, FromSlots, InFront, Behind, from_front}
use Rattle.lfs_model.proofs.Relocated.{IsRelocated, relocated_gstate, relocate}
use Rattle.lfs_model.proofs.RootSteps.{IsSameWritable, relocate_root}
use Rattle.lfs_model.proofs.Unchanged.{HasFirst, accepted_first}

from_change : (disk new : Disk) (ps qs : List Pair) → IsWritableChange disk ps new qs (λ t. t) (λ d. d) → pairs_gstate qs ≡ pairs_gstate ps → IsSameWritable disk ps new qs
from_change disk new ps qs h e = record {
  same = record { accepted = h.follows.accepted; shows = h.follows.shows; stays = λ path. h.follows.stays path (λ t attributes bytes k. (attributes, k)); gstate = e };
  writable = h.writable;
}

-- ---- the log that begins with the superblock's entry

-- it is that of the same pair, or of the one that moved
first_moved : (disk new : Disk) (front : List Pair) (p x q y : Pair) (back : List Pair) → IsAccepted disk (front ++ p ∷ x ∷ back) → IsRelocated disk new front p x q y back →
    (HasFirst y.content.slots → HasFirstLogEntry (current_block new y.at) superblock_entry) → HasFirstLogEntry (current_block new (first_address (pairs_from_nonempty (front ++ q ∷ y ∷ back)))) superblock_entry
first_moved disk new front p x q y back ok c begins = go (from_front front)
  where
    Begins : List Pair → Type 0
    Begins ps = HasFirstLogEntry (current_block new (first_address ps)) superblock_entry

    x_slots : (slots : List Slot) → x.content.slots ≡ slots → ((ps : List Pair) → pairs_from_nonempty (front ++ ps) ≡ pairs_from_nonempty ps) → p.content.slots ≡ [] → Begins (pairs_from_nonempty (q ∷ y ∷ back))
    x_slots slots f all e = by_slots slots f
      where
        old_is : pairs_from_nonempty (front ++ p ∷ x ∷ back) ≡ cond (has_slots x.content.slots) (x ∷ back) (pairs_from_nonempty back)
        old_is = all (p ∷ x ∷ back) ∙ ap (λ z. cond (has_slots z) (p ∷ x ∷ back) (pairs_from_nonempty (x ∷ back))) e

        new_is : pairs_from_nonempty (q ∷ y ∷ back) ≡ cond (has_slots y.content.slots) (y ∷ back) (pairs_from_nonempty back)
        new_is = ap (λ z. cond (has_slots z) (q ∷ y ∷ back) (pairs_from_nonempty (y ∷ back))) (c.slots ∙ e)

        slots_same : y.content.slots ≡ x.content.slots
        slots_same = ap (λ (z : PairContent). z.slots) c.same

        by_slots : (slots : List Slot) → x.content.slots ≡ slots → Begins (pairs_from_nonempty (q ∷ y ∷ back))
        by_slots (s ∷ slots) f =
            let was : pairs_from_nonempty (front ++ p ∷ x ∷ back) ≡ x ∷ back = old_is ∙ ap (λ z. cond (has_slots z) (x ∷ back) (pairs_from_nonempty back)) f in
            let is : pairs_from_nonempty (q ∷ y ∷ back) ≡ y ∷ back = new_is ∙ ap (λ z. cond (has_slots z) (y ∷ back) (pairs_from_nonempty back)) (slots_same ∙ f) in
            subst Begins (sym is) (begins (subst HasFirst (sym slots_same) (accepted_first disk (front ++ p ∷ x ∷ back) x back ok was)))
        by_slots [] f =
            let was : pairs_from_nonempty (front ++ p ∷ x ∷ back) ≡ pairs_from_nonempty back = old_is ∙ ap (λ z. cond (has_slots z) (x ∷ back) (pairs_from_nonempty back)) f in
            let is : pairs_from_nonempty (q ∷ y ∷ back) ≡ pairs_from_nonempty back = new_is ∙ ap (λ z. cond (has_slots z) (y ∷ back) (pairs_from_nonempty back)) (slots_same ∙ f) in
            subst Begins (was ∙ sym is) c.device.first

    p_slots : (slots : List Slot) → p.content.slots ≡ slots → ((ps : List Pair) → pairs_from_nonempty (front ++ ps) ≡ pairs_from_nonempty ps) → Begins (pairs_from_nonempty (q ∷ y ∷ back))
    p_slots (s ∷ slots) e all =
        let was : pairs_from_nonempty (front ++ p ∷ x ∷ back) ≡ p ∷ x ∷ back = all (p ∷ x ∷ back) ∙ ap (λ z. cond (has_slots z) (p ∷ x ∷ back) (pairs_from_nonempty (x ∷ back))) e in
        let is : pairs_from_nonempty (q ∷ y ∷ back) ≡ q ∷ y ∷ back = ap (λ z. cond (has_slots z) (q ∷ y ∷ back) (pairs_from_nonempty (y ∷ back))) (c.slots ∙ e) in
        subst (λ a. HasFirstLogEntry (current_block new a) superblock_entry) (ap first_address was ∙ sym c.at ∙ sym (ap first_address is)) c.device.first
    p_slots [] e all = x_slots x.content.slots refl all e

    go : FromSlots front → Begins (pairs_from_nonempty (front ++ q ∷ y ∷ back))
    go (InFront r rest is all) = subst (λ a. HasFirstLogEntry (current_block new a) superblock_entry) (ap first_address (all (p ∷ x ∷ back)) ∙ sym (ap first_address (all (q ∷ y ∷ back)))) c.device.first
    go (Behind bare all) = subst Begins (sym (all (q ∷ y ∷ back))) (p_slots p.content.slots refl all)

-- ---- pairs before and behind the root's first one

at_end : (front : List Pair) (n : ℕ) (dirs : List Pair) → n ≤ length front → count_before_root (front ++ dirs) ≡ n → IsChain (take n front) (drop n front ++ dirs)
at_end front n dirs few e = ap count_before_root (sym (append_assoc (take n front) (drop n front) dirs) ∙ ap (λ z. z ++ dirs) (take-append-drop n front)) ∙ e ∙ omega (arith, length-take n front)

-- ---- two moves

-- A pair that a hard tail names is at other blocks.
pub pair_moves : (disk new : Disk) (front : List Pair) (p x q y : Pair) (back : List Pair) → IsAccepted disk (front ++ p ∷ x ∷ back) → IsWritable disk (front ++ p ∷ x ∷ back) → HasNoMove (pairs_gstate (front ++ p ∷ x ∷ back)) →
    IsRelocated disk new front p x q y back → (HasFirst y.content.slots → HasFirstLogEntry (current_block new y.at) superblock_entry) → IsSameWritable disk (front ++ p ∷ x ∷ back) new (front ++ q ∷ y ∷ back)
pair_moves disk new front p x q y back ok fits none c begins = go (cases_lt (length front) n)
  where
    n : ℕ
    n = count_before_root (front ++ p ∷ x ∷ back)

    parts : (zs : List Pair) → take n front ++ (drop n front ++ zs) ≡ front ++ zs
    parts zs = sym (append_assoc (take n front) (drop n front) zs) ∙ ap (λ a. a ++ zs) (take-append-drop n front)

    go : (length front < n) ⊎ (n ≤ length front) → IsSameWritable disk (front ++ p ∷ x ∷ back) new (front ++ q ∷ y ∷ back)
    go (inl many) = relocate_root disk new front p x q y back ok fits none many c (first_moved disk new front p x q y back ok c begins)
    go (inr few) = from_change disk new (front ++ p ∷ x ∷ back) (front ++ q ∷ y ∷ back)
        (subst (λ a. IsWritableChange disk a new (front ++ q ∷ y ∷ back) (λ t. t) (λ d. d)) (parts (p ∷ x ∷ back))
        (subst (λ a. IsWritableChange disk (take n front ++ (drop n front ++ p ∷ x ∷ back)) new a (λ t. t) (λ d. d)) (parts (q ∷ y ∷ back))
        (relocate disk new (take n front) (drop n front) p x q y back (record {
          accepted = subst (IsAccepted disk) (sym (parts (p ∷ x ∷ back))) ok;
          writable = subst (IsWritable disk) (sym (parts (p ∷ x ∷ back))) fits;
          no_move = subst (λ a. HasNoMove (pairs_gstate a)) (sym (parts (p ∷ x ∷ back))) none;
          is_chain = at_end front n (p ∷ x ∷ back) few refl;
        }) (subst (λ a. IsRelocated disk new a p x q y back) (sym (take-append-drop n front)) c)).taken))
        (relocated_gstate front p x q y back c.delta c.same)

ends_last : (b : Bool) (front : List Pair) (p : Pair) → last_tail_is_hard b (front ++ p ∷ []) ≡ is_hard_tail p.content.tail
ends_last b [] p = refl
ends_last b (f ∷ front) p = ends_last (is_hard_tail f.content.tail) front p

-- ---- by the definitions

-- two different blocks of the device that nobody uses
pub free_unused : (disk : Disk) (ps : List Pair) (at : ℕ × ℕ) → IsAccepted disk ps → AreUnused disk ps at → at.0 ≢ at.1 → at.0 < block_count disk → at.1 < block_count disk → AreFree disk ps (address_blocks at) []
free_unused disk ps at ok unused apart low high = record {
  distinct = distinct_from_once ((address_blocks at ++ []) ++ used_blocks disk ps) (λ b.
      let a1 = count_append b (address_blocks at ++ []) (used_blocks disk ps) in
      let a2 = count_append b (address_blocks at) [] in
      let o = once_from_distinct (used_blocks disk ps) ok.owned_once b in
      let k = few b (nat_eq b at.0) (nat_eq b at.1) refl refl in
      omega arith);
  in_range = All-from_recursion (λ b. b < block_count disk) (address_blocks at) (low, (high, tt));
}
  where
    none : Each (λ b. Contains (used_blocks disk ps) b → ⊥) (address_blocks at)
    none = recursion_from_All (λ b. Contains (used_blocks disk ps) b → ⊥) (address_blocks at) unused

    not_used : (b : ℕ) → (Contains (used_blocks disk ps) b → ⊥) → occurrence_count b (used_blocks disk ps) ≡ 0
    not_used b n = go (occurrence_count b (used_blocks disk ps)) refl
      where
        go : (k : ℕ) → occurrence_count b (used_blocks disk ps) ≡ k → k ≡ 0
        go zero e = refl
        go (suc k) e = absurd (n (Contains-occurrence_count (used_blocks disk ps) b (omega (arith, e))))

    few : (b : ℕ) (s t : Bool) → nat_eq b at.0 ≡ s → nat_eq b at.1 ≡ t → occurrence_count b (address_blocks at) + occurrence_count b (used_blocks disk ps) ≤ 1
    few b true true e f = absurd (apart (sym (eqb-true b at.0 e) ∙ eqb-true b at.1 f))
    few b true false e f =
        let c = ap₂ (λ x y. cond x 1 0 + (cond y 1 0 + 0)) e f in
        let n = subst (λ z. occurrence_count z (used_blocks disk ps) ≡ 0) (sym (eqb-true b at.0 e)) (not_used at.0 none.0) in
        omega (arith, c, n)
    few b false true e f =
        let c = ap₂ (λ x y. cond x 1 0 + (cond y 1 0 + 0)) e f in
        let n = subst (λ z. occurrence_count z (used_blocks disk ps) ≡ 0) (sym (eqb-true b at.1 f)) (not_used at.1 none.1.0) in
        omega (arith, c, n)
    few b false false e f =
        let c = ap₂ (λ x y. cond x 1 0 + (cond y 1 0 + 0)) e f in
        let o = once_from_distinct (used_blocks disk ps) ok.owned_once b in
        omega (arith, c, o)

joined_is : (x q : Pair) (to : ℕ × ℕ) (slots : List Slot) → q.at ≡ x.at → q.content.slots ≡ slots → q.content.tail ≡ Some (record { hard = true; to = to }) → q.content.move ≡ x.content.move → q ≡ pair_joined_to to slots x
joined_is x q to slots at same tail delta = λ j. record { at = at j; content = record { slots = same j; tail = tail j; move = delta j } }

behind_is : (x y : Pair) → y.content.slots ≡ x.content.slots → y.content.tail ≡ x.content.tail → y.content.move ≡ zero_gstate → y ≡ pair_behind y.at x
behind_is x y same tail none = λ j. record { at = y.at; content = record { slots = same j; tail = tail j; move = none j } }

-- ---- structs of files
