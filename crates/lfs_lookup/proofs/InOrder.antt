-- A directory whose names rise doesn't have a name that belongs before one of its slots. In an accepted image names rise.
use Rattle.std.proofs.Common.{ℕ, zero, suc, ◌≡◌, ◌≢◌, ◌⊎◌, inl, inr, ◌+◌, ◌==◌, ◌&&◌, Bool, true, false, cond, not, List, [], ◌∷◌, ◌++◌, filter, flat_map, take, drop, remove, slice_get, Option, Some, None, refl, sym, ap, ap₂, subst, ◌∙◌, arith, append_assoc, Less}
use Rattle.lfs_lookup.proofs.Common.{AllByRecursion, take-append-drop, flat_map-append, filter-append, same_Some, drop-append_seam, BeginsWithGreaterName, IsInsertionPosition, HasHardTail, AreJoinedByHardTails, entry_slots, last_has_hard_tail, all_slots, Name, name_cmp, Gstate, Slot, is_superblock, same_pair, Pair, pairs_gstate, is_hard_tail, unmoved_entries, moved_id, Path, Each, each_append, each_left, each_right, each_weaker, begins_directory, plain_behind, KeptThread, joined_pairs, LeadsToPair, HidesMovedSlot, IsOnlyMovedSlot, IsNameAbsentFrom, IsNameAtVisibleSlot, IsNamePositionInDirectory, skipped_id}
use Rattle.lfs_model.specs.declared.order.NameOrder.{NameOrder}
use Rattle.lfs_model.proofs.Indexes.{greater_behind, less_before, rise_right}
use Rattle.lfs_model.proofs.Names.{Rise}
use Rattle.lfs_model.proofs.Orders.{less_differs}
use Rattle.lfs_lookup.specs.NameSearch.{AreDirectoryNamesSorted}
use Rattle.lfs_lookup.specs.declared.entry.FileOrDirectory.{FileOrDirectory}
use Rattle.lfs_lookup.specs.declared.search.NamePositionInDirectory.TheVariants.{Found, Place}
use Rattle.lfs_lookup.specs.declared.search.SlotPosition.{SlotPosition}
use Rattle.lfs_lookup.proofs.Directories.{own_run}
use Rattle.lfs_lookup.proofs.Halved.{run_part}

entries_append : (xs ys : List Slot) → entry_slots (xs ++ ys) ≡ entry_slots xs ++ entry_slots ys
entries_append xs ys = filter-append (λ (s : Slot). not (is_superblock s)) xs ys

slots_append : (ps qs : List Pair) → all_slots (ps ++ qs) ≡ all_slots ps ++ all_slots qs
slots_append ps qs = flat_map-append (λ (p : Pair). p.content.slots) ps qs

-- ---- the directory's pairs

joined_before : (left : List Pair) (rest : List Pair) → AllByRecursion HasHardTail left → joined_pairs (left ++ rest) ≡ left ++ joined_pairs rest
joined_before [] rest h = refl
joined_before (x ∷ left) rest h = ap (λ b. x ∷ cond b (joined_pairs (left ++ rest)) []) h.0 ∙ ap (λ z. x ∷ z) (joined_before left rest h.1)

joined_through : (p : Pair) (later rest : List Pair) → AreJoinedByHardTails p later → joined_pairs (p ∷ (later ++ rest)) ≡ p ∷ (later ++ cond (last_has_hard_tail p later) (joined_pairs rest) [])
joined_through p [] rest h = refl
joined_through p (q ∷ later) rest h = ap (λ b. p ∷ cond b (joined_pairs (q ∷ (later ++ rest))) []) h.0 ∙ ap (λ z. p ∷ z) (joined_through q later rest h.1)

-- ---- a name that belongs before a slot is absent

abbrev IsOther : Name → Slot → Type 0
IsOther name s = s.name ≡ name → ⊥

module _ (by : NameOrder) (ps : List Pair) (first : ℕ) (name : Name) (index id : ℕ) (b : IsInsertionPosition by ps first name index id) where
  tail_pairs : List Pair
  tail_pairs = cond (last_has_hard_tail b.pair b.later) (joined_pairs b.rest) []

  -- what is before the place and behind it, in the directory
  abbrev before : List Slot
  before = entry_slots (all_slots b.place.left)

  abbrev behind : List Slot
  behind = entry_slots (b.right ++ all_slots b.later)

  run_is : joined_pairs (drop first ps) ≡ b.place.left ++ b.pair ∷ (b.later ++ tail_pairs)
  unfolding tail_pairs
  run_is =
      ap₂ (λ (n : ℕ) z. joined_pairs (drop n z)) (sym b.place.begins) b.place.parts
      ∙ ap joined_pairs (drop-append_seam b.place.front (b.place.left ++ b.pair ∷ (b.later ++ b.rest)))
      ∙ joined_before b.place.left (b.pair ∷ (b.later ++ b.rest)) b.place.joined
      ∙ ap (λ z. b.place.left ++ z) (joined_through b.pair b.later b.rest b.runs)

  entries_are : entry_slots (all_slots (joined_pairs (drop first ps))) ≡ before ++ (entry_slots b.left ++ (behind ++ entry_slots (all_slots tail_pairs)))
  entries_are =
      ap (λ z. entry_slots (all_slots z)) run_is
      ∙ ap entry_slots (slots_append b.place.left (b.pair ∷ (b.later ++ tail_pairs)))
      ∙ entries_append (all_slots b.place.left) (b.pair.content.slots ++ all_slots (b.later ++ tail_pairs))
      ∙ ap (λ z. before ++ z) (
      ap₂ (λ x y. entry_slots (x ++ y)) b.held (slots_append b.later tail_pairs)
      ∙ ap entry_slots (append_assoc b.left b.right (all_slots b.later ++ all_slots tail_pairs))
      ∙ entries_append b.left (b.right ++ (all_slots b.later ++ all_slots tail_pairs))
      ∙ ap (λ z. entry_slots b.left ++ z) (
      ap entry_slots (sym (append_assoc b.right (all_slots b.later) (all_slots tail_pairs)))
      ∙ entries_append (b.right ++ all_slots b.later) (all_slots tail_pairs)))

  module _ (rise : Rise by (entry_slots (all_slots (joined_pairs (drop first ps))))) where
    rises : Rise by (before ++ (entry_slots b.left ++ (behind ++ entry_slots (all_slots tail_pairs))))
    rises = subst (Rise by) entries_are rise

    lesser : (xs : List Slot) → Each (λ s. name_cmp by s.name name ≡ Less) xs → Each (IsOther name) xs
    lesser xs h = each_weaker (λ s. name_cmp by s.name name ≡ Less) (IsOther name) (λ s l e. less_differs by s.name name l e) xs h

    none_before : Each (IsOther name) before
    none_before = go b.not_before (entry_slots b.left) refl b.less
      where
        go : (before ≡ []) ⊎ (entry_slots b.left ≢ []) → (es : List Slot) → entry_slots b.left ≡ es → Each (λ s. name_cmp by s.name name ≡ Less) (entry_slots b.left) → Each (IsOther name) before
        go (inl n) es f h = subst (Each (IsOther name)) (sym n) tt
        go (inr n) [] f h = absurd (n f)
        go (inr n) (x ∷ es) f h =
            lesser before (less_before by before x (es ++ (behind ++ entry_slots (all_slots tail_pairs))) name (subst (λ z. Rise by (before ++ (z ++ (behind ++ entry_slots (all_slots tail_pairs))))) f rises)
            (subst (Each (λ s. name_cmp by s.name name ≡ Less)) f h).0)

    none_behind : Each (IsOther name) (behind ++ entry_slots (all_slots tail_pairs))
    unfolding tail_pairs
    none_behind = go b.not_behind
      where
        go : BeginsWithGreaterName by name behind ⊎ ((behind ≡ []) × (last_has_hard_tail b.pair b.later ≡ false)) → Each (IsOther name) (behind ++ entry_slots (all_slots tail_pairs))
        go (inl a) =
            let rise_here = rise_right by (entry_slots b.left) (behind ++ entry_slots (all_slots tail_pairs)) (rise_right by before (entry_slots b.left ++ (behind ++ entry_slots (all_slots tail_pairs))) rises) in
            let are : behind ++ entry_slots (all_slots tail_pairs) ≡ a.first ∷ (a.rest ++ entry_slots (all_slots tail_pairs)) = ap (λ z. z ++ entry_slots (all_slots tail_pairs)) a.are in
            subst (Each (IsOther name)) (sym are)
            (each_weaker (λ s. name_cmp by name s.name ≡ Less) (IsOther name) (λ s l e. less_differs by name s.name l (sym e)) (a.first ∷ (a.rest ++ entry_slots (all_slots tail_pairs)))
            (a.above, greater_behind by a.first (a.rest ++ entry_slots (all_slots tail_pairs)) name (subst (Rise by) are rise_here) a.above))
        go (inr (e, f)) = subst (Each (IsOther name)) (sym (ap₂ (λ x y. x ++ entry_slots (all_slots (cond y (joined_pairs b.rest) []))) e f)) tt

    none_of_all : Each (IsOther name) (entry_slots (all_slots (joined_pairs (drop first ps))))
    none_of_all =
        subst (Each (IsOther name)) (sym entries_are)
        (each_append (IsOther name) before (entry_slots b.left ++ (behind ++ entry_slots (all_slots tail_pairs))) none_before
        (each_append (IsOther name) (entry_slots b.left) (behind ++ entry_slots (all_slots tail_pairs)) (lesser (entry_slots b.left) b.less) none_behind))

-- along the hard tails
each_entry : (P : Slot → Type 0) (slots : List Slot) (id : ℕ) (s : Slot) → Each P (entry_slots slots) → slice_get slots id ≡ Some s → is_superblock s ≡ false → P s
each_entry P [] id s h e plain = absurd (cc)
each_entry P (x ∷ slots) zero s h e plain =
    let is = same_Some x s e in
    let entry : is_superblock x ≡ false = ap (λ (z : Slot). is_superblock z) is ∙ plain in
    subst P is (subst (Each P) (ap (λ b. cond (not b) (x ∷ entry_slots slots) (entry_slots slots)) entry) h).0
each_entry P (x ∷ slots) (suc id) s h e plain = each_entry P slots id s (go (is_superblock x) h) e plain
  where
    go : (b : Bool) → Each P (cond (not b) (x ∷ entry_slots slots) (entry_slots slots)) → Each P (entry_slots slots)
    go true k = k
    go false k = k.1

absent_along : (index : ℕ) (ps : List Pair) (name : Name) → Each (IsOther name) (entry_slots (all_slots (joined_pairs ps))) → IsNameAbsentFrom None index ps name
absent_along index [] name h = tt
absent_along index (p ∷ ps) name h =
    let whole = subst (Each (IsOther name)) (entries_append p.content.slots (all_slots (cond (is_hard_tail p.content.tail) (joined_pairs ps) []))) h in (
      λ id s at plain kept same. each_entry (IsOther name) p.content.slots id s (each_left (IsOther name) (entry_slots p.content.slots) (entry_slots (all_slots (cond (is_hard_tail p.content.tail) (joined_pairs ps) []))) whole) at plain same,
      λ hard. absent_along (index + 1) ps name
          (subst (λ b. Each (IsOther name) (entry_slots (all_slots (cond b (joined_pairs ps) [])))) hard
          (each_right (IsOther name) (entry_slots p.content.slots) (entry_slots (all_slots (cond (is_hard_tail p.content.tail) (joined_pairs ps) []))) whole)),
    )

pub absent_by_order : (by : NameOrder) (ps : List Pair) (first : ℕ) (name : Name) (index id : ℕ) → AreDirectoryNamesSorted by ps first → IsInsertionPosition by ps first name index id → IsNameAbsentFrom None first (drop first ps) name
absent_by_order by ps first name index id h b = absent_along first (drop first ps) name (none_of_all by ps first name index id b h.rise)

-- ---- what is shown where no slot is passed over

pub found_shown : (by : NameOrder) (ps : List Pair) (moved : Option SlotPosition) (first : ℕ) (name : Name) (spot : SlotPosition) (entry : FileOrDirectory) → moved ≡ None → IsNamePositionInDirectory by ps first name (Found spot entry) → IsNameAtVisibleSlot ps moved first name spot entry
found_shown by ps moved first name spot entry none found = record {
  stands = found.0;
  shows = found.1;
  kept = λ e. let k = sym (ap (λ m. skipped_id m spot.pair) none) ∙ e in absurd (cc);
}

pub nothing_shown : (by : NameOrder) (ps : List Pair) (moved : Option SlotPosition) (first : ℕ) (name : Name) (spot : SlotPosition) → moved ≡ None → AreDirectoryNamesSorted by ps first → IsNamePositionInDirectory by ps first name (Place spot) → IsNameAbsentFrom moved first (drop first ps) name
nothing_shown by ps moved first name spot none h found = subst (λ m. IsNameAbsentFrom m first (drop first ps) name) (sym none) (absent_by_order by ps first name spot.pair spot.id h found)

-- ---- in an accepted image

hides_each : (g : Gstate) (index : ℕ) (ps : List Pair) → IsOnlyMovedSlot g None index ps → Each (λ p. moved_id g p ≡ None) ps
hides_each g index [] h = tt
hides_each g index (p ∷ ps) h = (sym h.0, hides_each g (index + 1) ps h.1)

shown_whole : (g : Gstate) (ps : List Pair) → Each (λ p. moved_id g p ≡ None) ps → flat_map (unmoved_entries g) ps ≡ entry_slots (all_slots ps)
shown_whole g [] h = refl
shown_whole g (p ∷ ps) h =
    ap (λ z. unmoved_entries g p ++ z) (shown_whole g ps h.1)
    ∙ ap (λ z. z ++ entry_slots (all_slots ps)) (one (g.kind == 0x4ff && same_pair g.pair p.at) h.0)
    ∙ sym (entries_append p.content.slots (all_slots ps))
  where
    one : (b : Bool) → (let o : Option ℕ = cond b (Some g.id) None in o) ≡ None → filter (λ s. not (is_superblock s)) (cond b (remove p.content.slots g.id) p.content.slots) ≡ entry_slots p.content.slots
    one true e = absurd (cc)
    one false e = refl

module _ (t : KeptThread) (path : Path) (first : ℕ) (h : HidesMovedSlot t None) (on : LeadsToPair t.pairs path first) where
  here : flat_map (unmoved_entries (pairs_gstate t.pairs)) (joined_pairs (drop first t.pairs)) ≡ entry_slots (all_slots (joined_pairs (drop first t.pairs)))
  here =
      let part = run_part (drop first t.pairs) in
      let all = hides_each (pairs_gstate t.pairs) 0 t.pairs h.hides in
      let some = each_right (λ p. moved_id (pairs_gstate t.pairs) p ≡ None) (take first t.pairs) (drop first t.pairs) (subst (Each (λ p. moved_id (pairs_gstate t.pairs) p ≡ None)) (sym (take-append-drop first t.pairs)) all) in
      shown_whole (pairs_gstate t.pairs) (joined_pairs (drop first t.pairs))
      (each_left (λ p. moved_id (pairs_gstate t.pairs) p ≡ None) (joined_pairs (drop first t.pairs)) part.0 (subst (Each (λ p. moved_id (pairs_gstate t.pairs) p ≡ None)) part.1 some))

  pub in_order_on : AreDirectoryNamesSorted t.disk.order t.pairs first
  in_order_on =
      let i = begins_directory t.disk t.pairs path on.at first h.accepted on.leads on.begins in
      record {
        rise = subst (Rise t.disk.order) (sym (own_run t.disk t.pairs path on.at first h.accepted on.leads on.begins) ∙ here) (h.accepted.order path on.at on.leads);
        plain = plain_behind t.disk t.pairs first h.accepted (let n = i.number in omega (arith, n));
      }

pub in_order_if : (t : KeptThread) (moved : Option SlotPosition) (path : Path) (first : ℕ) → HidesMovedSlot t moved → LeadsToPair t.pairs path first → moved ≡ None → AreDirectoryNamesSorted t.disk.order t.pairs first
in_order_if t moved path first h on none = in_order_on t path first (subst (HidesMovedSlot t) none h) on
