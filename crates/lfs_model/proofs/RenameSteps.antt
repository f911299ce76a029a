-- A rename within one pair, from its commit alone: to a name that is new, which is after the old slot or before it.
use Rattle.std.proofs.Common.{ℕ, zero, suc, ◌≡◌, ◌<◌, ◌≤◌, ⊎_elim, true, false, not, List, [], ◌∷◌, ◌++◌, length, Some, None, refl, sym, ap, subst, ◌∙◌, arith, append_assoc, length-append, get_or, slice_get, remove}
use Rattle.lfs_model.proofs.Common.{insert, cases_lt, filter-append, Disk, Name, name_cmp, Slot, is_superblock, same_pair, Pair, pairs_blocks, Path, IsDirectoryAtPath, all_entries, disk_tree, tree_renaming, without_prefix, Session, path_or_root, entry_slots, all_slots}
use Rattle.std.specs.declared.cmp.Ordering.TheVariants.{Less}
use Rattle.lfs_model.proofs.Orders.{less_differs}
use Rattle.lfs_model.specs.declared.order.NameOrder.{NameOrder}
use Rattle.lfs_model.specs.session.Operations as ops
use Rattle.lfs_model.proofs.Edits.{not_after}
use Rattle.lfs_model.proofs.Paths.{last_is}
use Rattle.lfs_model.proofs.Names.{IsPlace}
use Rattle.lfs_model.proofs.Sites.{Site, thread_at, begin_of}
use Rattle.lfs_model.proofs.Moves.{place_at, shown_before, shown_behind, entry_only, get_here, remove_here, insert_here}
use Rattle.lfs_model.proofs.Changes.{IsChangedImage}
use Rattle.lfs_model.proofs.Renames.{entry_moves, renamed_addresses}
use Rattle.lfs_model.proofs.OneCommit.{slot_there}
use Rattle.lfs_model.proofs.Indexes.{site_shows, nothing_there}
use Rattle.lfs_model.proofs.Committed.{CompletesOperation, IsCommit, commit_step, recovered_from, no_move_from}
use Rattle.lfs_model.proofs.RenamedWithin.{within_completed}

-- ---- names and places

-- a sibling of another name is not beneath
pub sibling_apart : (P : Path) (n m : Name) → (m ≡ n → ⊥) → without_prefix (P ++ n ∷ []) (P ++ m ∷ []) ≡ None
sibling_apart P n m apart = not_after (P ++ n ∷ []) (P ++ m ∷ []) (λ r e. apart (go P r e))
  where
    go : (P r : Path) → P ++ m ∷ [] ≡ (P ++ n ∷ []) ++ r → m ≡ n
    go [] r e = cc
    go (x ∷ P) r e = go P r (cc)

get_past : (xs : List Slot) (u : Slot) (ys : List Slot) (i : ℕ) (d : Slot) → length xs ≤ i → get_or (xs ++ u ∷ ys) (suc i) d ≡ get_or (xs ++ ys) i d
get_past [] u ys i d le = refl
get_past (x ∷ xs) u ys zero d le = absurd (omega arith)
get_past (x ∷ xs) u ys (suc i) d le = get_past xs u ys i d (omega arith)

get_before : (xs : List Slot) (u : Slot) (ys : List Slot) (i : ℕ) (d : Slot) → i < length xs → get_or (xs ++ u ∷ ys) i d ≡ get_or (xs ++ ys) i d
get_before [] u ys i d lt = absurd (omega arith)
get_before (x ∷ xs) u ys zero d lt = refl
get_before (x ∷ xs) u ys (suc i) d lt = get_before xs u ys i d (omega arith)

-- without an entry before it a place is one less
pub place_behind : {by : NameOrder} (xs : List Slot) (u : Slot) (ys : List Slot) (n : ℕ) (name : Name) → length xs ≤ n → IsPlace by (xs ++ u ∷ ys) (suc n) name → IsPlace by (xs ++ ys) n name
place_behind {by} xs u ys n name le h = record {
  within = (let w = h.within in omega (arith, w, length-append xs (u ∷ ys), length-append xs ys));
  below = λ j d lt. ⊎_elim
      (λ less. subst (λ (s : Slot). name_cmp by s.name name ≡ Less) (get_before xs u ys j d less) (h.below j d (omega arith)))
      (λ past. subst (λ (s : Slot). name_cmp by s.name name ≡ Less) (get_past xs u ys j d past) (h.below (suc j) d (omega arith)))
      (cases_lt j (length xs));
  above = λ j d low high. subst (λ (s : Slot). name_cmp by name s.name ≡ Less) (get_past xs u ys j d (omega arith))
      (h.above (suc j) d (omega arith) (omega (arith, length-append xs (u ∷ ys), length-append xs ys, high)));
}

-- without one after it it stays
pub place_ahead : {by : NameOrder} (xs : List Slot) (u : Slot) (ys : List Slot) (n : ℕ) (name : Name) → n ≤ length xs → IsPlace by (xs ++ u ∷ ys) n name → IsPlace by (xs ++ ys) n name
place_ahead {by} xs u ys n name le h = record {
  within = omega (arith, le, length-append xs ys);
  below = λ j d lt. subst (λ (s : Slot). name_cmp by s.name name ≡ Less) (get_before xs u ys j d (omega arith)) (h.below j d lt);
  above = λ j d low high. ⊎_elim
      (λ less. subst (λ (s : Slot). name_cmp by name s.name ≡ Less) (get_before xs u ys j d less) (h.above j d low (omega (arith, length-append xs (u ∷ ys), less))))
      (λ past. subst (λ (s : Slot). name_cmp by name s.name ≡ Less) (get_past xs u ys j d past) (h.above (suc j) d (omega arith) (omega (arith, length-append xs (u ∷ ys), length-append xs ys, high))))
      (cases_lt j (length xs));
}

-- the entry there isn't of that name
behind_differs : {by : NameOrder} (xs : List Slot) (u : Slot) (ys : List Slot) (n : ℕ) (name : Name) → length xs ≤ n → IsPlace by (xs ++ u ∷ ys) (suc n) name → name ≡ u.name → ⊥
behind_differs {by} xs u ys n name le h e = less_differs by u.name name (subst (λ (s : Slot). name_cmp by s.name name ≡ Less) (here xs u ys) (h.below (length xs) u (omega arith))) (sym e)
  where
    here : (xs : List Slot) (u : Slot) (ys : List Slot) → get_or (xs ++ u ∷ ys) (length xs) u ≡ u
    here [] u ys = refl
    here (x ∷ xs) u ys = here xs u ys

ahead_differs : {by : NameOrder} (xs : List Slot) (u : Slot) (ys : List Slot) (n : ℕ) (name : Name) → n ≤ length xs → IsPlace by (xs ++ u ∷ ys) n name → name ≡ u.name → ⊥
ahead_differs {by} xs u ys n name le h e = less_differs by name u.name (subst (λ (s : Slot). name_cmp by name s.name ≡ Less) (here xs u ys) (h.above (length xs) u le (omega (arith, length-append xs (u ∷ ys))))) e
  where
    here : (xs : List Slot) (u : Slot) (ys : List Slot) → get_or (xs ++ u ∷ ys) (length xs) u ≡ u
    here [] u ys = refl
    here (x ∷ xs) u ys = here xs u ys

entries_of_both : (xs ys : List Slot) → entry_slots (xs ++ ys) ≡ entry_slots xs ++ entry_slots ys
entries_of_both xs ys = filter-append (λ (s : Slot). not (is_superblock s)) xs ys

-- ---- behind the old slot

module _ (disk new : Disk) (w : Site) (p q : Pair) (more : List Pair) (l : List Slot) (u : Slot) (passed r : List Slot) (name : Name)
    (c : IsCommit disk new w p q more [] l (u ∷ passed) (passed ++ record u { name = name } ∷ []) r) (other : is_superblock u ≡ false)
    (P : Path) (a : ℕ × ℕ) (leads : IsDirectoryAtPath (thread_at w (p ∷ [])) P a) (same : same_pair (begin_of w (p ∷ [])) a ≡ true)
    (place : IsPlace disk.order (all_entries (thread_at w (p ∷ [])) a) (place_at w (l ++ u ∷ passed)) name) where
  abbrev moved : Slot
  moved = record u { name = name }

  abbrev ahead : List Slot
  ahead = shown_before w l

  abbrev rest : List Slot
  rest = entry_slots passed ++ shown_behind w r

  shows : all_entries (thread_at w (p ∷ [])) a ≡ shown_before w l ++ u ∷ (entry_slots passed ++ shown_behind w r)
  shows = site_shows disk w p l (u ∷ passed) r a c.accepted c.site (no_move_from (thread_at w (p ∷ [])) c.settled) same c.was
      ∙ ap (λ z. ahead ++ (z ++ shown_behind w r)) (entries_of_both (u ∷ []) passed ∙ ap (λ z. z ++ entry_slots passed) (entry_only u other))

  at_old : slice_get (all_entries (thread_at w (p ∷ [])) a) (place_at w l) ≡ Some u
  at_old = ap (λ z. slice_get z (place_at w l)) shows ∙ get_here ahead rest u

  left_over : remove (all_entries (thread_at w (p ∷ [])) a) (place_at w l) ≡ shown_before w l ++ (entry_slots passed ++ shown_behind w r)
  left_over = ap (λ z. remove z (place_at w l)) shows ∙ remove_here ahead rest u

  abbrev number : ℕ
  number = length (shown_before w l ++ entry_slots passed)

  -- the place with the old slot before it
  number_is : place_at w (l ++ u ∷ passed) ≡ suc (length (shown_before w l ++ entry_slots passed))
  number_is = ap length (ap entry_slots (sym (append_assoc (all_slots w.left) l (u ∷ passed))) ∙ entries_of_both (all_slots w.left ++ l) (u ∷ passed)
      ∙ ap (λ z. ahead ++ z) (entries_of_both (u ∷ []) passed ∙ ap (λ z. z ++ entry_slots passed) (entry_only u other)))
      ∙ omega (arith, length-append ahead (u ∷ entry_slots passed), length-append ahead (entry_slots passed))

  place_there : IsPlace disk.order (shown_before w l ++ u ∷ (entry_slots passed ++ shown_behind w r)) (suc (length (shown_before w l ++ entry_slots passed))) name
  place_there = subst (λ k. IsPlace disk.order (ahead ++ u ∷ rest) k name) number_is (subst (λ z. IsPlace disk.order z (place_at w (l ++ u ∷ passed)) name) shows place)

  new_place : IsPlace disk.order (remove (all_entries (thread_at w (p ∷ [])) a) (place_at w l)) (length (shown_before w l ++ entry_slots passed)) name
  new_place = subst (λ z. IsPlace disk.order z number name) (sym left_over) (place_behind ahead u rest number name (omega (arith, length-append ahead (entry_slots passed))) place_there)

  shown_moved : shown_before w l ++ (entry_slots (passed ++ record u { name = name } ∷ []) ++ shown_behind w r)
      ≡ insert (remove (all_entries (thread_at w (p ∷ [])) a) (place_at w l)) (length (shown_before w l ++ entry_slots passed)) (record u { name = name })
  shown_moved = ap (λ z. ahead ++ (z ++ shown_behind w r)) (entries_of_both passed (moved ∷ []) ∙ ap (λ z. entry_slots passed ++ z) (entry_only moved other))
      ∙ ap (λ z. ahead ++ z) (append_assoc (entry_slots passed) (moved ∷ []) (shown_behind w r)) ∙ sym (append_assoc ahead (entry_slots passed) (moved ∷ shown_behind w r))
      ∙ sym (insert_here (ahead ++ entry_slots passed) (shown_behind w r) moved)
      ∙ ap (λ z. insert z number moved) (append_assoc ahead (entry_slots passed) (shown_behind w r) ∙ sym left_over)

  abbrev differs : name ≡ u.name → ⊥
  differs = behind_differs ahead u rest number name (omega (arith, length-append (shown_before w l) (entry_slots passed))) place_there

  pub behind_follows : IsChangedImage disk (thread_at w (p ∷ [])) new (thread_at w (q ∷ more)) (tree_renaming (P ++ u.name ∷ []) (P ++ name ∷ [])) (renamed_addresses (P ++ u.name ∷ []) (P ++ name ∷ []))
  behind_follows = entry_moves disk new w p [] q more (pairs_blocks more) [] l (u ∷ passed) (passed ++ moved ∷ []) r (commit_step disk new w p q more [] l (u ∷ passed) (passed ++ moved ∷ []) r c)
      P a leads same (place_at w l) u at_old name number shown_moved (sibling_apart P u.name name differs) new_place (λ e. (recovered_from disk (thread_at w (p ∷ [])) c.accepted c.settled).reached)

  pub renamed_behind_completed : (s : Session) (old_bytes new_bytes : List ℕ) → s.tree ≡ disk_tree disk (thread_at w (p ∷ [])) → path_or_root old_bytes ≡ P ++ u.name ∷ [] → path_or_root new_bytes ≡ P ++ name ∷ []
      → CompletesOperation disk (thread_at w (p ∷ [])) s (ops.Rename old_bytes new_bytes) new (thread_at w (q ∷ more))
  renamed_behind_completed s old_bytes new_bytes tree old_is new_is = within_completed disk new w p q more l (u ∷ passed) (passed ++ moved ∷ []) r c l u (passed ++ r) (l ++ passed) None r name
      c.was (sym (append_assoc l passed r)) (ap (λ z. l ++ z) (append_assoc passed (moved ∷ []) r) ∙ sym (append_assoc l passed (moved ∷ r)))
      s old_bytes new_bytes (P ++ u.name ∷ []) (P ++ name ∷ []) tree old_is new_is (last_is P name)
      (slot_there disk (thread_at w (p ∷ [])) P a (place_at w l) u c.accepted leads at_old)
      (nothing_there disk (thread_at w (p ∷ [])) P a (place_at w (l ++ u ∷ passed)) name leads place).0 tt
      _ behind_follows

-- ---- in front of it

module _ (disk new : Disk) (w : Site) (p q : Pair) (more : List Pair) (l : List Slot) (u : Slot) (passed r : List Slot) (name : Name)
    (c : IsCommit disk new w p q more [] l (passed ++ u ∷ []) (record u { name = name } ∷ passed) r) (other : is_superblock u ≡ false)
    (P : Path) (a : ℕ × ℕ) (leads : IsDirectoryAtPath (thread_at w (p ∷ [])) P a) (same : same_pair (begin_of w (p ∷ [])) a ≡ true)
    (place : IsPlace disk.order (all_entries (thread_at w (p ∷ [])) a) (place_at w l) name) where
  abbrev moved2 : Slot
  moved2 = record u { name = name }

  abbrev ahead2 : List Slot
  ahead2 = shown_before w l ++ entry_slots passed

  shows2 : all_entries (thread_at w (p ∷ [])) a ≡ (shown_before w l ++ entry_slots passed) ++ u ∷ shown_behind w r
  shows2 = site_shows disk w p l (passed ++ u ∷ []) r a c.accepted c.site (no_move_from (thread_at w (p ∷ [])) c.settled) same c.was
      ∙ ap (λ z. shown_before w l ++ (z ++ shown_behind w r)) (entries_of_both passed (u ∷ []) ∙ ap (λ z. entry_slots passed ++ z) (entry_only u other))
      ∙ ap (λ z. shown_before w l ++ z) (append_assoc (entry_slots passed) (u ∷ []) (shown_behind w r)) ∙ sym (append_assoc (shown_before w l) (entry_slots passed) (u ∷ shown_behind w r))

  abbrev old_number : ℕ
  old_number = length (shown_before w l ++ entry_slots passed)

  at_old2 : slice_get (all_entries (thread_at w (p ∷ [])) a) (length (shown_before w l ++ entry_slots passed)) ≡ Some u
  at_old2 = ap (λ z. slice_get z old_number) shows2 ∙ get_here ahead2 (shown_behind w r) u

  left_over2 : remove (all_entries (thread_at w (p ∷ [])) a) (length (shown_before w l ++ entry_slots passed)) ≡ (shown_before w l ++ entry_slots passed) ++ shown_behind w r
  left_over2 = ap (λ z. remove z old_number) shows2 ∙ remove_here ahead2 (shown_behind w r) u

  few : place_at w l ≤ length (shown_before w l ++ entry_slots passed)
  few = omega (arith, length-append (shown_before w l) (entry_slots passed))

  place_there2 : IsPlace disk.order ((shown_before w l ++ entry_slots passed) ++ u ∷ shown_behind w r) (place_at w l) name
  place_there2 = subst (λ z. IsPlace disk.order z (place_at w l) name) shows2 place

  new_place2 : IsPlace disk.order (remove (all_entries (thread_at w (p ∷ [])) a) (length (shown_before w l ++ entry_slots passed))) (place_at w l) name
  new_place2 = subst (λ z. IsPlace disk.order z (place_at w l) name) (sym left_over2) (place_ahead ahead2 u (shown_behind w r) (place_at w l) name few place_there2)

  shown_moved2 : shown_before w l ++ (entry_slots (record u { name = name } ∷ passed) ++ shown_behind w r)
      ≡ insert (remove (all_entries (thread_at w (p ∷ [])) a) (length (shown_before w l ++ entry_slots passed))) (place_at w l) (record u { name = name })
  shown_moved2 = ap (λ z. shown_before w l ++ (z ++ shown_behind w r)) (entries_of_both (moved2 ∷ []) passed ∙ ap (λ z. z ++ entry_slots passed) (entry_only moved2 other))
      ∙ sym (insert_here (shown_before w l) (entry_slots passed ++ shown_behind w r) moved2)
      ∙ ap (λ z. insert z (place_at w l) moved2) (sym (append_assoc (shown_before w l) (entry_slots passed) (shown_behind w r)) ∙ sym left_over2)

  pub ahead_follows : IsChangedImage disk (thread_at w (p ∷ [])) new (thread_at w (q ∷ more)) (tree_renaming (P ++ u.name ∷ []) (P ++ name ∷ [])) (renamed_addresses (P ++ u.name ∷ []) (P ++ name ∷ []))
  ahead_follows = entry_moves disk new w p [] q more (pairs_blocks more) [] l (passed ++ u ∷ []) (moved2 ∷ passed) r (commit_step disk new w p q more [] l (passed ++ u ∷ []) (moved2 ∷ passed) r c)
      P a leads same old_number u at_old2 name (place_at w l) shown_moved2 (sibling_apart P u.name name (ahead_differs ahead2 u (shown_behind w r) (place_at w l) name few place_there2)) new_place2
      (λ e. (recovered_from disk (thread_at w (p ∷ [])) c.accepted c.settled).reached)

  pub renamed_ahead_completed : (s : Session) (old_bytes new_bytes : List ℕ) → s.tree ≡ disk_tree disk (thread_at w (p ∷ [])) → path_or_root old_bytes ≡ P ++ u.name ∷ [] → path_or_root new_bytes ≡ P ++ name ∷ []
      → CompletesOperation disk (thread_at w (p ∷ [])) s (ops.Rename old_bytes new_bytes) new (thread_at w (q ∷ more))
  renamed_ahead_completed s old_bytes new_bytes tree old_is new_is = within_completed disk new w p q more l (passed ++ u ∷ []) (moved2 ∷ passed) r c (l ++ passed) u r l None (passed ++ r) name
      (c.was ∙ ap (λ z. l ++ z) (append_assoc passed (u ∷ []) r) ∙ sym (append_assoc l passed (u ∷ r))) (append_assoc l passed r) refl
      s old_bytes new_bytes (P ++ u.name ∷ []) (P ++ name ∷ []) tree old_is new_is (last_is P name)
      (slot_there disk (thread_at w (p ∷ [])) P a old_number u c.accepted leads at_old2)
      (nothing_there disk (thread_at w (p ∷ [])) P a (place_at w l) name leads place).0 tt
      _ ahead_follows
