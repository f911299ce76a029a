-- The tree after a rename within one pair onto a file, which stands behind the old slot or in front of it.
use Rattle.std.proofs.Common.{ℕ, ◌≡◌, true, false, not, List, [], ◌∷◌, ◌++◌, length, Some, None, sym, ap, ◌∙◌, append_assoc, slice_get, remove, set}
use Rattle.std.proofs.Math.Seq.{set-append_seam}
use Rattle.lfs_model.proofs.Common.{filter-append, Disk, Slot, is_superblock, same_pair, Pair, pairs_gstate, Path, struct_directory_address, IsDirectoryAtPath, all_entries, tree_renaming}
use Rattle.lfs_model.specs.session.InDirectory.{entry_slots}
use Rattle.lfs_model.proofs.Changes.{IsChangedImage}
use Rattle.lfs_model.proofs.Sites.{Site, thread_at, begin_of}
use Rattle.lfs_model.proofs.Moves.{AllReached, IsStep, place_at, shown_before, shown_behind, entry_only, get_here, remove_here}
use Rattle.lfs_model.proofs.Renames.{renamed_addresses, entry_moves_onto}
use Rattle.lfs_model.proofs.Indexes.{site_shows}
use Rattle.lfs_model.proofs.RenameSteps.{sibling_apart}

both_entries : (xs ys : List Slot) → entry_slots (xs ++ ys) ≡ entry_slots xs ++ entry_slots ys
both_entries xs ys = filter-append (λ (s : Slot). not (is_superblock s)) xs ys

-- one entry among others
entry_among : (xs : List Slot) (u : Slot) (ys : List Slot) → is_superblock u ≡ false → entry_slots (xs ++ u ∷ ys) ≡ entry_slots xs ++ u ∷ entry_slots ys
entry_among xs u ys other = both_entries xs (u ∷ ys) ∙ ap (λ z. entry_slots xs ++ z) (both_entries (u ∷ []) ys ∙ ap (λ z. z ++ entry_slots ys) (entry_only u other))

-- the file stands behind the old slot
module _ (disk new : Disk) (w : Site) (p q : Pair) (more : List Pair) (extra : List ℕ) (l : List Slot) (u : Slot) (passed : List Slot) (target : Slot) (r : List Slot)
    (c : IsStep disk new w p [] q more extra [] l (u ∷ (passed ++ target ∷ [])) (passed ++ record u { name = target.name } ∷ []) r) (held : p.content.slots ≡ l ++ ((u ∷ (passed ++ target ∷ [])) ++ r)) (other : is_superblock u ≡ false) (entry : is_superblock target ≡ false)
    (file : (pairs_gstate (thread_at w (q ∷ more))).sync ≡ false → (struct_directory_address target.struct ≡ None) × AllReached (thread_at w (p ∷ [])))
    (differs : target.name ≡ u.name → ⊥)
    (P : Path) (a : ℕ × ℕ) (leads : IsDirectoryAtPath (thread_at w (p ∷ [])) P a) (same : same_pair (begin_of w (p ∷ [])) a ≡ true) where
  abbrev moved : Slot
  moved = record u { name = target.name }

  abbrev ahead : List Slot
  ahead = shown_before w l ++ entry_slots passed

  shows : all_entries (thread_at w (p ∷ [])) a ≡ shown_before w l ++ u ∷ (entry_slots passed ++ target ∷ shown_behind w r)
  shows = site_shows disk w p l (u ∷ (passed ++ target ∷ [])) r a c.accepted c.site c.no_move same held
      ∙ ap (λ z. shown_before w l ++ (z ++ shown_behind w r)) (entry_among [] u (passed ++ target ∷ []) other ∙ ap (λ z. u ∷ z) (entry_among passed target [] entry))
      ∙ ap (λ z. shown_before w l ++ u ∷ z) (append_assoc (entry_slots passed) (target ∷ []) (shown_behind w r))

  at_old : slice_get (all_entries (thread_at w (p ∷ [])) a) (place_at w l) ≡ Some u
  at_old = ap (λ z. slice_get z (place_at w l)) shows ∙ get_here (shown_before w l) (entry_slots passed ++ target ∷ shown_behind w r) u

  left_over : remove (all_entries (thread_at w (p ∷ [])) a) (place_at w l) ≡ (shown_before w l ++ entry_slots passed) ++ target ∷ shown_behind w r
  left_over = ap (λ z. remove z (place_at w l)) shows ∙ remove_here (shown_before w l) (entry_slots passed ++ target ∷ shown_behind w r) u ∙ sym (append_assoc (shown_before w l) (entry_slots passed) (target ∷ shown_behind w r))

  abbrev number : ℕ
  number = length (shown_before w l ++ entry_slots passed)

  there : slice_get (remove (all_entries (thread_at w (p ∷ [])) a) (place_at w l)) (length (shown_before w l ++ entry_slots passed)) ≡ Some target
  there = ap (λ z. slice_get z number) left_over ∙ get_here ahead (shown_behind w r) target

  shown_moved : shown_before w l ++ (entry_slots (passed ++ record u { name = target.name } ∷ []) ++ shown_behind w r)
      ≡ set (remove (all_entries (thread_at w (p ∷ [])) a) (place_at w l)) (length (shown_before w l ++ entry_slots passed)) (record u { name = target.name })
  shown_moved = ap (λ z. shown_before w l ++ (z ++ shown_behind w r)) (entry_among passed moved [] other)
      ∙ ap (λ z. shown_before w l ++ z) (append_assoc (entry_slots passed) (moved ∷ []) (shown_behind w r)) ∙ sym (append_assoc (shown_before w l) (entry_slots passed) (moved ∷ shown_behind w r))
      ∙ sym (set-append_seam ahead target (shown_behind w r) moved) ∙ ap (λ z. set z number moved) (sym left_over)

  pub onto_behind_follows : IsChangedImage disk (thread_at w (p ∷ [])) new (thread_at w (q ∷ more)) (tree_renaming (P ++ u.name ∷ []) (P ++ target.name ∷ [])) (renamed_addresses (P ++ u.name ∷ []) (P ++ target.name ∷ []))
  onto_behind_follows = entry_moves_onto disk new w p [] q more extra [] l (u ∷ (passed ++ target ∷ [])) (passed ++ moved ∷ []) r c
      P a leads same (place_at w l) u at_old number target there shown_moved (sibling_apart P u.name target.name differs) file

-- the file stands in front of it
module _ (disk new : Disk) (w : Site) (p q : Pair) (more : List Pair) (extra : List ℕ) (l : List Slot) (u : Slot) (passed : List Slot) (target : Slot) (r : List Slot)
    (c : IsStep disk new w p [] q more extra [] l (target ∷ (passed ++ u ∷ [])) (record u { name = target.name } ∷ passed) r) (held : p.content.slots ≡ l ++ ((target ∷ (passed ++ u ∷ [])) ++ r)) (other : is_superblock u ≡ false) (entry : is_superblock target ≡ false)
    (file : (pairs_gstate (thread_at w (q ∷ more))).sync ≡ false → (struct_directory_address target.struct ≡ None) × AllReached (thread_at w (p ∷ [])))
    (differs : target.name ≡ u.name → ⊥)
    (P : Path) (a : ℕ × ℕ) (leads : IsDirectoryAtPath (thread_at w (p ∷ [])) P a) (same : same_pair (begin_of w (p ∷ [])) a ≡ true) where
  abbrev moved2 : Slot
  moved2 = record u { name = target.name }

  abbrev before_old : List Slot
  before_old = shown_before w l ++ target ∷ entry_slots passed

  shows2 : all_entries (thread_at w (p ∷ [])) a ≡ (shown_before w l ++ target ∷ entry_slots passed) ++ u ∷ shown_behind w r
  shows2 = site_shows disk w p l (target ∷ (passed ++ u ∷ [])) r a c.accepted c.site c.no_move same held
      ∙ ap (λ z. shown_before w l ++ (z ++ shown_behind w r)) (entry_among [] target (passed ++ u ∷ []) entry ∙ ap (λ z. target ∷ z) (entry_among passed u [] other))
      ∙ ap (λ z. shown_before w l ++ target ∷ z) (append_assoc (entry_slots passed) (u ∷ []) (shown_behind w r)) ∙ sym (append_assoc (shown_before w l) (target ∷ entry_slots passed) (u ∷ shown_behind w r))

  abbrev old_number : ℕ
  old_number = length (shown_before w l ++ target ∷ entry_slots passed)

  at_old2 : slice_get (all_entries (thread_at w (p ∷ [])) a) (length (shown_before w l ++ target ∷ entry_slots passed)) ≡ Some u
  at_old2 = ap (λ z. slice_get z old_number) shows2 ∙ get_here before_old (shown_behind w r) u

  left_over2 : remove (all_entries (thread_at w (p ∷ [])) a) (length (shown_before w l ++ target ∷ entry_slots passed)) ≡ shown_before w l ++ target ∷ (entry_slots passed ++ shown_behind w r)
  left_over2 = ap (λ z. remove z old_number) shows2 ∙ remove_here before_old (shown_behind w r) u ∙ append_assoc (shown_before w l) (target ∷ entry_slots passed) (shown_behind w r)

  there2 : slice_get (remove (all_entries (thread_at w (p ∷ [])) a) (length (shown_before w l ++ target ∷ entry_slots passed))) (place_at w l) ≡ Some target
  there2 = ap (λ z. slice_get z (place_at w l)) left_over2 ∙ get_here (shown_before w l) (entry_slots passed ++ shown_behind w r) target

  shown_moved2 : shown_before w l ++ (entry_slots (record u { name = target.name } ∷ passed) ++ shown_behind w r)
      ≡ set (remove (all_entries (thread_at w (p ∷ [])) a) (length (shown_before w l ++ target ∷ entry_slots passed))) (place_at w l) (record u { name = target.name })
  shown_moved2 = ap (λ z. shown_before w l ++ (z ++ shown_behind w r)) (entry_among [] moved2 passed other)
      ∙ sym (set-append_seam (shown_before w l) target (entry_slots passed ++ shown_behind w r) moved2) ∙ ap (λ z. set z (place_at w l) moved2) (sym left_over2)

  pub onto_ahead_follows : IsChangedImage disk (thread_at w (p ∷ [])) new (thread_at w (q ∷ more)) (tree_renaming (P ++ u.name ∷ []) (P ++ target.name ∷ [])) (renamed_addresses (P ++ u.name ∷ []) (P ++ target.name ∷ []))
  onto_ahead_follows = entry_moves_onto disk new w p [] q more extra [] l (target ∷ (passed ++ u ∷ [])) (moved2 ∷ passed) r c
      P a leads same old_number u at_old2 (place_at w l) target there2 shown_moved2 (sibling_apart P u.name target.name differs) file
