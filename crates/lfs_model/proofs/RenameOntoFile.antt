-- A rename within one pair onto a file, from its commit alone; the file is after the old slot or before it.
use Rattle.std.proofs.Common.{ℕ, ◌≡◌, true, false, not, List, [], ◌∷◌, ◌++◌, length, Some, None, refl, sym, ap, ◌∙◌, append_assoc, slice_get, remove, set}
use Rattle.lfs_model.proofs.Common.{filter-append, set-append_seam, Disk, Slot, is_superblock, same_pair, Pair, pairs_blocks, Path, struct_directory_address, IsDirectoryAtPath, all_entries, disk_tree, Session, path_or_root, entry_slots}
use Rattle.lfs_model.specs.session.Operations as ops
use Rattle.lfs_model.proofs.Paths.{last_is}
use Rattle.lfs_model.proofs.Sites.{Site, thread_at, begin_of}
use Rattle.lfs_model.proofs.Moves.{place_at, shown_before, shown_behind, entry_only, get_here, remove_here}
use Rattle.lfs_model.proofs.Renames.{entry_moves_onto}
use Rattle.lfs_model.proofs.OneCommit.{slot_there}
use Rattle.lfs_model.proofs.Indexes.{site_shows}
use Rattle.lfs_model.proofs.Committed.{CompletesOperation, IsCommit, commit_step, recovered_from, no_move_from}
use Rattle.lfs_model.proofs.RenamedWithin.{within_completed}
use Rattle.lfs_model.proofs.RenameSteps.{sibling_apart}

both_entries : (xs ys : List Slot) → entry_slots (xs ++ ys) ≡ entry_slots xs ++ entry_slots ys
both_entries xs ys = filter-append (λ (s : Slot). not (is_superblock s)) xs ys

-- one entry among others
entry_among : (xs : List Slot) (u : Slot) (ys : List Slot) → is_superblock u ≡ false → entry_slots (xs ++ u ∷ ys) ≡ entry_slots xs ++ u ∷ entry_slots ys
entry_among xs u ys other = both_entries xs (u ∷ ys) ∙ ap (λ z. entry_slots xs ++ z) (both_entries (u ∷ []) ys ∙ ap (λ z. z ++ entry_slots ys) (entry_only u other))

-- the file is after the old slot
module _ (disk new : Disk) (w : Site) (p q : Pair) (more : List Pair) (l : List Slot) (u : Slot) (passed : List Slot) (target : Slot) (r : List Slot)
    (c : IsCommit disk new w p q more [] l (u ∷ (passed ++ target ∷ [])) (passed ++ record u { name = target.name } ∷ []) r) (other : is_superblock u ≡ false) (entry : is_superblock target ≡ false) (file : struct_directory_address target.struct ≡ None)
    (differs : target.name ≡ u.name → ⊥)
    (P : Path) (a : ℕ × ℕ) (leads : IsDirectoryAtPath (thread_at w (p ∷ [])) P a) (same : same_pair (begin_of w (p ∷ [])) a ≡ true)
    (s : Session) (old_bytes new_bytes : List ℕ) (tree : s.tree ≡ disk_tree disk (thread_at w (p ∷ []))) (old_is : path_or_root old_bytes ≡ P ++ u.name ∷ []) (new_is : path_or_root new_bytes ≡ P ++ target.name ∷ []) where
  abbrev moved : Slot
  moved = record u { name = target.name }

  abbrev ahead : List Slot
  ahead = shown_before w l ++ entry_slots passed

  shows : all_entries (thread_at w (p ∷ [])) a ≡ shown_before w l ++ u ∷ (entry_slots passed ++ target ∷ shown_behind w r)
  shows = site_shows disk w p l (u ∷ (passed ++ target ∷ [])) r a c.accepted c.site (no_move_from (thread_at w (p ∷ [])) c.settled) same c.was
      ∙ ap (λ z. shown_before w l ++ (z ++ shown_behind w r)) (entry_among [] u (passed ++ target ∷ []) other ∙ ap (λ z. u ∷ z) (entry_among passed target [] entry))
      ∙ ap (λ z. shown_before w l ++ u ∷ z) (append_assoc (entry_slots passed) (target ∷ []) (shown_behind w r))

  at_old : slice_get (all_entries (thread_at w (p ∷ [])) a) (place_at w l) ≡ Some u
  at_old = ap (λ z. slice_get z (place_at w l)) shows ∙ get_here (shown_before w l) (entry_slots passed ++ target ∷ shown_behind w r) u

  left_over : remove (all_entries (thread_at w (p ∷ [])) a) (place_at w l) ≡ (shown_before w l ++ entry_slots passed) ++ target ∷ shown_behind w r
  left_over = ap (λ z. remove z (place_at w l)) shows ∙ remove_here (shown_before w l) (entry_slots passed ++ target ∷ shown_behind w r) u ∙ sym (append_assoc (shown_before w l) (entry_slots passed) (target ∷ shown_behind w r))

  abbrev number : ℕ
  number = length (shown_before w l ++ entry_slots passed)

  there : slice_get (remove (all_entries (thread_at w (p ∷ [])) a) (place_at w l)) (length (shown_before w l ++ entry_slots passed)) ≡ Some target
  there = ap (λ z. slice_get z number) left_over ∙ get_here ahead (shown_behind w r) target

  shown_moved : shown_before w l ++ (entry_slots (passed ++ record u { name = target.name } ∷ []) ++ shown_behind w r)
      ≡ set (remove (all_entries (thread_at w (p ∷ [])) a) (place_at w l)) (length (shown_before w l ++ entry_slots passed)) (record u { name = target.name })
  shown_moved = ap (λ z. shown_before w l ++ (z ++ shown_behind w r)) (entry_among passed moved [] other)
      ∙ ap (λ z. shown_before w l ++ z) (append_assoc (entry_slots passed) (moved ∷ []) (shown_behind w r)) ∙ sym (append_assoc (shown_before w l) (entry_slots passed) (moved ∷ shown_behind w r))
      ∙ sym (set-append_seam ahead target (shown_behind w r) moved) ∙ ap (λ z. set z number moved) (sym left_over)

  at_target : slice_get (all_entries (thread_at w (p ∷ [])) a) (length (shown_before w l ++ u ∷ entry_slots passed)) ≡ Some target
  at_target = ap (λ z. slice_get z (length (shown_before w l ++ u ∷ entry_slots passed))) (shows ∙ sym (append_assoc (shown_before w l) (u ∷ entry_slots passed) (target ∷ shown_behind w r)))
      ∙ get_here (shown_before w l ++ u ∷ entry_slots passed) (shown_behind w r) target

  pub onto_file_behind_completed : CompletesOperation disk (thread_at w (p ∷ [])) s (ops.Rename old_bytes new_bytes) new (thread_at w (q ∷ more))
  onto_file_behind_completed = within_completed disk new w p q more l (u ∷ (passed ++ target ∷ [])) (passed ++ moved ∷ []) r c l u (passed ++ target ∷ r) (l ++ passed) (Some target) r target.name
      (c.was ∙ ap (λ z. l ++ u ∷ z) (append_assoc passed (target ∷ []) r)) (sym (append_assoc l passed (target ∷ r))) (ap (λ z. l ++ z) (append_assoc passed (moved ∷ []) r) ∙ sym (append_assoc l passed (moved ∷ r)))
      s old_bytes new_bytes (P ++ u.name ∷ []) (P ++ target.name ∷ []) tree old_is new_is (last_is P target.name)
      (slot_there disk (thread_at w (p ∷ [])) P a (place_at w l) u c.accepted leads at_old)
      (slot_there disk (thread_at w (p ∷ [])) P a (length (shown_before w l ++ u ∷ entry_slots passed)) target c.accepted leads at_target) file
      _ (entry_moves_onto disk new w p [] q more (pairs_blocks more) [] l (u ∷ (passed ++ target ∷ [])) (passed ++ moved ∷ []) r (commit_step disk new w p q more [] l (u ∷ (passed ++ target ∷ [])) (passed ++ moved ∷ []) r c)
      P a leads same (place_at w l) u at_old number target there shown_moved (sibling_apart P u.name target.name differs) (λ e. (file, (recovered_from disk (thread_at w (p ∷ [])) c.accepted c.settled).reached)))

-- the file is before it
module _ (disk new : Disk) (w : Site) (p q : Pair) (more : List Pair) (l : List Slot) (u : Slot) (passed : List Slot) (target : Slot) (r : List Slot)
    (c : IsCommit disk new w p q more [] l (target ∷ (passed ++ u ∷ [])) (record u { name = target.name } ∷ passed) r) (other : is_superblock u ≡ false) (entry : is_superblock target ≡ false) (file : struct_directory_address target.struct ≡ None)
    (differs : target.name ≡ u.name → ⊥)
    (P : Path) (a : ℕ × ℕ) (leads : IsDirectoryAtPath (thread_at w (p ∷ [])) P a) (same : same_pair (begin_of w (p ∷ [])) a ≡ true)
    (s : Session) (old_bytes new_bytes : List ℕ) (tree : s.tree ≡ disk_tree disk (thread_at w (p ∷ []))) (old_is : path_or_root old_bytes ≡ P ++ u.name ∷ []) (new_is : path_or_root new_bytes ≡ P ++ target.name ∷ []) where
  abbrev moved2 : Slot
  moved2 = record u { name = target.name }

  abbrev before_old : List Slot
  before_old = shown_before w l ++ target ∷ entry_slots passed

  shows2 : all_entries (thread_at w (p ∷ [])) a ≡ (shown_before w l ++ target ∷ entry_slots passed) ++ u ∷ shown_behind w r
  shows2 = site_shows disk w p l (target ∷ (passed ++ u ∷ [])) r a c.accepted c.site (no_move_from (thread_at w (p ∷ [])) c.settled) same c.was
      ∙ ap (λ z. shown_before w l ++ (z ++ shown_behind w r)) (entry_among [] target (passed ++ u ∷ []) entry ∙ ap (λ z. target ∷ z) (entry_among passed u [] other))
      ∙ ap (λ z. shown_before w l ++ target ∷ z) (append_assoc (entry_slots passed) (u ∷ []) (shown_behind w r)) ∙ sym (append_assoc (shown_before w l) (target ∷ entry_slots passed) (u ∷ shown_behind w r))

  abbrev old_number : ℕ
  old_number = length (shown_before w l ++ target ∷ entry_slots passed)

  at_old2 : slice_get (all_entries (thread_at w (p ∷ [])) a) (length (shown_before w l ++ target ∷ entry_slots passed)) ≡ Some u
  at_old2 = ap (λ z. slice_get z old_number) shows2 ∙ get_here before_old (shown_behind w r) u

  left_over2 : remove (all_entries (thread_at w (p ∷ [])) a) (length (shown_before w l ++ target ∷ entry_slots passed)) ≡ shown_before w l ++ target ∷ (entry_slots passed ++ shown_behind w r)
  left_over2 = ap (λ z. remove z old_number) shows2 ∙ remove_here before_old (shown_behind w r) u ∙ append_assoc (shown_before w l) (target ∷ entry_slots passed) (shown_behind w r)

  there2 : slice_get (remove (all_entries (thread_at w (p ∷ [])) a) (length (shown_before w l ++ target ∷ entry_slots passed))) (place_at w l) ≡ Some target
  there2 = ap (λ z. slice_get z (place_at w l)) left_over2 ∙ get_here (shown_before w l) (entry_slots passed ++ shown_behind w r) target

  shown_moved2 : shown_before w l ++ (entry_slots (record u { name = target.name } ∷ passed) ++ shown_behind w r)
      ≡ set (remove (all_entries (thread_at w (p ∷ [])) a) (length (shown_before w l ++ target ∷ entry_slots passed))) (place_at w l) (record u { name = target.name })
  shown_moved2 = ap (λ z. shown_before w l ++ (z ++ shown_behind w r)) (entry_among [] moved2 passed other)
      ∙ sym (set-append_seam (shown_before w l) target (entry_slots passed ++ shown_behind w r) moved2) ∙ ap (λ z. set z (place_at w l) moved2) (sym left_over2)

  at_target2 : slice_get (all_entries (thread_at w (p ∷ [])) a) (place_at w l) ≡ Some target
  at_target2 = ap (λ z. slice_get z (place_at w l)) (shows2 ∙ append_assoc (shown_before w l) (target ∷ entry_slots passed) (u ∷ shown_behind w r))
      ∙ get_here (shown_before w l) (entry_slots passed ++ u ∷ shown_behind w r) target

  pub onto_file_ahead_completed : CompletesOperation disk (thread_at w (p ∷ [])) s (ops.Rename old_bytes new_bytes) new (thread_at w (q ∷ more))
  onto_file_ahead_completed = within_completed disk new w p q more l (target ∷ (passed ++ u ∷ [])) (moved2 ∷ passed) r c (l ++ target ∷ passed) u r l (Some target) (passed ++ r) target.name
      (c.was ∙ ap (λ z. l ++ target ∷ z) (append_assoc passed (u ∷ []) r) ∙ sym (append_assoc l (target ∷ passed) (u ∷ r))) (append_assoc l (target ∷ passed) r) refl
      s old_bytes new_bytes (P ++ u.name ∷ []) (P ++ target.name ∷ []) tree old_is new_is (last_is P target.name)
      (slot_there disk (thread_at w (p ∷ [])) P a old_number u c.accepted leads at_old2)
      (slot_there disk (thread_at w (p ∷ [])) P a (place_at w l) target c.accepted leads at_target2) file
      _ (entry_moves_onto disk new w p [] q more (pairs_blocks more) [] l (target ∷ (passed ++ u ∷ [])) (moved2 ∷ passed) r (commit_step disk new w p q more [] l (target ∷ (passed ++ u ∷ [])) (moved2 ∷ passed) r c)
      P a leads same old_number u at_old2 (place_at w l) target there2 shown_moved2 (sibling_apart P u.name target.name differs) (λ e. (file, (recovered_from disk (thread_at w (p ∷ [])) c.accepted c.settled).reached)))
