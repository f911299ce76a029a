-- An entry that replaces a directory while the sync bit is flipped, as a step of the thread.
use Rattle.lfs_operations.proofs.Common.{subst₂, ℕ, ◌≡◌, ◌+◌, ◌≤◌, List, [], ◌∷◌, ◌++◌, length, Some, sym, ap, subst, ◌∙◌, arith, length-append, sum_by, sum_by-append, sum_by-cons, same_Some, tree_renaming, PutMove, Disk, CallEvent, HasName, MoveStateFits, Name, SurvivesLossSince, PairContent, FitsInPair, Gstate, Slot, gstate_xor, slot_size, Pair, pairs_gstate, disk_tree, IsChangedImage, gstate_comm, sync_bit_delta, turned_is, HoldsAtLosses-weaker, IsStep, renamed_addresses, Site, thread_at, IsWritableChange, CleanLossLeaves, KeptThread, CanChangePair, IsPairCommitted, LossLeavesPair, RefusesChanges, IsPairWritten, complete_after, thread_pair, struct_len, CanEditIn, tree_with_entry_renamed, CanReplaceDirectory, IsDirectoryReplaced, replace_directory_changes}
use Rattle.lfs_operations.proofs.RenameMade as made
use Rattle.lfs_operations.proofs.RenameMade.{Leaves, delta_fits, fits_whole, leaves_turned, pair_here, site_of}
use Rattle.lfs_operations.proofs.RenamePlaced.{IsPlaced, blocks_now, entries_now, fit_now, lists_now, with_name}
use Rattle.lfs_operations.proofs.RenameTarget.{IsLeftOver as IsLeftWithout, IsMoving, IsPlaceInPair, can_change_over, slots_now, filled}
use Rattle.lfs_operations.proofs.MovTurned.{ChangedOne, changed_one, content_with}
use Rattle.lfs_operations.proofs.TurnedSync.{IsSyncTurn, left_turned, pair_turned, state_turned, taken_turned, turn_of}
use Rattle.lfs_operations.proofs.RenameReplaced as onto

-- ---- a delta that flips the sync bit

turned_small : (g : Gstate) → MoveStateFits g → MoveStateFits (gstate_xor g sync_bit_delta)
turned_small g h = subst MoveStateFits (sym (gstate_comm g sync_bit_delta ∙ turned_is g)) (record { kind = h.kind; id = h.id; pair = h.pair })

module _ (t : KeptThread) (index id place : ℕ) (name : Name) (rename : CanReplaceDirectory t index id place name) where
  abbrev can : CanEditIn t index id
  can = rename.can

  abbrev s : HasName can.stands.pair.content.slots can.name id
  s = can.stands.stands

  abbrev p : Pair
  p = can.stands.pair

  abbrev target : Slot
  target = rename.target.stands.slot

  abbrev w : Site
  w = site_of can

  abbrev placed : IsPlaceInPair t index id place can w p rename.target.stands.left (Some target) rename.target.stands.right name
  placed = onto.placed t index id place name can rename.target rename.differs rename.fits

  abbrev RenamesOnto : List Slot → List Slot → List Slot → List Slot → Type 0
  RenamesOnto = onto.RenamesOnto t index id place name can rename.target rename.differs rename.fits

  abbrev delta : Gstate
  delta = gstate_xor (thread_pair t index).content.move sync_bit_delta

  whole : Leaves (made.c placed.logged).raw (PutMove delta ∷ []) p.content.slots (gstate_xor p.content.move sync_bit_delta)
  whole = subst (λ (z : Pair). Leaves (made.c placed.logged).raw (PutMove delta ∷ []) p.content.slots (gstate_xor z.content.move sync_bit_delta)) (pair_here placed.logged)
      (leaves_turned placed.logged delta (turned_small (thread_pair t index).content.move (delta_fits placed.logged)))

  -- ---- what the changes make

  abbrev IsLeftOver : List Slot → List Slot → Type 0
  IsLeftOver = IsLeftWithout can place (Some target)

  abbrev over_content : List Slot → List Slot → PairContent
  over_content x y = content_with p (x ++ with_name s.slot name ∷ y) (gstate_xor p.content.move sync_bit_delta)

  fits_here : FitsInPair t.disk.block_size t.disk.page p.content
  fits_here = fits_whole placed.logged

  pub over_fits : (x y : List Slot) → IsLeftOver x y → FitsInPair t.disk.block_size t.disk.page (over_content x y)
  over_fits x y over =
      let n : length name ≡ length target.name = ap length (sym rename.target.stands.named) in
      let b : struct_len target.struct ≡ 8 = ap struct_len rename.branch in
      let a = ap (sum_by slot_size) s.held in
      let a1 = sum_by-append slot_size s.left (s.slot ∷ s.right) in
      let a2 = sum_by-cons slot_size s.slot s.right in
      let e = ap (sum_by slot_size) over.0 in
      let e1 = sum_by-append slot_size s.left s.right in
      let e2 = sum_by-append slot_size x (target ∷ y) in
      let e3 = sum_by-cons slot_size target y in
      let f1 = sum_by-append slot_size x (with_name s.slot name ∷ y) in
      let f2 = sum_by-cons slot_size (with_name s.slot name) y in
      let less : slot_size (with_name s.slot name) ≤ slot_size s.slot + slot_size target = omega arith in
      let g = ap length s.held in
      let g1 = length-append s.left (s.slot ∷ s.right) in
      let h = ap length over.0 in
      let h1 = length-append s.left s.right in
      let h2 = length-append x (target ∷ y) in
      let h3 = length-append x (with_name s.slot name ∷ y) in
      let size = fits_here.size in
      let count = fits_here.count in
      record { size = omega arith; count = omega arith }

  -- ---- the slots that are replaced

  abbrev pub HasOver : Type 1
  HasOver = IsMoving t index id place can w p (Some target) name (replace_directory_changes t index id place name) (gstate_xor p.content.move sync_bit_delta) RenamesOnto

  pub has_over : HasOver
  has_over = onto.moving_onto t index id place name can rename.target rename.differs rename.fits whole

  made_over : (h : HasOver) → complete_after t index (replace_directory_changes t index id place name) ≡ Some (over_content h.x h.y)
  made_over h = h.placed.made ∙ ap (λ z. Some z) h.is_content

  -- ---- the step

  module _ (h : HasOver) where
    abbrev k : IsPlaced t index (replace_directory_changes t index id place name) w p h.l h.olds h.news h.r (target ∷ []) s.slot (with_name s.slot name)
    k = h.placed

    pub turning : IsSyncTurn t index (replace_directory_changes t index id place name) w p (h.x ++ with_name s.slot name ∷ h.y) h.l h.olds h.news h.r
    turning = record {
      ready = can.ready;
      there = k.there;
      place = k.place;
      site = k.site;
      made = made_over h;
      fits = over_fits h.x h.y h.over;
      was = k.was;
      now = slots_now h;
      front = λ e. k.front;
      fit = fit_now t index (replace_directory_changes t index id place name) w p h.l h.olds h.news h.r (target ∷ []) s.slot (with_name s.slot name) k;
      filled = λ e. filled h;
      splice = λ disk geometry files. record {
        front = λ e. k.front;
        entries = entries_now t index (replace_directory_changes t index id place name) w p h.l h.olds h.news h.r (target ∷ []) s.slot (with_name s.slot name) k;
        lists = lists_now t index (replace_directory_changes t index id place name) w p h.l h.olds h.news h.r (target ∷ []) s.slot (with_name s.slot name) k disk geometry files;
        blocks = λ b. let e = blocks_now t index (replace_directory_changes t index id place name) w p h.l h.olds h.news h.r (target ∷ []) s.slot (with_name s.slot name) k disk geometry files b in omega arith;
      };
    }

    pub over_follows : (disk : Disk) → IsStep t.disk disk w p [] (pair_turned turning) [] [] [] h.l h.olds h.news h.r
        → IsChangedImage t.disk (thread_at w (p ∷ [])) disk (thread_at w (pair_turned turning ∷ [])) (tree_renaming (can.path ++ can.name ∷ []) (can.path ++ name ∷ [])) (renamed_addresses (can.path ++ can.name ∷ []) (can.path ++ name ∷ []))
    over_follows disk step = h.follows.follows disk (pair_turned turning) [] [] step (λ e. absurd (let z = sym (ap (λ (g : Gstate). g.sync) (state_turned turning)) ∙ e in cc))

    pub over_changed : (new : KeptThread) → IsPairCommitted t index (replace_directory_changes t index id place name) new → ChangedOne t index w p (h.x ++ with_name s.slot name ∷ h.y) (gstate_xor p.content.move sync_bit_delta) new
    over_changed new is = changed_one t index (replace_directory_changes t index id place name) w p (h.x ++ with_name s.slot name ∷ h.y) (gstate_xor p.content.move sync_bit_delta) (turn_of turning) new is

  pub can_over : CanChangePair t index (replace_directory_changes t index id place name)
  can_over = can_change_over placed whole has_over.x has_over.y has_over.over

  same_made : (z : PairContent) → complete_after t index (replace_directory_changes t index id place name) ≡ Some z → z ≡ over_content has_over.x has_over.y
  same_made z m = same_Some z (over_content has_over.x has_over.y) (sym m ∙ made_over has_over)

  pub over_not_refused : (new : KeptThread) → RefusesChanges t index (replace_directory_changes t index id place name) new → ⊥
  over_not_refused new is = is.too_large (subst (FitsInPair t.disk.block_size t.disk.page) (sym (same_made is.content is.made)) (over_fits has_over.x has_over.y has_over.over))

  pub renamed_over : (new : KeptThread) → IsPairCommitted t index (replace_directory_changes t index id place name) new → IsDirectoryReplaced t new index id place rename.can.path rename.can.name name
  renamed_over new is =
      let x = over_changed has_over new is in
      record {
        changed = is;
        content = over_content has_over.x has_over.y;
        written = subst (λ z. IsPairWritten t index z new.disk) (same_made is.content is.made) is.written;
        pairs = x.is;
        thread = is.thread;
        map = is.map;
        gstate = ap pairs_gstate x.pairs ∙ state_turned (turning has_over);
        taken = subst₂ (λ y z. IsWritableChange t.disk y new.disk z (tree_renaming (can.path ++ can.name ∷ []) (can.path ++ name ∷ [])) (renamed_addresses (can.path ++ can.name ∷ []) (can.path ++ name ∷ []))) (sym has_over.placed.there) (sym x.pairs)
            (taken_turned (turning has_over) (tree_renaming (can.path ++ can.name ∷ []) (can.path ++ name ∷ [])) (renamed_addresses (can.path ++ can.name ∷ []) (can.path ++ name ∷ [])) (over_follows has_over) new.disk x.turned);
      }

  -- ---- at a power loss

  pub over_survives : (new : List CallEvent) → CleanLossLeaves t.history new (LossLeavesPair t index (replace_directory_changes t index id place name))
      → SurvivesLossSince t.disk t.history new (disk_tree t.disk t.pairs) (tree_with_entry_renamed t rename.can.path rename.can.name name)
  over_survives new stops clean = HoldsAtLosses-weaker
      (left_turned (turning has_over) (tree_renaming (can.path ++ can.name ∷ []) (can.path ++ name ∷ [])) (renamed_addresses (can.path ++ can.name ∷ []) (can.path ++ name ∷ [])) (over_follows has_over)) (stops clean)
