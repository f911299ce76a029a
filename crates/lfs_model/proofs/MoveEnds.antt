-- A set move ends: the slot that it hides goes.
use Rattle.std.proofs.Common.{ℕ, ◌≡◌, ◌+◌, true, false, cond, nat_eq, List, [], ◌∷◌, ◌++◌, length, refl, sym, ap, ap₂, subst, ◌∙◌, arith, append_assoc, remove}
use Rattle.std.specs.Prelude.{◌≢◌, ◌&&◌}
use Rattle.std.specs.List.{IsDistinct}
use Rattle.std.specs.Int.Bits.{xor_self}
use Rattle.lfs_model.proofs.Common.{flat_map, append-nil, flat_map-append, recursion_from_All, Disk, Slot, Gstate, is_superblock, same_pair, gstate_xor, pair_with_slots, pairs_without_moved, Pair, pairs_blocks, pairs_gstate, begins_with_superblock, slots_not_moved, is_hard_tail, count_before_root, all_directories, used_blocks, all_unmoved_slots, set_move_kind, IsAccepted, IsWritable}
use Rattle.lfs_model.specs.layers.StepResults.{gstate_without_sync, gstate_without_move}
use Rattle.lfs_model.proofs.Became.{became_front, became_shape}
use Rattle.lfs_model.proofs.Changes.{slots_files, chain_now}
use Rattle.lfs_model.proofs.Counts.{Each, each_append, each_left, each_right, each_weaker, occurrence_count, count_append}
use Rattle.lfs_model.proofs.Files.{SameFileBlocks}
use Rattle.lfs_model.proofs.Global.{HasNoMove, gstate_cons, gstate_right}
use Rattle.lfs_model.proofs.Listings.{flip_false}
use Rattle.lfs_model.proofs.Moves.{remove_here}
use Rattle.lfs_model.proofs.Pairs.{pair_back}
use Rattle.lfs_model.proofs.Rests.{IsMoveEnd, move_ends, site_gstate_moved, unmoved_elsewhere, end_change}
use Rattle.lfs_model.proofs.Searches.{avoids_front, avoids_behind}
use Rattle.lfs_model.proofs.Sites.{Site, thread_at, IsSite}
use Rattle.lfs_model.proofs.Splices.{all_slots, file_blocks, unmoved_in}
use Rattle.lfs_model.proofs.StepsTaken.{IsWritableChange, IsPut, end_taken}
use Rattle.lfs_model.proofs.Writable.{last_tail_is_hard}
use Rattle.lfs_model.proofs.MoveSets.{directory_addresses}
use Rattle.lfs_model.proofs.SetMoves.{HasTurned}
use Rattle.lfs_model.proofs.SetFirsts.{end_firsts}
use Rattle.lfs_model.proofs.UsedCounts.{count_pairs}
use Rattle.lfs_model.proofs.RecoveryLayouts.{AreKin, GoOnAlike, hidden, hidden_append, hidden_far, kin_append, laid_out_kin}

pub move_out : (g : Gstate) → gstate_xor (gstate_without_sync g) g ≡ gstate_without_move g
move_out g = λ j. record { sync = g.sync; kind = xor_self g.kind j; id = xor_self g.id j; pair = (xor_self g.pair.0 j, xor_self g.pair.1 j) }

-- ---- the blocks that the image uses

-- where no file is visible but those that were: those that it used, with the pair's new blocks in place of the old
module _ (disk new : Disk) (w : Site) (p : Pair) (mids : List Pair) (q : Pair) (l : List Slot) (u : Slot) (r : List Slot) (k : IsMoveEnd disk new w p mids q [] l u r) where
  abbrev G : Gstate
  G = pairs_gstate (thread_at w (p ∷ mids))

  abbrev Apart : Pair → Type 0
  Apart s = same_pair (pairs_gstate (thread_at w (p ∷ mids))).pair s.at ≡ false

  hidden_none : (ss : List Pair) → Each Apart ss → flat_map (slots_not_moved G) ss ≡ all_slots ss
  hidden_none [] h = refl
  hidden_none (s ∷ ss) h = ap₂ (λ x y. x ++ y) (unmoved_elsewhere G s h.0) (hidden_none ss h.1)

  slots_three : (f : Pair → List Slot) (zs : List Pair) → flat_map f (thread_at w zs) ≡ flat_map f w.chain ++ (flat_map f (w.before ++ w.left) ++ (flat_map f zs ++ flat_map f (w.right ++ w.after)))
  slots_three f zs = flat_map-append f w.chain ((w.before ++ w.left) ++ (zs ++ (w.right ++ w.after)))
      ∙ ap (λ z. flat_map f w.chain ++ z) (flat_map-append f (w.before ++ w.left) (zs ++ (w.right ++ w.after)) ∙ ap (λ z. flat_map f (w.before ++ w.left) ++ z) (flat_map-append f zs (w.right ++ w.after)))

  pub far_chain : Each Apart w.chain
  far_chain = each_left Apart w.chain ((w.before ++ w.left) ++ (w.right ++ w.after)) k.elsewhere

  pub far_before : Each Apart (w.before ++ w.left)
  far_before = each_left Apart (w.before ++ w.left) (w.right ++ w.after) (each_right Apart w.chain ((w.before ++ w.left) ++ (w.right ++ w.after)) k.elsewhere)

  pub far_after : Each Apart (w.right ++ w.after)
  far_after = each_right Apart (w.before ++ w.left) (w.right ++ w.after) (each_right Apart w.chain ((w.before ++ w.left) ++ (w.right ++ w.after)) k.elsewhere)

  -- the root directory begins where it did
  pub end_chain : count_before_root (thread_at w (q ∷ [])) ≡ length w.chain
  end_chain = chain_now disk new w.chain (w.before ++ w.left) p mids q [] (w.right ++ w.after) [] k.site.chain k.accepted (end_change disk new w p mids q [] l u r k)

  visible_same : all_unmoved_slots (thread_at w (q ∷ [])) ≡ all_unmoved_slots (thread_at w (p ∷ mids))
  visible_same = unmoved_in (pairs_gstate (thread_at w (q ∷ []))) k.still_none (thread_at w (q ∷ [])) ∙ slots_three (λ s. s.content.slots) (q ∷ [])
      ∙ ap₂ (λ a z. a ++ (all_slots (w.before ++ w.left) ++ z)) (sym (hidden_none w.chain far_chain))
      (ap₂ (λ a z. a ++ z) (k.is ∙ sym k.hidden) (sym (hidden_none (w.right ++ w.after) far_after)))
      ∙ ap (λ z. flat_map (slots_not_moved G) w.chain ++ (z ++ (flat_map (slots_not_moved G) (p ∷ mids) ++ flat_map (slots_not_moved G) (w.right ++ w.after)))) (sym (hidden_none (w.before ++ w.left) far_before))
      ∙ sym (slots_three (slots_not_moved G) (p ∷ mids))

  pub end_count : (b : ℕ) → occurrence_count b (used_blocks new (thread_at w (q ∷ []))) + occurrence_count b (pairs_blocks (p ∷ mids)) ≡ occurrence_count b (used_blocks disk (thread_at w (p ∷ mids))) + occurrence_count b (pairs_blocks (q ∷ []))
  end_count b =
      let a1 = count_append b (pairs_blocks (thread_at w (q ∷ []))) (file_blocks new (all_unmoved_slots (thread_at w (q ∷ [])))) in
      let a2 = count_append b (pairs_blocks (thread_at w (p ∷ mids))) (file_blocks disk (all_unmoved_slots (thread_at w (p ∷ mids)))) in
      let b1 = count_pairs b w (q ∷ []) in
      let b2 = count_pairs b w (p ∷ mids) in
      let same = ap (occurrence_count b) (slots_files disk new (all_unmoved_slots (thread_at w (p ∷ mids))) k.device.geometry
      (recursion_from_All (λ (s : Slot). SameFileBlocks disk new s.struct) (all_unmoved_slots (thread_at w (p ∷ mids))) k.device.files)) in
      let f = ap (λ z. occurrence_count b (file_blocks new z)) visible_same in
      omega arith

-- where the pair stays, pairs of the same slots stand in its place
end_kin : (disk new : Disk) (w : Site) (p q : Pair) (l : List Slot) (u : Slot) (r : List Slot) → IsMoveEnd disk new w p [] q [] l u r → is_hard_tail q.content.tail ≡ is_hard_tail p.content.tail → AreKin (pairs_without_moved (thread_at w (p ∷ []))) (thread_at w (q ∷ []))
end_kin disk new w p q l u r k hard = subst (λ x. AreKin x (thread_at w (q ∷ []))) (sym (hidden_append (pairs_gstate (thread_at w (p ∷ []))) w.chain ((w.before ++ w.left) ++ p ∷ (w.right ++ w.after)) ∙ ap (λ x. hidden (pairs_gstate (thread_at w (p ∷ []))) w.chain ++ x) (hidden_append (pairs_gstate (thread_at w (p ∷ []))) (w.before ++ w.left) (p ∷ (w.right ++ w.after)))))
    (kin_append (hidden (pairs_gstate (thread_at w (p ∷ []))) w.chain) (hidden (pairs_gstate (thread_at w (p ∷ []))) (w.before ++ w.left) ++ hidden (pairs_gstate (thread_at w (p ∷ []))) (p ∷ (w.right ++ w.after))) w.chain ((w.before ++ w.left) ++ q ∷ (w.right ++ w.after)) (hidden_far (pairs_gstate (thread_at w (p ∷ []))) w.chain (far_chain disk new w p [] q l u r k))
    (kin_append (hidden (pairs_gstate (thread_at w (p ∷ []))) (w.before ++ w.left)) (hidden (pairs_gstate (thread_at w (p ∷ []))) (p ∷ (w.right ++ w.after))) (w.before ++ w.left) (q ∷ (w.right ++ w.after)) (hidden_far (pairs_gstate (thread_at w (p ∷ []))) (w.before ++ w.left) (far_before disk new w p [] q l u r k))
    (record { at = k.shape.at; slots = sym (append-nil q.content.slots) ∙ k.is ∙ sym k.hidden ∙ append-nil (slots_not_moved (pairs_gstate (thread_at w (p ∷ []))) p); hard = hard }, hidden_far (pairs_gstate (thread_at w (p ∷ []))) (w.right ++ w.after) (far_after disk new w p [] q l u r k))))

-- ---- the slot goes

-- The move hides the slot u of the pair at the site, which keeps another where a hard tail leads to it.
pub record IsEnding (disk : Disk) (w : Site) (p : Pair) (l : List Slot) (u : Slot) (r : List Slot) : Type 0 where
  pub accepted : IsAccepted disk (thread_at w (p ∷ []))
  pub writable : IsWritable disk (thread_at w (p ∷ []))
  pub site : IsSite w (p ∷ [])
  pub kind : (pairs_gstate (thread_at w (p ∷ []))).kind ≡ set_move_kind
  pub pair : same_pair (pairs_gstate (thread_at w (p ∷ []))).pair p.at ≡ true
  pub id : (pairs_gstate (thread_at w (p ∷ []))).id ≡ length l
  pub held : p.content.slots ≡ l ++ u ∷ r
  pub other : is_superblock u ≡ false
  pub filled : last_tail_is_hard false (w.before ++ w.left) ≡ true → l ++ r ≢ []

module _ (disk : Disk) (w : Site) (p : Pair) (l : List Slot) (u : Slot) (r : List Slot) (k : IsEnding disk w p l u r) where
  abbrev ps : List Pair
  ps = thread_at w (p ∷ [])

  abbrev g : Gstate
  g = pairs_gstate ps

  abbrev ahead : List Pair
  ahead = w.before ++ w.left

  abbrev back : List Pair
  back = w.right ++ w.after

  abbrev Far : Pair → Type 0
  Far s = same_pair (pairs_gstate (thread_at w (p ∷ []))).pair s.at ≡ false

  grouped : thread_at w (p ∷ []) ≡ (w.chain ++ ahead) ++ p ∷ back
  grouped = sym (append_assoc w.chain ahead (p ∷ back))

  distinct_there : IsDistinct nat_eq (pairs_blocks ((w.chain ++ ahead) ++ p ∷ back))
  distinct_there = subst (λ z. IsDistinct nat_eq (pairs_blocks z)) grouped k.accepted.thread.distinct

  flipped : (ss : List Pair) → Each (λ s. same_pair s.at (pairs_gstate (thread_at w (p ∷ []))).pair ≡ false) ss → Each Far ss
  flipped ss h = each_weaker (λ s. same_pair s.at (pairs_gstate (thread_at w (p ∷ []))).pair ≡ false) Far (λ s e. flip_false s.at g.pair e) ss h

  far_front : Each Far (w.chain ++ ahead)
  far_front = flipped (w.chain ++ ahead) (avoids_front (w.chain ++ ahead) p back g.pair distinct_there (pair_back g.pair p.at k.pair))

  far_back : Each Far back
  far_back = flipped back (avoids_behind (w.chain ++ ahead) p back g.pair distinct_there (pair_back g.pair p.at k.pair))

  hides : slots_not_moved g p ≡ l ++ r
  hides = ap₂ (λ k b. cond (nat_eq k 0x4ff && b) (remove p.content.slots g.id) p.content.slots) k.kind k.pair ∙ ap₂ (λ s i. remove s i) k.held k.id ∙ remove_here l r u

  module _ (new : Disk) (q : Pair) (x : HasTurned disk w p (l ++ r) (gstate_xor (gstate_without_sync (pairs_gstate (thread_at w (p ∷ [])))) p.content.move) new q []) where
    abbrev qs : List Pair
    qs = thread_at w (q ∷ [])

    pub ended_state : pairs_gstate qs ≡ gstate_without_move (pairs_gstate ps)
    ended_state = site_gstate_moved (gstate_without_sync g) w (p ∷ []) (q ∷ [])
        (x.delta ∙ ap (gstate_xor (gstate_without_sync g)) (sym (gstate_cons p [] ∙ gstate_right p.content.move)))
        ∙ move_out g

    still_none : HasNoMove (pairs_gstate qs)
    still_none = record { kind = ap (λ (z : Gstate). z.kind) ended_state; id = ap (λ (z : Gstate). z.id) ended_state; pair = ap (λ (z : Gstate). z.pair) ended_state }

    front_kept : (l : List Slot) → (slots : List Slot) → slots ≡ l ++ u ∷ r → begins_with_superblock slots ≡ true → begins_with_superblock (l ++ r) ≡ true
    front_kept [] slots e h = absurd (let z = sym h ∙ ap begins_with_superblock e ∙ k.other in cc)
    front_kept (s ∷ l) slots e h = sym (ap begins_with_superblock e) ∙ h

    pub end_step : IsMoveEnd disk new w p [] q [] l u r
    end_step = record {
      accepted = k.accepted;
      site = k.site;
      still_none = still_none;
      device = x.device;
      shape = became_shape disk p (pair_with_slots (l ++ r) p) q [] x.at x.became (became_front disk p (pair_with_slots (l ++ r) p) q [] x.is x.became (front_kept l p.content.slots k.held));
      was = append-nil p.content.slots ∙ k.held;
      is = x.is;
      other = k.other;
      hidden = append-nil (slots_not_moved g p) ∙ hides;
      elsewhere = each_append Far w.chain (ahead ++ back) (each_left Far w.chain ahead far_front) (each_append Far ahead back (each_right Far w.chain ahead far_front) far_back);
    }

    end_put : IsPut disk w p q [] l (u ∷ []) [] r
    end_put = record { writable = k.writable; was = k.held; is = x.is; became = x.became; fit = tt; filled = k.filled }

    pub ended : IsWritableChange disk (thread_at w (p ∷ [])) new (thread_at w (q ∷ [])) (λ t. t) (λ d. d)
    ended = end_taken disk new w p q [] l u r (λ t. t) (λ d. d) end_put end_step
        (move_ends disk new w p [] q [] l u r end_step (λ e. k.accepted.reached (sym (ap (λ (z : Gstate). z.sync) ended_state) ∙ e)))

    -- the directories begin where they did
    pub ended_firsts : directory_addresses (all_directories qs) ≡ directory_addresses (all_directories ps)
    ended_firsts = end_firsts disk new w p [] q [] l u r end_step

    pub ended_chain : count_before_root qs ≡ length w.chain
    ended_chain = end_chain disk new w p [] q l u r end_step

    -- a recovery may go on
    pub ended_leads : GoOnAlike disk (thread_at w (p ∷ [])) new (thread_at w (q ∷ []))
    ended_leads = laid_out_kin disk new (thread_at w (p ∷ [])) (thread_at w (q ∷ [])) ended.follows x.device.geometry.block_size x.device.geometry.page still_none (ended_chain ∙ sym k.site.chain)
        (end_kin disk new w p q l u r end_step (ap is_hard_tail x.became.0))

    pub ended_count : (b : ℕ) → occurrence_count b (used_blocks new qs) ≡ occurrence_count b (used_blocks disk ps)
    ended_count b =
        let e = end_count disk new w p [] q l u r end_step b in
        let at = ap (λ (a : ℕ × ℕ). occurrence_count b (a.0 ∷ a.1 ∷ [])) x.at in
        omega arith
