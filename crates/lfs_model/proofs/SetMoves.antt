-- The first step of a rename across pairs: the slot comes under its new name, and a set move hides the old one.
use Rattle.std.proofs.Common.{ℕ, ◌≡◌, ◌+◌, inl, inr, Bool, true, false, cond, nat_eq, List, [], ◌∷◌, ◌++◌, length, None, refl, sym, ap, ap₂, subst, ◌∙◌, arith, append_assoc, remove, slice_get}
use Rattle.std.specs.Prelude.{◌≢◌, All}
use Rattle.std.specs.List.{IsDistinct}
use Rattle.lfs_model.proofs.Common.{flat_map, append-nil, recursion_from_All, flat_map-append, Disk, disk_block, Slot, Gstate, is_superblock, same_pair, zero_gstate, gstate_xor, pair_with_slots, Pair, pairs_blocks, pairs_gstate, begins_with_superblock, count_before_root, slots_not_moved, Path, Tree, struct_directory_address, without_prefix, tree_with_subtree, tree_renaming, all_entries, IsDirectoryAtPath, used_blocks, struct_blocks, all_unmoved_slots, IsFileOrDirectory, HasValidMove, IsEntry, IsAccepted, IsWritable, IsWritableSlot}
use Rattle.lfs_model.specs.layers.Steps.{PathAddresses}
use Rattle.lfs_model.specs.layers.StepResults.{gstate_with_move}
use Rattle.lfs_model.proofs.Became.{Became, became_front, became_shape}
use Rattle.lfs_model.proofs.Changes.{IsChangedImage, SameFiles, slots_files}
use Rattle.lfs_model.proofs.Committed.{no_move_from, recovered_from}
use Rattle.lfs_model.proofs.Counts.{Each, each_append, each_left, each_right, each_weaker, each_pieces, occurrence_count, count_append, once_from_distinct, distinct_from_once}
use Rattle.lfs_model.proofs.Files.{SameFileBlocks}
use Rattle.lfs_model.proofs.Global.{gstate_cons, gstate_right}
use Rattle.lfs_model.proofs.Listings.{flip_false}
use Rattle.lfs_model.proofs.Moves.{place_at, get_here, remove_here}
use Rattle.lfs_model.proofs.MoveSets.{IsMoveSet, move_sets, move_sets_onto}
use Rattle.lfs_model.proofs.Names.{IsPlace}
use Rattle.lfs_model.proofs.OneCommit.{some_filled}
use Rattle.lfs_model.proofs.Pairs.{pair_itself}
use Rattle.lfs_model.proofs.Rests.{site_gstate_moved, unmoved_elsewhere}
use Rattle.lfs_model.proofs.Searches.{avoids_front, avoids_behind}
use Rattle.lfs_model.proofs.Sites.{Site, dirs_at, thread_at, IsSite, begin_of, HoldsForSome, among_right, among_left, any_from}
use Rattle.lfs_model.proofs.Splices.{all_slots, file_blocks, count_files, unmoved_in, IsDevice, AreFree}
use Rattle.lfs_model.proofs.StepsTaken.{IsWritableChange, IsPut, set_used}
use Rattle.lfs_model.proofs.HiddenPlaces.{SameParts, same_parts, InTurn, ahead, behind, in_turn, hidden_place}
use Rattle.lfs_model.proofs.Placing.{blocks_append}

abbrev pub walk_by : Path → Path → PathAddresses → PathAddresses
walk_by old new d = tree_with_subtree new (λ t. d (old ++ t)) (tree_with_subtree old (λ t. None) d)

-- The pair has these slots and that delta on the new disk, or that pair and a fresh one behind it have.
pub record HasTurned (old : Disk) (w : Site) (p : Pair) (slots : List Slot) (move : Gstate) (disk : Disk) (q : Pair) (more : List Pair) : Type 0 where
  pub at : q.at ≡ p.at
  pub delta : pairs_gstate (q ∷ more) ≡ move
  pub is : all_slots (q ∷ more) ≡ slots
  pub became : Became old p (pair_with_slots slots p) q more
  pub device : IsDevice old disk (thread_at w (p ∷ [])) (thread_at w (q ∷ more))
  pub free : AreFree old (thread_at w (p ∷ [])) (pairs_blocks more) []
  pub same : (b : ℕ) → occurrence_count b (pairs_blocks more ++ pairs_blocks (p ∷ [])) ≡ 0 → disk_block disk b ≡ disk_block old b

-- The slot u stands in the pair o at the site wo, and v is to stand in another pair p at the site w, in place of `olds`.
pub record IsSetting (disk : Disk) (wo : Site) (o : Pair) (lo : List Slot) (u : Slot) (ro : List Slot) (w : Site) (p : Pair) (l olds : List Slot) (v : Slot) (r : List Slot) : Type 0 where
  pub accepted : IsAccepted disk (thread_at w (p ∷ []))
  pub writable : IsWritable disk (thread_at w (p ∷ []))
  pub settled : pairs_gstate (thread_at w (p ∷ [])) ≡ zero_gstate
  pub site : IsSite w (p ∷ [])
  pub there : thread_at wo (o ∷ []) ≡ thread_at w (p ∷ [])
  pub old_site : IsSite wo (o ∷ [])
  pub held : o.content.slots ≡ lo ++ u ∷ ro
  pub other : is_superblock u ≡ false
  pub apart : length (w.before ++ w.left) ≢ length (wo.before ++ wo.left)
  pub was : p.content.slots ≡ l ++ (olds ++ r)
  pub front : l ≡ [] → begins_with_superblock (olds ++ r) ≡ false
  pub entry : IsFileOrDirectory v
  pub struct : v.struct ≡ u.struct
  pub fit : IsWritableSlot disk.profile disk.block_size disk.page v

module _ (disk : Disk) (wo : Site) (o : Pair) (lo : List Slot) (u : Slot) (ro : List Slot) (w : Site) (p : Pair) (l olds : List Slot) (v : Slot) (r : List Slot)
    (k : IsSetting disk wo o lo u ro w p l olds v r) where
  abbrev ps : List Pair
  ps = thread_at w (p ∷ [])

  abbrev front_o : List Pair
  front_o = wo.before ++ wo.left

  abbrev back_o : List Pair
  back_o = wo.right ++ wo.after

  same_site : SameParts wo.chain (dirs_at wo (o ∷ [])) w.chain (dirs_at w (p ∷ []))
  same_site = same_parts wo.chain (dirs_at wo (o ∷ [])) w.chain (dirs_at w (p ∷ [])) (sym k.old_site.chain ∙ ap count_before_root k.there ∙ k.site.chain) k.there

  pub chain_same : wo.chain ≡ w.chain
  chain_same = same_site.front

  pub dirs_same : dirs_at wo (o ∷ []) ≡ dirs_at w (p ∷ [])
  dirs_same = same_site.back

  pub turns : InTurn (w.before ++ w.left) p (w.right ++ w.after) front_o o back_o
  turns = in_turn (w.before ++ w.left) p (w.right ++ w.after) front_o o back_o (sym dirs_same) k.apart

  -- ---- the other pairs aren't at the old pair's address

  abbrev Far : Pair → Type 0
  Far s = same_pair o.at s.at ≡ false

  grouped : thread_at w (p ∷ []) ≡ (w.chain ++ front_o) ++ o ∷ back_o
  grouped = sym (ap (λ z. w.chain ++ z) dirs_same) ∙ sym (append_assoc w.chain front_o (o ∷ back_o))

  distinct_there : IsDistinct nat_eq (pairs_blocks ((w.chain ++ front_o) ++ o ∷ back_o))
  distinct_there = subst (λ z. IsDistinct nat_eq (pairs_blocks z)) grouped k.accepted.thread.distinct

  flipped : (ss : List Pair) → Each (λ s. same_pair s.at o.at ≡ false) ss → Each Far ss
  flipped ss h = each_weaker (λ s. same_pair s.at o.at ≡ false) Far (λ s e. flip_false s.at o.at e) ss h

  far_front : Each Far (w.chain ++ front_o)
  far_front = flipped (w.chain ++ front_o) (avoids_front (w.chain ++ front_o) o back_o o.at distinct_there (pair_itself o.at))

  far_back : Each Far back_o
  far_back = flipped back_o (avoids_behind (w.chain ++ front_o) o back_o o.at distinct_there (pair_itself o.at))

  far_p : Far p
  far_p = go turns
    where
      go : InTurn (w.before ++ w.left) p (w.right ++ w.after) front_o o back_o → Far p
      go (ahead mid e f) = (each_right Far mid (p ∷ (w.right ++ w.after)) (subst (Each Far) e far_back)).0
      go (behind mid e f) = (each_right Far (w.before ++ w.left) (p ∷ mid) (subst (Each Far) f (each_right Far w.chain front_o far_front))).0

  module _ (sync : Bool) (new : Disk) (q : Pair) (more : List Pair) (x : HasTurned disk w p (l ++ v ∷ r) (gstate_xor (gstate_with_move sync o.at (length lo)) p.content.move) new q more) where
    abbrev qs : List Pair
    qs = thread_at w (q ∷ more)

    far_more : Each Far more
    far_more = each_left Far more (w.chain ++ front_o) (flipped (more ++ (w.chain ++ front_o))
        (avoids_front (more ++ (w.chain ++ front_o)) o back_o o.at
        (distinct_from_once (pairs_blocks ((more ++ (w.chain ++ front_o)) ++ o ∷ back_o)) (λ b.
        let once = once_from_distinct ((pairs_blocks more ++ []) ++ used_blocks disk (thread_at w (p ∷ []))) x.free.distinct b in
        let c = count_append b (pairs_blocks more ++ []) (used_blocks disk (thread_at w (p ∷ []))) in
        let d = count_append b (pairs_blocks more) [] in
        let e = count_append b (pairs_blocks (thread_at w (p ∷ []))) (flat_map (λ s. file_blocks_of s) (all_unmoved_slots (thread_at w (p ∷ [])))) in
        let g = ap (λ z. occurrence_count b (pairs_blocks z)) grouped in
        let h = blocks_append more ((w.chain ++ front_o) ++ o ∷ back_o) b in
        let i = ap (λ z. occurrence_count b (pairs_blocks z)) (append_assoc more (w.chain ++ front_o) (o ∷ back_o)) in
        omega arith))
        (pair_itself o.at)))
      where
        file_blocks_of : Slot → List ℕ
        file_blocks_of s = struct_blocks disk s.struct

    -- ---- the global state

    pub state_is : pairs_gstate qs ≡ gstate_with_move sync o.at (length lo)
    state_is = site_gstate_moved (gstate_with_move sync o.at (length lo)) w (p ∷ []) (q ∷ more)
        (x.delta ∙ ap (gstate_xor (gstate_with_move sync o.at (length lo))) (sym (gstate_cons p [] ∙ gstate_right p.content.move)))
        ∙ ap (gstate_xor (gstate_with_move sync o.at (length lo))) k.settled ∙ gstate_right (gstate_with_move sync o.at (length lo))

    among : HoldsForSome (λ s. (same_pair o.at s.at ≡ true) × IsEntry (slice_get s.content.slots (length lo))) qs
    among = among_right N w.chain (dirs_at w (q ∷ more)) (go turns)
      where
        N : Pair → Type 0
        N s = (same_pair o.at s.at ≡ true) × IsEntry (slice_get s.content.slots (length lo))

        here : N o
        here = (pair_itself o.at, subst IsEntry (sym (ap (λ z. slice_get z (length lo)) k.held ∙ get_here lo ro u)) k.other)

        go : InTurn (w.before ++ w.left) p (w.right ++ w.after) front_o o back_o → HoldsForSome N (dirs_at w (q ∷ more))
        go (ahead mid e f) = among_left N (w.before ++ w.left) (q ∷ more ++ (w.right ++ w.after)) (subst (HoldsForSome N) (sym f) (among_right N front_o (o ∷ mid) (inl here)))
        go (behind mid e f) = among_right N (w.before ++ w.left) (q ∷ more ++ (w.right ++ w.after)) (among_right N (q ∷ more) (w.right ++ w.after) (subst (HoldsForSome N) (sym e) (among_right N mid (o ∷ back_o) (inl here))))

    is_move : HasValidMove qs (pairs_gstate qs)
    is_move = subst (HasValidMove qs) (sym state_is) (inr (refl, any_from (λ s. (same_pair o.at s.at ≡ true) × IsEntry (slice_get s.content.slots (length lo))) qs among))

    named_far : (ss : List Pair) → Each Far ss → Each (λ s. same_pair (pairs_gstate (thread_at w (q ∷ more))).pair s.at ≡ false) ss
    named_far ss h = subst (λ (g : Gstate). Each (λ s. same_pair g.pair s.at ≡ false) ss) (sym state_is) h

    front_kept : (l : List Slot) → (l ≡ [] → begins_with_superblock (olds ++ r) ≡ false) → (slots : List Slot) → slots ≡ l ++ (olds ++ r) → begins_with_superblock slots ≡ true → begins_with_superblock (l ++ v ∷ r) ≡ true
    front_kept [] f slots e h = absurd (let z = sym h ∙ ap begins_with_superblock e ∙ f refl in cc)
    front_kept (s ∷ l) f slots e h = sym (ap begins_with_superblock e) ∙ h

    pub set_step : IsMoveSet disk new wo o lo u ro w p [] q more (pairs_blocks more) l olds v r
    set_step = record {
      accepted = k.accepted;
      site = k.site;
      there = dirs_same;
      ends = k.old_site.ends;
      run = k.old_site.run;
      was_there = k.held;
      other = k.other;
      no_move = no_move_from ps k.settled;
      kind = ap (λ (g : Gstate). g.kind) state_is;
      pair = ap (λ (g : Gstate). same_pair g.pair o.at) state_is ∙ pair_itself o.at;
      id = ap (λ (g : Gstate). g.id) state_is;
      move = is_move;
      elsewhere = named_far (w.chain ++ (front_o ++ back_o)) (each_append Far w.chain (front_o ++ back_o) (each_left Far w.chain front_o far_front)
          (each_append Far front_o back_o (each_right Far w.chain front_o far_front) far_back));
      apart = named_far (p ∷ []) (far_p, tt);
      apart_now = named_far (q ∷ more) (subst (λ at. same_pair o.at at ≡ false) (sym x.at) far_p, far_more);
      device = x.device;
      free = x.free;
      shape = became_shape disk p (pair_with_slots (l ++ v ∷ r) p) q more x.at x.became (became_front disk p (pair_with_slots (l ++ v ∷ r) p) q more x.is x.became (front_kept l k.front p.content.slots k.was));
      was = append-nil p.content.slots ∙ k.was;
      is = x.is;
      front = k.front;
      entry = k.entry;
      struct = k.struct;
    }

    pub set_put : IsPut disk w p q more l olds (v ∷ []) r
    set_put = record {
      writable = k.writable;
      was = k.was;
      is = x.is;
      became = x.became;
      fit = (k.fit, tt);
      filled = λ e. some_filled l r v;
    }

    -- ---- the tree

    pub taken_by : (change : Tree → Tree) (walk : PathAddresses → PathAddresses) → IsChangedImage disk (thread_at w (p ∷ [])) new (thread_at w (q ∷ more)) change walk
        → IsWritableChange disk (thread_at w (p ∷ [])) new (thread_at w (q ∷ more)) change walk
    taken_by change walk follows = set_used disk w p q more l olds (v ∷ []) r set_put new wo o lo u ro (pairs_blocks more) v change walk set_step follows

    -- ---- the blocks that the image uses

    each_slots : (Q : Slot → Type 0) → All Q (all_unmoved_slots ps) → Each (λ s. Each Q s.content.slots) (dirs_at w (p ∷ []))
    each_slots Q h = each_right (λ (s : Pair). Each Q s.content.slots) w.chain (dirs_at w (p ∷ []))
        (each_pieces Q (λ (s : Pair). s.content.slots) ps (subst (Each Q) (unmoved_in (pairs_gstate ps) (no_move_from ps k.settled) ps) (recursion_from_All Q (all_unmoved_slots ps) h)))

    these : (Q : Slot → Type 0) → All Q (all_unmoved_slots ps) → Each Q (l ++ (olds ++ r))
    these Q h = subst (Each Q) k.was (each_left (λ (s : Pair). Each Q s.content.slots) (p ∷ []) (w.right ++ w.after)
        (each_right (λ (s : Pair). Each Q s.content.slots) (w.before ++ w.left) (p ∷ [] ++ (w.right ++ w.after)) (each_slots Q h))).0

    same_files : SameFiles disk new (all_unmoved_slots ps)
    same_files = recursion_from_All (λ (s : Slot). SameFileBlocks disk new s.struct) (all_unmoved_slots ps) x.device.files

    hides : slots_not_moved (gstate_with_move sync o.at (length lo)) o ≡ lo ++ ro
    hides = ap (λ b. cond b (remove o.content.slots (length lo)) o.content.slots) (pair_itself o.at) ∙ ap (λ s. remove s (length lo)) k.held ∙ remove_here lo ro u

    hidden_none : (ss : List Pair) → Each Far ss → flat_map (slots_not_moved (gstate_with_move sync o.at (length lo))) ss ≡ all_slots ss
    hidden_none [] h = refl
    hidden_none (s ∷ ss) h = ap₂ (λ x y. x ++ y) (unmoved_elsewhere (gstate_with_move sync o.at (length lo)) s h.0) (hidden_none ss h.1)

    count_slots : (b : ℕ) (xs ys : List Pair) → occurrence_count b (file_blocks new (all_slots (xs ++ ys))) ≡ occurrence_count b (file_blocks new (all_slots xs)) + occurrence_count b (file_blocks new (all_slots ys))
    count_slots b xs ys = ap (λ z. occurrence_count b (file_blocks new z)) (flat_map-append (λ (s : Pair). s.content.slots) xs ys) ∙ count_files b new (all_slots xs) (all_slots ys)

    count_hidden : (b : ℕ) (xs ys : List Pair)
        → occurrence_count b (file_blocks new (flat_map (slots_not_moved (gstate_with_move sync o.at (length lo))) (xs ++ ys))) ≡ occurrence_count b (file_blocks new (flat_map (slots_not_moved (gstate_with_move sync o.at (length lo))) xs)) + occurrence_count b (file_blocks new (flat_map (slots_not_moved (gstate_with_move sync o.at (length lo))) ys))
    count_hidden b xs ys = ap (λ z. occurrence_count b (file_blocks new z)) (flat_map-append (slots_not_moved (gstate_with_move sync o.at (length lo))) xs ys)
        ∙ count_files b new (flat_map (slots_not_moved (gstate_with_move sync o.at (length lo))) xs) (flat_map (slots_not_moved (gstate_with_move sync o.at (length lo))) ys)

    pub set_count : (b : ℕ) → occurrence_count b (used_blocks new qs) + occurrence_count b (file_blocks disk olds) ≡ occurrence_count b (pairs_blocks more) + occurrence_count b (used_blocks disk ps)
    set_count b =
        let D : Gstate = gstate_with_move sync o.at (length lo) in
        let hid : List Pair → ℕ = λ z. occurrence_count b (file_blocks new (flat_map (slots_not_moved (gstate_with_move sync o.at (length lo))) z)) in
        let all : List Pair → ℕ = λ z. occurrence_count b (file_blocks new (all_slots z)) in
        let a1 = count_append b (pairs_blocks qs) (file_blocks new (all_unmoved_slots qs)) in
        let a2 = count_append b (pairs_blocks ps) (file_blocks disk (all_unmoved_slots ps)) in
        let b1 = blocks_append w.chain (dirs_at w (q ∷ more)) b in
        let b2 = blocks_append (w.before ++ w.left) (q ∷ more ++ (w.right ++ w.after)) b in
        let b3 = blocks_append (q ∷ more) (w.right ++ w.after) b in
        let b4 = blocks_append w.chain (dirs_at w (p ∷ [])) b in
        let b5 = blocks_append (w.before ++ w.left) (p ∷ [] ++ (w.right ++ w.after)) b in
        let b6 = blocks_append (p ∷ []) (w.right ++ w.after) b in
        let b7 = blocks_append (q ∷ []) more b in
        let at = ap (λ (a : ℕ × ℕ). occurrence_count b (a.0 ∷ a.1 ∷ [])) x.at in
        let same = ap (occurrence_count b) (slots_files disk new (all_unmoved_slots ps) x.device.geometry same_files) in
        let plain = ap (λ z. occurrence_count b (file_blocks new z)) (unmoved_in (pairs_gstate ps) (no_move_from ps k.settled) ps) in
        let now = ap (λ (g : Gstate). occurrence_count b (file_blocks new (flat_map (slots_not_moved g) qs))) state_is in
        let old_files = ap (occurrence_count b) (slots_files disk new olds x.device.geometry (each_left (λ (s : Slot). SameFileBlocks disk new s.struct) olds r
        (each_right (λ (s : Slot). SameFileBlocks disk new s.struct) l (olds ++ r) (these (λ (s : Slot). SameFileBlocks disk new s.struct) x.device.files)))) in
        -- under the move, with the new slot and without it
        let n1 = count_hidden b w.chain (dirs_at w (q ∷ more)) in
        let n2 = count_hidden b (w.before ++ w.left) (q ∷ more ++ (w.right ++ w.after)) in
        let n3 = count_hidden b (q ∷ more) (w.right ++ w.after) in
        let m2 = count_hidden b (w.before ++ w.left) (p ∷ [] ++ (w.right ++ w.after)) in
        let m3 = count_hidden b (p ∷ []) (w.right ++ w.after) in
        let q1 = ap (λ z. occurrence_count b (file_blocks new z)) (hidden_none (q ∷ more) (subst (λ at. same_pair o.at at ≡ false) (sym x.at) far_p, far_more) ∙ x.is) in
        let q2 = count_files b new l (v ∷ r) in
        let q3 = count_files b new (v ∷ []) r in
        let p1 = ap (λ z. occurrence_count b (file_blocks new z)) (hidden_none (p ∷ []) (far_p, tt) ∙ append-nil p.content.slots ∙ k.was) in
        let p2 = count_files b new l (olds ++ r) in
        let p3 = count_files b new olds r in
        -- the same pairs, around the old slot
        let t1 = ap (λ z. occurrence_count b (file_blocks new (flat_map (slots_not_moved (gstate_with_move sync o.at (length lo))) z))) dirs_same in
        let t2 = count_hidden b front_o (o ∷ back_o) in
        let t3 = count_hidden b (o ∷ []) back_o in
        let o1 = ap (λ z. occurrence_count b (file_blocks new z)) (append-nil (slots_not_moved (gstate_with_move sync o.at (length lo)) o) ∙ hides) in
        let o2 = count_files b new lo ro in
        -- without the move
        let g1 = count_slots b w.chain (dirs_at w (p ∷ [])) in
        let g2 = ap (λ z. occurrence_count b (file_blocks new (all_slots z))) dirs_same in
        let g3 = count_slots b front_o (o ∷ back_o) in
        let g4 = count_slots b (o ∷ []) back_o in
        let o3 = ap (λ z. occurrence_count b (file_blocks new z)) (append-nil o.content.slots ∙ k.held) in
        let o4 = count_files b new lo (u ∷ ro) in
        let o5 = count_files b new (u ∷ []) ro in
        let c1 = ap (λ z. occurrence_count b (file_blocks new z)) (hidden_none w.chain (each_left Far w.chain front_o far_front)) in
        let c2 = ap (λ z. occurrence_count b (file_blocks new z)) (hidden_none front_o (each_right Far w.chain front_o far_front)) in
        let c3 = ap (λ z. occurrence_count b (file_blocks new z)) (hidden_none back_o far_back) in
        let vu = ap (λ z. occurrence_count b (struct_blocks new z ++ [])) k.struct in
        omega arith

-- ---- to a new name, and onto an entry

module _ (disk : Disk) (wo : Site) (o : Pair) (lo : List Slot) (u : Slot) (ro : List Slot) (w : Site) (p : Pair) (l : List Slot) (v : Slot) (r : List Slot)
    (sync : Bool) (new : Disk) (q : Pair) (more : List Pair) (x : HasTurned disk w p (l ++ v ∷ r) (gstate_xor (gstate_with_move sync o.at (length lo)) p.content.move) new q more)
    (P : Path) (b : ℕ × ℕ) (leads : IsDirectoryAtPath (thread_at w (p ∷ [])) P b) (same_old : same_pair (begin_of wo (o ∷ [])) b ≡ true)
    (Q : Path) (a : ℕ × ℕ) (arrives : IsDirectoryAtPath (thread_at w (p ∷ [])) Q a) (same : same_pair (begin_of w (p ∷ [])) a ≡ true) where
  pub set_new : IsSetting disk wo o lo u ro w p l [] v r → v ≡ record u { name = v.name } → without_prefix (P ++ u.name ∷ []) (Q ++ v.name ∷ []) ≡ None
      → IsPlace disk.order (all_entries (thread_at w (p ∷ [])) a) (place_at w l) v.name
      → IsChangedImage disk (thread_at w (p ∷ [])) new (thread_at w (q ∷ more)) (tree_renaming (P ++ u.name ∷ []) (Q ++ v.name ∷ [])) (walk_by (P ++ u.name ∷ []) (Q ++ v.name ∷ []))
  set_new k same_slot off place =
      let step = set_step disk wo o lo u ro w p l [] v r k sync new q more x in
      move_sets disk new wo o lo u ro w p [] q more (pairs_blocks more) l v r step P b leads same_old Q a arrives same same_slot off
      (hidden_place disk new wo o lo u ro w p q more (pairs_blocks more) l v r step P b leads same_old Q a arrives same v.name place)
      (λ e. (recovered_from disk (thread_at w (p ∷ [])) k.accepted k.settled).reached)

  pub set_onto : (target : Slot) → is_superblock target ≡ false → IsSetting disk wo o lo u ro w p l (target ∷ []) v r → v ≡ record u { name = target.name }
      → without_prefix (P ++ u.name ∷ []) (Q ++ target.name ∷ []) ≡ None → (sync ≡ false → struct_directory_address target.struct ≡ None)
      → IsChangedImage disk (thread_at w (p ∷ [])) new (thread_at w (q ∷ more)) (tree_renaming (P ++ u.name ∷ []) (Q ++ v.name ∷ [])) (walk_by (P ++ u.name ∷ []) (Q ++ v.name ∷ []))
  set_onto target entry k same_slot off file =
      move_sets_onto disk new wo o lo u ro w p [] q more (pairs_blocks more) l target v r (set_step disk wo o lo u ro w p l (target ∷ []) v r k sync new q more x) entry P b leads same_old Q a arrives same same_slot off
      (λ e. (file (ap (λ (g : Gstate). g.sync) (sym (state_is disk wo o lo u ro w p l (target ∷ []) v r k sync new q more x)) ∙ e), (recovered_from disk (thread_at w (p ∷ [])) k.accepted k.settled).reached))
