-- A pair that went from the thread, in an accepted image: what the device holds then, and which blocks the image uses.
use Rattle.lfs_operations.proofs.Common.{ℕ, ◌≡◌, ◌≢◌, ◌⊎◌, inl, inr, ◌+◌, ◌-◌, ◌≤◌, Bool, true, false, cond, nat_eq, eqb-true, eq-eqb, List, [], ◌∷◌, ◌++◌, length, Option, Some, refl, sym, ap, ap₂, subst, subst₂, ◌∙◌, arith, append_assoc, length-append, length-set, set, slice_get, recursion_from_All, same_Some, AreUsed, BlockStates, BlockState, IsInFlight, IsUsedBlock, Free, InFlight, Used, Blocks, Disk, MoveStateFits, HasEitherTree, with_blocks, IsWritable, Gstate, FitsInPair, PairContent, Pair, pairs_blocks, pairs_gstate, address_blocks, Tree, IsAccepted, disk_tree, used_blocks, Contains-occurrence_count, occurrence_count-Contains, slice_get-set_other, slice_get-set_same, Each, occurrence_count, count_append, count_here, each_right, once_from_distinct, HasNoMove, Site, thread_at, IsDevice, file_blocks, all_slots, KeptThread, IsPairWritten, BeginWithSuperblock, thread_pair, map_freeing, Contains, ◌↔◌, CanDropAt, HasSameBlocksInFlight, LeftByDrop, IsPairDropped, content_after_drop, predecessor_tail_after_drop, move_ending_dropped_blocks, map_after_move_ended, zero_gstate, IsChain, dirs_at, PathAddresses, IsWritableChange, root_address, HasTreeAfterDrops, count_before_root, block_count}
use Rattle.lfs_operations.proofs.DroppedTails.{front_is, gone_is, gstate_is, without_is}
use Rattle.lfs_model.proofs.Placing.{device, left_still}
use Rattle.lfs_operations.proofs.Taking.{within}
use Rattle.lfs_operations.proofs.Threads.{placed_one}
use Rattle.lfs_model.proofs.UsedCounts.{count_used, used_same}
use Rattle.lfs_model.proofs.WithoutPair.{blocks_dropped, device_without, files_dropped}
use Rattle.lfs_model.proofs.RootStays.{root_stays}

-- ---- the device

-- a pair behind some and in front of some, as a site
abbrev site_between : List Pair → List Pair → Site
site_between ahead back = record { chain = ahead; before = []; left = []; right = []; after = back }

module _ (t : KeptThread) (n : ℕ) (ahead : List Pair) (p o : Pair) (back : List Pair) (is : t.pairs ≡ ahead ++ p ∷ o ∷ back) (number : length ahead ≡ n) (ok : IsAccepted t.disk (ahead ++ p ∷ o ∷ back)) where
  device_kept : (disk : Disk) (c : PairContent) → c.slots ≡ p.content.slots → IsPairWritten t n c disk → IsDevice t.disk disk (ahead ++ p ∷ o ∷ back) (ahead ++ record { at = p.at; content = c } ∷ o ∷ back)
  device_kept disk c same w = device t.disk disk (site_between ahead (o ∷ back)) p (record { at = p.at; content = c }) [] [] ok ok.owned_once
      (placed_one t n (site_between ahead (o ∷ back)) p is (let e = number in omega arith) disk c (λ h. subst BeginWithSuperblock (sym same) (h.kind, h.name)) w)

  device_dropped : (disk : Disk) (c : PairContent) → c.slots ≡ p.content.slots → IsPairWritten t n c disk → IsDevice t.disk disk (ahead ++ p ∷ o ∷ back) (ahead ++ record { at = p.at; content = c } ∷ back)
  device_dropped disk c same w = device_without t.disk disk (ahead ++ p ∷ o ∷ back) ahead (record { at = p.at; content = c }) o back (device_kept disk c same w)

-- ---- the map

not_both : {a b : BlockState} → (a ≡ b → ⊥) → {o : Option BlockState} → o ≡ Some a → o ≡ Some b → ⊥
not_both {a} {b} n e f = n (same_Some a b (sym e ∙ f))

-- The used blocks of a map that came from another one are these. The same blocks are in flight.
pub record HasMapWithout (sets new : BlockStates) (owned : List ℕ) : Type 0 where
  pub used : AreUsed new owned
  pub size : length new ≡ length sets
  pub flying : HasSameBlocksInFlight sets new

-- The blocks of a pair are free; they were used, each once.
module _ (sets : BlockStates) (at : ℕ × ℕ) (us vs : List ℕ) (used : AreUsed sets us) (once : (b : ℕ) → occurrence_count b us ≤ 1) (less : (b : ℕ) → occurrence_count b vs + occurrence_count b (address_blocks at) ≡ occurrence_count b us) where
  first_there : 1 ≤ occurrence_count at.0 (address_blocks at)
  first_there = let e = count_here at.0 (at.1 ∷ []) in omega arith

  second_there : 1 ≤ occurrence_count at.1 (address_blocks at)
  second_there = let e = count_here at.1 [] in let k = count_append at.1 (at.0 ∷ []) (at.1 ∷ []) in omega arith

  apart : at.0 ≢ at.1
  apart e =
      let k = ap (λ z. occurrence_count at.0 (at.0 ∷ z ∷ [])) e in
      let h = count_here at.0 (at.0 ∷ []) in
      let g = count_here at.0 [] in
      let o = once at.0 in
      let l = less at.0 in
      absurd (omega arith)

  was_used : (b : ℕ) → 1 ≤ occurrence_count b (address_blocks at) → slice_get sets b ≡ Some Used
  was_used b some = (used b).1 (Contains-occurrence_count us b (let l = less b in omega arith))

  first_free : slice_get (map_freeing sets at) at.0 ≡ Some Free
  first_free = slice_get-set_other (set sets at.0 Free) at.1 at.0 Free apart ∙ slice_get-set_same sets at.0 Free (within sets at.0 Used (was_used at.0 first_there))

  second_free : slice_get (map_freeing sets at) at.1 ≡ Some Free
  second_free = slice_get-set_same (set sets at.0 Free) at.1 Free (let w = within sets at.1 Used (was_used at.1 second_there) in let e = length-set sets at.0 Free in omega arith)

  -- a block is one of the two, or is as it was
  abbrev IsFreedOrSame : ℕ → Type 0
  IsFreedOrSame b = ((slice_get (map_freeing sets at) b ≡ Some Free) × ((slice_get sets b ≡ Some Used) × (occurrence_count b vs ≡ 0))) ⊎ ((slice_get (map_freeing sets at) b ≡ slice_get sets b) × (occurrence_count b vs ≡ occurrence_count b us))

  each_block : (b : ℕ) → IsFreedOrSame b
  each_block b = go (nat_eq b at.0) (nat_eq b at.1) refl refl (less b)
    where
      was : (b : ℕ) → 1 ≤ occurrence_count b us → slice_get sets b ≡ Some Used
      was b some = (used b).1 (Contains-occurrence_count us b some)

      go : (x y : Bool) → nat_eq b at.0 ≡ x → nat_eq b at.1 ≡ y → occurrence_count b vs + (cond x 1 0 + (cond y 1 0 + 0)) ≡ occurrence_count b us → IsFreedOrSame b
      go true y e f l = inl (ap (slice_get (map_freeing sets at)) (eqb-true b at.0 e) ∙ first_free, (was b (omega arith), let o = once b in omega arith))
      go false true e f l = inl (ap (slice_get (map_freeing sets at)) (eqb-true b at.1 f) ∙ second_free, (was b (omega arith), let o = once b in omega arith))
      go false false e f l = inr (
        slice_get-set_other (set sets at.0 Free) at.1 b Free (λ k. absurd (let z = sym (eq-eqb b at.1 k) ∙ f in cc)) ∙ slice_get-set_other sets at.0 b Free (λ k. absurd (let z = sym (eq-eqb b at.0 k) ∙ e in cc)),
        omega arith,
      )

  used_fewer : AreUsed (map_freeing sets at) vs
  used_fewer b = go (each_block b)
    where
      go : IsFreedOrSame b → IsUsedBlock (map_freeing sets at) b ↔ Contains vs b
      go (inl (free, (was, none))) = ((λ h. absurd (not_both {a = Free} {b = Used} (λ k. absurd (cc)) free h)), (λ h. absurd (let n = occurrence_count-Contains vs b h in omega arith)))
      go (inr (same, e)) = (
        (λ h. Contains-occurrence_count vs b (let n = occurrence_count-Contains us b ((used b).0 (sym same ∙ h)) in omega arith)),
        (λ h. same ∙ (used b).1 (Contains-occurrence_count us b (let n = occurrence_count-Contains vs b h in omega arith))),
      )

  flying_same : HasSameBlocksInFlight sets (map_freeing sets at)
  flying_same b = go (each_block b)
    where
      go : IsFreedOrSame b → IsInFlight (map_freeing sets at) b ↔ IsInFlight sets b
      go (inl (free, (was, none))) = ((λ h. absurd (not_both {a = Free} {b = InFlight} (λ k. absurd (cc)) free h)), (λ h. absurd (not_both {a = Used} {b = InFlight} (λ k. absurd (cc)) was h)))
      go (inr (same, e)) = ((λ h. sym same ∙ h), (λ h. same ∙ h))

  pub map_without : (new : BlockStates) → new ≡ map_freeing sets at → HasMapWithout sets new vs
  map_without new is = subst (λ z. HasMapWithout sets z vs) (sym is) (record { used = used_fewer; size = length-set (set sets at.0 Free) at.1 Free ∙ length-set sets at.0 Free; flying = flying_same })

-- the map after the end of a move, which frees the pair or not
pub map_ended : (t : KeptThread) (index : ℕ) (goes : Bool) (us vs : List ℕ) → AreUsed t.map us → ((b : ℕ) → occurrence_count b us ≤ 1)
    → ((b : ℕ) → occurrence_count b vs + occurrence_count b (move_ending_dropped_blocks t index goes) ≡ occurrence_count b us) → (new : BlockStates) → new ≡ map_after_move_ended t index goes → HasMapWithout t.map new vs
map_ended t index true us vs used once less new is = map_without t.map (thread_pair t index).at us vs used once less new is
map_ended t index false us vs used once less new is = subst (λ z. HasMapWithout t.map z vs) (sym is) (record { used = used_same t.map us vs (λ b. let e = less b in omega arith) used; size = refl; flying = λ b. ((λ h. h), (λ h. h)) })

-- ---- a pair that is dropped by a commit to the one in front of it

-- The pair o of that number stands behind x, in an image that may be written. The global state is to become `state`.
pub record IsToBeDropped (t : KeptThread) (index : ℕ) (state : Gstate) (w : Site) (x o : Pair) : Type 0 where
  pub accepted : IsAccepted t.disk t.pairs
  pub writable : IsWritable t.disk t.pairs
  pub storable : MoveStateFits state
  pub there : t.pairs ≡ thread_at w (x ∷ o ∷ [])
  pub number : length (w.chain ++ (w.before ++ w.left)) + 1 ≡ index

module _ {t : KeptThread} {index : ℕ} {state : Gstate} {w : Site} {x o : Pair} (k : IsToBeDropped t index state w x o) where
  abbrev ahead : List Pair
  ahead = w.chain ++ (w.before ++ w.left)

  abbrev back : List Pair
  back = w.right ++ w.after

  pub grouped : (ps : List Pair) → thread_at w ps ≡ (w.chain ++ (w.before ++ w.left)) ++ (ps ++ (w.right ++ w.after))
  grouped ps = sym (append_assoc w.chain (w.before ++ w.left) (ps ++ (w.right ++ w.after)))

  pub is : t.pairs ≡ (w.chain ++ (w.before ++ w.left)) ++ x ∷ o ∷ (w.right ++ w.after)
  is = k.there ∙ grouped (x ∷ o ∷ [])

  number : length ahead ≡ index - 1
  number = let e = k.number in omega arith

  accepted_is : IsAccepted t.disk (ahead ++ x ∷ o ∷ back)
  accepted_is = subst (IsAccepted t.disk) is k.accepted

  pub front_there : thread_pair t (index - 1) ≡ x
  front_there = front_is t (index - 1) ahead x o back is number

  pub gone_there : thread_pair t (index - 1 + 1) ≡ o
  gone_there = gone_is t (index - 1) ahead x o back is number

  pub can_drop_pair : CanDropAt t index state
  can_drop_pair = record {
    above = let e = k.number in omega arith;
    below = let l = ap length is in let a = length-append ahead (x ∷ o ∷ back) in let n = k.number in omega arith;
    thread = k.accepted.thread;
    fits = subst (λ (z : Pair). FitsInPair t.disk.block_size t.disk.page z.content) (sym front_there)
        (each_right (λ (z : Pair). FitsInPair t.disk.block_size t.disk.page z.content) ahead (x ∷ o ∷ back)
        (subst (Each (λ (z : Pair). FitsInPair t.disk.block_size t.disk.page z.content)) is (recursion_from_All (λ (z : Pair). FitsInPair t.disk.block_size t.disk.page z.content) t.pairs k.writable.pairs))).0;
    storable = k.storable;
  }

  -- what x holds then
  abbrev pub content_left : PairContent
  content_left = content_after_drop t (index - 1) state

  abbrev pub pair_left : Pair
  pair_left = record { at = x.at; content = content_after_drop t (index - 1) state }

  pub slots_left : (content_after_drop t (index - 1) state).slots ≡ x.content.slots
  slots_left = ap (λ (z : Pair). z.content.slots) front_there

  pub tail_left : (content_after_drop t (index - 1) state).tail ≡ predecessor_tail_after_drop x.content.tail o.content.tail
  tail_left = ap₂ (λ (y z : Pair). predecessor_tail_after_drop y.content.tail z.content.tail) front_there gone_there

  pub state_left : pairs_gstate (thread_at w (record { at = x.at; content = content_after_drop t (index - 1) state } ∷ [])) ≡ state
  state_left = ap pairs_gstate (grouped (pair_left ∷ [])) ∙ gstate_is t (index - 1) ahead x o back is number state pair_left refl

  device_grouped : (disk : Disk) → IsPairWritten t (index - 1) content_left disk → IsDevice t.disk disk (ahead ++ x ∷ o ∷ back) (ahead ++ pair_left ∷ back)
  device_grouped disk written = device_dropped t (index - 1) ahead x o back is number accepted_is disk content_left slots_left written

  pub device_left : (disk : Disk) → IsPairWritten t (index - 1) (content_after_drop t (index - 1) state) disk
      → IsDevice t.disk disk (thread_at w (x ∷ o ∷ [])) (thread_at w (record { at = x.at; content = content_after_drop t (index - 1) state } ∷ []))
  device_left disk written = subst₂ (IsDevice t.disk disk) (sym (grouped (x ∷ o ∷ []))) (sym (grouped (pair_left ∷ []))) (device_grouped disk written)

  -- a power loss leaves the pairs as they were, or without that one
  pub left_dropped : {before after : Tree} → (disk_tree t.disk t.pairs ≡ before) ⊎ (disk_tree t.disk t.pairs ≡ after)
      → ((disk : Disk) → IsPairWritten t (index - 1) (content_after_drop t (index - 1) state) disk → HasEitherTree disk before after)
      → (left : Blocks) → LeftByDrop t (index - 1) state left → HasEitherTree (with_blocks left t.disk) before after
  left_dropped {before = before} {after = after} shows then left l = go l.is
    where
      go : (l.content ≡ (thread_pair t (index - 1)).content) ⊎ (l.content ≡ content_after_drop t (index - 1) state) → HasEitherTree (with_blocks left t.disk) before after
      go (inl e) = left_still t.disk left t.pairs k.accepted k.writable (subst (λ z. IsDevice t.disk (with_blocks left t.disk) z z) (sym is)
          (device_kept t (index - 1) ahead x o back is number accepted_is (with_blocks left t.disk) x.content refl
          (subst (λ y. IsPairWritten t (index - 1) y (with_blocks left t.disk)) (e ∙ ap (λ (z : Pair). z.content) front_there) l.written))) shows
      go (inr e) = then (with_blocks left t.disk) (subst (λ y. IsPairWritten t (index - 1) y (with_blocks left t.disk)) e l.written)

  -- ---- after it

  module _ (new : KeptThread) (d : IsPairDropped t (index - 1) state new) where
    pub pairs_left : new.pairs ≡ thread_at w (record { at = x.at; content = content_after_drop t (index - 1) state } ∷ [])
    pairs_left = d.pairs ∙ without_is t (index - 1) ahead x o back is number content_left ∙ sym (grouped (pair_left ∷ []))

    pub map_left : new.map ≡ map_freeing t.map o.at
    map_left = d.map ∙ ap (λ (z : Pair). map_freeing t.map z.at) gone_there

    pairs_now : new.pairs ≡ ahead ++ pair_left ∷ back
    pairs_now = pairs_left ∙ grouped (pair_left ∷ [])

    pub blocks_left : (b : ℕ) → occurrence_count b (pairs_blocks new.pairs) + occurrence_count b (address_blocks o.at) ≡ occurrence_count b (pairs_blocks t.pairs)
    blocks_left b =
        ap (λ z. occurrence_count b (pairs_blocks z) + occurrence_count b (address_blocks o.at)) pairs_now
        ∙ blocks_dropped ahead x o pair_left back refl b ∙ ap (λ z. occurrence_count b (pairs_blocks z)) (sym is)

    module _ (none : HasNoMove (pairs_gstate t.pairs)) (still : HasNoMove state) where
      pub files_left : (b : ℕ) → occurrence_count b (file_blocks new.disk (all_slots new.pairs)) + occurrence_count b (file_blocks t.disk o.content.slots)
          ≡ occurrence_count b (file_blocks t.disk (all_slots t.pairs))
      files_left b =
          ap (λ z. occurrence_count b (file_blocks new.disk (all_slots z)) + occurrence_count b (file_blocks t.disk o.content.slots)) pairs_now
          ∙ files_dropped t.disk new.disk ahead x o pair_left back (subst (λ z. HasNoMove (pairs_gstate z)) is none) (device_grouped new.disk d.written) slots_left b
          ∙ ap (λ z. occurrence_count b (file_blocks t.disk (all_slots z))) (sym is)

      -- what the image doesn't use any more: the pair's blocks, and those of its slots' lists
      pub used_left : (b : ℕ) → (occurrence_count b (used_blocks new.disk new.pairs) + occurrence_count b (file_blocks t.disk o.content.slots)) + occurrence_count b (address_blocks o.at) ≡ occurrence_count b (used_blocks t.disk t.pairs)
      used_left b =
          let f = files_left b in
          let e = blocks_left b in
          let u = count_used b new.disk new.pairs (subst HasNoMove (sym d.gstate) still) in
          let v = count_used b t.disk t.pairs none in
          omega arith

      pub map_dropped : AreUsed t.map (used_blocks t.disk t.pairs) → (owned : List ℕ) → ((b : ℕ) → occurrence_count b owned ≡ occurrence_count b (used_blocks new.disk new.pairs) + occurrence_count b (file_blocks t.disk o.content.slots)) → HasMapWithout t.map new.map owned
      map_dropped used owned are = map_without t.map o.at (used_blocks t.disk t.pairs) owned used (λ b. once_from_distinct (used_blocks t.disk t.pairs) k.accepted.owned_once b) (λ b. let e = are b in let f = used_left b in omega arith) new.map map_left

-- ---- no move is set then

module _ {t : KeptThread} {index : ℕ} {w : Site} {x o : Pair} (k : IsToBeDropped t index zero_gstate w x o) (new : KeptThread) (d : IsPairDropped t (index - 1) zero_gstate new)
    (none : HasNoMove (pairs_gstate t.pairs)) (used : AreUsed t.map (used_blocks t.disk t.pairs)) (gone : List ℕ) (are : (b : ℕ) → occurrence_count b gone ≡ occurrence_count b (file_blocks t.disk o.content.slots)) where
  map_after : HasMapWithout t.map new.map (used_blocks new.disk new.pairs ++ gone)
  map_after = map_dropped k new d none (record { kind = refl; id = refl; pair = refl }) used (used_blocks new.disk new.pairs ++ gone) (λ b. let a = are b in let c = count_append b (used_blocks new.disk new.pairs) gone in omega arith)

  -- an image follows then, by a change of a tree that was there before
  pub shows_after : length t.map ≡ block_count t.disk → 1024 ≤ t.disk.block_size → IsChain w.chain (dirs_at w (x ∷ o ∷ [])) → {disk : Disk} {ps : List Pair} {change : Tree → Tree} {walk : PathAddresses → PathAddresses}
      → IsWritableChange disk ps new.disk new.pairs change walk → root_address ps ≡ root_address t.pairs → HasTreeAfterDrops t new (change (disk_tree disk ps)) gone
  shows_after size large chain f root = record {
    ready = record {
      accepted = f.follows.accepted;
      writable = f.writable;
      settled = d.gstate;
      used = record {
        owned = used_blocks new.disk new.pairs ++ gone;
        are = map_after.used;
        same = λ b. let c = count_append b (used_blocks new.disk new.pairs) gone in omega arith;
      };
      size = map_after.size ∙ size ∙ sym d.written.shape.count;
      large = subst (λ n. 1024 ≤ n) (sym d.written.shape.block_size) large;
    };
    shows = f.follows.shows;
    flying = map_after.flying;
    root =
        let p = pairs_left k new d in
        ap count_before_root p
        ∙ root_stays t.disk new.disk w.chain (dirs_at w (x ∷ o ∷ [])) (dirs_at w (record { at = x.at; content = content_after_drop t (index - 1) zero_gstate } ∷ [])) chain (subst (IsAccepted t.disk) k.there k.accepted)
        (subst (IsAccepted new.disk) p f.follows.accepted) (ap root_address (sym p) ∙ f.follows.root ∙ root ∙ ap root_address k.there) ∙ sym (ap count_before_root k.there);
  }
