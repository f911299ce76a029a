-- The removal of an empty directory's entry with its pair, as the first of two steps of the thread.
use Rattle.lfs_operations.proofs.Common.{ℕ, ◌≡◌, ◌⊎◌, inl, inr, ◌+◌, ◌-◌, ◌<◌, Bool, true, false, cond, List, [], ◌∷◌, ◌++◌, length, refl, sym, ap, ap₂, subst, ◌∙◌, arith, append_assoc, append-nil, length-append, None, tree_removing, tree_with_subtree, Blocks, Disk, HasEitherTree as IsLeftOf, with_blocks, PairContent, Gstate, Slot, zero_gstate, Pair, pairs_gstate, begins_with_superblock, count_before_root, Path, IsAccepted, IsWritable, IsDirectoryAtPath, disk_tree, used_blocks, CompletesOperation, no_move_from, occurrence_count, HasNoMove, sync_bit_delta, IsStep, directory_goes, step_chain, Site, dirs_at, thread_at, drop_shape, file_blocks, IsWritableChange, KeptThread, IsPairWritten, thread_pair, IsChain, drop_taken, CanDropAt, IsPairDropped, LeftByDrop, content_after_drop, CanEditIn, tree_without_entry, CanRemoveDirectory, pair_index_after_drop, le-ltb, lt-ltb, subst₂, drops_pair_after_removal, removal_written_address}
use Rattle.lfs_model.specs.session.Operations as ops
use Rattle.lfs_operations.proofs.Dropped.{HasMapWithout, IsToBeDropped, can_drop_pair, device_left, front_there, left_dropped, map_dropped, pairs_left, slots_left, state_left, tail_left}
use Rattle.lfs_operations.proofs.DroppedTails.{front_is}
use Rattle.lfs_model.proofs.Placing.{left_after}
use Rattle.lfs_operations.proofs.RemovedWhole.{StandsWhole, over_hard, dropping_whole, stands_whole}
use Rattle.lfs_model.proofs.EmptyDirectories.{HasFront}
use Rattle.lfs_operations.proofs.OwnPair.{HasOwnPair, led_to, own_pair}
use Rattle.lfs_model.proofs.GoneWhole.{HasPlaceWhole, UnlinksWhole, place_whole}
use Rattle.lfs_operations.proofs.LastDrop.{IsAllButDropped, x_there}
use Rattle.lfs_operations.specs.Unlinking.{IsEntryUnlinked, LeftByUnlink, pair_index_after_unlink}
use Rattle.lfs_operations.proofs.RmdirThread.{left_beside, unlinked_beside}
use Rattle.lfs_operations.proofs.Unlinked.{sync_small}
use Rattle.lfs_operations.proofs.UnlinkedSteps.{IsUnlinked, written_whole}

module _ (t : KeptThread) (index id first gone : ℕ) (take : CanRemoveDirectory t index id first gone) (goes : drops_pair_after_removal t index first ≡ true) where
  abbrev can : CanEditIn t index id
  can = take.can

  abbrev s : StandsWhole t index id can
  s = stands_whole t index id first can take.begins goes

  abbrev e : Pair
  e = can.stands.pair

  abbrev u : Slot
  u = can.stands.stands.slot

  abbrev o : Pair
  o = thread_pair t gone

  abbrev w : Site
  w = s.w

  abbrev x0 : Pair
  x0 = s.x

  abbrev old : List Pair
  old = thread_at w (x0 ∷ e ∷ [])

  abbrev path_there : Path
  path_there = can.path ++ u.name ∷ []

  accepted : IsAccepted t.disk old
  accepted = subst (IsAccepted t.disk) s.there can.ready.accepted

  writable : IsWritable t.disk old
  writable = subst (IsWritable t.disk) s.there can.ready.writable

  settled : pairs_gstate old ≡ zero_gstate
  settled = ap pairs_gstate (sym s.there) ∙ can.ready.settled

  leads : IsDirectoryAtPath old can.path can.at
  leads = subst (λ z. IsDirectoryAtPath z can.path can.at) s.there can.leads

  -- ---- the pair that is dropped

  own : HasOwnPair t w.chain (dirs_at w (x0 ∷ e ∷ [])) gone take.to
  own = own_pair t can.ready w.chain (dirs_at w (x0 ∷ e ∷ [])) s.there s.site.chain can.path can.name take.to gone
      (led_to t can.ready can.path can.at can.leads can.first index id can.name can.stands can.begins take.to take.branch) take.below take.at take.empty take.alone

  abbrev front : HasFront (dirs_at w (x0 ∷ e ∷ [])) take.to
  front = own.front

  -- ---- the first step

  dropping : IsToBeDropped t index sync_bit_delta w x0 e
  dropping = dropping_whole s sync_bit_delta sync_small

  can_drop_entry : CanDropAt t index sync_bit_delta
  can_drop_entry = can_drop_pair dropping

  abbrev c : PairContent
  c = content_after_drop t (index - 1) sync_bit_delta

  abbrev q : Pair
  q = record { at = x0.at; content = c }

  tail_same : q.content.tail ≡ e.content.tail
  tail_same = tail_left dropping ∙ over_hard x0.content.tail e.content.tail s.hard

  gstate_middle : pairs_gstate (thread_at w (q ∷ [])) ≡ sync_bit_delta
  gstate_middle = state_left dropping

  no_move_middle : HasNoMove (pairs_gstate (thread_at w (q ∷ [])))
  no_move_middle = subst HasNoMove (sym gstate_middle) (record { kind = refl; id = refl; pair = refl })

  step : (disk : Disk) → IsPairWritten t (index - 1) c disk → IsStep t.disk disk w x0 (e ∷ []) q [] [] [] x0.content.slots (u ∷ []) [] []
  step disk h = record {
    accepted = accepted;
    site = s.site;
    no_move = no_move_from old settled;
    still_none = no_move_middle;
    device = device_left dropping disk h;
    free = record { distinct = accepted.owned_once; in_range = λ k d x. absurd (omega arith) };
    shape = drop_shape x0 e q refl tail_same (λ k. ap begins_with_superblock (slots_left dropping) ∙ k);
    was = ap (λ z. x0.content.slots ++ (z ++ [])) s.held;
    is = append-nil q.content.slots ∙ (slots_left dropping) ∙ sym (append-nil x0.content.slots);
    splice = record { front = λ k. can.stands.stands.entry; entries = tt; lists = tt; blocks = λ b. omega arith };
  }

  first_taken : (disk : Disk) → IsPairWritten t (index - 1) c disk → IsWritableChange t.disk old disk (thread_at w (q ∷ [])) (tree_removing (can.path ++ u.name ∷ [])) (tree_with_subtree (can.path ++ u.name ∷ []) (λ t. None))
  first_taken disk h = drop_taken t.disk w x0 e q (record { writable = writable; tail = tail_same; slots = (slots_left dropping) })
      disk [] [] x0.content.slots (u ∷ []) [] [] (tree_removing (can.path ++ u.name ∷ [])) (tree_with_subtree (can.path ++ u.name ∷ []) (λ t. None)) (step disk h)
      (directory_goes t.disk disk w x0 (e ∷ []) q [] [] [] x0.content.slots [] u (step disk h) can.stands.stands.entry can.path can.at leads s.same take.to take.branch own.empty (ap (λ (g : Gstate). g.sync) gstate_middle))

  unlinks : (disk : Disk) → IsPairWritten t (index - 1) c disk → UnlinksWhole t.disk disk w x0 e q u can.path can.at take.to
  unlinks disk h = record {
    step = step disk h;
    other = can.stands.stands.entry;
    old_writable = writable;
    writable = (first_taken disk h).writable;
    leads = leads;
    same = s.same;
    branch = take.branch;
    empty = own.empty;
    sync = ap (λ (g : Gstate). g.sync) gstate_middle;
    settled = settled;
    held = s.held;
    at = refl;
    slots = (slots_left dropping);
    tail = tail_same;
    hard = s.hard;
  }

  place : (disk : Disk) → IsPairWritten t (index - 1) c disk → HasPlaceWhole t.disk disk w x0 e q u can.path o (length front.front) front.before
  place disk h = place_whole t.disk disk w x0 e q u can.path can.at take.to (unlinks disk h) o take.at take.alone front.front front.before (front.run ++ front.after) own.dirs_are front.soft take.empty

  -- ---- between the steps

  -- the number that the pair has then
  abbrev now : ℕ
  now = pair_index_after_drop index gone

  module _ (m : KeptThread) (h : IsPairDropped t (index - 1) sync_bit_delta m) where
    abbrev k : HasPlaceWhole t.disk m.disk w x0 e q u can.path o (length front.front) front.before
    k = place m.disk h.written

    pairs_middle : m.pairs ≡ thread_at w (q ∷ [])
    pairs_middle = pairs_left dropping m h

    -- it stands behind one pair fewer where it stood behind the entry's
    number_now : length (w.chain ++ k.front) + 1 ≡ pair_index_after_drop index gone
    number_now = go k.number
      where
        index_is : index ≡ length w.chain + length (w.before ++ w.left) + 1
        index_is = let j = length-append w.chain (w.before ++ w.left) in let i = s.number in omega arith

        gone_is : gone ≡ length w.chain + length front.front + 1
        gone_is = let f = length-append w.chain front.front in let g = own.number in omega arith

        go : ((length (w.before ++ w.left) + 1 < length front.front + 1) × (length k.front + 1 ≡ length front.front)) ⊎ ((length front.front + 1 < length (w.before ++ w.left) + 1) × (length k.front ≡ length front.front))
            → length (w.chain ++ k.front) + 1 ≡ pair_index_after_drop index gone
        go (inl (less, one)) =
            let a = length-append w.chain k.front in
            let same : length (w.chain ++ k.front) + 1 ≡ gone - 1 = omega (arith, a, one, gone_is) in
            same ∙ sym (ap (λ b. cond b (gone - 1) gone) (lt-ltb index gone (omega (arith, less, index_is, gone_is))))
        go (inr (less, none)) =
            let a = length-append w.chain k.front in
            let same : length (w.chain ++ k.front) + 1 ≡ gone = omega (arith, a, none, gone_is) in
            same ∙ sym (ap (λ b. cond b (gone - 1) gone) (le-ltb index gone (omega (arith, less, index_is, gone_is))))

    map_middle : HasMapWithout t.map m.map (used_blocks m.disk m.pairs)
    map_middle = map_dropped dropping m h (no_move_from t.pairs can.ready.settled) (record { kind = refl; id = refl; pair = refl }) can.ready.used (used_blocks m.disk m.pairs) (λ b.
        let f3 = ap (λ z. occurrence_count b (file_blocks t.disk z)) s.held in
        let f4 : occurrence_count b (file_blocks t.disk (u ∷ [])) ≡ 0 = ap (λ z. occurrence_count b (file_blocks t.disk (record u { struct = z } ∷ []))) take.branch in
        omega arith)

    chain_middle : IsChain w.chain (dirs_at w (q ∷ []))
    chain_middle = step_chain t.disk m.disk w x0 (e ∷ []) q [] [] [] x0.content.slots (u ∷ []) [] [] (step m.disk h.written)

    -- the directory's own pair may go
    may_go : IsAllButDropped t m o now (tree_removing path_there) (tree_with_subtree path_there (λ t. None))
    may_go = record {
      ready = can.ready;
      taken = subst₂ (λ y z. IsWritableChange t.disk y m.disk z (tree_removing path_there) (tree_with_subtree path_there (λ t. None))) (sym s.there) (sym pairs_middle) (first_taken m.disk h.written);
      no_move = subst (λ z. HasNoMove (pairs_gstate z)) (sym pairs_middle) no_move_middle;
      chain = w.chain;
      front = k.front;
      x = k.x;
      back = k.back;
      there = pairs_middle ∙ ap (λ z. w.chain ++ z) k.there;
      is_chain = subst (IsChain w.chain) k.there chain_middle;
      number = number_now;
      soft = k.soft;
      drops = λ new y gone. subst (λ z. IsWritableChange t.disk z new (w.chain ++ (k.front ++ y ∷ k.back)) (tree_removing path_there) (tree_with_subtree path_there (λ t. None))) (sym s.there) (k.taken new y gone);
      empty = take.empty;
      used = map_middle.used;
      size = map_middle.size ∙ can.ready.size ∙ sym h.written.shape.count;
      flying = map_middle.flying;
      root = ap count_before_root pairs_middle ∙ chain_middle ∙ sym (ap count_before_root s.there ∙ s.site.chain);
      shape = h.written.shape;
    }

    x_now : thread_pair m (now - 1) ≡ k.x
    unfolding may_go
    x_now = x_there may_go

    -- the pair that is written in the second step is where the one in front of it was, or where the one in front of the entry's was
    written_then : ((thread_pair m (now - 1)).at ≡ (thread_pair t (gone - 1)).at) ⊎ ((thread_pair m (now - 1)).at ≡ removal_written_address t index first)
    written_then = go k.was
      where
        is_old : t.pairs ≡ (w.chain ++ front.front) ++ front.before ∷ o ∷ (front.run ++ front.after)
        is_old = s.there ∙ ap (λ z. w.chain ++ z) own.dirs_are ∙ sym (append_assoc w.chain front.front (front.before ∷ o ∷ (front.run ++ front.after)))

        old_front : thread_pair t (gone - 1) ≡ front.before
        old_front = front_is t (gone - 1) (w.chain ++ front.front) front.before o (front.run ++ front.after) is_old (let g = own.number in omega arith)

        go : (k.x.at ≡ front.before.at) ⊎ (k.x.at ≡ x0.at) → ((thread_pair m (now - 1)).at ≡ (thread_pair t (gone - 1)).at) ⊎ ((thread_pair m (now - 1)).at ≡ removal_written_address t index first)
        go (inl z) = inl (ap (λ (v : Pair). v.at) x_now ∙ z ∙ ap (λ (v : Pair). v.at) (sym old_front))
        go (inr z) = inr (ap (λ (v : Pair). v.at) x_now ∙ z ∙ ap (λ (v : Pair). v.at) (sym (front_there dropping)) ∙ sym (written_whole t index first goes))

    pub unlinked_whole : IsUnlinked t m take (pair_index_after_drop index gone)
    unfolding may_go
    unlinked_whole = record {
      last = may_go;
      completed = λ new y gone z path tree is. subst (λ ps. CompletesOperation t.disk ps z (ops.Remove path) new (w.chain ++ (k.front ++ y ∷ k.back))) (sym s.there) (k.completed new y gone z path (tree ∙ ap (disk_tree t.disk) s.there) is);
      written = written_then;
      above = let f = own.number in omega arith;
      entry = λ whole. (can_drop_entry, h);
    }

  -- ---- at a power loss in the first step

  whole_first : (left : Blocks) → LeftByDrop t (index - 1) sync_bit_delta left → IsLeftOf (with_blocks left t.disk) (disk_tree t.disk t.pairs) (tree_without_entry t can.path can.name)
  whole_first = left_dropped dropping (inl refl) (λ disk written. left_after (first_taken disk written) (inr (ap₂ (λ n z. tree_removing (can.path ++ n ∷ []) (disk_tree t.disk z)) can.stands.stands.named (sym s.there))))

-- ---- either way

module _ (t : KeptThread) (index id first gone : ℕ) (take : CanRemoveDirectory t index id first gone) where
  pub unlinked : (m : KeptThread) → IsEntryUnlinked t index id first m → IsUnlinked t m take (pair_index_after_unlink t index first gone)
  unlinked m is = by (drops_pair_after_removal t index first) refl
    where
      by : (b : Bool) → drops_pair_after_removal t index first ≡ b → IsUnlinked t m take (pair_index_after_unlink t index first gone)
      by true e = subst (λ b. IsUnlinked t m take (cond b (pair_index_after_drop index gone) gone)) (sym e) (unlinked_whole t index id first gone take e m (is.goes e))
      by false e = subst (λ b. IsUnlinked t m take (cond b (pair_index_after_drop index gone) gone)) (sym e) (unlinked_beside t index id first gone take e m (is.stays e))

  pub left_first : (left : Blocks) → LeftByUnlink t index id first left → IsLeftOf (with_blocks left t.disk) (disk_tree t.disk t.pairs) (tree_without_entry t take.can.path take.can.name)
  left_first left is = by (drops_pair_after_removal t index first) refl
    where
      by : (b : Bool) → drops_pair_after_removal t index first ≡ b → IsLeftOf (with_blocks left t.disk) (disk_tree t.disk t.pairs) (tree_without_entry t take.can.path take.can.name)
      by true e = whole_first t index id first gone take e left (is.goes e)
      by false e = left_beside t index id first gone take e left (is.stays e)
