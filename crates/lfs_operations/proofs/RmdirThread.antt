-- The removal of an empty directory's entry from a pair that stays, as the first of two steps of the thread.
use Rattle.lfs_operations.proofs.Common.{ℕ, ◌≡◌, ◌≢◌, inl, ◌-◌, true, false, List, [], ◌∷◌, ◌++◌, length, None, refl, sym, ap, subst, ◌∙◌, arith, append-nil, length-append, IsPairCommitted, LossLeavesPair, tree_removing, tree_with_subtree, Blocks, AreUsed, Disk, HasEitherTree as IsLeftOf, with_blocks, Gstate, Slot, gstate_xor, Pair, pairs_gstate, count_before_root, disk_tree, used_blocks, CompletesOperation, no_move_from, IsChangedImage, occurrence_count, HasNoMove, sync_bit_delta, IsStep, directory_goes, step_chain, Site, dirs_at, thread_at, IsWritableChange, last_tail_is_hard, KeptThread, thread_pair, IsChain, Path, HasSameBlocksInFlight, CanEditIn, drops_pair_after_removal, tree_without_entry, CanRemoveDirectory, unlink_changes, subst₂, file_blocks}
use Rattle.lfs_model.specs.session.Operations as ops
use Rattle.lfs_operations.proofs.Removed.{entry_site, entry_stands, stays_filled}
use Rattle.lfs_model.proofs.DirectoryGone.{HasPlace, Unlinks, place_of}
use Rattle.lfs_model.proofs.EmptyDirectories.{HasFront, flag_from}
use Rattle.lfs_operations.proofs.OwnPair.{HasOwnPair, led_to, own_pair}
use Rattle.lfs_operations.proofs.Unlinked.{fits_gone, going_made, unlink_turns}
use Rattle.lfs_operations.proofs.LastDrop.{IsAllButDropped}
use Rattle.lfs_model.proofs.UsedCounts.{used_same, IsTurnOf, turned_count}
use Rattle.lfs_operations.proofs.MovTurned.{ChangedOne, changed_one}
use Rattle.lfs_operations.proofs.TurnedSync.{left_turned, turn_of, IsSyncTurn, Turned, no_move_turned, pair_turned, state_turned, step_turned, taken_turned}
use Rattle.lfs_operations.proofs.PairAt.{HasPairAt}
use Rattle.lfs_operations.proofs.UnlinkedSteps.{IsUnlinked, at_there}

module _ (t : KeptThread) (index id first gone : ℕ) (take : CanRemoveDirectory t index id first gone) (goes : drops_pair_after_removal t index first ≡ false) where
  abbrev can : CanEditIn t index id
  can = take.can

  abbrev p : Pair
  p = can.stands.pair

  abbrev l : List Slot
  l = can.stands.stands.left

  abbrev r : List Slot
  r = can.stands.stands.right

  abbrev u : Slot
  u = can.stands.stands.slot

  abbrev o : Pair
  o = thread_pair t gone

  abbrev w : Site
  w = entry_site can

  stand : HasPairAt t index can.path can.at w p
  stand = entry_stands can

  abbrev path_there : Path
  path_there = can.path ++ u.name ∷ []

  held : p.content.slots ≡ l ++ u ∷ r
  held = can.stands.stands.held

  -- ---- the pair that is dropped

  own : HasOwnPair t w.chain (dirs_at w (p ∷ [])) gone take.to
  own = own_pair t can.ready w.chain (dirs_at w (p ∷ [])) stand.there stand.site.chain can.path can.name take.to gone
      (led_to t can.ready can.path can.at can.leads can.first index id can.name can.stands can.begins take.to take.branch) take.below take.at take.empty take.alone

  abbrev front : HasFront (dirs_at w (p ∷ [])) take.to
  front = own.front

  filled : last_tail_is_hard false (w.before ++ w.left) ≡ true → l ++ ([] ++ r) ≢ []
  filled = stays_filled t index id first take.can take.begins goes

  -- ---- the first step

  turning : IsSyncTurn t index (unlink_changes t index id) w p (l ++ r) l (u ∷ []) [] r
  turning = record {
    ready = can.ready;
    there = stand.there;
    place = stand.number;
    site = stand.site;
    made = going_made can (unlink_turns can);
    fits = fits_gone can (gstate_xor p.content.move sync_bit_delta);
    was = held;
    now = refl;
    front = λ e. can.stands.stands.entry;
    fit = tt;
    filled = filled;
    splice = λ disk geometry files. record { front = λ e. can.stands.stands.entry; entries = tt; lists = tt; blocks = λ b. omega arith };
  }

  abbrev q : Pair
  q = pair_turned turning

  follows : (disk : Disk) → IsStep t.disk disk w p [] q [] [] [] l (u ∷ []) [] r
      → IsChangedImage t.disk (thread_at w (p ∷ [])) disk (thread_at w (q ∷ [])) (tree_removing (can.path ++ u.name ∷ [])) (tree_with_subtree (can.path ++ u.name ∷ []) (λ t. None))
  follows disk step = directory_goes t.disk disk w p [] q [] [] [] l r u step can.stands.stands.entry can.path can.at stand.leads stand.begin take.to take.branch own.empty (ap (λ (g : Gstate). g.sync) (state_turned turning))

  first_taken : (disk : Disk) → Turned turning disk → IsWritableChange t.disk (thread_at w (p ∷ [])) disk (thread_at w (q ∷ [])) (tree_removing (can.path ++ u.name ∷ [])) (tree_with_subtree (can.path ++ u.name ∷ []) (λ t. None))
  first_taken = taken_turned turning (tree_removing (can.path ++ u.name ∷ [])) (tree_with_subtree (can.path ++ u.name ∷ []) (λ t. None)) follows

  unlinks : (disk : Disk) → Turned turning disk → Unlinks t.disk disk w p q l r u can.path can.at take.to
  unlinks disk h = record {
    step = step_turned turning disk h;
    other = can.stands.stands.entry;
    old_writable = stand.writable;
    writable = (first_taken disk h).writable;
    leads = stand.leads;
    same = stand.begin;
    branch = take.branch;
    empty = own.empty;
    sync = ap (λ (g : Gstate). g.sync) (state_turned turning);
    settled = stand.settled;
    held = held;
    kept = refl;
    tail = refl;
    some = λ e. filled (sym (flag_from None (w.before ++ w.left)) ∙ e);
  }

  place : (disk : Disk) → Turned turning disk → HasPlace t.disk disk w p q u can.path o (length front.front)
  place disk h = place_of t.disk disk w p q l r u can.path can.at take.to (unlinks disk h) o take.at take.alone front.front front.before (front.run ++ front.after) own.dirs_are front.soft take.empty

  -- ---- between the steps

  module _ (m : KeptThread) (h : IsPairCommitted t index (unlink_changes t index id) m) where
    abbrev x : ChangedOne t index w p (l ++ r) (gstate_xor p.content.move sync_bit_delta) m
    x = changed_one t index (unlink_changes t index id) w p (l ++ r) (gstate_xor p.content.move sync_bit_delta) (turn_of turning) m h

    abbrev k : HasPlace t.disk m.disk w p q u can.path o (length front.front)
    k = place m.disk x.turned

    pairs_middle : m.pairs ≡ thread_at w (q ∷ [])
    pairs_middle = x.pairs

    -- a directory's entry has no list, so the image uses the same
    no_list : (b : ℕ) → occurrence_count b (file_blocks t.disk (u ∷ [])) ≡ 0
    no_list b = ap (λ z. occurrence_count b (file_blocks t.disk (record u { struct = z } ∷ []))) take.branch

    used_middle : (b : ℕ) → occurrence_count b (used_blocks m.disk m.pairs) ≡ occurrence_count b (used_blocks t.disk t.pairs)
    used_middle b =
        let turn : IsTurnOf t.disk m.disk w p q [] l (u ∷ []) [] r
        = record { none = no_move_from (thread_at w (p ∷ [])) stand.settled; still = no_move_turned turning; device = x.turned.device; at = refl; was = held; is = append-nil (l ++ r) } in
        let same = turned_count t.disk m.disk w p q [] l (u ∷ []) [] r [] [] turn (λ b. let e = no_list b in omega arith) b in
        let now = ap (λ z. occurrence_count b (used_blocks m.disk z)) pairs_middle in
        let was = ap (λ z. occurrence_count b (used_blocks t.disk z)) stand.there in
        omega arith

    chain_middle : IsChain w.chain (dirs_at w (q ∷ []))
    chain_middle = step_chain t.disk m.disk w p [] q [] [] [] l (u ∷ []) [] r (step_turned turning m.disk x.turned)

    -- the directory's own pair may go
    may_go : IsAllButDropped t m o gone (tree_removing path_there) (tree_with_subtree path_there (λ t. None))
    may_go = record {
      ready = can.ready;
      taken = subst₂ (λ y z. IsWritableChange t.disk y m.disk z (tree_removing path_there) (tree_with_subtree path_there (λ t. None))) (sym stand.there) (sym pairs_middle) (first_taken m.disk x.turned);
      no_move = subst (λ z. HasNoMove (pairs_gstate z)) (sym pairs_middle) (no_move_turned turning);
      chain = w.chain;
      front = k.front;
      x = k.x;
      back = k.back;
      there = pairs_middle ∙ ap (λ z. w.chain ++ z) k.there;
      is_chain = subst (IsChain w.chain) k.there chain_middle;
      number = let a = length-append w.chain k.front in let b = length-append w.chain front.front in let n = k.number in let f = own.number in omega arith;
      soft = k.soft;
      drops = λ new y gone. subst (λ z. IsWritableChange t.disk z new (w.chain ++ (k.front ++ y ∷ k.back)) (tree_removing path_there) (tree_with_subtree path_there (λ t. None))) (sym stand.there) (k.taken new y gone);
      empty = take.empty;
      used = subst (λ s. AreUsed s (used_blocks m.disk m.pairs)) (sym h.map) (used_same t.map (used_blocks t.disk t.pairs) (used_blocks m.disk m.pairs) used_middle can.ready.used);
      size = ap length h.map ∙ can.ready.size ∙ sym h.written.shape.count;
      flying = subst (HasSameBlocksInFlight t.map) (sym h.map) (λ b. ((λ f. f), (λ f. f)));
      root = ap count_before_root pairs_middle ∙ chain_middle ∙ sym (ap count_before_root stand.there ∙ stand.site.chain);
      shape = h.written.shape;
    }

    pub unlinked_beside : IsUnlinked t m take gone
    unfolding may_go
    unlinked_beside = record {
      last = may_go;
      completed = λ new y gone z path tree is. subst (λ s. CompletesOperation t.disk s z (ops.Remove path) new (w.chain ++ (k.front ++ y ∷ k.back))) (sym stand.there) (k.completed new y gone z path (tree ∙ ap (disk_tree t.disk) stand.there) is);
      written = inl (at_there t m index (gone - 1) (unlink_changes t index id) h);
      above = let f = own.number in omega arith;
      entry = λ whole. absurd (let z = sym whole ∙ goes in cc);
    }

  -- ---- at a power loss in the first step

  pub left_beside : (left : Blocks) → LossLeavesPair t index (unlink_changes t index id) left → IsLeftOf (with_blocks left t.disk) (disk_tree t.disk t.pairs) (tree_without_entry t take.can.path take.can.name)
  left_beside left is = subst (IsLeftOf (with_blocks left t.disk) (disk_tree t.disk t.pairs)) (ap (λ n. tree_removing (can.path ++ n ∷ []) (disk_tree t.disk t.pairs)) can.stands.stands.named)
      (left_turned turning (tree_removing (can.path ++ u.name ∷ [])) (tree_with_subtree (can.path ++ u.name ∷ []) (λ t. None)) follows left is)
