-- A fresh pair is inserted behind the last one of a directory, and the sync bit is set: the result, and what a power loss in it
-- leaves.
use Rattle.lfs_operations.proofs.Common.{ℕ, ◌≡◌, ◌≢◌, ◌⊎◌, inl, inr, Bool, true, false, nat_eq, List, [], ◌∷◌, ◌++◌, length, Some, refl, sym, ap, ap₂, subst, ◌∙◌, ◌≤◌, arith, append-nil, flat_map, IsDistinct, same_Some, recursion_from_All, Blocks, SameExceptBlocks, AreUsed, content_at, later_committed_block, Disk, disk_block, block_count, HasEitherTree, with_blocks, PairContent, FitsInPair, Gstate, zero_gstate, gstate_xor, same_pair, Pair, pairs_blocks, pairs_gstate, is_hard_tail, address_blocks, addresses_blocks, Path, Tree, HasFirstLogEntry, superblock_entry, IsAccepted, HasNoEmptyPairs, IsWritable, IsDirectoryAtPath, all_unmoved_slots, all_entries, struct_blocks, disk_tree, used_blocks, fits_same, last_site, threaded, occurrence_count, count_append, count_here, once_from_distinct, HasNoMove, gstate_assoc, gstate_cons, gstate_left, gstate_right, sync_bit_delta, with_sync_inverted, turned_is, shown_before, shown_behind, pair_itself, Site, begin_of, dirs_at, thread_at, IsWritableChange, beside_taken, taken_before, within_at, pairs_behind, last_tail_is_hard, KeptThread, HasOldPair, IsThreadedIn, LossLeavesThreaded, ChangesThreadBlocks, complete_after, thread_pair, map_using, ThreadedInOnDisk, KeepsSuperblockFirst, fresh_with_tail, AreTwoFreeBlocks, map_allocating_two, threading_changes, IsRecoveredWritableImage, content_same, ◌+◌, site_gstate_moved}
use Rattle.lfs_model.proofs.Beside.{beside_shape, other_entries, own_entries}
use Rattle.lfs_model.proofs.Pairs.{put_at}
use Rattle.lfs_operations.proofs.MakingCounts.{used_count_now}
use Rattle.lfs_operations.proofs.Threads.{at_is, pair_is, two_now}
use Rattle.lfs_operations.proofs.Owning.{length_now, used_more}
use Rattle.lfs_model.proofs.UsedCounts.{count_pairs}
use Rattle.lfs_model.proofs.Placing.{IsPlaced, all_apart, device, left_still}
use Rattle.lfs_operations.proofs.Putting.{with_map}
use Rattle.lfs_model.proofs.MkdirRoutes.{IsEnd, IsThreaded, IsThreading, fresh_pair, naming_pair}
use Rattle.lfs_operations.proofs.FreshBeside as beside
use Rattle.lfs_operations.proofs.FreshBeside.{IsWrittenBeside, shape_left}
use Rattle.lfs_operations.proofs.AtSite.{each_from}

-- so do the thread and the map say
pub record HasThreaded (t : KeptThread) (chain before left after : List Pair) (x : Pair) (fresh : ℕ × ℕ) (new : KeptThread) : Type 0 where
  pub step : IsThreading t.disk new.disk chain before left after x fresh
  pub pairs : new.pairs ≡ thread_at (last_site chain before left after) (naming_pair x fresh ∷ fresh_pair x fresh ∷ [])
  pub used : AreUsed new.map (used_blocks new.disk new.pairs)
  pub map : new.map ≡ map_using (map_allocating_two t.map fresh) fresh
  pub size : length new.map ≡ block_count new.disk

have_at : (b : Bool) (xs : List Pair) (x : Pair) (ys : List Pair) → HasNoEmptyPairs b (xs ++ x ∷ ys) → last_tail_is_hard b xs ≡ true → x.content.slots ≢ []
have_at b [] x ys h f = h.0 f
have_at b (z ∷ xs) x ys h f = have_at (is_hard_tail z.content.tail) xs x ys h.1 f

module _ (t : KeptThread) (ready : IsRecoveredWritableImage t) (last : ℕ) (chain before left after : List Pair) (x : Pair) (e : IsEnd t.pairs last chain before left after x) (fresh : ℕ × ℕ) (two : AreTwoFreeBlocks t.map fresh)
    (made : complete_after t last (threading_changes t last fresh) ≡ Some (naming_pair x fresh).content) where
  abbrev w : Site
  w = last_site chain before left after

  abbrev held : KeptThread
  held = with_map t (map_allocating_two t.map fresh)

  abbrev y : Pair
  y = naming_pair x fresh

  abbrev f : Pair
  f = fresh_pair x fresh

  behind_is : fresh_with_tail t last fresh ≡ f
  behind_is = ap (λ (z : Pair). fresh_pair z fresh) (pair_is t last w x e.there e.place)

  writable_there : IsWritable t.disk (thread_at w (x ∷ []))
  writable_there = beside.writable t ready last w x e.there e.place fresh two

  pub settled_there : pairs_gstate (thread_at (last_site chain before left after) (x ∷ [])) ≡ zero_gstate
  settled_there = beside.settled t ready last w x e.there e.place fresh two

  -- ---- the global state

  turned_delta : pairs_gstate (y ∷ f ∷ []) ≡ gstate_xor sync_bit_delta (pairs_gstate (x ∷ []))
  turned_delta =
      gstate_cons y (f ∷ []) ∙ ap (gstate_xor (with_sync_inverted x.content.move)) (gstate_cons f [] ∙ gstate_left (pairs_gstate []))
      ∙ ap (λ (z : Gstate). gstate_xor z (pairs_gstate [])) (sym (turned_is x.content.move)) ∙ gstate_assoc sync_bit_delta x.content.move (pairs_gstate []) ∙ ap (gstate_xor sync_bit_delta) (sym (gstate_cons x []))

  pub state_now : pairs_gstate (thread_at (last_site chain before left after) (naming_pair x fresh ∷ fresh_pair x fresh ∷ [])) ≡ sync_bit_delta
  state_now = site_gstate_moved sync_bit_delta w (x ∷ []) (y ∷ f ∷ []) turned_delta ∙ ap (gstate_xor sync_bit_delta) settled_there ∙ gstate_right sync_bit_delta

  -- ---- the step

  pub put_there : IsThreaded t.disk chain before left after x fresh
  put_there = record {
    writable = writable_there;
    was = sym (append-nil x.content.slots);
    is = refl;
    cut = fits_same t.disk x (record { at = x.at; content = record { slots = x.content.slots ++ []; tail = x.content.tail; move = x.content.move } }) (append-nil x.content.slots) (within_at t.disk w x [] writable_there).pair;
    fit = tt;
    filled = λ hard none. have_at false (before ++ left) x after
        (subst (HasNoEmptyPairs false) (pairs_behind chain (dirs_at w (x ∷ [])) e.site.chain) writable_there.no_empty_pair) hard (sym (append-nil x.content.slots) ∙ none);
    run = refl;
    empty = refl;
    tail = refl;
  }

  step_from : (disk : Disk) → IsWrittenBeside t last fresh y.content f.content disk → IsThreading t.disk disk chain before left after x fresh
  step_from disk on = record {
    accepted = beside.accepted t ready last w x e.there e.place fresh two;
    site = e.site;
    no_move = beside.no_move t ready last w x e.there e.place fresh two;
    still_none = subst HasNoMove (sym state_now) (record { kind = refl; id = refl; pair = refl });
    device = beside.device_beside t ready last w x e.there e.place fresh two disk y.content f.content (λ h. (h.kind, h.name)) on;
    free = beside.free t ready last w x e.there e.place fresh two;
    shape = beside_shape x y f refl refl refl refl (λ h. h);
    was = refl;
    is = refl;
    splice = record { front = λ k. refl; entries = tt; lists = tt; blocks = λ b. omega arith };
  }

  made_same : (c : PairContent) → complete_after t last (threading_changes t last fresh) ≡ Some c → c ≡ y.content
  made_same c m = same_Some c y.content (sym m ∙ made)

  -- the result uses no more bytes than the pair's old content
  pub fits_now : (c : PairContent) → complete_after t last (threading_changes t last fresh) ≡ Some c → FitsInPair t.disk.block_size t.disk.page c
  fits_now c m = subst (FitsInPair t.disk.block_size t.disk.page) (sym (made_same c m)) (fits_same t.disk x y refl (within_at t.disk w x [] writable_there).pair)

  -- only the blocks of the fresh pair may differ: the image shows the tree that it showed
  pub left_beside : (blocks : Blocks) (tree : Tree) → SameExceptBlocks (address_blocks fresh) t.disk.blocks blocks → HasEitherTree (with_blocks blocks t.disk) (disk_tree t.disk t.pairs) tree
  left_beside blocks tree others =
      left_still t.disk blocks (thread_at w (x ∷ [])) accepted writable_there (device t.disk (with_blocks blocks t.disk) w x x [] (fresh.0 ∷ fresh.1 ∷ []) accepted distinct placed) (inl (ap (disk_tree t.disk) (sym e.there)))
    where
      accepted : IsAccepted t.disk (thread_at w (x ∷ []))
      accepted = beside.accepted t ready last w x e.there e.place fresh two

      distinct : IsDistinct nat_eq (fresh.0 ∷ fresh.1 ∷ used_blocks t.disk (thread_at w (x ∷ [])))
      distinct = (beside.free t ready last w x e.there e.place fresh two).distinct

      -- a block that is used is the same
      same_used : (b : ℕ) → 1 ≤ occurrence_count b (pairs_blocks (x ∷ [])) → disk_block (with_blocks blocks t.disk) b ≡ disk_block t.disk b
      same_used b some = others.others b (all_apart (fresh.0 ∷ fresh.1 ∷ []) b (
          let n = once_from_distinct (fresh.0 ∷ fresh.1 ∷ used_blocks t.disk (thread_at w (x ∷ []))) distinct b in
          let k = count_append b (pairs_blocks (thread_at w (x ∷ []))) (flat_map (λ s. struct_blocks t.disk s.struct) (all_unmoved_slots (thread_at w (x ∷ [])))) in
          let i = count_pairs b w (x ∷ []) in
          omega arith))

      first_same : disk_block (with_blocks blocks t.disk) x.at.0 ≡ disk_block t.disk x.at.0
      first_same = same_used x.at.0 (let h = count_here x.at.0 (x.at.1 ∷ []) in omega arith)

      second_same : disk_block (with_blocks blocks t.disk) x.at.1 ≡ disk_block t.disk x.at.1
      second_same = same_used x.at.1 (let h = count_here x.at.1 [] in omega arith)

      placed : IsPlaced t.disk (with_blocks blocks t.disk) x x [] (fresh.0 ∷ fresh.1 ∷ [])
      placed = record {
        geometry = record { block_size = refl; page = refl; order = refl; profile = refl; count = others.count };
        same = λ b none. others.others b (all_apart (fresh.0 ∷ fresh.1 ∷ []) b (omega arith));
        contents = (content_same t.disk (with_blocks blocks t.disk) x.at first_same second_same ∙ (each_from (λ (z : Pair). content_at t.disk z.at ≡ Some z.content) w (x ∷ []) (recursion_from_All (λ (z : Pair). content_at t.disk z.at ≡ Some z.content) (thread_at w (x ∷ [])) accepted.thread.contents)).0, tt);
        first = λ h b. subst (λ o. HasFirstLogEntry o superblock_entry) (sym (ap₂ later_committed_block first_same second_same)) b;
      }

  -- ---- it was done

  pub has_threaded : (new : KeptThread) → IsThreadedIn (with_map t (map_allocating_two t.map fresh)) last fresh (threading_changes t last fresh) new → ChangesThreadBlocks (addresses_blocks (thread_pair t last).at fresh) (with_map t (map_allocating_two t.map fresh)) new
      → HasThreaded t chain before left after x fresh new
  has_threaded new is writes =
      let same = made_same is.content is.made in
      let pairs : new.pairs ≡ thread_at w (y ∷ f ∷ [])
      = is.pairs ∙ two_now t last w x e.there e.place (record { at = (thread_pair t last).at; content = is.content }) (fresh_with_tail t last fresh)
      ∙ ap (λ (g : Pair). thread_at w (record { at = (thread_pair t last).at; content = is.content } ∷ g ∷ [])) behind_is
      ∙ ap (λ (c : PairContent). thread_at w (record { at = (thread_pair t last).at; content = c } ∷ f ∷ [])) same
      ∙ ap (λ (at : ℕ × ℕ). thread_at w (record { at = at; content = y.content } ∷ f ∷ [])) (at_is t last w x e.there e.place) in
      let step = step_from new.disk (beside.written_now t ready last w x e.there e.place fresh two new w y.content f.content pairs is.thread.contents
      (subst (λ (c : PairContent). KeepsSuperblockFirst t.disk (thread_pair t last).at c new.disk) same is.first) writes) in
      record {
        step = step;
        pairs = pairs;
        used = subst (λ z. AreUsed new.map (used_blocks new.disk z)) (sym pairs)
            (subst (λ m. AreUsed m (used_blocks new.disk (thread_at w (y ∷ f ∷ [])))) (sym is.map)
            (used_more t.map fresh two (used_blocks t.disk (thread_at w (x ∷ []))) (used_blocks new.disk (thread_at w (y ∷ f ∷ [])))
            (λ b. used_count_now t.disk new.disk w x y (f ∷ []) x.content.slots [] [] step.no_move step.still_none step.device refl (sym (append-nil x.content.slots)) refl (λ b. refl) b)
            (subst (λ z. AreUsed t.map (used_blocks t.disk z)) e.there ready.used)));
        map = is.map;
        size = ap length is.map ∙ length_now t.map fresh two ∙ ready.size ∙ sym writes.shape.count;
      }

  -- ---- what it shows

  module _ (P : Path) (a : ℕ × ℕ) (leads : IsDirectoryAtPath (thread_at (last_site chain before left after) (x ∷ [])) P a) (same : same_pair (begin_of (last_site chain before left after) (x ∷ [])) a ≡ true) where
    pub sync_now : (pairs_gstate (thread_at (last_site chain before left after) (naming_pair x fresh ∷ ([] ++ fresh_pair x fresh ∷ [])))).sync ≡ true
    sync_now = ap (λ (z : Gstate). z.sync) state_now

    pub first_taken : (disk : Disk) → IsThreading t.disk disk chain before left after x fresh
        → IsWritableChange t.disk (thread_at (last_site chain before left after) (x ∷ [])) disk (thread_at (last_site chain before left after) (naming_pair x fresh ∷ ([] ++ fresh_pair x fresh ∷ []))) (λ z. z) (λ d. d)
    first_taken disk step = beside_taken t.disk disk chain before left after x y [] f x.content.slots [] [] [] put_there (fresh.0 ∷ fresh.1 ∷ []) [] (λ z. z) (λ d. d) step P a leads same
        (threaded t.disk disk chain before left after x [] y [] f (fresh.0 ∷ fresh.1 ∷ []) x.content.slots [] step P a leads same sync_now)

    -- the directory has the entries that it had
    pub entries_still : (disk : Disk) → IsThreading t.disk disk chain before left after x fresh
        → all_entries (thread_at (last_site chain before left after) (naming_pair x fresh ∷ ([] ++ fresh_pair x fresh ∷ []))) a ≡ all_entries (thread_at (last_site chain before left after) (x ∷ [])) a
    entries_still disk step =
        other_entries t.disk disk chain before left after x [] y [] f (fresh.0 ∷ fresh.1 ∷ []) [] x.content.slots [] [] [] step P a leads same a
        ∙ put_at (all_entries (thread_at w (x ∷ []))) a (shown_before w x.content.slots ++ ([] ++ shown_behind w [])) a (pair_itself a)
        ∙ sym (own_entries t.disk disk chain before left after x [] y [] f (fresh.0 ∷ fresh.1 ∷ []) [] x.content.slots [] [] [] step P a leads same)

    -- a power loss leaves the tree from before it
    pub left_threading : (left_blocks : Blocks) (tree : Tree) → LossLeavesThreaded (with_map t (map_allocating_two t.map fresh)) last fresh (threading_changes t last fresh) left_blocks
        → HasEitherTree (with_blocks left_blocks t.disk) (disk_tree t.disk t.pairs) tree
    left_threading blocks tree is = go is.content
      where
        go : HasOldPair held last (with_blocks blocks t.disk) ⊎ ThreadedInOnDisk held last fresh (threading_changes t last fresh) (with_blocks blocks t.disk) → HasEitherTree (with_blocks blocks t.disk) (disk_tree t.disk t.pairs) tree
        go (inl b) = beside.left_old t ready last w x e.there e.place fresh two blocks is.others b
        go (inr j) =
            let c = made_same j.content j.made in
            let step = step_from (with_blocks blocks t.disk) (record {
              shape = shape_left t blocks is.others.count;
              others = is.others;
              here = j.holds ∙ ap (λ (z : PairContent). Some z) c;
              behind = j.behind ∙ ap (λ (z : Pair). Some z.content) behind_is;
              first = subst (λ (z : PairContent). KeepsSuperblockFirst t.disk (thread_pair t last).at z (with_blocks blocks t.disk)) c j.first;
            }) in
            subst (λ z. HasEitherTree (with_blocks blocks t.disk) (disk_tree t.disk z) tree) (sym e.there)
            (taken_before t.disk (thread_at w (x ∷ [])) (with_blocks blocks t.disk) (thread_at w (y ∷ ([] ++ f ∷ []))) (λ d. d) tree (first_taken (with_blocks blocks t.disk) step))
