-- The steps of a recovery, on the disk that they write and on those that a power loss leaves.
use Rattle.lfs_operations.proofs.Common.{ℕ, ◌≡◌, ◌<◌, ◌+◌, ◌-◌, ◌⊎◌, inl, inr, true, false, List, [], ◌∷◌, ◌++◌, length, Some, refl, sym, ap, subst, ◌∙◌, arith, Blocks, Disk, HasEitherTree as IsLeftOf, with_blocks, Gstate, gstate_xor, zero_gstate, same_pair, Pair, pairs_gstate, is_hard_tail, count_before_root, Path, IsAccepted, IsWritable, IsDirectoryAtPath, disk_tree, SameSlots, alike_append, alike_itself, HasNoMove, gstate_assoc, gstate_cons, gstate_right, gstate_self, HasSite, site_of_number, AllReached, AllReachedBut, IsStep, step_writable, site_gstate_moved, Site, thread_at, stays_shape, IsWritableChange, within_at, IsReady, IsUnthreaded, KeptThread, LossLeavesPair, IsPairWritten, complete_after, within_same, gstate_changes, delta_reaching_gstate, content_reaching_gstate, LeftByDrop, content_after_drop, Unthreads, SameFileBlocks, all_unmoved_slots, CallEvent, CanClearSync, CleanLossLeaves, HoldsAtLosses-weaker, IsPairCommitted, IsSyncCleared, SurvivesLossSince, superblock_pair_address, chain_may_continue, cond, has_superblock, AreLinkedByTails, Bool, ◌&&◌, All, subst₂, ContentChange}
use Rattle.lfs_model.proofs.Rests.{slots_stay}
use Rattle.lfs_model.proofs.Unthreaded.{unthread}
use Rattle.lfs_model.proofs.Placing.{device, left_still, left_after}
use Rattle.lfs_operations.proofs.Dropped.{IsToBeDropped, device_left, left_dropped, slots_left, state_left, tail_left}
use Rattle.lfs_model.proofs.DirectoryGone.{over_soft}
use Rattle.lfs_model.proofs.SetMoves.{HasTurned}
use Rattle.lfs_operations.proofs.MovTurned.{IsTurn, Stays, changed_one, content_with, left_alone}
use Rattle.lfs_operations.proofs.AtSite.{site_pair, site_place}

-- ---- a pair gets the tail and the delta of the orphan behind it

-- no move is pending then, and the dropped pair is an orphan
pub record IsUnled (t : KeptThread) (g : Gstate) (before x : Pair) : Type 0 where
  pub none : HasNoMove g
  pub soft : is_hard_tail before.content.tail ≡ false
  pub unled : (path : Path) (a : ℕ × ℕ) → IsDirectoryAtPath t.pairs path a → same_pair x.at a ≡ true → ⊥
  pub reached : g.sync ≡ false → (is_hard_tail x.content.tail ≡ false) × AllReachedBut t.pairs x.at

-- the pairs in front of two, and those behind them
abbrev pub site_of : List Pair → List Pair → List Pair → Site
site_of chain front todo = record { chain = chain; before = []; left = front; right = []; after = todo }

module _ (t : KeptThread) (chain front : List Pair) (before x : Pair) (todo : List Pair) (index : ℕ) (g : Gstate)
    (k : IsToBeDropped t index g (site_of chain front todo) before x) (ready : IsReady t.disk chain (front ++ before ∷ x ∷ todo)) (u : IsUnled t g before x) where
  abbrev q : Pair
  q = record { at = before.at; content = content_after_drop t (index - 1) g }

  pub over_on : (disk : Disk) → IsPairWritten t (index - 1) (content_after_drop t (index - 1) g) disk → IsUnthreaded t.disk disk chain front before x q todo
  over_on disk is = record {
    device = device_left k disk is;
    no_move = subst HasNoMove (sym (state_left k)) u.none;
    soft = u.soft;
    at = refl;
    slots = slots_left k;
    tail = tail_left k ∙ over_soft before.content.tail x.content.tail u.soft;
    unled = λ path a l s. u.unled path a (subst (λ z. IsDirectoryAtPath z path a) (sym k.there) l) s;
    reached = λ off. let r = u.reached (ap (λ (z : Gstate). z.sync) (sym (state_left k)) ∙ off) in (r.0, subst (λ z. AllReachedBut z x.at) k.there r.1);
  }

  over_taken : (disk : Disk) → IsPairWritten t (index - 1) (content_after_drop t (index - 1) g) disk → Unthreads t.disk disk chain (front ++ before ∷ x ∷ todo) (front ++ q ∷ todo)
  over_taken disk is = unthread t.disk disk chain front before x q todo ready (over_on disk is)

  -- a power loss leaves the tree
  pub over_left : (left : Blocks) → LeftByDrop t (index - 1) g left → IsLeftOf (with_blocks left t.disk) (disk_tree t.disk t.pairs) (disk_tree t.disk t.pairs)
  over_left = left_dropped k (inl refl) (λ disk is. left_after (over_taken disk is).taken (inl (ap (disk_tree t.disk) (sym k.there))))

-- ---- a delta changes, and with it the sync bit

fewer : (p : Pair) (ps : List Pair) → count_before_root (p ∷ ps) < length (p ∷ ps)
fewer p [] = omega arith
fewer p (q ∷ ps) = go (has_superblock (q ∷ ps) && chain_may_continue p) (fewer q ps)
  where
    go : (b : Bool) → count_before_root (q ∷ ps) < length (q ∷ ps) → cond b (1 + count_before_root (q ∷ ps)) 0 < length (p ∷ q ∷ ps)
    go true l = omega arith
    go false l = omega arith

some_pairs : (ps : List Pair) → AreLinkedByTails (Some superblock_pair_address) ps → count_before_root ps < length ps
some_pairs [] h = absurd (cc)
some_pairs (p ∷ ps) h = fewer p ps

module _ (t : KeptThread) (can : CanClearSync t) where
  pub enough : count_before_root t.pairs < length t.pairs
  enough = some_pairs t.pairs can.accepted.thread.links

  -- the last pair is one of a directory
  module _ (index : ℕ) (last : index + 1 ≡ length t.pairs) (made : complete_after t index (gstate_changes t index zero_gstate) ≡ Some (content_reaching_gstate t index zero_gstate)) where
    h : HasSite t.pairs index
    h = site_of_number t.disk t.pairs index can.accepted (let e = enough in omega arith) (omega arith)

    abbrev changes : List ContentChange
    changes = gstate_changes t index zero_gstate

    abbrev delta : Gstate
    delta = delta_reaching_gstate t index zero_gstate

    abbrev y : Pair
    y = record { at = h.pair.at; content = content_with h.pair h.pair.content.slots delta }

    turn : IsTurn t index changes h.site h.pair h.pair.content.slots delta
    turn = record {
      accepted = can.accepted;
      there = h.is;
      place = site_place h;
      site = h.is_site;
      made = made ∙ ap (λ (z : Pair). Some (content_with z z.content.slots delta)) (site_pair t h);
      first = λ e. (e.kind, e.name);
    }

    accepted : IsAccepted t.disk (thread_at h.site (h.pair ∷ []))
    accepted = subst (IsAccepted t.disk) h.is can.accepted

    fits : IsWritable t.disk (thread_at h.site (h.pair ∷ []))
    fits = subst (IsWritable t.disk) h.is can.writable

    clear_state : pairs_gstate (thread_at h.site (y ∷ [])) ≡ zero_gstate
    clear_state =
        let G = pairs_gstate t.pairs in
        let d = gstate_xor zero_gstate G in
        site_gstate_moved d h.site (h.pair ∷ []) (y ∷ [])
        (gstate_cons y [] ∙ gstate_right y.content.move ∙ ap (λ (x : Pair). gstate_xor d x.content.move) (site_pair t h) ∙ ap (gstate_xor d) (sym (gstate_cons h.pair [] ∙ gstate_right h.pair.content.move)))
        ∙ ap (λ z. gstate_xor d (pairs_gstate z)) (sym h.is) ∙ gstate_assoc zero_gstate G G ∙ ap (gstate_xor zero_gstate) (gstate_self G) ∙ gstate_right zero_gstate

    clear_alike : SameSlots t.pairs (thread_at h.site (y ∷ []))
    clear_alike = subst (λ z. SameSlots z (thread_at h.site (y ∷ []))) (sym h.is)
        (alike_append h.site.chain ((h.site.before ++ h.site.left) ++ h.pair ∷ (h.site.right ++ h.site.after)) h.site.chain ((h.site.before ++ h.site.left) ++ y ∷ (h.site.right ++ h.site.after)) (alike_itself h.site.chain)
        (alike_append (h.site.before ++ h.site.left) (h.pair ∷ (h.site.right ++ h.site.after)) (h.site.before ++ h.site.left) (y ∷ (h.site.right ++ h.site.after)) (alike_itself (h.site.before ++ h.site.left))
        (refl, refl, alike_itself (h.site.right ++ h.site.after))))

    clear_taken : (disk : Disk) → HasTurned t.disk h.site h.pair h.pair.content.slots delta disk y [] → IsWritableChange t.disk (thread_at h.site (h.pair ∷ [])) disk (thread_at h.site (y ∷ [])) (λ t. t) (λ d. d)
    clear_taken disk x = record {
      follows = slots_stay t.disk disk h.site h.pair [] y [] [] h.pair.content.slots [] step (λ off. subst AllReached h.is can.reached);
      writable = step_writable t.disk disk h.site h.pair [] y [] [] [] h.pair.content.slots [] [] [] step fits (within_same t.disk h.pair y refl (within_at t.disk h.site h.pair [] fits), tt) (λ x. x);
    }
      where
        step : IsStep t.disk disk h.site h.pair [] y [] [] [] h.pair.content.slots [] [] []
        step = record {
          accepted = accepted;
          site = h.is_site;
          no_move = subst (λ z. HasNoMove (pairs_gstate z)) h.is can.none;
          still_none = subst HasNoMove (sym clear_state) (record { kind = refl; id = refl; pair = refl });
          device = x.device;
          free = x.free;
          shape = stays_shape h.pair y refl refl (λ e. e);
          was = refl;
          is = refl;
          splice = record { front = λ e. refl; entries = tt; lists = tt; blocks = λ b. omega arith };
        }

    pub cleared : (new : KeptThread) → IsPairCommitted t index (gstate_changes t index zero_gstate) new → IsSyncCleared t new
    cleared new c =
        let x = changed_one t index changes h.site h.pair h.pair.content.slots delta turn new c in
        record {
          taken = subst₂ (λ a b. IsWritableChange t.disk a new.disk b (λ t. t) (λ d. d)) (sym h.is) (sym x.pairs) (clear_taken new.disk x.turned);
          alike = subst (SameSlots t.pairs) (sym x.pairs) clear_alike;
          settled = ap pairs_gstate x.pairs ∙ clear_state;
          map = c.map;
          files = subst (λ z. All (λ s. SameFileBlocks t.disk new.disk s.struct) (all_unmoved_slots z)) (sym h.is) x.turned.device.files;
        }

    -- a power loss leaves the tree
    clear_left : (left : Blocks) → LossLeavesPair t index changes left → IsLeftOf (with_blocks left t.disk) (disk_tree t.disk t.pairs) (disk_tree t.disk t.pairs)
    clear_left left is = go (left_alone t index changes h.site h.pair h.pair.content.slots delta turn left is)
      where
        go : Stays t index changes h.site h.pair h.pair.content.slots delta turn (with_blocks left t.disk) ⊎ HasTurned t.disk h.site h.pair h.pair.content.slots delta (with_blocks left t.disk) y []
            → IsLeftOf (with_blocks left t.disk) (disk_tree t.disk t.pairs) (disk_tree t.disk t.pairs)
        go (inl d) = left_still t.disk left (thread_at h.site (h.pair ∷ [])) accepted fits d (inl (ap (disk_tree t.disk) (sym h.is)))
        go (inr x) = left_after (clear_taken (with_blocks left t.disk) x) (inl (ap (disk_tree t.disk) (sym h.is)))

    pub clear_survives : (new : List CallEvent) → CleanLossLeaves t.history new (LossLeavesPair t index (gstate_changes t index zero_gstate))
        → SurvivesLossSince t.disk t.history new (disk_tree t.disk t.pairs) (disk_tree t.disk t.pairs)
    clear_survives new stops clean = HoldsAtLosses-weaker clear_left (stops clean)
