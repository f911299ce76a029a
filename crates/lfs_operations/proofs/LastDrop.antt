-- The last step of an operation drops a pair that no path leads to any more.
use Rattle.lfs_operations.proofs.Common.{ℕ, ◌≡◌, inr, ◌+◌, ◌-◌, ◌≤◌, false, List, [], ◌∷◌, ◌++◌, length, refl, sym, ap, subst, ◌∙◌, arith, Blocks, AreUsed, Disk, block_count, HasEitherTree as IsLeftOf, with_blocks, PairContent, zero_gstate, Pair, pairs_blocks, pairs_gstate, is_hard_tail, address_blocks, Tree, PathAddresses, all_unmoved_slots, disk_tree, used_blocks, SameSlots, alike_append, alike_itself, occurrence_count, count_append, count_here, once_from_distinct, HasNoMove, IsGone, file_blocks, IsWritableChange, IsChain, KeptThread, SameGeometryAs, IsPairWritten, thread_pair, CanDropAt, IsPairDropped, HasTreeAfterDrops, LeftByDrop, HasSameBlocksInFlight, content_after_drop, IsRecoveredWritableImage, KeepsRootPairIndex}
use Rattle.lfs_operations.proofs.Dropped.{IsToBeDropped, can_drop_pair, device_left, front_there, gone_there, left_dropped, pairs_left, slots_left, state_left, tail_left, used_left, shows_after}
use Rattle.lfs_operations.proofs.DroppedTails.{no_move_state}
use Rattle.lfs_model.proofs.Placing.{left_after}
use Rattle.lfs_model.proofs.DirectoryGone.{over_soft}

-- The image shows the changed tree, and still does once the pair o of number n, which stands behind x, is dropped.
pub record IsAllButDropped (t m : KeptThread) (o : Pair) (n : ℕ) (change : Tree → Tree) (walk : PathAddresses → PathAddresses) : Type 0 where
  pub ready : IsRecoveredWritableImage t
  pub taken : IsWritableChange t.disk t.pairs m.disk m.pairs change walk
  pub no_move : HasNoMove (pairs_gstate m.pairs)
  pub chain : List Pair
  pub front : List Pair
  pub x : Pair
  pub back : List Pair
  pub there : m.pairs ≡ chain ++ (front ++ x ∷ o ∷ back)
  pub is_chain : IsChain chain (front ++ x ∷ o ∷ back)
  pub number : length (chain ++ front) + 1 ≡ n
  pub soft : is_hard_tail x.content.tail ≡ false
  pub drops : (new : Disk) (y : Pair) → IsGone m.disk new chain front x o y back → IsWritableChange t.disk t.pairs new (chain ++ (front ++ y ∷ back)) change walk
  pub empty : o.content.slots ≡ []
  pub used : AreUsed m.map (used_blocks m.disk m.pairs)
  pub size : length m.map ≡ block_count m.disk
  pub flying : HasSameBlocksInFlight t.map m.map
  pub root : KeepsRootPairIndex t m
  pub shape : SameGeometryAs t.disk m.disk

module _ {t m : KeptThread} {o : Pair} {n : ℕ} {change : Tree → Tree} {walk : PathAddresses → PathAddresses} (k : IsAllButDropped t m o n change walk) where
  dropping : IsToBeDropped m n zero_gstate (record { chain = k.chain; before = []; left = k.front; right = []; after = k.back }) k.x o
  dropping = record { accepted = k.taken.follows.accepted; writable = k.taken.writable; storable = no_move_state; there = k.there; number = k.number }

  pub x_there : thread_pair m (n - 1) ≡ k.x
  x_there = front_there dropping

  pub o_there : thread_pair m (n - 1 + 1) ≡ o
  o_there = gone_there dropping

  pub can_drop_last : CanDropAt m n zero_gstate
  can_drop_last = can_drop_pair dropping

  -- ---- the step

  abbrev pub c : PairContent
  c = content_after_drop m (n - 1) zero_gstate

  abbrev pub y : Pair
  y = record { at = k.x.at; content = c }

  pub is_gone : (disk : Disk) → IsPairWritten m (n - 1) c disk → IsGone m.disk disk k.chain k.front k.x o y k.back
  is_gone disk written = record {
    device = device_left dropping disk written;
    settled = state_left dropping;
    soft = k.soft;
    at = refl;
    slots = slots_left dropping;
    tail = tail_left dropping ∙ over_soft k.x.content.tail o.content.tail k.soft;
  }

  module _ (new : KeptThread) (g : IsPairDropped m (n - 1) zero_gstate new) where
    pub pairs_end : new.pairs ≡ k.chain ++ (k.front ++ y ∷ k.back)
    pairs_end = pairs_left dropping new g

    -- the pairs but that one have the slots that they had
    pub alike_end : SameSlots (k.chain ++ (k.front ++ k.x ∷ k.back)) new.pairs
    alike_end = subst (SameSlots (k.chain ++ (k.front ++ k.x ∷ k.back))) (sym pairs_end)
        (alike_append k.chain (k.front ++ k.x ∷ k.back) k.chain (k.front ++ y ∷ k.back) (alike_itself k.chain)
        (alike_append k.front (k.x ∷ k.back) k.front (y ∷ k.back) (alike_itself k.front) (refl, slots_left dropping, alike_itself k.back)))

    pub taken_end : IsWritableChange t.disk t.pairs new.disk new.pairs change walk
    taken_end = subst (λ z. IsWritableChange t.disk t.pairs new.disk z change walk) (sym pairs_end) (k.drops new.disk y (is_gone new.disk g.written))

    end_used : (b : ℕ) → occurrence_count b (used_blocks new.disk new.pairs) + occurrence_count b (address_blocks o.at) ≡ occurrence_count b (used_blocks m.disk m.pairs)
    end_used b =
        let e = used_left dropping new g k.no_move (record { kind = refl; id = refl; pair = refl }) b in
        let f = ap (λ z. occurrence_count b (file_blocks m.disk z)) k.empty in
        omega arith

    once : (b : ℕ) → occurrence_count b (used_blocks m.disk m.pairs) ≤ 1
    once b = once_from_distinct (used_blocks m.disk m.pairs) k.taken.follows.accepted.owned_once b

    -- the pair is gone, and no block came
    pub end_fewer : (b : ℕ) → occurrence_count b (used_blocks new.disk new.pairs) ≤ occurrence_count b (used_blocks m.disk m.pairs)
    end_fewer b = let e = end_used b in omega arith

    pub end_gone : occurrence_count o.at.0 (pairs_blocks new.pairs) ≡ 0
    end_gone =
        let e = end_used o.at.0 in
        let f = once o.at.0 in
        let h = count_here o.at.0 (o.at.1 ∷ []) in
        let l = count_append o.at.0 (pairs_blocks new.pairs) (file_blocks new.disk (all_unmoved_slots new.pairs)) in
        omega arith

    pub shows_dropped : HasTreeAfterDrops t new (change (disk_tree t.disk t.pairs)) []
    shows_dropped =
        let large = subst (λ n. 1024 ≤ n) (sym k.shape.block_size) k.ready.large in
        let h = shows_after dropping new g k.no_move k.used [] (λ b. let f = ap (λ z. occurrence_count b (file_blocks m.disk z)) k.empty in omega arith) k.size large k.is_chain taken_end (sym k.taken.follows.root) in
        record {
          ready = h.ready;
          shows = h.shows;
          flying = λ b. ((λ f. (k.flying b).0 ((h.flying b).0 f)), (λ f. (h.flying b).1 ((k.flying b).1 f)));
          root = h.root ∙ k.root;
        }

  -- ---- at a power loss

  same_shape : (left : Blocks) → with_blocks left m.disk ≡ with_blocks left t.disk
  same_shape left = λ j. record { block_size = k.shape.block_size j; page = k.shape.page j; order = k.shape.order j; profile = k.shape.profile j; blocks = left }

  pub left_last : (left : Blocks) → LeftByDrop m (n - 1) zero_gstate left → IsLeftOf (with_blocks left t.disk) (disk_tree t.disk t.pairs) (change (disk_tree t.disk t.pairs))
  left_last left g = subst (λ z. IsLeftOf z (disk_tree t.disk t.pairs) (change (disk_tree t.disk t.pairs))) (same_shape left)
      (left_dropped dropping (inr k.taken.follows.shows) (λ disk written. left_after (k.drops disk y (is_gone disk written)) (inr refl)) left g)
