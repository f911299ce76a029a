-- A worn pair behind a hard tail is relocated to two other blocks: the image has the same tree, also in a power loss.
use Rattle.std.proofs.Common.{ℕ, suc, ◌≡◌, ◌+◌, ◌-◌, ◌%◌, ◌^◌, ◌⊎◌, inl, inr, true, cond, List, [], ◌∷◌, ◌++◌, length, Some, refl, sym, ap, ap₂, subst, subst₂, ◌∙◌, arith, set, ◌&&◌}
use Rattle.lfs_operations.proofs.Common.{All-from_recursion, once_from_distinct, Blocks, AreUsed, BlockStates, content_at, Disk, HasEitherTree, with_blocks, FitsInPair, Pair, pairs_gstate, is_hard_tail, addresses_blocks, has_superblock, count_before_root, disk_tree, used_blocks, Each, HasNoMove, Site, KeepsOutsideBoth, KeptThread, HasOldPair, ChangesThreadBlocks, map_freeing, map_using, thread_pair, option_map, has_no_entry, is_worn, pair_joined_to, device_from, IsSameWritable, CanMoveNext, IsNextMoved, LossLeavesNextMoved, pair_revision, KeepsSuperblockFirst, AreTwoFreeBlocks, map_allocating_two, HasSameBlocksInFlight, CallEvent, CleanLossLeaves, SurvivesLossSince, AreFree}
use Rattle.lfs_model.specs.format.Thread.{superblock_first_or_empty}
use Rattle.lfs_model.proofs.MovedBlocks.{relocated_blocks, relocated_length}
use Rattle.lfs_model.proofs.Relocated.{IsRelocated}
use Rattle.lfs_model.proofs.Worn.{pair_moves}
use Rattle.lfs_thread.specs.Moves.{BeginsWithAnySuperblock, NextMovedOnDisk}
use Rattle.lfs_operations.specs.Wear.{CanRelocateWornPair, IsWornPairRelocated}
use Rattle.lfs_operations.proofs.Dropped.{HasMapWithout, map_without}
use Rattle.lfs_operations.proofs.DroppedTails.{TwoAt, gone_is, two_at}
use Rattle.lfs_operations.proofs.Owning.{length_now, used_more}
use Rattle.lfs_operations.proofs.FreshBeside as beside
use Rattle.lfs_operations.proofs.FreshBeside.{IsWrittenBeside, shape_left}
use Rattle.lfs_model.proofs.Placing.{IsPlaced}
use Rattle.lfs_operations.proofs.Putting.{held, with_map, survives_step}
use Rattle.lfs_model.proofs.PairLists.{set_at}

-- ---- lists

set_next : (xs : List Pair) (q x : Pair) (ys : List Pair) (y : Pair) → set (xs ++ q ∷ x ∷ ys) (length xs + 1) y ≡ xs ++ q ∷ y ∷ ys
set_next [] q x ys y = refl
set_next (z ∷ xs) q x ys y =
    let e : suc (length xs) + 1 ≡ suc (length xs + 1) = omega arith in
    ap (λ (n : ℕ). set (z ∷ (xs ++ q ∷ x ∷ ys)) n y) e ∙ ap (λ k. z ∷ k) (set_next xs q x ys y)

-- as many pairs come before the root directory's first one
module _ (p x : Pair) (to : ℕ × ℕ) (back : List Pair) (hard : is_hard_tail p.content.tail ≡ true) where
  superblock_same : (ahead : List Pair) → has_superblock (ahead ++ pair_joined_to to p.content.slots p ∷ record x { at = to } ∷ back) ≡ has_superblock (ahead ++ p ∷ x ∷ back)
  superblock_same [] = ap (λ b. superblock_first_or_empty p.content.slots (b && has_superblock (x ∷ back))) (sym hard)
  superblock_same (z ∷ ahead) = ap (λ b. superblock_first_or_empty z.content.slots (is_hard_tail z.content.tail && b)) (superblock_same ahead)

  count_same : (ahead : List Pair) → count_before_root (ahead ++ pair_joined_to to p.content.slots p ∷ record x { at = to } ∷ back) ≡ count_before_root (ahead ++ p ∷ x ∷ back)
  count_same [] = ap (λ b. cond (has_superblock (x ∷ back) && (has_no_entry p.content.slots && b)) (1 + count_before_root (x ∷ back)) 0) (sym hard)
  count_same (z ∷ ahead) = ap₂ (λ b n. cond (b && (has_no_entry z.content.slots && is_hard_tail z.content.tail)) (1 + n) 0) (superblock_same ahead) (count_same ahead)

-- ---- on a disk

-- the pair before leads to the two blocks, and they have what the worn pair had
record IsThere (t : KeptThread) (front : ℕ) (p x : Pair) (fresh : ℕ × ℕ) (disk : Disk) : Type 0 where
  written : IsWrittenBeside t front fresh (pair_joined_to fresh p.content.slots p).content x.content disk
  anew : BeginsWithAnySuperblock (record x { at = fresh }) disk

module _ (t : KeptThread) (index : ℕ) (fresh : ℕ × ℕ) (can : CanRelocateWornPair t index fresh) where
  -- the pair before the worn one, and the worn one
  at : TwoAt t.pairs (index - 1)
  at = two_at t.pairs (index - 1) (let a = can.above in let b = can.below in omega arith)

  abbrev two : AreTwoFreeBlocks t.map fresh
  two = can.free

  abbrev front : ℕ
  front = index - 1

  abbrev p : Pair
  p = at.one

  abbrev x : Pair
  x = at.other

  abbrev q : Pair
  q = pair_joined_to fresh at.one.content.slots at.one

  abbrev y : Pair
  y = record at.other { at = fresh }

  abbrev ps : List Pair
  ps = at.ahead ++ at.one ∷ at.other ∷ at.back

  abbrev qs : List Pair
  qs = at.ahead ++ q ∷ y ∷ at.back

  -- the pair before, by a site
  abbrev w : Site
  w = record { chain = at.ahead; before = []; left = []; right = []; after = at.other ∷ at.back }

  place : index - 1 ≡ length at.ahead + 0
  place = let n = at.number in omega arith

  front_there : thread_pair t (index - 1) ≡ at.one
  front_there = beside.pair_there t can.ready front w p at.is place fresh two

  next_there : thread_pair t (index - 1 + 1) ≡ at.other
  next_there = gone_is t front at.ahead p x at.back at.is at.number

  worn_there : thread_pair t index ≡ at.other
  worn_there = ap (thread_pair t) (let a = can.above in omega arith) ∙ next_there

  hard : is_hard_tail at.one.content.tail ≡ true
  hard = ap (λ (z : Pair). is_hard_tail z.content.tail) (sym front_there) ∙ can.joined

  no_move : HasNoMove (pairs_gstate ps)
  no_move = beside.no_move t can.ready front w p at.is place fresh two

  free : AreFree t.disk ps (fresh.0 ∷ fresh.1 ∷ []) []
  free = beside.free t can.ready front w p at.is place fresh two

  fit : Each (λ (z : Pair). FitsInPair t.disk.block_size t.disk.page z.content) (at.one ∷ at.other ∷ at.back)
  fit = beside.fit t can.ready front w p at.is place fresh two

  pub can_move : {s : KeptThread} → s ≡ with_map t (map_allocating_two t.map fresh) → CanMoveNext s (index - 1) fresh
  can_move taken = subst (λ (s : KeptThread). CanMoveNext s (index - 1) fresh) (sym taken) (record {
    below = let a = can.above in let b = can.below in omega arith;
    joined = can.joined;
    fits = subst (λ (z : Pair). FitsInPair t.disk.block_size t.disk.page z.content) (sym front_there) fit.0;
    next_fits = subst (λ (z : Pair). FitsInPair t.disk.block_size t.disk.page z.content) (sym next_there) fit.1.0;
    held = held t.map fresh two;
  })

  -- ---- the pair is there

  module _ (disk : Disk) (is : IsThere t (index - 1) at.one at.other fresh disk) where
    relocated : IsRelocated t.disk disk at.ahead at.one at.other (pair_joined_to fresh at.one.content.slots at.one) (record at.other { at = fresh }) at.back
    relocated = record {
      device = device_from t.disk disk at.ahead [] p (x ∷ []) q (y ∷ []) at.back (fresh.0 ∷ fresh.1 ∷ []) (beside.accepted t can.ready front w p at.is place fresh two) free.distinct
          (record { geometry = placed.geometry; same = λ b none. placed.same b (omega arith) })
          (beside.device_beside t can.ready front w p at.is place fresh two disk q.content x.content (λ h. (h.kind, h.name)) is.written).first
          (All-from_recursion (λ r. content_at disk r.at ≡ Some r.content) (q ∷ y ∷ []) placed.contents);
      free = free;
      hard = hard;
      at = refl;
      slots = refl;
      delta = refl;
      tail = refl;
      same = refl;
    }
      where
        placed : IsPlaced t.disk disk p q (y ∷ []) (fresh.0 ∷ fresh.1 ∷ [])
        placed = beside.placed t can.ready front w p at.is place fresh two disk q.content x.content (λ h. (h.kind, h.name)) is.written

    same_writable : IsSameWritable t.disk (at.ahead ++ at.one ∷ at.other ∷ at.back) disk (at.ahead ++ pair_joined_to fresh at.one.content.slots at.one ∷ record at.other { at = fresh } ∷ at.back)
    same_writable = pair_moves t.disk disk at.ahead p x q y at.back (beside.accepted t can.ready front w p at.is place fresh two) (beside.writable t can.ready front w p at.is place fresh two) no_move relocated
        (λ h. is.anew (h.kind, h.name))

  -- ---- at a power loss

  left_moved : (left : Blocks) → LossLeavesNextMoved (with_map t (map_allocating_two t.map fresh)) (index - 1) fresh left → HasEitherTree (with_blocks left t.disk) (disk_tree t.disk t.pairs) (disk_tree t.disk t.pairs)
  left_moved left l = go l.content
    where
      go : HasOldPair (with_map t (map_allocating_two t.map fresh)) (index - 1) (with_blocks left t.disk) ⊎ NextMovedOnDisk (with_map t (map_allocating_two t.map fresh)) (index - 1) fresh (with_blocks left t.disk)
          → HasEitherTree (with_blocks left t.disk) (disk_tree t.disk t.pairs) (disk_tree t.disk t.pairs)
      go (inl b) = beside.left_old t can.ready front w p at.is place fresh two left l.others b
      go (inr n) = beside.shows_tree t can.ready front w p at.is place fresh two (with_blocks left t.disk) qs (same_writable (with_blocks left t.disk)
          (subst₂ (λ (a b : Pair). IsThere t (index - 1) a b fresh (with_blocks left t.disk)) front_there next_there
          (record { written = record { shape = shape_left t left l.others.count; others = l.others; here = n.leads; behind = n.moved; first = n.first }; anew = n.anew })))

  pub move_survives : {s : KeptThread} {new : List CallEvent} → s ≡ with_map t (map_allocating_two t.map fresh) → CleanLossLeaves s.history new (LossLeavesNextMoved s (index - 1) fresh)
      → SurvivesLossSince t.disk t.history new (disk_tree t.disk t.pairs) (disk_tree t.disk t.pairs)
  move_survives {new = new} taken stops = survives_step t.disk left_moved (subst (λ (s : KeptThread). CleanLossLeaves s.history new (LossLeavesNextMoved s (index - 1) fresh)) taken stops)

  -- ---- it was done

  module _ (new : KeptThread) (is : IsNextMoved (with_map t (map_allocating_two t.map fresh)) (index - 1) fresh new)
      (writes : ChangesThreadBlocks (addresses_blocks (thread_pair t (index - 1)).at fresh) (with_map t (map_allocating_two t.map fresh)) new) where
    pairs : new.pairs ≡ qs
    pairs = is.pairs ∙ ap₂ (λ (a b : Pair). set (set t.pairs front (pair_joined_to fresh a.content.slots a)) (front + 1) (record b { at = fresh })) front_there next_there
        ∙ ap₂ (λ (z : List Pair) (i : ℕ). set (set z i q) (i + 1) y) at.is (sym at.number)
        ∙ ap (λ z. set z (length at.ahead + 1) y) (set_at at.ahead p (x ∷ at.back) q) ∙ set_next at.ahead q x at.back y

    there : IsThere t (index - 1) at.one at.other fresh new.disk
    there = record {
      written = beside.written_now t can.ready front w p at.is place fresh two new (record w { after = at.back }) q.content x.content pairs is.thread.contents
          (subst (λ (z : Pair). KeepsSuperblockFirst t.disk (thread_pair t (index - 1)).at (pair_joined_to fresh z.content.slots z).content new.disk) front_there is.first) writes;
      anew = subst (λ (z : Pair). BeginsWithAnySuperblock (record z { at = fresh }) new.disk) next_there is.anew;
    }

    -- ---- the map

    abbrev us : List ℕ
    us = fresh.0 ∷ fresh.1 ∷ used_blocks t.disk ps

    abbrev using : BlockStates
    using = map_using (map_allocating_two t.map fresh) fresh

    now : HasMapWithout using new.map (used_blocks new.disk qs)
    now = map_without using at.other.at us (used_blocks new.disk qs)
        (used_more t.map fresh two (used_blocks t.disk ps) us (λ b. omega arith) (subst (λ z. AreUsed t.map (used_blocks t.disk z)) at.is can.ready.used))
        (λ b. once_from_distinct us free.distinct b)
        (λ b. let e = relocated_blocks t.disk new.disk at.ahead p x q y at.back no_move (relocated new.disk there) b in omega arith)
        new.map (is.map ∙ ap (λ (z : Pair). map_freeing using z.at) next_there)

    flying : HasSameBlocksInFlight t.map new.map
    flying b = let f = beside.flying t can.ready front w p at.is place fresh two b in ((λ h. f.0 ((now.flying b).0 h)), (λ h. (now.flying b).1 (f.1 h)))

    moved_now : IsWornPairRelocated t index fresh new
    moved_now = record {
      moved = record {
        front = at.ahead;
        before = at.one;
        worn = at.other;
        back = at.back;
        to = fresh;
        was = at.is;
        joined = hard;
        is = pairs;
        unused = beside.unused t can.ready front w p at.is place fresh two;
        due = ap (is_worn t.disk) (sym worn_there) ∙ can.worn;
      };
      to = refl;
      number = let n = at.number in let a = can.above in omega arith;
      files = beside.shows_files t can.ready front w p at.is place fresh two new qs pairs (same_writable new.disk there) (relocated new.disk there).device now.used (now.size ∙ length_now t.map fresh two) flying;
      others = subst (λ (z : Pair). KeepsOutsideBoth z.at fresh t.disk.blocks new.disk.blocks) front_there writes.others;
      revision = is.revision ∙ ap (λ (z : Pair). option_map (λ r. (r + 1) % 2 ^ 32) (pair_revision t.disk z.at)) next_there;
      as_many = ap (λ z. length (used_blocks new.disk z)) pairs ∙ relocated_length t.disk new.disk at.ahead p x q y at.back no_move (relocated new.disk there)
          ∙ ap (λ z. length (used_blocks t.disk z)) (sym at.is);
      root = ap count_before_root pairs ∙ count_same p x fresh at.back hard at.ahead ∙ ap count_before_root (sym at.is);
    }

  pub moved_at : {s new : KeptThread} → s ≡ with_map t (map_allocating_two t.map fresh) → IsNextMoved s (index - 1) fresh new → ChangesThreadBlocks (addresses_blocks (thread_pair s (index - 1)).at fresh) s new → IsWornPairRelocated t index fresh new
  moved_at {new = new} taken is writes = moved_now new (subst (λ (s : KeptThread). IsNextMoved s (index - 1) fresh new) taken is)
      (subst (λ (s : KeptThread). ChangesThreadBlocks (addresses_blocks (thread_pair s (index - 1)).at fresh) s new) taken writes)
