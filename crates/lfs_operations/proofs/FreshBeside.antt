-- A step that writes one pair and two free blocks: the device afterwards, and that the image stays if the pair does.
use Rattle.std.proofs.Common.{ℕ, ◌≡◌, ◌+◌, List, [], ◌∷◌, ◌++◌, length, Some, inl, refl, sym, ap, subst, ◌∙◌, arith, ◌<◌, ◌≤◌, subst₂}
use Rattle.std.specs.Prelude.{Contains, All}
use Rattle.lfs_operations.proofs.Common.{All-from_recursion, Each, recursion_from_All, occurrence_count-Contains, Blocks, IsFree, IsInFlight, content_at, current_block, Disk, HasEitherTree, with_blocks, PairContent, FitsInPair, Pair, pairs_gstate, zero_gstate, HasFirstLogEntry, superblock_entry, IsAccepted, IsWritable, disk_tree, used_blocks, HasNoMove, no_move_from, Site, HasFirst, KeepsOutsideBoth, KeptThread, SameGeometryAs, HasOldPair, BeginWithSuperblock, map_using, thread_pair, KeepsSuperblockFirst, AreTwoFreeBlocks, map_allocating_two, HasSameBlocksInFlight, IsRecoveredWritableImage, AreUsed, block_count, addresses_blocks, all_unmoved_slots, thread_at, AreFree, IsDevice, Tree, IsSameWritable, KeepsStruct, slot_of_path, ChangesThreadBlocks}
use Rattle.lfs_model.specs.session.Moved.{AreUnused}
use Rattle.lfs_operations.proofs.Owning.{none_comes_now, stay_taken}
use Rattle.lfs_model.proofs.UsedCounts.{not_used}
use Rattle.lfs_model.proofs.Placing.{IsPlaced, device, left_still}
use Rattle.lfs_operations.proofs.Putting.{with_map}
use Rattle.lfs_operations.proofs.Threads as threads
use Rattle.lfs_model.specs.layers.Steps.{SameFileBlocks}
use Rattle.lfs_operations.specs.Wear.{KeepsTreeAndFiles}
use Rattle.lfs_operations.proofs.AtSite.{each_from}

-- what is left is a disk of the same sizes
pub shape_left : (t : KeptThread) (left : Blocks) → length left ≡ length t.disk.blocks → SameGeometryAs t.disk (with_blocks left t.disk)
shape_left t left count = record { block_size = refl; page = refl; order = refl; profile = refl; count = count }

-- the pair of that number has one content on the disk, and the two blocks have another one
pub record IsWrittenBeside (t : KeptThread) (index : ℕ) (fresh : ℕ × ℕ) (c d : PairContent) (disk : Disk) : Type 0 where
  pub shape : SameGeometryAs t.disk disk
  pub others : KeepsOutsideBoth (thread_pair t index).at fresh t.disk.blocks disk.blocks
  pub here : content_at disk (thread_pair t index).at ≡ Some c
  pub behind : content_at disk fresh ≡ Some d
  pub first : KeepsSuperblockFirst t.disk (thread_pair t index).at c disk

module _ (t : KeptThread) (ready : IsRecoveredWritableImage t) (index : ℕ) (w : Site) (p : Pair) (there : t.pairs ≡ thread_at w (p ∷ [])) (place : index ≡ length w.chain + length (w.before ++ w.left)) (fresh : ℕ × ℕ) (two : AreTwoFreeBlocks t.map fresh) where
  abbrev ps : List Pair
  ps = thread_at w (p ∷ [])

  abbrev own : List ℕ
  own = fresh.0 ∷ fresh.1 ∷ []

  pub pair_there : thread_pair t index ≡ p
  pair_there = threads.pair_is t index w p there place

  pub accepted : IsAccepted t.disk (thread_at w (p ∷ []))
  accepted = subst (IsAccepted t.disk) there ready.accepted

  pub writable : IsWritable t.disk (thread_at w (p ∷ []))
  writable = subst (IsWritable t.disk) there ready.writable

  pub settled : pairs_gstate (thread_at w (p ∷ [])) ≡ zero_gstate
  settled = ap pairs_gstate (sym there) ∙ ready.settled

  pub no_move : HasNoMove (pairs_gstate (thread_at w (p ∷ [])))
  no_move = no_move_from ps settled

  pub fit : Each (λ (z : Pair). FitsInPair t.disk.block_size t.disk.page z.content) (p ∷ (w.right ++ w.after))
  fit = each_from (λ (z : Pair). FitsInPair t.disk.block_size t.disk.page z.content) w (p ∷ []) (recursion_from_All (λ (z : Pair). FitsInPair t.disk.block_size t.disk.page z.content) ps writable.pairs)

  pub free : AreFree t.disk (thread_at w (p ∷ [])) (fresh.0 ∷ fresh.1 ∷ []) []
  free = record {
    distinct = threads.fresh_distinct t index w p there place ready.used ready.accepted.owned_once fresh two;
    in_range = All-from_recursion (λ b. b < block_count t.disk) own (threads.fresh_range t index w p there place ready.size fresh two);
  }

  pub unused : AreUnused t.disk t.pairs fresh
  unused = All-from_recursion (λ b. Contains (used_blocks t.disk t.pairs) b → ⊥) own (none fresh.0 two.first, (none fresh.1 two.second, tt))
    where
      none : (b : ℕ) → IsFree t.map b → Contains (used_blocks t.disk t.pairs) b → ⊥
      none b free h = let n = not_used t.map (used_blocks t.disk t.pairs) ready.used b free in let k = occurrence_count-Contains (used_blocks t.disk t.pairs) b h in absurd (omega arith)

  pub flying : HasSameBlocksInFlight t.map (map_using (map_allocating_two t.map fresh) fresh)
  flying b = (none_comes_now t.map fresh two b, λ h. stay_taken t.map fresh two b (λ free. absurd (not_free free h)) ∙ h)
    where
      not_free : IsFree t.map b → IsInFlight t.map b → ⊥
      not_free free h = absurd (let e = sym free ∙ h in cc)

  -- ---- the two contents are there

  pub placed : (disk : Disk) (c d : PairContent) → (HasFirst p.content.slots → BeginWithSuperblock c.slots) → IsWrittenBeside t index fresh c d disk
      → IsPlaced t.disk disk p (record { at = p.at; content = c }) (record { at = fresh; content = d } ∷ []) (fresh.0 ∷ fresh.1 ∷ [])
  placed disk c d marked h = record {
    geometry = threads.shape_same t index w p there place h.shape;
    same = threads.same_four t index w p there place disk fresh h.others;
    contents = (ap (content_at disk) (sym (threads.at_is t index w p there place)) ∙ h.here, (h.behind, tt));
    first = λ f b. subst (λ a. HasFirstLogEntry (current_block disk a) superblock_entry) (threads.at_is t index w p there place)
        (h.first (subst (λ a. HasFirstLogEntry (current_block t.disk a) superblock_entry) (sym (threads.at_is t index w p there place)) b) (marked f));
  }

  pub device_beside : (disk : Disk) (c d : PairContent) → (HasFirst p.content.slots → BeginWithSuperblock c.slots) → IsWrittenBeside t index fresh c d disk
      → IsDevice t.disk disk (thread_at w (p ∷ [])) (thread_at w (record { at = p.at; content = c } ∷ record { at = fresh; content = d } ∷ []))
  device_beside disk c d marked h = device t.disk disk w p (record { at = p.at; content = c }) (record { at = fresh; content = d } ∷ []) own accepted free.distinct (placed disk c d marked h)

  -- the thread says where they are
  pub written_now : (new : KeptThread) (v : Site) (c d : PairContent) → new.pairs ≡ thread_at v (record { at = p.at; content = c } ∷ record { at = fresh; content = d } ∷ [])
      → All (λ (z : Pair). content_at new.disk z.at ≡ Some z.content) new.pairs → KeepsSuperblockFirst t.disk (thread_pair t index).at c new.disk
      → ChangesThreadBlocks (addresses_blocks (thread_pair t index).at fresh) (with_map t (map_allocating_two t.map fresh)) new → IsWrittenBeside t index fresh c d new.disk
  written_now new v c d pairs held first writes =
      let both : List Pair = record { at = p.at; content = c } ∷ record { at = fresh; content = d } ∷ [] in
      let on = each_from (λ (z : Pair). content_at new.disk z.at ≡ Some z.content) v both
      (recursion_from_All (λ (z : Pair). content_at new.disk z.at ≡ Some z.content) (thread_at v both) (subst (All (λ (z : Pair). content_at new.disk z.at ≡ Some z.content)) pairs held)) in
      record { shape = writes.shape; others = writes.others; here = ap (content_at new.disk) (threads.at_is t index w p there place) ∙ on.0; behind = on.1.0; first = first }

  -- ---- the pair stays

  pub left_old : (left : Blocks) {after : Tree} → KeepsOutsideBoth (thread_pair t index).at fresh t.disk.blocks left → HasOldPair (with_map t (map_allocating_two t.map fresh)) index (with_blocks left t.disk)
      → HasEitherTree (with_blocks left t.disk) (disk_tree t.disk t.pairs) after
  left_old left others b = left_still t.disk left ps accepted writable (device t.disk (with_blocks left t.disk) w p p [] own accepted free.distinct still) (inl (ap (disk_tree t.disk) (sym there)))
    where
      still : IsPlaced t.disk (with_blocks left t.disk) p p [] own
      still = threads.placed_still t index w p there place (with_blocks left t.disk) fresh (shape_left t left others.count) others (record { holds = b.holds; first = b.first })

  -- ---- the image shows the same tree

  pub shows_tree : (disk : Disk) (qs : List Pair) → IsSameWritable t.disk (thread_at w (p ∷ [])) disk qs → HasEitherTree disk (disk_tree t.disk t.pairs) (disk_tree t.disk t.pairs)
  shows_tree disk qs s = record { pairs = qs; accepted = s.same.accepted; writable = s.writable; tree = inl (s.same.shows ∙ ap (disk_tree t.disk) (sym there)) }

  pub shows_files : (new : KeptThread) (qs : List Pair) → new.pairs ≡ qs → IsSameWritable t.disk (thread_at w (p ∷ [])) new.disk qs → IsDevice t.disk new.disk (thread_at w (p ∷ [])) qs
      → AreUsed new.map (used_blocks new.disk qs) → length new.map ≡ length t.map → HasSameBlocksInFlight t.map new.map → KeepsTreeAndFiles t new
  shows_files new qs pairs s on used size flying = record {
    ready = record {
      accepted = subst (IsAccepted new.disk) (sym pairs) s.same.accepted;
      writable = subst (IsWritable new.disk) (sym pairs) s.writable;
      settled = ap pairs_gstate pairs ∙ s.same.gstate ∙ settled;
      used = subst (λ z. AreUsed new.map (used_blocks new.disk z)) (sym pairs) used;
      size = size ∙ ready.size ∙ sym on.geometry.count;
      large = subst (λ n. 1024 ≤ n) (sym on.geometry.block_size) ready.large;
    };
    shows = ap (disk_tree new.disk) pairs ∙ s.same.shows ∙ ap (disk_tree t.disk) (sym there);
    structs = λ path. subst₂ (λ a b. KeepsStruct (slot_of_path a path) (slot_of_path b path)) (sym there) (sym pairs) (s.same.stays path);
    lists = subst (λ z. All (λ s. SameFileBlocks t.disk new.disk s.struct) (all_unmoved_slots z)) (sym there) on.files;
    flying = flying;
  }
