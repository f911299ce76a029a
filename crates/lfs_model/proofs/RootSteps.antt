-- The steps by which the root directory begins at another pair, for the functions that move a worn one: its first pair moves behind
-- the superblock's, or leaves the superblock's pair.
use Rattle.std.proofs.Common.{ℕ, ◌≡◌, ◌+◌, ◌≤◌, true, false, cond, ◌&&◌, List, [], ◌∷◌, ◌++◌, length, take, drop, slice_get, zero, suc, ◌<◌, ◌-◌, take-append-drop, length-take, length-drop, option_map, Some, refl, sym, ap, ap₂, subst, ◌∙◌, arith, append_assoc, length-append}
use Rattle.std.specs.Prelude.{All, sum_by}
use Rattle.lfs_model.proofs.Common.{and_from, drop-append-add, sum_by-cons, All-from_recursion, recursion_from_All, Disk, SameGeometry, pair_capacity, slots_limit, Slot, PairContent, slot_size, FitsInPair, content_at, current_block, Pair, pairs_blocks, superblock_pair_address, AreLinkedByTails, address_blocks, pairs_from_nonempty, first_address, has_slots, is_hard_tail, begins_with_superblock, superblock_first_or_empty, has_no_entry, chain_may_continue, has_superblock, count_before_root, pairs_gstate, pairs_from_root, HasFirstLogEntry, superblock_entry, IsSuperblockFirst, SuperblockFirstIfAny, RepeatsSuperblockStruct, IsFileOrDirectory, first_slot_name, first_pair_slots, IsAccepted, IsWritableSlot, HasNoEmptyPairs, IsWritable, SameFileBlocks, struct_blocks, all_unmoved_slots}
use Rattle.lfs_model.specs.declared.limits.Profile.{Profile}
use Rattle.lfs_model.proofs.Counts.{occurrence_count, Each}
use Rattle.lfs_model.proofs.Global.{HasNoMove}
use Rattle.lfs_model.proofs.Superblocks.{Mark, StructMark, HasMark, IsChain, pairs_behind, hold_from_rules, meets_starting, starts, from_held}
use Rattle.lfs_model.proofs.Changes.{links_changed}
use Rattle.lfs_model.proofs.Splices.{file_blocks, AreFree, IsShape, split_shape, move_shape}
use Rattle.lfs_model.proofs.Writable.{IsWithin}
use Rattle.lfs_model.proofs.Relocated.{IsRelocated, IsUnloaded, relocated_gstate, unloaded_gstate, each_within, within_same}
use Rattle.lfs_model.proofs.RootMoved.{pairs_count, IsRootMoved, IsSameImage, root_moved}

-- ---- the writing profile

writable_from : (disk new : Disk) (qs : List Pair) → SameGeometry disk new → Each (IsWithin disk.profile disk.block_size disk.page) qs → HasNoEmptyPairs false (pairs_from_root qs) → IsWritable new qs
writable_from disk new qs g h empties = record {
  pairs = subst (λ b. All (λ r. FitsInPair b new.page r.content) qs) (sym g.block_size) (subst (λ z. All (λ r. FitsInPair disk.block_size z r.content) qs) (sym g.page)
      (All-from_recursion (λ r. FitsInPair disk.block_size disk.page r.content) qs (pair_parts qs h)));
  slots = subst (λ (k : Profile). All (λ r. All (IsWritableSlot k new.block_size new.page) r.content.slots) qs) (sym g.profile)
      (subst (λ b. All (λ r. All (IsWritableSlot disk.profile b new.page) r.content.slots) qs) (sym g.block_size)
      (subst (λ z. All (λ r. All (IsWritableSlot disk.profile disk.block_size z) r.content.slots) qs) (sym g.page)
      (All-from_recursion (λ r. All (IsWritableSlot disk.profile disk.block_size disk.page) r.content.slots) qs (slot_parts qs h))));
  no_empty_pair = empties;
}
  where
    pair_parts : (rs : List Pair) → Each (IsWithin disk.profile disk.block_size disk.page) rs → Each (λ r. FitsInPair disk.block_size disk.page r.content) rs
    pair_parts [] k = tt
    pair_parts (r ∷ rs) k = (k.0.pair, pair_parts rs k.1)

    slot_parts : (rs : List Pair) → Each (IsWithin disk.profile disk.block_size disk.page) rs → Each (λ r. All (IsWritableSlot disk.profile disk.block_size disk.page) r.content.slots) rs
    slot_parts [] k = tt
    slot_parts (r ∷ rs) k = (k.0.slots, slot_parts rs k.1)

-- the root directory's first pair has another address, and what it had
empties_same : (chain now : List Pair) (r s : Pair) (rest : List Pair) → IsChain chain (r ∷ rest) → IsChain now (s ∷ rest) → s.content.tail ≡ r.content.tail →
    HasNoEmptyPairs false (pairs_from_root (chain ++ r ∷ rest)) → HasNoEmptyPairs false (pairs_from_root (now ++ s ∷ rest))
empties_same chain now r s rest was is tail h = subst (HasNoEmptyPairs false) (sym (pairs_behind now (s ∷ rest) is))
    ((λ e. absurd (cc)), subst (λ t. HasNoEmptyPairs (is_hard_tail t) rest) (sym tail) (subst (HasNoEmptyPairs false) (pairs_behind chain (r ∷ rest) was) h).1)

-- an accepted image in the profile, with the same tree
pub record IsSameWritable (disk : Disk) (ps : List Pair) (new : Disk) (qs : List Pair) : Type 0 where
  pub same : IsSameImage disk ps new qs
  pub writable : IsWritable new qs

-- ---- pairs of the same slots, whose tails are hard where theirs were

abbrev SameOutlines : List Pair → List Pair → Type 0
SameOutlines [] [] = Unit {0}
SameOutlines [] (q ∷ qs) = ⊥
SameOutlines (p ∷ ps) [] = ⊥
SameOutlines (p ∷ ps) (q ∷ qs) = (q.content.slots ≡ p.content.slots) × (is_hard_tail q.content.tail ≡ is_hard_tail p.content.tail) × SameOutlines ps qs

outlines_itself : (ps : List Pair) → SameOutlines ps ps
outlines_itself [] = tt
outlines_itself (p ∷ ps) = (refl, refl, outlines_itself ps)

outlines_behind : (front ps qs : List Pair) → SameOutlines ps qs → SameOutlines (front ++ ps) (front ++ qs)
outlines_behind [] ps qs h = h
outlines_behind (p ∷ front) ps qs h = (refl, refl, outlines_behind front ps qs h)

superblock_alike : (ps qs : List Pair) → SameOutlines ps qs → has_superblock qs ≡ has_superblock ps
superblock_alike [] [] h = refl
superblock_alike [] (q ∷ qs) h = absurd h
superblock_alike (p ∷ ps) [] h = absurd h
superblock_alike (p ∷ ps) (q ∷ qs) h = ap₂ (λ slots b. superblock_first_or_empty slots b) h.0 (ap₂ (λ x y. x && y) h.1 (superblock_alike ps qs h.2))

count_alike : (ps qs : List Pair) → SameOutlines ps qs → count_before_root qs ≡ count_before_root ps
count_alike [] [] h = refl
count_alike [] (q ∷ qs) h = absurd h
count_alike (p ∷ ps) [] h = absurd h
count_alike (p ∷ ps) (q ∷ qs) h =
    ap₂ (λ b n. cond b (1 + n) 0) (ap₂ (λ x y. x && y) (superblock_alike ps qs h.2) (ap₂ (λ slots b. has_no_entry slots && b) h.0 h.1)) (count_alike ps qs h.2)

named_alike : (ps qs : List Pair) → SameOutlines ps qs → first_slot_name (pairs_from_nonempty qs) ≡ first_slot_name (pairs_from_nonempty ps)
named_alike [] [] h = refl
named_alike [] (q ∷ qs) h = absurd h
named_alike (p ∷ ps) [] h = absurd h
named_alike (p ∷ ps) (q ∷ qs) h = go p.content.slots q.content.slots h.0 refl refl (named_alike ps qs h.2)
  where
    go : (s t : List Slot) → t ≡ s → p.content.slots ≡ s → q.content.slots ≡ t → first_slot_name (pairs_from_nonempty qs) ≡ first_slot_name (pairs_from_nonempty ps) →
        first_slot_name (pairs_from_nonempty (q ∷ qs)) ≡ first_slot_name (pairs_from_nonempty (p ∷ ps))
    go [] [] e f k next = ap (λ z. first_slot_name (cond (has_slots z) (q ∷ qs) (pairs_from_nonempty qs))) k ∙ next ∙ sym (ap (λ z. first_slot_name (cond (has_slots z) (p ∷ ps) (pairs_from_nonempty ps))) f)
    go [] (y ∷ t) e f k next = absurd (cc)
    go (x ∷ s) [] e f k next = absurd (cc)
    go (x ∷ s) (y ∷ t) e f k next = ap (λ z. first_slot_name (cond (has_slots z) (q ∷ qs) (pairs_from_nonempty qs))) k ∙ ap (λ z. first_slot_name (record { at = q.at; content = record { slots = z; tail = q.content.tail; move = q.content.move } } ∷ qs)) h.0
        ∙ sym (ap (λ z. first_slot_name (cond (has_slots z) (p ∷ ps) (pairs_from_nonempty ps))) f)

each_alike : (P : List Slot → Type 0) (ps qs : List Pair) → SameOutlines ps qs → Each (λ r. P r.content.slots) ps → Each (λ r. P r.content.slots) qs
each_alike P [] [] h k = tt
each_alike P [] (q ∷ qs) h k = absurd h
each_alike P (p ∷ ps) [] h k = absurd h
each_alike P (p ∷ ps) (q ∷ qs) h k = (subst P (sym h.0) k.0, each_alike P ps qs h.2 k.1)

within_alike : (disk : Disk) (ps qs : List Pair) → SameOutlines ps qs → Each (IsWithin disk.profile disk.block_size disk.page) ps → Each (IsWithin disk.profile disk.block_size disk.page) qs
within_alike disk [] [] h k = tt
within_alike disk [] (q ∷ qs) h k = absurd h
within_alike disk (p ∷ ps) [] h k = absurd h
within_alike disk (p ∷ ps) (q ∷ qs) h k = (within_same disk p q h.0 k.0, within_alike disk ps qs h.2 k.1)

outlines_front : (xs ys us vs : List Pair) → length ys ≡ length xs → SameOutlines (xs ++ us) (ys ++ vs) → SameOutlines xs ys
outlines_front [] [] us vs e h = tt
outlines_front [] (y ∷ ys) us vs e h = absurd (omega arith)
outlines_front (x ∷ xs) [] us vs e h = absurd (omega arith)
outlines_front (x ∷ xs) (y ∷ ys) us vs e h = (h.0, h.1, outlines_front xs ys us vs (omega arith) h.2)

-- ---- the root's first pair moves behind the superblock's, or a pair of the superblock's does

-- The pairs before the root's first one, that one and the others, before and after. As many are before it.
record AreParted (old qs : List Pair) : Type 0 where
  chain : List Pair
  r : Pair
  rest : List Pair
  now : List Pair
  s : Pair
  was : old ≡ chain ++ r ∷ rest
  is : qs ≡ now ++ s ∷ rest
  alike : length now ≡ length chain
  number : count_before_root old ≡ length chain
  slots : s.content.slots ≡ r.content.slots
  tail : s.content.tail ≡ r.content.tail

-- there is such a pair
record HasPair (ps : List Pair) : Type 0 where
  first : Pair
  others : List Pair
  is : ps ≡ first ∷ others

has_pair : (ps : List Pair) → begins_with_superblock (first_pair_slots ps) ≡ true → HasPair ps
has_pair [] e = absurd (cc)
has_pair (p ∷ ps) e = record { first = p; others = ps; is = refl }

module _ (disk new : Disk) (front : List Pair) (p x q y : Pair) (back : List Pair) (ok : IsAccepted disk (front ++ p ∷ x ∷ back)) (fits : IsWritable disk (front ++ p ∷ x ∷ back))
    (none : HasNoMove (pairs_gstate (front ++ p ∷ x ∷ back))) (many : length front < count_before_root (front ++ p ∷ x ∷ back)) (c : IsRelocated disk new front p x q y back)
    (first : HasFirstLogEntry (current_block new (first_address (pairs_from_nonempty (front ++ q ∷ y ∷ back)))) superblock_entry) where
  abbrev old : List Pair
  old = front ++ p ∷ x ∷ back

  abbrev qs : List Pair
  qs = front ++ q ∷ y ∷ back

  hard_same : is_hard_tail q.content.tail ≡ is_hard_tail p.content.tail
  hard_same = ap is_hard_tail c.tail ∙ sym c.hard

  outlines : SameOutlines old qs
  outlines = outlines_behind front (p ∷ x ∷ back) (q ∷ y ∷ back)
      (c.slots, hard_same, (ap (λ (z : PairContent). z.slots) c.same, ap (λ (z : PairContent). is_hard_tail z.tail) c.same, outlines_itself back))

  parted : AreParted old qs
  parted = go (count_before_root old - (length front + 1)) (omega arith)
    where
      go : (k : ℕ) → count_before_root old ≡ length front + (1 + k) → AreParted old qs
      go zero e = record {
        chain = front ++ p ∷ [];
        r = x;
        rest = back;
        now = front ++ q ∷ [];
        s = y;
        was = sym (append_assoc front (p ∷ []) (x ∷ back));
        is = sym (append_assoc front (q ∷ []) (y ∷ back));
        alike = length-append front (q ∷ []) ∙ sym (length-append front (p ∷ []));
        number = e ∙ sym (length-append front (p ∷ []));
        slots = ap (λ (z : PairContent). z.slots) c.same;
        tail = ap (λ (z : PairContent). z.tail) c.same;
      }
      go (suc j) e =
          let count : count_before_root old ≡ length front + suc (suc j) = omega (arith, e) in
          let there : pairs_from_root old ≡ drop j back = ap (λ n. drop n old) count ∙ drop-append-add front (p ∷ x ∷ back) (suc (suc j)) in
          let more = has_pair (drop j back) (ap (λ z. begins_with_superblock (first_pair_slots z)) (sym there) ∙ ok.root) in
          let all : back ≡ take j back ++ more.first ∷ more.others = sym (take-append-drop j back) ∙ ap (λ z. take j back ++ z) more.is in
          record {
            chain = front ++ p ∷ x ∷ take j back;
            r = more.first;
            rest = more.others;
            now = front ++ q ∷ y ∷ take j back;
            s = more.first;
            was = ap (λ z. front ++ p ∷ x ∷ z) all ∙ sym (append_assoc front (p ∷ x ∷ take j back) (more.first ∷ more.others));
            is = ap (λ z. front ++ q ∷ y ∷ z) all ∙ sym (append_assoc front (q ∷ y ∷ take j back) (more.first ∷ more.others));
            alike = length-append front (q ∷ y ∷ take j back) ∙ sym (length-append front (p ∷ x ∷ take j back));
            number = omega (arith, e, length-append front (p ∷ x ∷ take j back), length-take j back, length-drop j back, ap length more.is);
            slots = refl;
            tail = refl;
          }

  outlines_parted : SameOutlines (parted.chain ++ parted.r ∷ parted.rest) (parted.now ++ parted.s ∷ parted.rest)
  outlines_parted = subst (λ z. SameOutlines z (parted.now ++ parted.s ∷ parted.rest)) parted.was (subst (SameOutlines old) parted.is outlines)

  outlines_chain : SameOutlines parted.chain parted.now
  outlines_chain = outlines_front parted.chain parted.now (parted.r ∷ parted.rest) (parted.s ∷ parted.rest) parted.alike outlines_parted

  was_chain : IsChain parted.chain (parted.r ∷ parted.rest)
  was_chain = ap count_before_root (sym parted.was) ∙ parted.number

  is_chain : IsChain parted.now (parted.s ∷ parted.rest)
  is_chain = count_alike (parted.chain ++ parted.r ∷ parted.rest) (parted.now ++ parted.s ∷ parted.rest) outlines_parted ∙ was_chain ∙ sym parted.alike

  shape : IsShape p (x ∷ []) q (y ∷ []) (y.at.0 ∷ y.at.1 ∷ [])
  shape = move_shape p x q y c.at c.tail (ap (λ (z : PairContent). z.tail) c.same) (λ e. ap begins_with_superblock c.slots ∙ e)

  blocks_old : (b : ℕ) → occurrence_count b (pairs_blocks old) ≡ occurrence_count b (pairs_blocks (parted.chain ++ parted.r ∷ [])) + occurrence_count b (pairs_blocks parted.rest)
  blocks_old b = omega (arith, ap (λ z. occurrence_count b (pairs_blocks z)) parted.was, pairs_count b parted.chain (parted.r ∷ parted.rest), pairs_count b (parted.r ∷ []) parted.rest, pairs_count b parted.chain (parted.r ∷ []))

  blocks_new : (b : ℕ) → occurrence_count b (pairs_blocks qs) ≡ occurrence_count b (pairs_blocks (parted.now ++ parted.s ∷ [])) + occurrence_count b (pairs_blocks parted.rest)
  blocks_new b = omega (arith, ap (λ z. occurrence_count b (pairs_blocks z)) parted.is, pairs_count b parted.now (parted.s ∷ parted.rest), pairs_count b (parted.s ∷ []) parted.rest, pairs_count b parted.now (parted.s ∷ []))

  moved : IsRootMoved disk new parted.chain parted.r parted.now parted.s parted.rest (address_blocks y.at)
  moved = record {
    geometry = c.device.geometry;
    contents = subst (All (λ r. content_at new r.at ≡ Some r.content)) parted.is c.device.contents;
    first = subst (λ z. HasFirstLogEntry (current_block new (first_address (pairs_from_nonempty z))) superblock_entry) parted.is first;
    files = subst (λ z. All (λ u. SameFileBlocks disk new u.struct) (all_unmoved_slots z)) parted.was c.device.files;
    links = subst (AreLinkedByTails (Some superblock_pair_address)) parted.is (links_changed front (p ∷ x ∷ back) (q ∷ y ∷ back) (shape.links back) (Some superblock_pair_address) ok.thread.links);
    slots = parted.slots;
    tail = parted.tail;
    still = ap pairs_gstate (sym parted.is) ∙ relocated_gstate front p x q y back c.delta c.same ∙ ap pairs_gstate parted.was;
    is_chain = is_chain;
    marked = λ m h k. each_alike (SuperblockFirstIfAny (HasMark m)) parted.chain parted.now outlines_chain h;
    named = named_alike (parted.chain ++ parted.r ∷ parted.rest) (parted.now ++ parted.s ∷ parted.rest) outlines_parted;
    blocks = λ b. omega (arith, shape.blocks b, blocks_old b, blocks_new b, pairs_count b front (q ∷ y ∷ back), pairs_count b (q ∷ y ∷ []) back, pairs_count b front (p ∷ x ∷ back), pairs_count b (p ∷ x ∷ []) back);
    free = subst (λ z. AreFree disk z (address_blocks y.at) []) parted.was c.free;
  }

  pub relocate_root : IsSameWritable disk old new qs
  relocate_root = record {
    same = subst (λ z. IsSameImage disk z new qs) (sym parted.was) (subst (IsSameImage disk (parted.chain ++ parted.r ∷ parted.rest) new) (sym parted.is)
        (root_moved disk new parted.chain parted.r parted.now parted.s parted.rest (address_blocks y.at) was_chain (subst (IsAccepted disk) parted.was ok) (subst (λ z. HasNoMove (pairs_gstate z)) parted.was none) moved));
    writable = writable_from disk new qs c.device.geometry (within_alike disk old qs outlines (each_within disk old fits))
        (subst (λ z. HasNoEmptyPairs false (pairs_from_root z)) (sym parted.is) (empties_same parted.chain parted.now parted.r parted.s parted.rest was_chain is_chain parted.tail
        (subst (λ z. HasNoEmptyPairs false (pairs_from_root z)) parted.was fits.no_empty_pair)));
  }

-- ---- the root leaves the superblock's pair

take_marked : (P : Slot → Type 0) (slots : List Slot) → IsSuperblockFirst P slots → IsSuperblockFirst P (take 1 slots)
take_marked P [] h = absurd h
take_marked P (s ∷ slots) h = (h.0, h.1, All-from_recursion IsFileOrDirectory [] tt)

headed : (P : Slot → Type 0) (slots : List Slot) → IsSuperblockFirst P slots → SuperblockFirstIfAny P slots
headed P [] h = absurd h
headed P (s ∷ slots) h = h

take_bare : (slots : List Slot) → begins_with_superblock slots ≡ true → has_no_entry (take 1 slots) ≡ true
take_bare [] e = refl
take_bare (s ∷ slots) e = e

take_first : (slots : List Slot) → slice_get (take 1 slots) 0 ≡ slice_get slots 0
take_first [] = refl
take_first (s ∷ slots) = refl

take_fits : (block_size page : ℕ) (slots : List Slot) → sum_by slot_size slots ≤ pair_capacity block_size page → length slots ≤ slots_limit →
    (sum_by slot_size (take 1 slots) ≤ pair_capacity block_size page) × (length (take 1 slots) ≤ slots_limit)
take_fits block_size page [] h k = (h, k)
take_fits block_size page (s ∷ slots) h k = ((let e = sum_by-cons slot_size s slots in let f = sum_by-cons slot_size s [] in omega arith), (omega arith))

take_each : (P : Slot → Type 0) (slots : List Slot) → Each P slots → Each P (take 1 slots)
take_each P [] h = tt
take_each P (s ∷ slots) h = (h.0, tt)

module _ (disk new : Disk) (x q y : Pair) (back : List Pair) (ok : IsAccepted disk (x ∷ back)) (fits : IsWritable disk (x ∷ back))
    (none : HasNoMove (pairs_gstate (x ∷ back))) (number : count_before_root (x ∷ back) ≡ 0) (c : IsUnloaded disk new [] x q y back (take 1 x.content.slots)) where
  abbrev bytes : List ℕ
  bytes = ok.superblock.0

  -- the superblock comes first
  held : IsSuperblockFirst (RepeatsSuperblockStruct disk.profile.versions bytes) x.content.slots
  held = (hold_from_rules (StructMark disk.profile.versions bytes) [] x back number ok.superblock.1.1 ok.root ok.slots).1.0

  kept_marked : (m : Mark) → IsSuperblockFirst (HasMark m) x.content.slots → IsSuperblockFirst (HasMark m) q.content.slots
  kept_marked m h = subst (IsSuperblockFirst (HasMark m)) (sym c.kept) (take_marked (HasMark m) x.content.slots h)

  -- and names no file
  pub kept_bare : file_blocks new (take 1 x.content.slots) ≡ []
  kept_bare = go x.content.slots held
    where
      go : (slots : List Slot) → IsSuperblockFirst (RepeatsSuperblockStruct disk.profile.versions bytes) slots → file_blocks new (take 1 slots) ≡ []
      go [] h = absurd h
      go (s ∷ slots) h = ap (λ t. struct_blocks new t ++ []) h.1.1.0

  x_starts : begins_with_superblock x.content.slots ≡ true
  x_starts = starts x.content.slots (StructMark disk.profile.versions bytes) held

  old_front : pairs_from_nonempty (x ∷ back) ≡ x ∷ back
  old_front = from_held (StructMark disk.profile.versions bytes) x back held

  new_front : pairs_from_nonempty (q ∷ y ∷ back) ≡ q ∷ y ∷ back
  new_front = from_held (StructMark disk.profile.versions bytes) q (y ∷ back) (kept_marked (StructMark disk.profile.versions bytes) held)

  split : IsShape x [] q (y ∷ []) (y.at.0 ∷ y.at.1 ∷ [])
  split = split_shape x q y c.at c.tail c.last (λ e. starts q.content.slots (StructMark disk.profile.versions bytes) (kept_marked (StructMark disk.profile.versions bytes) held))

  behind_root : count_before_root (y ∷ back) ≡ 0
  behind_root = count_alike (x ∷ back) (y ∷ back) (c.slots, ap is_hard_tail c.last, outlines_itself back) ∙ number

  expanded_chain : IsChain (q ∷ []) (y ∷ back)
  expanded_chain = ap₂ (λ b n. cond b (1 + n) 0)
      (and_from (has_superblock (y ∷ back)) (chain_may_continue q) (meets_starting y back (ap begins_with_superblock c.slots ∙ x_starts))
      (and_from (has_no_entry q.content.slots) (is_hard_tail q.content.tail) (ap has_no_entry c.kept ∙ take_bare x.content.slots x_starts) (ap is_hard_tail c.tail)))
      behind_root

  expanded : IsRootMoved disk new [] x (q ∷ []) y back (address_blocks y.at)
  expanded = record {
    geometry = c.device.geometry;
    contents = c.device.contents;
    first = subst (λ a. HasFirstLogEntry (current_block new a) superblock_entry) (ap first_address old_front ∙ sym c.at ∙ sym (ap first_address new_front)) c.device.first;
    files = c.device.files;
    links = split.links back (Some superblock_pair_address) ok.thread.links;
    slots = c.slots;
    tail = c.last;
    still = unloaded_gstate [] x q y back c.delta c.none;
    is_chain = expanded_chain;
    marked = λ m h k. (headed (HasMark m) q.content.slots (kept_marked m k), tt);
    named = ap first_slot_name new_front ∙ ap (option_map (λ s. s.name)) (ap (λ z. slice_get z 0) c.kept ∙ take_first x.content.slots) ∙ ap first_slot_name (sym old_front);
    blocks = split.blocks;
    free = c.free;
  }

  pub root_unloads : IsSameWritable disk (x ∷ back) new (q ∷ y ∷ back)
  root_unloads = record {
    same = root_moved disk new [] x (q ∷ []) y back (address_blocks y.at) number ok none expanded;
    writable = writable_from disk new (q ∷ y ∷ back) c.device.geometry (within_q, (within_same disk x y c.slots within.0, within.1)) (empties_same [] (q ∷ []) x y back number expanded_chain c.last fits.no_empty_pair);
  }
    where
      within : Each (IsWithin disk.profile disk.block_size disk.page) (x ∷ back)
      within = each_within disk (x ∷ back) fits

      small : (sum_by slot_size (take 1 x.content.slots) ≤ pair_capacity disk.block_size disk.page) × (length (take 1 x.content.slots) ≤ slots_limit)
      small = take_fits disk.block_size disk.page x.content.slots within.0.pair.size within.0.pair.count

      within_q : IsWithin disk.profile disk.block_size disk.page q
      within_q = record {
        pair = record {
          size = subst (λ z. sum_by slot_size z ≤ pair_capacity disk.block_size disk.page) (sym c.kept) small.0;
          count = subst (λ (z : List Slot). length z ≤ slots_limit) (sym c.kept) small.1;
        };
        slots = subst (All (IsWritableSlot disk.profile disk.block_size disk.page)) (sym c.kept)
            (All-from_recursion (IsWritableSlot disk.profile disk.block_size disk.page) (take 1 x.content.slots)
            (take_each (IsWritableSlot disk.profile disk.block_size disk.page) x.content.slots (recursion_from_All (IsWritableSlot disk.profile disk.block_size disk.page) x.content.slots within.0.slots)));
      }
