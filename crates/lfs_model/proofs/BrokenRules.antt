-- A disk that breaks a rule of the thread has no thread, and an image that breaks a rule isn't accepted.
use Rattle.std.proofs.Common.{ℕ, zero, suc, ◌≡◌, ◌≢◌, ◌+◌, ◌<◌, ◌≤◌, ◌⊎◌, ◌&&◌, ◌==◌, ◌∙◌, inl, inr, Bool, true, false, cond, List, [], ◌∷◌, ◌++◌, Contains, length, take, drop, remove, get_or, nat_eq, option_map, Option, Some, None, refl, sym, ap, subst, true≢false, arith}
use Rattle.std.specs.Prelude.{All, codes, slice_get}
use Rattle.std.specs.List.{IsDistinct}
use Rattle.lfs_model.proofs.Common.{cases_lt, drop-drop, flat_map-append, All-contains, All-head, All-tail, recursion_from_All, get_or_from_slice_get, none-some, same_Some, slice_get_within, content_at, current_block, Disk, block_count, disk_with_order, decoded_address, IsReachedDirectory, all_unmoved_slots, all_directories, Gstate, Inline, PairContent, Slot, set_move_kind, is_superblock, address_of_array, same_pair, AreLinkedByTails, IsThread, Pair, ThreadDirectory, superblock_pair_address, pairs_blocks, pairs_gstate, has_slots, tail_target, count_before_root, pairs_from_nonempty, slots_not_moved, begins_with_superblock, HasFirstLogEntry, BeginsWithSuperblock, RepeatsSuperblockStruct, IsAccepted, IsFileOrDirectory, SameExceptVersion, IsWellFormedList, IsSuperblockStruct, first_pair_slots, first_slot_name, superblock_entry, AreFirstThreadPairs, IsDiskSuperblock, AreLinkedUpTo}
use Rattle.std.proofs.lemmas.List.Elements.{Contains-append_right}
use Rattle.std.proofs.lemmas.Map.Keys.{IsDistinct-tail}
use Rattle.lfs_model.specs.format.Thread.{moved_id}
use Rattle.lfs_model.specs.layers.Violations.{Breaks, PairsBreak, BreaksThread, HasBlock, HasUnsortedNames, HasFirstSlot, HasDanglingDirectoryEntry, InTwoPairs, IsBlockUsedTwice, IsNamed, IsOrphanWithoutSync, HasInvalidEntryAt, IsDifferingSuperblock, IsInRange, IsReachedTwice, IsUnmovedAt}
use Rattle.lfs_model.specs.declared.limits.AcceptedVersions.{AcceptedVersions}
use Rattle.lfs_model.specs.declared.order.NameOrder.{NameOrder}
use Rattle.lfs_model.specs.declared.violations.Violation.{Violation}
use Rattle.lfs_model.specs.declared.violations.Violation.TheVariants as violation
use Rattle.lfs_model.proofs.BlockSets.{not_behind, occurrence_count-Contains}
use Rattle.lfs_model.proofs.Counts.{Each, count_append, each_pieces, once_from_distinct}
use Rattle.lfs_model.proofs.Listings.{distinct_right}
use Rattle.lfs_model.proofs.Pairs.{pair_back, pair_on}
use Rattle.lfs_model.proofs.Uniqueness.{one_thread}

-- ---- the thread, as far as it can be followed

-- those pairs come first, and the one after them is at that address
record HasPairBehind (ps qs : List Pair) (at : ℕ × ℕ) : Type 0 where
  pair : Pair
  rest : List Pair
  are : qs ≡ ps ++ pair ∷ rest
  there : pair.at ≡ at

pair_behind : (disk : Disk) (from : Option (ℕ × ℕ)) (at : ℕ × ℕ) (ps qs : List Pair) → AreLinkedUpTo from ps (Some at) → AreLinkedByTails from qs
    → All (λ p. content_at disk p.at ≡ Some p.content) ps → All (λ p. content_at disk p.at ≡ Some p.content) qs → HasPairBehind ps qs at
pair_behind disk from at [] [] l m a b = absurd (none-some at (sym m ∙ l))
pair_behind disk from at [] (q ∷ qs) l m a b = record { pair = q; rest = qs; are = refl; there = same_Some q.at at (sym m.0 ∙ l) }
pair_behind disk from at (p ∷ ps) [] l m a b = absurd (none-some p.at (sym m ∙ l.0))
pair_behind disk from at (p ∷ ps) (q ∷ qs) l m a b =
    let P : Pair → Type 0 = λ p. content_at disk p.at ≡ Some p.content in
    let here : p.at ≡ q.at = same_Some p.at q.at (sym l.0 ∙ m.0) in
    let content : p.content ≡ q.content = same_Some p.content q.content (sym (All-head P p ps a) ∙ ap (content_at disk) here ∙ All-head P q qs b) in
    let next : AreLinkedByTails (tail_target p.content.tail) qs = rw content m.1 in
    let behind = pair_behind disk (tail_target p.content.tail) at ps qs l.1 next (All-tail P p ps a) (All-tail P q qs b) in
    record {
      pair = behind.pair;
      rest = behind.rest;
      are = ap (λ (x : ℕ × ℕ). record { at = x; content = q.content } ∷ qs) (sym here) ∙ ap (λ (x : PairContent). record { at = p.at; content = x } ∷ qs) (sym content) ∙ ap (λ (xs : List Pair). p ∷ xs) behind.are;
      there = behind.there;
    }

block_here : (p : Pair) (ps : List Pair) (block : ℕ) → HasBlock p.at block → Contains (pairs_blocks (p ∷ ps)) block
block_here p ps block (inl is) = (0, omega arith, is)
block_here p ps block (inr is) = (1, omega arith, is)

joined_blocks : (ps : List Pair) (p : Pair) (rest : List Pair) → pairs_blocks (ps ++ p ∷ rest) ≡ pairs_blocks ps ++ pairs_blocks (p ∷ rest)
joined_blocks ps p rest = flat_map-append (λ (s : Pair). s.at.0 ∷ s.at.1 ∷ []) ps (p ∷ rest)

-- a number in both lists is there twice
not_in_both : (xs ys : List ℕ) (b : ℕ) → IsDistinct nat_eq (xs ++ ys) → Contains xs b → Contains ys b → ⊥
not_in_both xs ys b distinct left right = omega (arith, once_from_distinct (xs ++ ys) distinct b, count_append b xs ys, occurrence_count-Contains xs b left, occurrence_count-Contains ys b right)

-- what a whole thread has wherever it can be followed to
module _ (disk : Disk) (qs : List Pair) (thread : IsThread (content_at disk) (block_count disk) qs) where
  pair_after : (ps : List Pair) (at : ℕ × ℕ) → AreFirstThreadPairs disk ps at → HasPairBehind ps qs at
  pair_after ps at begins = pair_behind disk (Some superblock_pair_address) at ps qs begins.links thread.links begins.contents thread.contents

  distinct_blocks : (ps : List Pair) (at : ℕ × ℕ) (behind : HasPairBehind ps qs at) → IsDistinct nat_eq (pairs_blocks (ps ++ behind.pair ∷ behind.rest))
  distinct_blocks ps at behind = subst (λ xs. IsDistinct nat_eq (pairs_blocks xs)) behind.are thread.distinct

  content_there : (at : ℕ × ℕ) → IsNamed disk at → (content : PairContent) × (content_at disk at ≡ Some content)
  content_there at (ps, begins) =
      let behind = pair_after ps at begins in
      let held = All-contains (λ p. content_at disk p.at ≡ Some p.content) qs behind.pair thread.contents
      (subst (λ xs. Contains xs behind.pair) (sym behind.are) (Contains-append_right ps (behind.pair ∷ behind.rest) behind.pair (0, omega arith, refl))) in
      (behind.pair.content, ap (content_at disk) (sym behind.there) ∙ held)

  block_in_range : (at : ℕ × ℕ) (block : ℕ) → IsNamed disk at → HasBlock at block → block < block_count disk
  block_in_range at block (ps, begins) has =
      let behind = pair_after ps at begins in
      let here = block_here behind.pair behind.rest block (subst (λ x. HasBlock x block) (sym behind.there) has) in
      let whole = Contains-append_right (pairs_blocks ps) (pairs_blocks (behind.pair ∷ behind.rest)) block here in
      All-contains (λ b. b < block_count disk) (pairs_blocks qs) block thread.in_range (subst (λ bs. Contains bs block) (sym (ap pairs_blocks behind.are ∙ joined_blocks ps behind.pair behind.rest)) whole)

  pub named_in_range : (at : ℕ × ℕ) → IsNamed disk at → IsInRange disk at
  named_in_range at named = (block_in_range at at.0 named (inl refl), block_in_range at at.1 named (inr refl))

  pub named_has_two_blocks : (at : ℕ × ℕ) → IsNamed disk at → at.0 ≢ at.1
  named_has_two_blocks at (ps, begins) same =
      let behind = pair_after ps at begins in
      let p = behind.pair in
      not_behind p.at.0 (p.at.1 ∷ pairs_blocks behind.rest) (distinct_right ps (p ∷ behind.rest) (distinct_blocks ps at behind))
      (0, omega arith, ap (λ x. x.1) behind.there ∙ sym same ∙ ap (λ x. x.0) (sym behind.there))

  pub named_has_content : (at : ℕ × ℕ) → IsNamed disk at → content_at disk at ≢ None
  named_has_content at named none = let (content, is) = content_there at named in none-some content (sym none ∙ is)

  pub no_block_in_two_pairs : (at : ℕ × ℕ) (block : ℕ) → InTwoPairs disk at block → ⊥
  no_block_in_two_pairs at block two =
      let behind = pair_after two.before at two.begins in
      not_in_both (pairs_blocks two.before) (pairs_blocks (behind.pair ∷ behind.rest)) block
      (subst (IsDistinct nat_eq) (joined_blocks two.before behind.pair behind.rest) (distinct_blocks two.before at behind))
      two.earlier
      (block_here behind.pair behind.rest block (subst (λ x. HasBlock x block) (sym behind.there) two.own))

-- a disk that breaks a rule of the thread has no thread
pub thread_breaks_none : (disk : Disk) (v : Violation) → BreaksThread disk v → (ps : List Pair) → IsThread (content_at disk) (block_count disk) ps → ⊥
thread_breaks_none disk (violation.OutOfRange pair) (named, past) ps thread = past (named_in_range disk ps thread (address_of_array pair) named)
thread_breaks_none disk (violation.OneBlock pair) (named, same) ps thread = named_has_two_blocks disk ps thread (address_of_array pair) named same
thread_breaks_none disk (violation.TwoPairs pair block) two ps thread = no_block_in_two_pairs disk ps thread (address_of_array pair) block two
thread_breaks_none disk (violation.NoContent pair) (named, within, none) ps thread = named_has_content disk ps thread (address_of_array pair) named none
thread_breaks_none disk _ h ps thread = absurd h

-- the thread breaks the same rule, whatever the order of names
pub thread_breaks_in_order : (order : NameOrder) (disk : Disk) (v : Violation) → BreaksThread disk v → BreaksThread (disk_with_order order disk) v
thread_breaks_in_order order disk v h = go v h
  where
    begins : (ps : List Pair) (at : ℕ × ℕ) → AreFirstThreadPairs disk ps at → AreFirstThreadPairs (disk_with_order order disk) ps at
    begins ps at b = record { links = b.links; contents = b.contents }

    named : (at : ℕ × ℕ) → IsNamed disk at → IsNamed (disk_with_order order disk) at
    named at (ps, b) = (ps, begins ps at b)

    go : (w : Violation) → BreaksThread disk w → BreaksThread (disk_with_order order disk) w
    go (violation.OutOfRange pair) (is, past) = (named (address_of_array pair) is, past)
    go (violation.OneBlock pair) (is, same) = (named (address_of_array pair) is, same)
    go (violation.TwoPairs pair block) two = record { before = two.before; begins = begins two.before (address_of_array pair) two.begins; own = two.own; earlier = two.earlier }
    go (violation.NoContent pair) (is, within, none) = (named (address_of_array pair) is, within, none)
    go _ k = absurd k

-- ---- by number

holds_at : {X : Type 0} (P : X → Type 0) (xs : List X) (i : ℕ) (x : X) → All P xs → slice_get xs i ≡ Some x → P x
holds_at P xs i x h e = subst P (get_or_from_slice_get xs i x x e) (h i x (slice_get_within xs i x e))

holds_in_take : {X : Type 0} (P : X → Type 0) (xs : List X) (m i : ℕ) (x : X) → All P (take m xs) → slice_get xs i ≡ Some x → i < m → P x
holds_in_take P xs zero i x h e l = absurd (omega (arith, l))
holds_in_take P [] (suc m) i x h e l = absurd (cc)
holds_in_take P (y ∷ xs) (suc m) zero x h e l = subst P (same_Some y x e) (All-head P y (take m xs) h)
holds_in_take P (y ∷ xs) (suc m) (suc i) x h e l = holds_in_take P xs m i x (All-tail P y (take m xs) h) e (omega (arith, l))

holds_in_drop : {X : Type 0} (P : X → Type 0) (xs : List X) (m i : ℕ) (x : X) → All P (drop m xs) → slice_get xs i ≡ Some x → m ≤ i → P x
holds_in_drop P xs zero i x h e l = holds_at P xs i x h e
holds_in_drop P [] (suc m) i x h e l = absurd (cc)
holds_in_drop P (y ∷ xs) (suc m) zero x h e l = absurd (omega (arith, l))
holds_in_drop P (y ∷ xs) (suc m) (suc i) x h e l = holds_in_drop P xs m i x h e (omega (arith, l))

each_at : {X : Type 0} (P : X → Type 0) (xs : List X) (i : ℕ) (x : X) → slice_get xs i ≡ Some x → Each P xs → P x
each_at P [] i x there h = absurd (cc)
each_at P (y ∷ xs) zero x there h = subst P (same_Some y x there) h.0
each_at P (y ∷ xs) (suc i) x there h = each_at P xs i x there h.1

-- a number isn't at two places of a distinct list
not_twice : (xs : List ℕ) (i j b : ℕ) → i < j → slice_get xs i ≡ Some b → slice_get xs j ≡ Some b → IsDistinct nat_eq xs → ⊥
not_twice [] i j b l one other h = absurd (cc)
not_twice (x ∷ xs) i zero b l one other h = absurd (omega (arith, l))
not_twice (x ∷ xs) zero (suc j) b l one other h =
    let here : x ≡ b = same_Some x b one in
    not_behind x xs h (subst (Contains xs) (sym here) (j, slice_get_within xs j b other, get_or_from_slice_get xs j b b other))
not_twice (x ∷ xs) (suc i) (suc j) b l one other h = not_twice xs i j b (omega (arith, l)) one other (IsDistinct-tail nat_eq x xs h)

-- ---- the superblock

-- a struct that is the same but for an accepted version is the disk's, too
other_struct : (disk : Disk) (bytes own : List ℕ) → IsSuperblockStruct disk bytes → SameExceptVersion disk.profile.versions bytes own → IsSuperblockStruct disk own
other_struct disk bytes own is same = record {
  len = same.len ∙ is.len;
  version = same.version;
  block_size = ap (λ (b : List ℕ). (decoded_address b).0) same.rest ∙ is.block_size;
  block_count = ap (λ (b : List ℕ). (decoded_address b).0) (sym (drop-drop 4 4 own) ∙ ap (drop 4) same.rest ∙ drop-drop 4 4 bytes) ∙ is.block_count;
}

-- slot 0 of a pair of the chain is a superblock with that struct
first_of_chain : (v : AcceptedVersions) (bytes : List ℕ) (slots : List Slot) (s : Slot) → BeginsWithSuperblock v bytes slots → slice_get slots 0 ≡ Some s → (is_superblock s ≡ true) × RepeatsSuperblockStruct v bytes s
first_of_chain v bytes [] s h e = absurd (cc)
first_of_chain v bytes (t ∷ slots) s h e = subst (λ (x : Slot). (is_superblock x ≡ true) × RepeatsSuperblockStruct v bytes x) (same_Some t s e) (h.0, h.1)

-- and the slots behind it are entries
entry_behind : (v : AcceptedVersions) (bytes : List ℕ) (slots : List Slot) (id : ℕ) (s : Slot) → BeginsWithSuperblock v bytes slots → slice_get slots id ≡ Some s → 0 < id → IsFileOrDirectory s
entry_behind v bytes [] id s h e l = absurd (cc)
entry_behind v bytes (t ∷ slots) zero s h e l = absurd (omega (arith, l))
entry_behind v bytes (t ∷ slots) (suc id) s h e l = holds_at IsFileOrDirectory slots id s h.2 e

bare : (slots : List Slot) → has_slots slots ≡ false → begins_with_superblock slots ≡ true → ⊥
bare [] none starts = cc
bare (s ∷ slots) none starts = cc

-- where pair n begins with a superblock, the first pair that has a slot is one of the pairs up to it
slot_of_first : (P : Slot → Type 0) (ps : List Pair) (n m : ℕ) (s : Slot) → begins_with_superblock (first_pair_slots (drop n ps)) ≡ true → n < m
    → All (λ (p : Pair). (t : Slot) → slice_get p.content.slots 0 ≡ Some t → P t) (take m ps) → HasFirstSlot ps s → P s
slot_of_first P [] zero m s starts l all first = absurd (cc)
slot_of_first P [] (suc n) m s starts l all first = absurd (cc)
slot_of_first P (p ∷ ps) n zero s starts l all first = absurd (omega (arith, l))
slot_of_first P (p ∷ ps) n (suc m) s starts l all first = go (λ k. slot_of_first P ps k m s) n (has_slots p.content.slots) refl starts l first
  where
    Q : Pair → Type 0
    Q q = (t : Slot) → slice_get q.content.slots 0 ≡ Some t → P t

    go : ((k : ℕ) → begins_with_superblock (first_pair_slots (drop k ps)) ≡ true → k < m → All Q (take m ps) → HasFirstSlot ps s → P s)
        → (n : ℕ) (b : Bool) → has_slots p.content.slots ≡ b → begins_with_superblock (first_pair_slots (drop n (p ∷ ps))) ≡ true → n < suc m
        → slice_get (first_pair_slots (cond b (p ∷ ps) (pairs_from_nonempty ps))) 0 ≡ Some s → P s
    go later n true e k l first = All-head Q p (take m ps) all s first
    go later zero false e k l first = absurd (bare p.content.slots e k)
    go later (suc n) false e k l first = later n k (omega (arith, l)) (All-tail Q p (take m ps) all) first

name_of_first : (qs : List Pair) (s : Slot) → slice_get (first_pair_slots qs) 0 ≡ Some s → first_slot_name qs ≡ Some s.name
name_of_first [] s first = absurd (cc)
name_of_first (q ∷ qs) s first = ap (option_map (λ (t : Slot). t.name)) first

-- ---- the slots of an accepted image

module _ (disk : Disk) (ps : List Pair) (ok : IsAccepted disk ps) where
  chain_pair : (index : ℕ) (p : Pair) → slice_get ps index ≡ Some p → index ≤ count_before_root ps → BeginsWithSuperblock disk.profile.versions ok.superblock.0 p.content.slots
  chain_pair index p there l =
      holds_in_take (λ (q : Pair). BeginsWithSuperblock disk.profile.versions ok.superblock.0 q.content.slots) ps (count_before_root ps + 1) index p ok.superblock.1.1 there (omega (arith, l))

  accepted_entry : (index : ℕ) (p : Pair) (id : ℕ) (s : Slot) → slice_get ps index ≡ Some p → slice_get p.content.slots id ≡ Some s → (count_before_root ps < index) ⊎ (0 < id) → IsFileOrDirectory s
  accepted_entry index p id s there slot required = go (cases_lt (count_before_root ps) index) required
    where
      go : (count_before_root ps < index) ⊎ (index ≤ count_before_root ps) → (count_before_root ps < index) ⊎ (0 < id) → IsFileOrDirectory s
      go (inl behind) either =
          let entries = holds_in_drop (λ (q : Pair). All IsFileOrDirectory q.content.slots) ps (count_before_root ps + 1) index p ok.slots there (omega (arith, behind)) in
          holds_at IsFileOrDirectory p.content.slots id s entries slot
      go (inr within) (inl behind) = absurd (omega (arith, within, behind))
      go (inr within) (inr later) = entry_behind disk.profile.versions ok.superblock.0 p.content.slots id s (chain_pair index p there within) slot later

  first_superblock : (s : Slot) → HasFirstSlot ps s → (is_superblock s ≡ true) × RepeatsSuperblockStruct disk.profile.versions ok.superblock.0 s
  first_superblock s first =
      slot_of_first (λ t. (is_superblock t ≡ true) × RepeatsSuperblockStruct disk.profile.versions ok.superblock.0 t) ps (count_before_root ps) (count_before_root ps + 1) s ok.root (omega arith)
      (λ k d l t e. first_of_chain disk.profile.versions ok.superblock.0 (get_or (take (count_before_root ps + 1) ps) k d).content.slots t (ok.superblock.1.1 k d l) e)
      first

  -- slot 0 of the first pair that has a slot
  accepted_superblock : (s : Slot) → HasFirstSlot ps s → IsDiskSuperblock disk s
  accepted_superblock s first =
      let (kind, (own, (is, same))) = first_superblock s first in
      record {
        kind = kind;
        name = same_Some s.name (codes "littlefs") (sym (name_of_first (pairs_from_nonempty ps) s first) ∙ ok.named);
        bytes = own;
        inline = is;
        struct = other_struct disk ok.superblock.0 own ok.superblock.1.0 same;
      }

  -- all superblocks of the chain have the first one's numbers
  no_other_superblock : (at : ℕ × ℕ) → IsDifferingSuperblock disk ps at → ⊥
  no_other_superblock at h =
      let (kind, (own, (is, same))) = first_of_chain disk.profile.versions ok.superblock.0 h.pair.content.slots h.slot (chain_pair h.index h.pair h.there h.in_chain) h.slot_is in
      let (first_kind, (one, (is_one, same_one))) = first_superblock h.first h.first_is in
      let alike : one ≡ h.bytes = same_inline one h.bytes (sym is_one ∙ h.inline) in
      h.differs (
        own,
        (
          is,
          record {
            len = same.len ∙ sym same_one.len ∙ ap length alike;
            version = same.version;
            rest = same.rest ∙ sym same_one.rest ∙ ap (drop 4) alike;
          },
        ),
      )
    where
      same_inline : (x y : List ℕ) → Inline x ≡ Inline y → x ≡ y
      same_inline x y e = cc

  no_wrong_entry : (at : ℕ × ℕ) (id : ℕ) → HasInvalidEntryAt ps at id → ⊥
  no_wrong_entry at id h = h.refused (accepted_entry h.is.index h.is.pair id h.slot h.is.there h.is.slot h.behind)

-- ---- the directories of an accepted image

no_falling_names : (disk : Disk) (ps : List Pair) (at : ℕ × ℕ) → IsAccepted disk ps → HasUnsortedNames disk ps at → ⊥
no_falling_names disk ps at ok h = h.falls (ok.order h.path h.to h.reached.leads)

no_loose_branch : (disk : Disk) (ps : List Pair) (at : ℕ × ℕ) → IsAccepted disk ps → HasDanglingDirectoryEntry ps at → ⊥
no_loose_branch disk ps at ok h = h.loose (ok.branches (h.path ++ h.name ∷ []) h.target h.leads)

none_reached_twice : (disk : Disk) (ps : List Pair) (at : ℕ × ℕ) → IsAccepted disk ps → IsReachedTwice ps at → ⊥
none_reached_twice disk ps at ok h =
    h.differ (ok.once h.path h.other h.to h.other_to h.reached.leads h.other_reached.leads
    (pair_on h.to at h.other_to h.reached.same (pair_back h.other_to at h.other_reached.same)))

none_unreached : (disk : Disk) (ps : List Pair) (at : ℕ × ℕ) → IsAccepted disk ps → IsOrphanWithoutSync ps at → ⊥
none_unreached disk ps at ok h =
    let reached = holds_at (λ (d : ThreadDirectory). IsReachedDirectory ps d.at) (all_directories ps) h.index h.directory (ok.reached h.sync) h.there in
    h.unreached (subst (IsReachedDirectory ps) h.at_is reached)

-- ---- the lists of an accepted image

-- the index of a slot once the moved one is removed
abbrev index_without : ℕ → ℕ → ℕ
index_without zero zero = zero
index_without zero (suc id) = id
index_without (suc moved) zero = zero
index_without (suc moved) (suc id) = suc (index_without moved id)

-- a slot that isn't the moved one is still there
left_there : (slots : List Slot) (moved id : ℕ) → moved ≢ id → slice_get (remove slots moved) (index_without moved id) ≡ slice_get slots id
left_there [] zero id ne = refl
left_there [] (suc moved) id ne = refl
left_there (s ∷ slots) zero zero ne = absurd (ne refl)
left_there (s ∷ slots) zero (suc id) ne = refl
left_there (s ∷ slots) (suc moved) zero ne = refl
left_there (s ∷ slots) (suc moved) (suc id) ne = left_there slots moved id (λ e. ne (ap suc e))

-- the index of a slot among those of its pair that no set move names
abbrev index_in_pair : Gstate → Pair → ℕ → ℕ
index_in_pair g p id = cond (g.kind == set_move_kind && same_pair g.pair p.at) (index_without g.id id) id

stays_there : (g : Gstate) (p : Pair) (id : ℕ) (s : Slot) → slice_get p.content.slots id ≡ Some s → moved_id g p ≢ Some id → slice_get (slots_not_moved g p) (index_in_pair g p id) ≡ Some s
stays_there g p id s there = go (g.kind == set_move_kind && same_pair g.pair p.at)
  where
    go : (b : Bool) → cond b (Some g.id) None ≢ Some id → slice_get (cond b (remove p.content.slots g.id) p.content.slots) (cond b (index_without g.id id) id) ≡ Some s
    go true stays = left_there p.content.slots g.id id (λ e. stays (ap Some e)) ∙ there
    go false stays = there

-- what holds of all slots that no set move names, holds of each of them
pub unmoved_slot_has : (P : Slot → Type 0) (ps : List Pair) (at : ℕ × ℕ) (id : ℕ) (s : Slot) → All P (all_unmoved_slots ps) → IsUnmovedAt ps at id s → P s
unmoved_slot_has P ps at id s all h =
    let g : Gstate = pairs_gstate ps in
    let p : Pair = h.is.pair in
    each_at P (slots_not_moved g p) (index_in_pair g p id) s (stays_there g p id s h.is.slot h.stays)
    (each_at (λ (q : Pair). Each P (slots_not_moved g q)) ps h.is.index p h.is.there
    (each_pieces P (slots_not_moved g) ps (recursion_from_All P (all_unmoved_slots ps) all)))

no_wrong_list : (disk : Disk) (ps : List Pair) (at : ℕ × ℕ) (id : ℕ) (s : Slot) → IsAccepted disk ps → IsUnmovedAt ps at id s → IsWellFormedList disk s.struct
no_wrong_list disk ps at id s ok h = unmoved_slot_has (λ (t : Slot). IsWellFormedList disk t.struct) ps at id s ok.lists h

-- ---- all of them

-- the pairs of an accepted image break no rule
pub pairs_break_none : (disk : Disk) (ps : List Pair) (v : Violation) → PairsBreak disk ps v → IsAccepted disk ps → ⊥
pairs_break_none disk ps violation.NoSuperblock h ok = true≢false (sym ok.root ∙ h)
pairs_break_none disk ps (violation.FirstEntry pair) (is, other) ok = other (subst (λ (x : ℕ × ℕ). HasFirstLogEntry (current_block disk x) superblock_entry) is ok.first)
pairs_break_none disk ps (violation.Superblock pair) (is, s, (first, other)) ok = other (accepted_superblock disk ps ok s first)
pairs_break_none disk ps (violation.OtherSuperblock pair) h ok = no_other_superblock disk ps ok (address_of_array pair) h
pairs_break_none disk ps (violation.Entry pair slot) h ok = no_wrong_entry disk ps ok (address_of_array pair) slot h
pairs_break_none disk ps (violation.Names pair) h ok = no_falling_names disk ps (address_of_array pair) ok h
pairs_break_none disk ps (violation.Branch pair) h ok = no_loose_branch disk ps (address_of_array pair) ok h
pairs_break_none disk ps (violation.TwoPaths pair) h ok = none_reached_twice disk ps (address_of_array pair) ok h
pairs_break_none disk ps (violation.NoPath pair) h ok = none_unreached disk ps (address_of_array pair) ok h
pairs_break_none disk ps violation.Move h ok = h ok.move
pairs_break_none disk ps (violation.List pair slot) (s, (there, wrong)) ok = wrong (no_wrong_list disk ps (address_of_array pair) slot s ok there)
pairs_break_none disk ps (violation.TwoOwners pair slot block) h ok = let two : IsBlockUsedTwice disk ps (address_of_array pair) slot block = h in not_twice _ two.i two.j block two.apart two.one two.other ok.owned_once
pairs_break_none disk ps _ h ok = absurd h

-- an image that breaks a rule isn't accepted
pub accepted_breaks_none : (disk : Disk) (v : Violation) → Breaks disk v → (ps : List Pair) → IsAccepted disk ps → ⊥
accepted_breaks_none disk v (inl broken) ps ok = thread_breaks_none disk v broken ps ok.thread
accepted_breaks_none disk v (inr (qs, (thread, broken))) ps ok =
    let same : qs ≡ ps = one_thread (content_at disk) (block_count disk) qs ps thread ok.thread in
    pairs_break_none disk ps v (subst (λ (xs : List Pair). PairsBreak disk xs v) same broken) ok
