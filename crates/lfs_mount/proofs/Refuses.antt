-- The pass accepts the thread of an accepted image: if the pass fails, the image isn't accepted.
use Rattle.std.proofs.Common.{ℕ, zero, suc, ◌≡◌, inl, inr, ◌+◌, ◌<◌, ◌==◌, ◌&&◌, Bool, true, false, cond, List, [], ◌∷◌, ◌++◌, length, remove, reverse, slice_get, Option, Some, None, refl, sym, ap, subst, ◌∙◌, arith, nat_eq, flat_map, eqb-true}
use Rattle.std.specs.Prelude.{All}
use Rattle.std.specs.List.{IsDistinct}
use Rattle.lfs_mount.proofs.Common.{and_parts, same_Some, flat_map-append, All-from_recursion, recursion_from_All, BlockStates, Disk, block_count, IsSkipList, blocks_to_head, skip_list_block_count, Slot, Struct, Inline, Ctz, Branch, Gstate, is_superblock, same_pair, Pair, pairs_blocks, pairs_gstate, slots_not_moved, unmoved_entries, moved_id, IsFileOrDirectory, IsSuperblockFirst, RepeatsSuperblockStruct, IsWellFormedList, HasValidMove, IsEntry, IsAccepted, struct_blocks, all_unmoved_slots, used_blocks, Each, each_append, each_left, each_right, occurrence_count, count_append, each_counted, once_from_distinct, distinct_from_once, pair_back, pair_on, HoldsForSome, among_from, StructMark, HoldSlots, entry_is_other, DirectoryGraph, HasExactlyUsedBlocks, list_blocks_backwards, cons_option, IsChain, struct_reference, empty_scan, list_head_and_size, ArePairDescriptions, AreByteBlocks, FirstSlotIsSuperblock, ScansPairs}
use Rattle.lfs_model.specs.declared.limits.AcceptedVersions.{AcceptedVersions}
use Rattle.lfs_model.proofs.Counts.{each_from_counted}
use Rattle.lfs_model.proofs.Listings.{blocks_avoid}
use Rattle.lfs_model.proofs.Superblocks.{SlotsAs}
use Rattle.lfs_model.proofs.Superblocks.{hold_from_rules}
use Rattle.lfs_mount.specs.declared.pass.DirectoryPairHeader.{DirectoryPairHeader}
use Rattle.lfs_mount.proofs.Accepts.{Starting, counted, occurrence_count-reverse, fronted_pair}
use Rattle.lfs_mount.proofs.Passable.{can_pass}
use Rattle.lfs_mount.proofs.Owned.{can_mark}
use Rattle.lfs_mount.proofs.Rules.{behind, without, unmoved-without, IsMovedEntry, lists_of, HaveEntries}

-- ---- the slot that a move names

abbrev Named : Gstate → Pair → Type 0
Named g q = (same_pair g.pair q.at ≡ true) × IsEntry (slice_get q.content.slots g.id)

-- two pairs of a thread aren't at one address
none_named : (g : Gstate) (at : ℕ × ℕ) (qs : List Pair) → same_pair g.pair at ≡ true → Each (λ r. same_pair at r.at ≡ false) qs → HoldsForSome (Named g) qs → ⊥
none_named g at [] e h k = k
none_named g at (r ∷ qs) e h (inl k) = absurd (let same = pair_on at g.pair r.at (pair_back g.pair at e) k.0 in let clash : true ≡ false = sym same ∙ h.0 in cc)
none_named g at (r ∷ qs) e h (inr k) = none_named g at qs e h.1 k

no_other : (g : Gstate) (at : ℕ × ℕ) (qs : List Pair) → same_pair g.pair at ≡ true → Each (λ r. same_pair at r.at ≡ false) qs → Each (λ r. same_pair g.pair r.at ≡ true → IsEntry (slice_get r.content.slots g.id)) qs
no_other g at [] e h = tt
no_other g at (r ∷ qs) e h = ((λ f. absurd (let same = pair_on at g.pair r.at (pair_back g.pair at e) f in let clash : true ≡ false = sym same ∙ h.0 in cc)), no_other g at qs e h.1)

each_named : (g : Gstate) (qs : List Pair) → IsDistinct nat_eq (pairs_blocks qs) → HoldsForSome (Named g) qs → Each (λ r. same_pair g.pair r.at ≡ true → IsEntry (slice_get r.content.slots g.id)) qs
unfolding IsDistinct
each_named g [] h k = tt
each_named g (q ∷ qs) h (inl k) = ((λ e. k.1), no_other g q.at qs k.0 (blocks_avoid q.at qs h.0.1))
each_named g (q ∷ qs) h (inr k) = ((λ e. absurd (none_named g q.at qs e (blocks_avoid q.at qs h.0.1) k)), each_named g qs h.1.1 k)

entry_there : (slots : List Slot) (id : ℕ) (o : Option Slot) → slice_get slots id ≡ o → IsEntry o → Each IsFileOrDirectory slots → (t : Slot) × ((slice_get slots id ≡ Some t) × IsFileOrDirectory t)
entry_there slots id None e k h = absurd k
entry_there [] id (Some t) e k h = absurd (cc)
entry_there (s ∷ slots) zero (Some t) e k h = (s, (refl, h.0))
entry_there (s ∷ slots) (suc id) (Some t) e k h = entry_there slots id (Some t) e k h.1

entry_behind : (first : Bool) (v : AcceptedVersions) (bytes : List ℕ) (slots : List Slot) (id : ℕ) → SlotsAs (StructMark v bytes) first slots → IsEntry (slice_get slots id)
    → (t : Slot) × ((slice_get slots id ≡ Some t) × IsFileOrDirectory t)
entry_behind false v bytes slots id h k = entry_there slots id (slice_get slots id) refl k (recursion_from_All IsFileOrDirectory slots h)
entry_behind true v bytes [] id h k = absurd h
entry_behind true v bytes (s ∷ slots) zero h k = absurd (let clash : true ≡ false = sym h.0 ∙ k in cc)
entry_behind true v bytes (s ∷ slots) (suc id) h k = entry_there slots id (slice_get slots id) refl k (recursion_from_All IsFileOrDirectory slots h.2)

moved_entry : (g : Gstate) (first : Bool) (v : AcceptedVersions) (bytes : List ℕ) (q : Pair) → SlotsAs (StructMark v bytes) first q.content.slots
    → (g.kind ≡ 0x4ff → same_pair g.pair q.at ≡ true → IsEntry (slice_get q.content.slots g.id)) → IsMovedEntry (moved_id g q) q.content.slots
moved_entry g first v bytes q h k = go (g.kind == 0x4ff && same_pair g.pair q.at) refl
  where
    go : (b : Bool) → (g.kind == 0x4ff && same_pair g.pair q.at) ≡ b → IsMovedEntry (cond b (Some g.id) None) q.content.slots
    go true e = let w = and_parts (g.kind == 0x4ff) (same_pair g.pair q.at) e in entry_behind first v bytes q.content.slots g.id h (k (eqb-true g.kind 0x4ff w.0) w.1)
    go false e = tt

pub moved_entries : (g : Gstate) (first : Bool) (v : AcceptedVersions) (bytes : List ℕ) (qs : List Pair) → HoldSlots (StructMark v bytes) first qs
    → Each (λ q. g.kind ≡ 0x4ff → same_pair g.pair q.at ≡ true → IsEntry (slice_get q.content.slots g.id)) qs → Each (λ q. IsMovedEntry (moved_id g q) q.content.slots) qs
moved_entries g first v bytes [] h k = tt
moved_entries g first v bytes (q ∷ qs) h k = (moved_entry g first v bytes q h.0 k.0, moved_entries g false v bytes qs h.1 k.1)

if_set : (g : Gstate) (qs : List Pair) → (g.kind ≡ 0x4ff → Each (λ r. same_pair g.pair r.at ≡ true → IsEntry (slice_get r.content.slots g.id)) qs)
    → Each (λ q. g.kind ≡ 0x4ff → same_pair g.pair q.at ≡ true → IsEntry (slice_get q.content.slots g.id)) qs
if_set g [] h = tt
if_set g (q ∷ qs) h = ((λ e. (h e).0), if_set g qs (λ e. (h e).1))

-- what a right move names is an entry
pub move_named : (g : Gstate) (ps : List Pair) → IsDistinct nat_eq (pairs_blocks ps) → HasValidMove ps g
    → Each (λ q. g.kind ≡ 0x4ff → same_pair g.pair q.at ≡ true → IsEntry (slice_get q.content.slots g.id)) ps
move_named g ps h (inl k) = if_set g ps (λ e. absurd (let clash : 0 ≡ 0x4ff = sym k.0 ∙ e in omega arith))
move_named g ps h (inr k) = if_set g ps (λ e. each_named g ps h (among_from (Named g) ps k.1))

-- ---- entries that are left

entries_without : (slots : List Slot) (id : ℕ) → Each IsFileOrDirectory slots → Each IsFileOrDirectory (remove slots id)
entries_without [] zero h = tt
entries_without [] (suc id) h = tt
entries_without (s ∷ slots) zero h = h.1
entries_without (s ∷ slots) (suc id) h = (h.0, entries_without slots id h.1)

entries_left : (first : Bool) (v : AcceptedVersions) (bytes : List ℕ) (moved : Option ℕ) (slots : List Slot) → SlotsAs (StructMark v bytes) first slots → IsMovedEntry moved slots → Each IsFileOrDirectory (behind first (without moved slots))
entries_left false v bytes None slots h m = recursion_from_All IsFileOrDirectory slots h
entries_left false v bytes (Some id) slots h m = entries_without slots id (recursion_from_All IsFileOrDirectory slots h)
entries_left true v bytes moved [] h m = absurd h
entries_left true v bytes None (s ∷ slots) h m = recursion_from_All IsFileOrDirectory slots h.2
entries_left true v bytes (Some zero) (s ∷ slots) h (t, (e, entry)) =
    absurd (let other = entry_is_other t entry in let same = ap is_superblock (same_Some s t e) in let clash : true ≡ false = sym h.0 ∙ same ∙ other in cc)
entries_left true v bytes (Some (suc id)) (s ∷ slots) h m = entries_without slots id (recursion_from_All IsFileOrDirectory slots h.2)

pub have_entries : (g : Gstate) (first : Bool) (v : AcceptedVersions) (bytes : List ℕ) (qs : List Pair) → HoldSlots (StructMark v bytes) first qs → Each (λ q. IsMovedEntry (moved_id g q) q.content.slots) qs → HaveEntries g first qs
have_entries g first v bytes [] h m = tt
have_entries g first v bytes (q ∷ qs) h m = (
  subst (λ ss. All IsFileOrDirectory (behind first ss)) (sym (unmoved-without g q))
      (All-from_recursion IsFileOrDirectory (behind first (without (moved_id g q) q.content.slots)) (entries_left first v bytes (moved_id g q) q.content.slots h.0 m.0)),
  have_entries g false v bytes qs h.1 m.1,
)

-- ---- lists that can be marked

one_listed : (disk : Disk) (s : Slot) (slots : List Slot) (t : Struct) → s.struct ≡ t → IsWellFormedList disk t → Each (λ l. IsSkipList disk.blocks disk.block_size l.0 l.1) (lists_of slots)
    → Each (λ l. IsSkipList disk.blocks disk.block_size l.0 l.1) (lists_of (s ∷ slots))
one_listed disk s slots (Inline bytes) e k h = subst (λ o. Each (λ l. IsSkipList disk.blocks disk.block_size l.0 l.1) (cons_option o (lists_of slots))) (sym (ap (λ t. list_head_and_size (s.name, struct_reference t)) e)) h
one_listed disk s slots (Ctz head size) e k h = subst (λ o. Each (λ l. IsSkipList disk.blocks disk.block_size l.0 l.1) (cons_option o (lists_of slots))) (sym (ap (λ t. list_head_and_size (s.name, struct_reference t)) e)) (k, h)
one_listed disk s slots (Branch to) e k h = subst (λ o. Each (λ l. IsSkipList disk.blocks disk.block_size l.0 l.1) (cons_option o (lists_of slots))) (sym (ap (λ t. list_head_and_size (s.name, struct_reference t)) e)) h

are_lists : (disk : Disk) (slots : List Slot) → Each (λ s. IsWellFormedList disk s.struct) slots → Each (λ l. IsSkipList disk.blocks disk.block_size l.0 l.1) (lists_of slots)
are_lists disk [] h = tt
are_lists disk (s ∷ slots) h = one_listed disk s slots s.struct refl h.0 (are_lists disk slots h.1)

pairs_lists : (disk : Disk) (g : Gstate) (bytes : List ℕ) (first : Bool) (qs : List Pair) → Starting disk.profile.versions bytes first qs → HaveEntries g first qs → Each (λ q. IsMovedEntry (moved_id g q) q.content.slots) qs
    → Each (λ s. IsWellFormedList disk s.struct) (flat_map (slots_not_moved g) qs) → Each (λ l. IsSkipList disk.blocks disk.block_size l.0 l.1) (flat_map (λ q. lists_of (unmoved_entries g q)) qs)
pairs_lists disk g bytes first [] s h m k = tt
pairs_lists disk g bytes first (q ∷ qs) s h m k =
    let f = fronted_pair g disk.profile.versions bytes first q s.0 m.0 h.0 in
    let P : ℕ × ℕ → Type 0 = λ x. IsSkipList disk.blocks disk.block_size x.0 x.1 in
    let Q : Slot → Type 0 = λ x. IsWellFormedList disk x.struct in
    each_append P (lists_of (unmoved_entries g q)) (flat_map (λ r. lists_of (unmoved_entries g r)) qs)
    (are_lists disk (unmoved_entries g q) (each_right Q f.front (unmoved_entries g q) (subst (Each Q) f.parts (each_left Q (slots_not_moved g q) (flat_map (slots_not_moved g) qs) k))))
    (pairs_lists disk g bytes false qs s.1 h.1 m.1 (each_right Q (slots_not_moved g q) (flat_map (slots_not_moved g) qs) k))

in_range : (disk : Disk) (n : ℕ) (ls : List (ℕ × ℕ)) → n ≡ block_count disk → Each (λ l. IsSkipList disk.blocks disk.block_size l.0 l.1) ls → Each (λ b. b < n) (flat_map (list_blocks_backwards disk) ls)
in_range disk n [] e h = tt
in_range disk n (l ∷ ls) e h =
    let P : ℕ → Type 0 = λ b. b < n in
    let back : List ℕ = blocks_to_head disk.blocks (skip_list_block_count disk.block_size l.1) l.0 in
    let there : Each P back = recursion_from_All P back (λ k d lt. let r = h.0.blocks.in_range k d lt in omega arith) in
    each_append P (list_blocks_backwards disk l) (flat_map (list_blocks_backwards disk) ls)
    (each_from_counted P (reverse back) (λ b le. each_counted P back there b (let same = occurrence_count-reverse b back in omega arith)))
    (in_range disk n ls e h.1)

others_start : (v : AcceptedVersions) (bytes : List ℕ) (qs : List Pair) → Starting v bytes false qs
others_start v bytes [] = tt
others_start v bytes (q ∷ qs) = ((λ e. absurd (cc)), others_start v bytes qs)

begins : (v : AcceptedVersions) (bytes : List ℕ) (slots : List Slot) → IsSuperblockFirst (RepeatsSuperblockStruct v bytes) slots → FirstSlotIsSuperblock v bytes slots
begins v bytes [] h = absurd h
begins v bytes (s ∷ slots) h = (h.0, h.1)

-- ---- the pass

pub accepted_passes : (disk : Disk) (chain : List Pair) (p : Pair) (rest : List Pair) (ms : List DirectoryPairHeader) (firsts : List (ℕ × ℕ)) (sets : BlockStates)
    → IsChain chain (p ∷ rest) → AreByteBlocks disk.blocks → length sets ≡ block_count disk → HasExactlyUsedBlocks sets (pairs_blocks (chain ++ p ∷ rest)) → ArePairDescriptions disk (pairs_gstate (chain ++ p ∷ rest)) true (p ∷ rest) ms
    → IsAccepted disk (chain ++ p ∷ rest) → (graph : DirectoryGraph) × (end : BlockStates) × ScansPairs disk firsts empty_scan sets ms graph end
accepted_passes disk chain p rest ms firsts sets chain_is has_bytes len owns members a =
    let ps : List Pair = chain ++ p ∷ rest in
    let dirs : List Pair = p ∷ rest in
    let g : Gstate = pairs_gstate ps in
    let bytes : List ℕ = a.superblock.0 in
    let hold = (hold_from_rules (StructMark disk.profile.versions bytes) chain p rest chain_is a.superblock.1.1 a.root a.slots).1 in
    let starting : Starting disk.profile.versions bytes true dirs = ((λ e. begins disk.profile.versions bytes p.content.slots hold.0), others_start disk.profile.versions bytes rest) in
    let moved : Each (λ q. IsMovedEntry (moved_id g q) q.content.slots) dirs =
    moved_entries g true disk.profile.versions bytes dirs hold (each_right (λ q. g.kind ≡ 0x4ff → same_pair g.pair q.at ≡ true → IsEntry (slice_get q.content.slots g.id)) chain dirs (move_named g ps a.thread.distinct a.move)) in
    let entries : HaveEntries g true dirs = have_entries g true disk.profile.versions bytes dirs hold moved in
    let Q : Slot → Type 0 = λ x. IsWellFormedList disk x.struct in
    let P : ℕ × ℕ → Type 0 = λ x. IsSkipList disk.blocks disk.block_size x.0 x.1 in
    let all : List (ℕ × ℕ) = flat_map (λ q. lists_of (unmoved_entries g q)) dirs in
    let parts : all_unmoved_slots ps ≡ flat_map (slots_not_moved g) chain ++ flat_map (slots_not_moved g) dirs = flat_map-append (slots_not_moved g) chain dirs in
    let lists : Each P all =
    pairs_lists disk g bytes true dirs starting entries moved (each_right Q (flat_map (slots_not_moved g) chain) (flat_map (slots_not_moved g) dirs) (subst (Each Q) parts (recursion_from_All Q (all_unmoved_slots ps) a.lists))) in
    let marked : List ℕ = flat_map (list_blocks_backwards disk) all in
    let blocks : List Slot → List ℕ = λ slots. flat_map (λ s. struct_blocks disk s.struct) slots in
    let within : Each (λ b. b < length sets) marked = in_range disk (length sets) all len lists in
    let distinct : IsDistinct nat_eq (pairs_blocks ps ++ marked) = distinct_from_once (pairs_blocks ps ++ marked) (λ b.
    let once = once_from_distinct (used_blocks disk ps) a.owned_once b in
    let used = count_append b (pairs_blocks ps) (blocks (all_unmoved_slots ps)) in
    let both : occurrence_count b (blocks (all_unmoved_slots ps)) ≡ occurrence_count b (blocks (flat_map (slots_not_moved g) chain)) + occurrence_count b (blocks (flat_map (slots_not_moved g) dirs)) =
    ap (occurrence_count b) (ap blocks parts ∙ flat_map-append (λ (s : Slot). struct_blocks disk s.struct) (flat_map (slots_not_moved g) chain) (flat_map (slots_not_moved g) dirs))
    ∙ count_append b (blocks (flat_map (slots_not_moved g) chain)) (blocks (flat_map (slots_not_moved g) dirs)) in
    let same : occurrence_count b (blocks (flat_map (slots_not_moved g) dirs)) ≡ occurrence_count b marked = counted disk g bytes b true dirs starting entries moved in
    let whole = count_append b (pairs_blocks ps) marked in
    omega arith) in
    let marks = can_mark sets (pairs_blocks ps) marked owns (All-from_recursion (λ b. b < length sets) marked within) distinct in
    let passes = can_pass disk firsts g true dirs ms empty_scan sets marks.0 has_bytes members entries moved (record { lists = All-from_recursion P all lists; marked = marks.1 }) in
    (passes.0, marks.0, passes.1)
