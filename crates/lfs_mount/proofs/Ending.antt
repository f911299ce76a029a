-- The thread of an accepted image, from the results of the pass and the search.
use Rattle.std.proofs.Common.{ℕ, zero, suc, ◌≡◌, inl, inr, Bool, true, false, List, [], ◌∷◌, ◌++◌, Option, Some, None, refl, sym, ap, subst, subst₂, ◌∙◌, arith, nat_eq, flat_map}
use Rattle.std.specs.Prelude.{All}
use Rattle.std.specs.List.{IsDistinct}
use Rattle.lfs_mount.proofs.Common.{flat_map-append, All-from_recursion, recursion_from_All, BlockStates, content_at, Disk, block_count, IsSkipList, Slot, Gstate, Pair, IsThread, pairs_blocks, pairs_gstate, slots_not_moved, unmoved_entries, moved_id, IsFileOrDirectory, IsSuperblockFirst, RepeatsSuperblockStruct, IsWellFormedList, HasValidMove, IsAccepted, struct_blocks, all_unmoved_slots, used_blocks, all_directories, Each, each_append, occurrence_count, count_append, once_from_distinct, distinct_from_once, IsChain, pairs_behind, StructMark, HoldSlots, DirectoryGraph, IsDirectoryTree, IsGraphOfThread, empty_scan, HasExactlyUsedBlocks, MarksAllListsUsed, list_blocks_backwards, ArePairDescriptions, FirstSlotIsSuperblock, HasOnlySuperblockSlot, IsEmptyOrOnlySuperblock, IsDescribedThread, MovedSlotIsEntry, MoveSourceIsEntry, ScansPairs, MapUsesBlocks, directory_addresses}
use Rattle.lfs_model.specs.declared.limits.AcceptedVersions.{AcceptedVersions}
use Rattle.lfs_model.specs.tree.View.{SuperblockFirstIfAny}
use Rattle.lfs_model.proofs.Counts.{each_weaker}
use Rattle.lfs_model.proofs.Superblocks.{Mark, root_rule, superblock_rule, slots_rule}
use Rattle.lfs_mount.specs.Checked.{HasSuperblockChain}
use Rattle.lfs_mount.specs.declared.pass.DirectoryPairHeader.{DirectoryPairHeader}
use Rattle.lfs_mount.proofs.Owned.{owned_more, has_only}
use Rattle.lfs_mount.proofs.Rules.{behind, without, unmoved-without, IsMovedEntry, lists_of, HaveEntries, passed_rules, thread_shows}
use Rattle.lfs_mount.proofs.Accepts.{IsInline, Starting, starts_so, slots_right, no_blocks, no_lists, counted, listed}

bare_headed : (v : AcceptedVersions) (bytes : List ℕ) (chain : List Pair) → Each (IsEmptyOrOnlySuperblock v bytes) chain → Each (λ q. SuperblockFirstIfAny (RepeatsSuperblockStruct v bytes) q.content.slots) chain
bare_headed v bytes [] h = tt
bare_headed v bytes (q ∷ chain) h = (go h.0, bare_headed v bytes chain h.1)
  where
    go : IsEmptyOrOnlySuperblock v bytes q → SuperblockFirstIfAny (RepeatsSuperblockStruct v bytes) q.content.slots
    go (inl none) = subst (SuperblockFirstIfAny (RepeatsSuperblockStruct v bytes)) (sym none) tt
    go (inr alone) = subst (SuperblockFirstIfAny (RepeatsSuperblockStruct v bytes)) (sym alone.slots) (alone.superblock, alone.struct, (λ k d lt. absurd (omega arith)))

inline_slot : (v : AcceptedVersions) (bytes : List ℕ) (s : Slot) → RepeatsSuperblockStruct v bytes s → IsInline s.struct
inline_slot v bytes s h = subst IsInline (sym h.1.0) tt

-- whatever the global state names
alone_inline : (g : Gstate) (v : AcceptedVersions) (bytes : List ℕ) (q : Pair) → HasOnlySuperblockSlot v bytes q → Each (λ s. IsInline s.struct) (slots_not_moved g q)
alone_inline g v bytes q h = subst (Each (λ s. IsInline s.struct)) (sym (unmoved-without g q ∙ ap (without (moved_id g q)) h.slots)) (go (moved_id g q))
  where
    go : (moved : Option ℕ) → Each (λ s. IsInline s.struct) (without moved (h.slot ∷ []))
    go None = (inline_slot v bytes h.slot h.struct, tt)
    go (Some zero) = tt
    go (Some (suc zero)) = (inline_slot v bytes h.slot h.struct, tt)
    go (Some (suc (suc id))) = (inline_slot v bytes h.slot h.struct, tt)

bare_inline : (g : Gstate) (v : AcceptedVersions) (bytes : List ℕ) (q : Pair) → IsEmptyOrOnlySuperblock v bytes q → Each (λ s. IsInline s.struct) (slots_not_moved g q)
bare_inline g v bytes q (inr alone) = alone_inline g v bytes q alone
bare_inline g v bytes q (inl none) = subst (Each (λ s. IsInline s.struct)) (sym (unmoved-without g q ∙ ap (without (moved_id g q)) none)) (go (moved_id g q))
  where
    go : (moved : Option ℕ) → Each (λ s. IsInline s.struct) (without moved [])
    go None = tt
    go (Some zero) = tt
    go (Some (suc id)) = tt

chain_inline : (g : Gstate) (v : AcceptedVersions) (bytes : List ℕ) (chain : List Pair) → Each (IsEmptyOrOnlySuperblock v bytes) chain → Each (λ s. IsInline s.struct) (flat_map (slots_not_moved g) chain)
chain_inline g v bytes [] h = tt
chain_inline g v bytes (q ∷ chain) h = each_append (λ (s : Slot). IsInline s.struct) (slots_not_moved g q) (flat_map (slots_not_moved g) chain) (bare_inline g v bytes q h.0) (chain_inline g v bytes chain h.1)

-- pairs behind the first begin with none
others_start : (v : AcceptedVersions) (bytes : List ℕ) (ps : List Pair) → Starting v bytes false ps
others_start v bytes [] = tt
others_start v bytes (p ∷ ps) = ((λ e. absurd (cc)), others_start v bytes ps)

others_hold : (g : Gstate) (m : Mark) (ps : List Pair) → HaveEntries g false ps → Each (λ p. IsMovedEntry (moved_id g p) p.content.slots) ps → HoldSlots m false ps
others_hold g m [] h k = tt
others_hold g m (p ∷ ps) h k = (slots_right g false p k.0 (λ e. absurd (cc)) h.0, others_hold g m ps h.1 k.1)

headed : (v : AcceptedVersions) (bytes : List ℕ) (slots : List Slot) → FirstSlotIsSuperblock v bytes slots → All IsFileOrDirectory (behind true slots) → IsSuperblockFirst (RepeatsSuperblockStruct v bytes) slots
headed v bytes [] h entries = absurd h
headed v bytes (s ∷ slots) h entries = (h.0, h.1, entries)

module _ (disk : Disk) (chain : List Pair) (p : Pair) (rest : List Pair) (bytes : List ℕ) (chain_is : IsChain chain (p ∷ rest)) (head : HasSuperblockChain disk chain p rest bytes) where
  abbrev ps : List Pair
  ps = chain ++ p ∷ rest

  abbrev g : Gstate
  g = pairs_gstate ps

  abbrev dirs : List Pair
  dirs = p ∷ rest

  starting : Starting disk.profile.versions bytes true dirs
  starting = ((λ e. head.start), others_start disk.profile.versions bytes rest)

  slots_parted : all_unmoved_slots ps ≡ flat_map (slots_not_moved g) chain ++ flat_map (slots_not_moved g) dirs
  slots_parted = flat_map-append (slots_not_moved g) chain dirs

  -- the two rules on lists
  all_lists : (lists : List (ℕ × ℕ)) → lists ≡ flat_map (λ q. lists_of (unmoved_entries g q)) dirs → HaveEntries g true dirs → Each (λ q. IsMovedEntry (moved_id g q) q.content.slots) dirs
      → All (λ l. IsSkipList disk.blocks disk.block_size l.0 l.1) lists → All (λ s. IsWellFormedList disk s.struct) (all_unmoved_slots ps)
  all_lists lists e entries moved all =
      let P : ℕ × ℕ → Type 0 = λ x. IsSkipList disk.blocks disk.block_size x.0 x.1 in
      let Q : Slot → Type 0 = λ x. IsWellFormedList disk x.struct in
      All-from_recursion Q (all_unmoved_slots ps) (subst (Each Q) (sym slots_parted)
      (each_append Q (flat_map (slots_not_moved g) chain) (flat_map (slots_not_moved g) dirs) (no_lists disk (flat_map (slots_not_moved g) chain) (chain_inline g disk.profile.versions bytes chain head.bare))
      (listed disk g bytes true dirs starting entries moved (subst (Each P) e (recursion_from_All P lists all)))))

  -- the blocks that are marked are those of the files
  used_counted : HaveEntries g true dirs → Each (λ q. IsMovedEntry (moved_id g q) q.content.slots) dirs
      → (b : ℕ) → occurrence_count b (used_blocks disk ps) ≡ occurrence_count b (pairs_blocks ps ++ flat_map (list_blocks_backwards disk) (flat_map (λ q. lists_of (unmoved_entries g q)) dirs))
  used_counted entries moved b =
      let marked : List ℕ = flat_map (list_blocks_backwards disk) (flat_map (λ q. lists_of (unmoved_entries g q)) dirs) in
      let blocks : List Slot → List ℕ = λ slots. flat_map (λ s. struct_blocks disk s.struct) slots in
      let before = count_append b (pairs_blocks ps) marked in
      let after = count_append b (pairs_blocks ps) (blocks (all_unmoved_slots ps)) in
      let parts : blocks (all_unmoved_slots ps) ≡ blocks (flat_map (slots_not_moved g) dirs) =
      ap blocks slots_parted ∙ flat_map-append (λ (s : Slot). struct_blocks disk s.struct) (flat_map (slots_not_moved g) chain) (flat_map (slots_not_moved g) dirs)
      ∙ ap (λ bs. bs ++ blocks (flat_map (slots_not_moved g) dirs)) (no_blocks disk (flat_map (slots_not_moved g) chain) (chain_inline g disk.profile.versions bytes chain head.bare)) in
      let same : occurrence_count b (blocks (all_unmoved_slots ps)) ≡ occurrence_count b marked = ap (occurrence_count b) parts ∙ counted disk g bytes b true dirs starting entries moved in
      omega arith

  once_owned : (sets end : BlockStates) → HaveEntries g true dirs → Each (λ q. IsMovedEntry (moved_id g q) q.content.slots) dirs
      → HasExactlyUsedBlocks sets (pairs_blocks ps) → MarksAllListsUsed disk sets (flat_map (λ q. lists_of (unmoved_entries g q)) dirs) end → IsDistinct nat_eq (used_blocks disk ps)
  once_owned sets end entries moved owns lists =
      let marked : List ℕ = flat_map (list_blocks_backwards disk) (flat_map (λ q. lists_of (unmoved_entries g q)) dirs) in
      let all = owned_more sets (pairs_blocks ps) marked end owns lists.marked in
      distinct_from_once (used_blocks disk ps) (λ b.
      let once = once_from_distinct (pairs_blocks ps ++ marked) all.distinct b in
      let same = used_counted entries moved b in
      omega arith)

  -- Ok of the pass: the map has the blocks of the image
  pub has_blocks : (ms : List DirectoryPairHeader) (sets end : BlockStates) (graph : DirectoryGraph) → HasExactlyUsedBlocks sets (pairs_blocks ps)
      → ArePairDescriptions disk g true dirs ms → ScansPairs disk (directory_addresses (all_directories ps)) empty_scan sets ms graph end → MapUsesBlocks sets end (used_blocks disk ps)
  has_blocks ms sets end graph owns members passes =
      let h = passed_rules disk (directory_addresses (all_directories ps)) g true dirs ms empty_scan sets graph end members passes in
      let marked : List ℕ = flat_map (list_blocks_backwards disk) (flat_map (λ q. lists_of (unmoved_entries g q)) dirs) in
      has_only sets end (pairs_blocks ps) marked (used_blocks disk ps) owns h.lists.marked (used_counted h.kept h.moved)

  -- Ok of the pass and of the search
  pub is_accepted : (ms : List DirectoryPairHeader) (sets end : BlockStates) (graph : DirectoryGraph) → IsThread (content_at disk) (block_count disk) ps → HasValidMove ps g → HasExactlyUsedBlocks sets (pairs_blocks ps)
      → ArePairDescriptions disk g true dirs ms → ScansPairs disk (directory_addresses (all_directories ps)) empty_scan sets ms graph end → IsDirectoryTree disk.order ps → IsAccepted disk ps
  is_accepted ms sets end graph thread move owns members passes right =
      let h = passed_rules disk (directory_addresses (all_directories ps)) g true dirs ms empty_scan sets graph end members passes in
      let hold : HoldSlots (StructMark disk.profile.versions bytes) true dirs =
      (headed disk.profile.versions bytes p.content.slots head.start (slots_right g true p h.moved.0 (λ e. starts_so disk.profile.versions bytes p.content.slots head.start) h.kept.0), others_hold g (StructMark disk.profile.versions bytes) rest h.kept.1 h.moved.1) in
      record {
        thread = thread;
        first = head.first;
        named = head.named;
        root = root_rule (StructMark disk.profile.versions bytes) chain p rest chain_is hold;
        superblock = (bytes, (head.struct, superblock_rule (StructMark disk.profile.versions bytes) chain p rest chain_is (bare_headed disk.profile.versions bytes chain head.bare) hold));
        slots = slots_rule (StructMark disk.profile.versions bytes) chain p rest chain_is hold;
        order = right.tree.order;
        branches = right.tree.branches;
        once = right.tree.once;
        reached = right.reached;
        move = move;
        lists = all_lists (flat_map (λ q. lists_of (unmoved_entries g q)) dirs) refl h.kept h.moved h.lists.lists;
        owned_once = once_owned sets end h.kept h.moved owns h.lists;
      }

-- ---- the whole check

pub known_drawn : (disk : Disk) (sets : BlockStates) (firsts : List (ℕ × ℕ)) (ms : List DirectoryPairHeader) (sync : Bool) (chain : List Pair) (p : Pair) (rest : List Pair) (graph : DirectoryGraph) (end : BlockStates)
    → IsDescribedThread disk sets firsts ms sync chain p rest → ScansPairs disk firsts empty_scan sets ms graph end → IsGraphOfThread disk.order graph firsts sync (chain ++ p ∷ rest)
known_drawn disk sets firsts ms sync chain p rest graph end known passes =
    let ps : List Pair = chain ++ p ∷ rest in
    subst₂ (λ f s. IsGraphOfThread disk.order graph f s ps) (sym known.places) known.sync_is
    (thread_shows disk ps ms sets graph end known.thread (subst (λ qs. ArePairDescriptions disk (pairs_gstate ps) true qs ms) (sym (pairs_behind chain (p ∷ rest) known.chain_is)) known.described)
    (subst (λ f. ScansPairs disk f empty_scan sets ms graph end) known.places passes))

pub checked_accepted : (disk : Disk) (sets : BlockStates) (firsts : List (ℕ × ℕ)) (ms : List DirectoryPairHeader) (sync : Bool) (chain : List Pair) (p : Pair) (rest : List Pair) (bytes : List ℕ) (graph : DirectoryGraph) (end : BlockStates)
    → IsDescribedThread disk sets firsts ms sync chain p rest → HasSuperblockChain disk chain p rest bytes → HasValidMove (chain ++ p ∷ rest) (pairs_gstate (chain ++ p ∷ rest))
    → ScansPairs disk firsts empty_scan sets ms graph end → IsDirectoryTree disk.order (chain ++ p ∷ rest) → IsAccepted disk (chain ++ p ∷ rest)
checked_accepted disk sets firsts ms sync chain p rest bytes graph end known head move passes right =
    is_accepted disk chain p rest bytes known.chain_is head ms sets end graph known.thread move known.owns known.described
    (subst (λ f. ScansPairs disk f empty_scan sets ms graph end) known.places passes) right

-- the map has the blocks of the image
pub checked_blocks : (disk : Disk) (sets : BlockStates) (firsts : List (ℕ × ℕ)) (ms : List DirectoryPairHeader) (sync : Bool) (chain : List Pair) (p : Pair) (rest : List Pair) (bytes : List ℕ) (graph : DirectoryGraph) (end : BlockStates)
    → IsDescribedThread disk sets firsts ms sync chain p rest → HasSuperblockChain disk chain p rest bytes → ScansPairs disk firsts empty_scan sets ms graph end → MapUsesBlocks sets end (used_blocks disk (chain ++ p ∷ rest))
checked_blocks disk sets firsts ms sync chain p rest bytes graph end known head passes =
    has_blocks disk chain p rest bytes known.chain_is head ms sets end graph known.owns known.described
    (subst (λ f. ScansPairs disk f empty_scan sets ms graph end) known.places passes)

-- the slot that is moved away is an entry
pub checked_moved : (disk : Disk) (sets : BlockStates) (firsts : List (ℕ × ℕ)) (ms : List DirectoryPairHeader) (sync : Bool) (chain : List Pair) (p : Pair) (rest : List Pair) (graph : DirectoryGraph) (end : BlockStates)
    → IsDescribedThread disk sets firsts ms sync chain p rest → ScansPairs disk firsts empty_scan sets ms graph end → MoveSourceIsEntry (pairs_gstate (chain ++ p ∷ rest)) (p ∷ rest)
checked_moved disk sets firsts ms sync chain p rest graph end known passes =
    let g : Gstate = pairs_gstate (chain ++ p ∷ rest) in
    each_weaker (λ q. IsMovedEntry (moved_id g q) q.content.slots) (λ q. MovedSlotIsEntry (moved_id g q) q.content.slots) (λ q h. entry_if_some (moved_id g q) q.content.slots h) (p ∷ rest)
    (passed_rules disk firsts g true (p ∷ rest) ms empty_scan sets graph end known.described passes).moved
  where
    entry_if_some : (o : Option ℕ) (slots : List Slot) → IsMovedEntry o slots → MovedSlotIsEntry o slots
    entry_if_some None slots h = tt
    entry_if_some (Some id) slots h = h
