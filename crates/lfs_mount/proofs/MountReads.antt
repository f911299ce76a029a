-- The number of reads that the check of an image costs, by its thread.
use Rattle.std.proofs.Common.{ℕ, ◌≡◌, ◌≤◌, ◌<◌, ◌+◌, not, Bool, true, false, cond, List, [], ◌∷◌, ◌++◌, length, drop, filter, Some, sym, ap, subst, ◌∙◌, arith, refl, length-append}
use Rattle.std.specs.Prelude.{All, sum_by}
use Rattle.lfs_mount.proofs.Common.{cons_option, flat_map, flat_map-append, same_Some, AreByteBlocks, BlockStates, Disk, disk_block, CallEvent, Name, Branch, Ctz, Gstate, Inline, Slot, Struct, is_superblock, AreLinkedByTails, Pair, superblock_pair_address, pairs_gstate, slots_not_moved, unmoved_entries, moved_id, IsAccepted, IsFileOrDirectory, PairHeader, header_pairs, ArePairDescriptions, IsPairDescription, empty_scan, struct_reference, HasSuperblockChainLength, list_head_and_size, IsThreadRead, IsHeaderThread, header_descriptions, ScansPairs, scan_after_tail, DirectoryGraph, Vertex, list_reads, described_lists, mount_reads, pair_reads, ScansPair, slots_without_superblock, slots_without_moved}
use Rattle.std.proofs.lemmas.List.Sums.{sum_by-append, sum_by-cons}
use Rattle.lfs_model.specs.format.Content.{has_commit}
use Rattle.lfs_pair.specs.Pair.{fetch_reads, later_block_first}
use Rattle.lfs_thread.specs.HeaderReading.{thread_reads}
use Rattle.lfs_mount.specs.MountReads.{check_reads, lists_reads, list_reads_of_struct}
use Rattle.lfs_mount.specs.declared.pass.DirectoryPairHeader.{DirectoryPairHeader}
use Rattle.lfs_mount.proofs.KnownThread.{known_thread}
use Rattle.lfs_mount.proofs.ReadCounts.{takes_lists}
use Rattle.lfs_mount.proofs.Refuses.{accepted_passes}
use Rattle.lfs_mount.proofs.Rules.{behind, held_slots, kept_parts, lists_of, same_lists, starts_without, unmoved-without, visible_behind, without, without_moved, without_superblock}
use Rattle.lfs_mount.proofs.Scans.{scan_some}

-- ---- slots

abbrev slot_reads : ℕ → Slot → ℕ
slot_reads block_size s = list_reads_of_struct block_size s.struct

one_read : (block_size : ℕ) (s : Slot) (t : Struct) (slots : List Slot) → s.struct ≡ t
    → sum_by (list_reads block_size) (lists_of (s ∷ slots)) ≡ list_reads_of_struct block_size t + sum_by (list_reads block_size) (lists_of slots)
one_read block_size s (Inline bytes) slots e =
    let same : sum_by (list_reads block_size) (lists_of (s ∷ slots)) ≡ sum_by (list_reads block_size) (lists_of slots) =
    ap (λ o. sum_by (list_reads block_size) (cons_option o (lists_of slots))) (ap (λ t. list_head_and_size (s.name, struct_reference t)) e) in
    omega (arith, same)
one_read block_size s (Ctz head size) slots e =
    ap (λ o. sum_by (list_reads block_size) (cons_option o (lists_of slots))) (ap (λ t. list_head_and_size (s.name, struct_reference t)) e) ∙ sum_by-cons (list_reads block_size) (head, size) (lists_of slots)
one_read block_size s (Branch to) slots e =
    let same : sum_by (list_reads block_size) (lists_of (s ∷ slots)) ≡ sum_by (list_reads block_size) (lists_of slots) =
    ap (λ o. sum_by (list_reads block_size) (cons_option o (lists_of slots))) (ap (λ t. list_head_and_size (s.name, struct_reference t)) e) in
    omega (arith, same)

slots_read : (block_size : ℕ) (slots : List Slot) → sum_by (list_reads block_size) (lists_of slots) ≡ sum_by (slot_reads block_size) slots
slots_read block_size [] = refl
slots_read block_size (s ∷ slots) =
    let one = one_read block_size s s.struct slots refl in
    let others = slots_read block_size slots in
    let all = sum_by-cons (slot_reads block_size) s slots in
    omega arith

fewer_read : (f : Slot → ℕ) (q : Slot → Bool) (slots : List Slot) → sum_by f (filter q slots) ≤ sum_by f slots
fewer_read f q [] = omega arith
fewer_read f q (s ∷ slots) = go (q s) (fewer_read f q slots)
  where
    go : (b : Bool) → sum_by f (filter q slots) ≤ sum_by f slots → sum_by f (cond b (s ∷ filter q slots) (filter q slots)) ≤ sum_by f (s ∷ slots)
    go true h = let one = sum_by-cons f s (filter q slots) in let all = sum_by-cons f s slots in omega arith
    go false h = let all = sum_by-cons f s slots in omega arith

-- ---- pairs

-- the lists of a pair that the pass accepts are those of its visible slots
taken_lists : (disk : Disk) (firsts : List (ℕ × ℕ)) (g : Gstate) (first : Bool) (p : Pair) (m : DirectoryPairHeader) (known : Name × Vertex) (sets : BlockStates) (new : Name × Vertex) (marked : BlockStates)
    → IsPairDescription disk g first p m → ScansPair disk firsts m known sets new marked → described_lists disk m ≡ lists_of (unmoved_entries g p)
taken_lists disk firsts g first p m known sets new marked h t =
    let all = held_slots disk g first p m t.held h t.content in
    let parts = kept_parts m t.held.slots t.entries t.kept in
    let w = without_moved (moved_id g p) t.held.slots parts.0 p.content.slots all (ap (λ o. slots_without_moved o t.held.slots) (sym h.moved) ∙ parts.1.0) in
    let are = without_superblock first parts.0 t.entries (without (moved_id g p) p.content.slots) w.are (ap (λ b. slots_without_superblock b parts.0) (sym h.first) ∙ parts.1.1) in
    let s = scan_some disk.order firsts known t.entries new t.scan in
    let same : s.slots ≡ behind first (without (moved_id g p) p.content.slots) = same_Some s.slots (behind first (without (moved_id g p) p.content.slots)) (sym s.are ∙ are) in
    let seen : behind first (without (moved_id g p) p.content.slots) ≡ unmoved_entries g p =
    sym (visible_behind first (without (moved_id g p) p.content.slots) (λ e. starts_without (moved_id g p) p.content.slots w.entry (h.starts e)) (subst (All IsFileOrDirectory) same s.entries))
    ∙ ap (filter (λ x. not (is_superblock x))) (sym (unmoved-without g p)) in
    takes_lists disk firsts m known new sets marked t ∙ same_lists disk.order firsts known new t.entries s.slots t.scan s.are ∙ ap lists_of (same ∙ seen)

passed_reads : (disk : Disk) (firsts : List (ℕ × ℕ)) (g : Gstate) (first : Bool) (ps : List Pair) (ms : List DirectoryPairHeader) (known : Name × Vertex) (sets : BlockStates) (graph : DirectoryGraph) (end : BlockStates)
    → ArePairDescriptions disk g first ps ms → ScansPairs disk firsts known sets ms graph end
    → sum_by (pair_reads disk) ms ≤ length ps + sum_by (slot_reads disk.block_size) (flat_map (slots_not_moved g) ps)
passed_reads disk firsts g first [] [] known sets graph end h t = omega arith
passed_reads disk firsts g first [] (x ∷ ms) known sets graph end h t = absurd h
passed_reads disk firsts g first (p ∷ ps) [] known sets graph end h t = absurd h
passed_reads disk firsts g first (p ∷ ps) (x ∷ ms) known sets graph end h (new, mid, rest, (takes, (e, more))) =
    let lists = taken_lists disk firsts g first p x known sets new mid h.0 takes in
    let here = ap (sum_by (list_reads disk.block_size)) lists ∙ slots_read disk.block_size (unmoved_entries g p) in
    let fewer = fewer_read (slot_reads disk.block_size) (λ s. not (is_superblock s)) (slots_not_moved g p) in
    let one = sum_by-cons (pair_reads disk) x ms in
    let both = sum_by-append (slot_reads disk.block_size) (slots_not_moved g p) (flat_map (slots_not_moved g) ps) in
    let others = passed_reads disk firsts g false ps ms (scan_after_tail x.is_hard new) mid rest end h.1 more in
    omega arith

-- ---- the whole check

module _ (disk : Disk) (history : List CallEvent) (hs : List PairHeader) (sets : BlockStates) (g : Gstate) (count : ℕ) (r : IsThreadRead disk history hs sets g) (head : HasSuperblockChainLength disk (header_pairs disk hs) count) where
  pub directories_read : AreByteBlocks disk.blocks → IsAccepted disk (header_pairs disk hs)
      → count + sum_by (pair_reads disk) (header_descriptions g true (drop count hs)) ≤ length (header_pairs disk hs) + lists_reads disk (header_pairs disk hs)
  directories_read bytes a =
      let ps : List Pair = head.chain ++ head.p ∷ head.rest in
      let members : List DirectoryPairHeader = header_descriptions g true (drop count hs) in
      let known : IsHeaderThread disk sets g (drop count hs) head.chain head.p head.rest = known_thread disk history hs sets g count r head in
      let passes = accepted_passes disk head.chain head.p head.rest members [] sets known.chain_is bytes known.sets_len known.owns known.described (subst (IsAccepted disk) head.parts a) in
      let most = passed_reads disk [] (pairs_gstate ps) true (head.p ∷ head.rest) members empty_scan sets passes.0 passes.1 known.described passes.2 in
      let same = ap (lists_reads disk) head.parts in
      let both = ap (sum_by (slot_reads disk.block_size)) (flat_map-append (slots_not_moved (pairs_gstate ps)) head.chain (head.p ∷ head.rest))
      ∙ sum_by-append (slot_reads disk.block_size) (flat_map (slots_not_moved (pairs_gstate ps)) head.chain) (flat_map (slots_not_moved (pairs_gstate ps)) (head.p ∷ head.rest)) in
      let len = ap length head.parts ∙ length-append head.chain (head.p ∷ head.rest) in
      let chain = head.chain_is in
      omega arith

-- a thread has a pair
pub some_pair : (ps : List Pair) → AreLinkedByTails (Some superblock_pair_address) ps → 0 < length ps
some_pair [] links = absurd (cc)
some_pair (p ∷ ps) links = omega arith

at_least_three : (b : Bool) → 3 ≤ cond b 3 4
at_least_three true = omega arith
at_least_three false = omega arith

-- each header costs at least one read
pub thread_reads-no_fewer : (disk : Disk) (ps : List Pair) → length ps ≤ thread_reads disk ps
thread_reads-no_fewer disk [] = omega arith
thread_reads-no_fewer disk (p ∷ ps) =
    let more = sum_by-cons (λ (p : Pair). fetch_reads disk p.at) p ps in
    let three = at_least_three (has_commit (disk_block disk (later_block_first disk p.at).0)) in
    let rest = thread_reads-no_fewer disk ps in
    omega (arith, more, three, rest)

-- the thread is read, and then its image is checked
pub mount_few : (old disk now : Disk) (items hs : List PairHeader) (ps qs : List Pair) (first mid last : ℕ) → disk ≡ old → now ≡ disk → hs ≡ items → header_pairs disk items ≡ ps → qs ≡ header_pairs now items
    → mid ≡ first + thread_reads old ps → last ≤ mid + check_reads disk (header_pairs disk hs) → last ≤ first + mount_reads old qs
mount_few old disk now items hs ps qs first mid last from same is kept shown read check =
    let pairs : qs ≡ header_pairs disk items = shown ∙ ap (λ (d : Disk). header_pairs d items) same in
    let headers : thread_reads old ps ≡ thread_reads old qs = ap (thread_reads old) (sym kept ∙ sym pairs) in
    let most : check_reads disk (header_pairs disk hs) ≡ check_reads old qs =
    ap (λ (xs : List PairHeader). check_reads disk (header_pairs disk xs)) is ∙ ap (check_reads disk) (sym pairs) ∙ ap (λ (d : Disk). check_reads d qs) from in
    omega (arith, read, check, headers, most)
