-- Pairs that the pass accepts keep the rules, and their scan describes the directories.
use Rattle.std.proofs.Common.{ℕ, zero, suc, ◌≡◌, ◌==◌, ◌&&◌, not, Bool, true, false, cond, List, [], ◌∷◌, map, drop, remove, filter, slice_get, Option, Some, None, is_some, refl, sym, ap, ap₂, subst, ◌∙◌, arith, option_and_then}
use Rattle.std.specs.Prelude.{All}
use Rattle.lfs_mount.proofs.Common.{filter_map, cons_option, same_Some, All-head, All-tail, Disk, disk_block, block_entries, Name, BlockStates, RawSlot, RawContent, decoded_slots, decoded_content, content_after, empty_raw_content, Slot, Gstate, is_superblock, same_pair, Pair, begins_with_superblock, slots_not_moved, unmoved_entries, is_hard_tail, moved_id, IsFileOrDirectory, AreComplete, complete_parts, completed_parts, Each, entry_is_other, Vertex, DirectoryGraph, NamedReference, named_reference, raw_slot_entry, scan_with_entries, scan_with_entry, empty_scan, scan_after_slots, MarksAllListsUsed, list_head_and_size, list_heads_and_sizes, ScansPair, slots_without_moved, slots_without_superblock, raw_entry_slots, IsPairDescription, ArePairDescriptions, scan_after_tail, graph_after_tail, ScansPairs, flat_map, block_count, content_at, superblock_pair_address, AreLinkedByTails, IsThread, pairs_gstate, count_before_root, pairs_from_root, pair_directories, all_directories, Ends, IsDirectoryGraph, IsGraphOfThread, directory_addresses}
use Rattle.lfs_model.specs.declared.order.NameOrder.{NameOrder}
use Rattle.lfs_model.proofs.Completed.{complete_remove}
use Rattle.lfs_mount.specs.declared.pass.DirectoryPairHeader.{DirectoryPairHeader}
use Rattle.std.proofs.Math.Seq.{drop-nil}
use Rattle.lfs_model.specs.format.Slots.{Tail}
use Rattle.lfs_model.specs.format.Thread.{tail_target}
use Rattle.lfs_mount.proofs.Runs.{shown_in, vertices, entries_of, Named, thread_drawn}
use Rattle.lfs_mount.proofs.MarkedLists.{lists_joined}
use Rattle.lfs_mount.proofs.Scans.{entry_some, scan_some}

-- ---- complete slots, some of them removed

abbrev pub without : Option ℕ → List Slot → List Slot
without None slots = slots
without (Some id) slots = remove slots id

abbrev pub behind : Bool → List Slot → List Slot
behind false slots = slots
behind true [] = []
behind true (s ∷ slots) = slots

-- the removed slot is an entry
abbrev pub IsMovedEntry : Option ℕ → List Slot → Type 0
IsMovedEntry None slots = Unit {0}
IsMovedEntry (Some id) slots = (t : Slot) × ((slice_get slots id ≡ Some t) × IsFileOrDirectory t)

some_entry : (o : Option NamedReference) → is_some o ≡ true → (e : NamedReference) × (o ≡ Some e)
some_entry None e = absurd (cc)
some_entry (Some x) e = (x, refl)

entry_at : (raws : List RawSlot) (slots : List Slot) (id : ℕ) → decoded_slots raws ≡ Some slots → is_some (option_and_then {U = NamedReference} raw_slot_entry (slice_get raws id)) ≡ true
    → (t : Slot) × ((slice_get slots id ≡ Some t) × IsFileOrDirectory t)
entry_at [] slots id c e = absurd (cc)
entry_at (r ∷ raws) slots zero c e =
    let p = complete_parts r raws slots c in
    let x = some_entry (raw_slot_entry r) e in
    let h = entry_some r x.0 x.1 in
    (h.slot, (ap (λ ss. slice_get ss 0) p.all_are ∙ (sym p.is_first ∙ h.is), h.entry))
entry_at (r ∷ raws) slots (suc id) c e =
    let p = complete_parts r raws slots c in
    let x = entry_at raws p.others id p.are_others e in
    (x.0, (ap (λ ss. slice_get ss (suc id)) p.all_are ∙ x.1.0, x.1.1))

pub record IsWithout (moved : Option ℕ) (slots : List Slot) (raws : List RawSlot) : Type 0 where
  pub are : decoded_slots raws ≡ Some (without moved slots)
  pub entry : IsMovedEntry moved slots

pub without_moved : (moved : Option ℕ) (raws kept : List RawSlot) (slots : List Slot) → decoded_slots raws ≡ Some slots → slots_without_moved moved raws ≡ Some kept → IsWithout moved slots kept
without_moved None raws kept slots c e = record { are = ap decoded_slots (sym (same_Some raws kept e)) ∙ c; entry = tt }
without_moved (Some id) raws kept slots c e = go (is_some (option_and_then {U = NamedReference} raw_slot_entry (slice_get raws id))) refl e
  where
    go : (b : Bool) → is_some (option_and_then {U = NamedReference} raw_slot_entry (slice_get raws id)) ≡ b → cond b (Some (remove raws id)) None ≡ Some kept → IsWithout (Some id) slots kept
    go true f g = record { are = ap decoded_slots (sym (same_Some (remove raws id) kept g)) ∙ complete_remove raws slots id c; entry = entry_at raws slots id c f }
    go false f g = absurd (cc)

pub without_superblock : (first : Bool) (raws kept : List RawSlot) (slots : List Slot) → decoded_slots raws ≡ Some slots → slots_without_superblock first raws ≡ Some kept → decoded_slots kept ≡ Some (behind first slots)
without_superblock false raws kept slots c e = ap decoded_slots (sym (same_Some raws kept e)) ∙ c
without_superblock true [] kept slots c e = absurd (cc)
without_superblock true (r ∷ raws) kept slots c e =
    let p = complete_parts r raws slots c in
    ap decoded_slots (sym (same_Some raws kept e)) ∙ p.are_others ∙ ap (λ ss. Some (behind true ss)) (sym p.all_are)

-- ---- what is visible

all_visible : (slots : List Slot) → All IsFileOrDirectory slots → filter (λ s. not (is_superblock s)) slots ≡ slots
all_visible [] h = refl
all_visible (s ∷ slots) h =
    ap (λ b. cond (not b) (s ∷ filter (λ x. not (is_superblock x)) slots) (filter (λ x. not (is_superblock x)) slots)) (entry_is_other s (All-head IsFileOrDirectory s slots h))
    ∙ ap (λ ss. s ∷ ss) (all_visible slots (All-tail IsFileOrDirectory s slots h))

starts_still : (slots : List Slot) (id : ℕ) (t : Slot) → begins_with_superblock slots ≡ true → slice_get slots id ≡ Some t → IsFileOrDirectory t → begins_with_superblock (remove slots id) ≡ true
starts_still [] id t s e h = absurd (cc)
starts_still (x ∷ slots) zero t s e h = absurd (let other = entry_is_other t h in let same = ap is_superblock (same_Some x t e) in let clash : true ≡ false = sym s ∙ same ∙ other in cc)
starts_still (x ∷ slots) (suc id) t s e h = s

pub starts_without : (moved : Option ℕ) (slots : List Slot) → IsMovedEntry moved slots → begins_with_superblock slots ≡ true → begins_with_superblock (without moved slots) ≡ true
starts_without None slots h s = s
starts_without (Some id) slots (t, (e, h)) s = starts_still slots id t s e h

pub visible_behind : (first : Bool) (slots : List Slot) → (first ≡ true → begins_with_superblock slots ≡ true) → All IsFileOrDirectory (behind first slots) → filter (λ s. not (is_superblock s)) slots ≡ behind first slots
visible_behind false slots s h = all_visible slots h
visible_behind true [] s h = refl
visible_behind true (x ∷ slots) s h =
    ap (λ b. cond (not b) (x ∷ filter (λ y. not (is_superblock y)) slots) (filter (λ y. not (is_superblock y)) slots)) (s refl) ∙ all_visible slots h

pub unmoved-without : (g : Gstate) (p : Pair) → slots_not_moved g p ≡ without (moved_id g p) p.content.slots
unmoved-without g p = go (g.kind == 0x4ff && same_pair g.pair p.at)
  where
    go : (b : Bool) → cond b (remove p.content.slots g.id) p.content.slots ≡ without (cond b (Some g.id) None) p.content.slots
    go true = refl
    go false = refl

-- ---- the lists in slots

pub some_parts : {X : Type 0} (f : NamedReference → Option X) (y : X) (o : Option NamedReference) → option_and_then f o ≡ Some y → (x : NamedReference) × ((o ≡ Some x) × (f x ≡ Some y))
some_parts f y None e = absurd (cc)
some_parts f y (Some x) e = (x, (refl, e))

one_list : (r : RawSlot) (raws : List RawSlot) (slots : List Slot) (p : AreComplete r raws slots) (Q : NamedReference → Type 0) → ((x : NamedReference) → Q x → list_heads_and_sizes raws ≡ filter_map (λ s. list_head_and_size (named_reference s)) p.others)
    → (x : NamedReference) × ((raw_slot_entry r ≡ Some x) × Q x) → list_heads_and_sizes (r ∷ raws) ≡ filter_map (λ s. list_head_and_size (named_reference s)) slots
one_list r raws slots p Q others (x, (f, q)) =
    let h = entry_some r x f in
    ap₂ (λ o ls. cons_option (option_and_then list_head_and_size o) ls) f (others x q)
    ∙ ap (λ (y : NamedReference). cons_option (list_head_and_size y) (filter_map (λ s. list_head_and_size (named_reference s)) p.others)) (sym h.same ∙ ap named_reference (same_Some h.slot p.first (sym h.is ∙ p.is_first)))
    ∙ ap (filter_map (λ s. list_head_and_size (named_reference s))) (sym p.all_are)

pub same_lists : (by : NameOrder) (firsts : List (ℕ × ℕ)) (known new : Name × Vertex) (raws : List RawSlot) (slots : List Slot) → scan_after_slots by firsts known raws ≡ Some new → decoded_slots raws ≡ Some slots
    → list_heads_and_sizes raws ≡ filter_map (λ s. list_head_and_size (named_reference s)) slots
same_lists by firsts known new [] slots e c = ap (filter_map (λ s. list_head_and_size (named_reference s))) (same_Some [] slots c)
same_lists by firsts known new (r ∷ raws) slots e c =
    let p = complete_parts r raws slots c in
    one_list r raws slots p (λ x. scan_after_slots by firsts (scan_with_entry by firsts known x) raws ≡ Some new) (λ x f. same_lists by firsts (scan_with_entry by firsts known x) new raws p.others f p.are_others)
    (some_parts (λ x. scan_after_slots by firsts (scan_with_entry by firsts known x) raws) new (raw_slot_entry r) e)

-- ---- one pair

abbrev pub lists_of : List Slot → List (ℕ × ℕ)
lists_of slots = filter_map (λ s. list_head_and_size (named_reference s)) slots

pub record IsTaken (disk : Disk) (firsts : List (ℕ × ℕ)) (g : Gstate) (first : Bool) (p : Pair) (known : Name × Vertex) (sets : BlockStates) (new : Name × Vertex) (marked : BlockStates) : Type 0 where
  pub kept : All IsFileOrDirectory (behind first (slots_not_moved g p))
  pub entries : All IsFileOrDirectory (unmoved_entries g p)
  pub known_is : new ≡ scan_with_entries disk.order firsts known (map named_reference (unmoved_entries g p))
  pub lists : MarksAllListsUsed disk sets (lists_of (unmoved_entries g p)) marked
  pub moved : IsMovedEntry (moved_id g p) p.content.slots

pub kept_parts : (m : DirectoryPairHeader) (raws kept : List RawSlot) → raw_entry_slots m raws ≡ Some kept → (mid : List RawSlot) × ((slots_without_moved m.moved raws ≡ Some mid) × (slots_without_superblock m.has_superblock mid ≡ Some kept))
kept_parts m raws kept e = go (slots_without_moved m.moved raws) refl e
  where
    go : (o : Option (List RawSlot)) → slots_without_moved m.moved raws ≡ o → option_and_then (slots_without_superblock m.has_superblock) o ≡ Some kept
        → (mid : List RawSlot) × ((slots_without_moved m.moved raws ≡ Some mid) × (slots_without_superblock m.has_superblock mid ≡ Some kept))
    go None f h = absurd (cc)
    go (Some mid) f h = (mid, (f, h))

-- what the pair's active block holds is the pair's content
pub held_slots : (disk : Disk) (g : Gstate) (first : Bool) (p : Pair) (m : DirectoryPairHeader) (held : RawContent) → IsPairDescription disk g first p m
    → content_after empty_raw_content (block_entries (disk_block disk m.active)) ≡ Some held → decoded_slots held.slots ≡ Some p.content.slots
held_slots disk g first p m held h e =
    (completed_parts held p.content
    (ap (option_and_then decoded_content) (sym (ap (option_and_then (λ block. content_after empty_raw_content (block_entries block))) h.active ∙ e)) ∙ h.content)).slots

pub taken_rules : (disk : Disk) (firsts : List (ℕ × ℕ)) (g : Gstate) (first : Bool) (p : Pair) (m : DirectoryPairHeader) (known : Name × Vertex) (sets : BlockStates) (new : Name × Vertex) (marked : BlockStates)
    → IsPairDescription disk g first p m → ScansPair disk firsts m known sets new marked → IsTaken disk firsts g first p known sets new marked
taken_rules disk firsts g first p m known sets new marked h t =
    let all = held_slots disk g first p m t.held h t.content in
    let parts = kept_parts m t.held.slots t.entries t.kept in
    let w = without_moved (moved_id g p) t.held.slots parts.0 p.content.slots all (ap (λ o. slots_without_moved o t.held.slots) (sym h.moved) ∙ parts.1.0) in
    let are = without_superblock first parts.0 t.entries (without (moved_id g p) p.content.slots) w.are (ap (λ b. slots_without_superblock b parts.0) (sym h.first) ∙ parts.1.1) in
    let s = scan_some disk.order firsts known t.entries new t.scan in
    let same : s.slots ≡ behind first (without (moved_id g p) p.content.slots) = same_Some s.slots (behind first (without (moved_id g p) p.content.slots)) (sym s.are ∙ are) in
    let seen : behind first (without (moved_id g p) p.content.slots) ≡ unmoved_entries g p =
    sym (visible_behind first (without (moved_id g p) p.content.slots) (λ e. starts_without (moved_id g p) p.content.slots w.entry (h.starts e)) (subst (All IsFileOrDirectory) same s.entries))
    ∙ ap (filter (λ x. not (is_superblock x))) (sym (unmoved-without g p)) in
    record {
      kept = subst (λ ss. All IsFileOrDirectory (behind first ss)) (sym (unmoved-without g p)) (subst (All IsFileOrDirectory) same s.entries);
      entries = subst (All IsFileOrDirectory) (same ∙ seen) s.entries;
      known_is = s.same ∙ ap (λ ss. scan_with_entries disk.order firsts known (map named_reference ss)) (same ∙ seen);
      lists = subst (λ ls. MarksAllListsUsed disk sets ls marked) (same_lists disk.order firsts known new t.entries s.slots t.scan s.are ∙ ap (filter_map (λ x. list_head_and_size (named_reference x))) (same ∙ seen)) t.lists;
      moved = w.entry;
    }

-- ---- all pairs

-- the slots that are taken are entries; the first pair has the superblock
abbrev pub HaveEntries : Gstate → Bool → List Pair → Type 0
HaveEntries g first [] = Unit {0}
HaveEntries g first (p ∷ ps) = All IsFileOrDirectory (behind first (slots_not_moved g p)) × HaveEntries g false ps

pub record HavePassed (disk : Disk) (firsts : List (ℕ × ℕ)) (g : Gstate) (first : Bool) (ps : List Pair) (known : Name × Vertex) (sets : BlockStates) (graph : DirectoryGraph) (end : BlockStates) : Type 0 where
  pub kept : HaveEntries g first ps
  pub entries : Each (λ p. All IsFileOrDirectory (unmoved_entries g p)) ps
  pub graph_is : graph ≡ vertices disk.order firsts known (map entries_of (shown_in g ps))
  pub lists : MarksAllListsUsed disk sets (flat_map (λ p. lists_of (unmoved_entries g p)) ps) end
  pub moved : Each (λ p. IsMovedEntry (moved_id g p) p.content.slots) ps

ended-vertices : (by : NameOrder) (hard : Bool) (firsts : List (ℕ × ℕ)) (new : Name × Vertex) (rest : List (Bool × List NamedReference))
    → graph_after_tail hard new (vertices by firsts (scan_after_tail hard new) rest) ≡ cond hard (vertices by firsts new rest) (new.1 ∷ vertices by firsts empty_scan rest)
ended-vertices by true firsts new rest = refl
ended-vertices by false firsts new rest = refl

pub passed_rules : (disk : Disk) (firsts : List (ℕ × ℕ)) (g : Gstate) (first : Bool) (ps : List Pair) (ms : List DirectoryPairHeader) (known : Name × Vertex) (sets : BlockStates) (graph : DirectoryGraph) (end : BlockStates)
    → ArePairDescriptions disk g first ps ms → ScansPairs disk firsts known sets ms graph end → HavePassed disk firsts g first ps known sets graph end
passed_rules disk firsts g first [] [] known sets graph end h (e, f) =
    record { kept = tt; entries = tt; graph_is = e; lists = record { lists = λ k d lt. absurd (omega arith); marked = f }; moved = tt }
passed_rules disk firsts g first [] (m ∷ ms) known sets graph end h t = absurd h
passed_rules disk firsts g first (p ∷ ps) [] known sets graph end h t = absurd h
passed_rules disk firsts g first (p ∷ ps) (m ∷ ms) known sets graph end h (new, mid, rest, (takes, (e, more))) =
    let one = taken_rules disk firsts g first p m known sets new mid h.0 takes in
    let others = passed_rules disk firsts g false ps ms (scan_after_tail m.is_hard new) mid rest end h.1 more in
    let tail : List (Bool × List NamedReference) = map entries_of (shown_in g ps) in
    record {
      kept = (one.kept, others.kept);
      entries = (one.entries, others.entries);
      graph_is = e ∙ ap (graph_after_tail m.is_hard new) others.graph_is ∙ ended-vertices disk.order m.is_hard firsts new tail
          ∙ ap₂ (λ (b : Bool) (n : Name × Vertex). cond b (vertices disk.order firsts n tail) (n.1 ∷ vertices disk.order firsts empty_scan tail)) h.0.hard one.known_is;
      lists = lists_joined disk (lists_of (unmoved_entries g p)) (flat_map (λ q. lists_of (unmoved_entries g q)) ps) sets mid end one.lists others.lists;
      moved = (one.moved, others.moved);
    }

-- ---- the graph

named_all : (g : Gstate) (ps : List Pair) → Each (λ p. All IsFileOrDirectory (unmoved_entries g p)) ps → Each Named (shown_in g ps)
named_all g [] h = tt
named_all g (p ∷ ps) h = ((λ k d lt. (h.0 k d lt).name), named_all g ps h.1)

pub passed_draws : (disk : Disk) (g : Gstate) (ps : List Pair) (ms : List DirectoryPairHeader) (sets : BlockStates) (graph : DirectoryGraph) (end : BlockStates) → Ends ps → ArePairDescriptions disk g true ps ms
    → ScansPairs disk (directory_addresses (pair_directories g ps)) empty_scan sets ms graph end → IsDirectoryGraph disk.order (pair_directories g ps) graph
passed_draws disk g ps ms sets graph end ends members passes =
    let h = passed_rules disk (directory_addresses (pair_directories g ps)) g true ps ms empty_scan sets graph end members passes in
    subst (IsDirectoryGraph disk.order (pair_directories g ps)) (sym h.graph_is) (thread_drawn disk.order g ps ends (named_all g ps h.entries))

-- the last pair of a thread has no tail
pub links_end : (at : Option (ℕ × ℕ)) (ps : List Pair) → AreLinkedByTails at ps → Ends ps
links_end at [] h = tt
links_end at (p ∷ []) h = no_tail p.content.tail h.1
  where
    no_tail : (t : Option Tail) → tail_target t ≡ None → is_hard_tail t ≡ false
    no_tail None e = refl
    no_tail (Some t) e = absurd (cc)
links_end at (p ∷ q ∷ ps) h = links_end (tail_target p.content.tail) (q ∷ ps) h.1

ends_behind : (n : ℕ) (ps : List Pair) → Ends ps → Ends (drop n ps)
ends_behind zero ps h = h
ends_behind (suc n) [] h = tt
ends_behind (suc n) (p ∷ []) h = subst Ends (sym (drop-nil n)) tt
ends_behind (suc n) (p ∷ q ∷ ps) h = ends_behind n (q ∷ ps) h

pub thread_shows : (disk : Disk) (ps : List Pair) (ms : List DirectoryPairHeader) (sets : BlockStates) (graph : DirectoryGraph) (end : BlockStates) → IsThread (content_at disk) (block_count disk) ps
    → ArePairDescriptions disk (pairs_gstate ps) true (pairs_from_root ps) ms → ScansPairs disk (directory_addresses (all_directories ps)) empty_scan sets ms graph end
    → IsGraphOfThread disk.order graph (directory_addresses (all_directories ps)) (pairs_gstate ps).sync ps
thread_shows disk ps ms sets graph end thread members passes = record {
  distinct = thread.distinct;
  draws = passed_draws disk (pairs_gstate ps) (pairs_from_root ps) ms sets graph end (ends_behind (count_before_root ps) ps (links_end (Some superblock_pair_address) ps thread.links)) members passes;
  places = refl;
  same = refl;
}
