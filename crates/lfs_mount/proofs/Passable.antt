-- The pass accepts pairs that keep the rules.
use Rattle.std.proofs.Common.{ℕ, zero, suc, ◌≡◌, Bool, true, false, cond, List, [], ◌∷◌, remove, filter, slice_get, Option, Some, None, is_some, refl, sym, ap, ap₂, subst, ◌∙◌, option_and_then, flat_map, not}
use Rattle.std.specs.Prelude.{All}
use Rattle.lfs_mount.proofs.Common.{same_Some, Disk, disk_block, block_entries, Name, BlockStates, RawSlot, RawContent, decoded_slots, decoded_content, content_after, empty_raw_content, raw_content, AreWellFormed, Slot, Gstate, is_superblock, Pair, begins_with_superblock, slots_not_moved, unmoved_entries, moved_id, IsFileOrDirectory, complete_parts, Each, logged, Vertex, DirectoryGraph, NamedReference, raw_slot_entry, scan_after_slots, MarksAllListsUsed, ScansPair, slots_without_moved, slots_without_superblock, IsPairDescription, ArePairDescriptions, AreByteBlocks, scan_after_tail, graph_after_tail, ScansPairs}
use Rattle.lfs_model.specs.declared.order.NameOrder.{NameOrder}
use Rattle.lfs_mount.specs.declared.pass.DirectoryPairHeader.{DirectoryPairHeader}
use Rattle.lfs_mount.proofs.Scans.{entry_none, scan_none}
use Rattle.lfs_mount.proofs.MarkedLists.{lists_parted}
use Rattle.lfs_mount.proofs.Rules.{without, behind, IsMovedEntry, held_slots, visible_behind, unmoved-without, starts_without, same_lists, without_moved, without_superblock, lists_of, HaveEntries}

-- ---- parts of slots

parts_without : (raws : List RawSlot) (id : ℕ) → AreWellFormed raws → AreWellFormed (remove raws id)
parts_without [] zero h = tt
parts_without [] (suc id) h = tt
parts_without (r ∷ raws) zero h = h.1
parts_without (r ∷ raws) (suc id) h = (h.0, parts_without raws id h.1)

parts_moved : (moved : Option ℕ) (raws kept : List RawSlot) → AreWellFormed raws → slots_without_moved moved raws ≡ Some kept → AreWellFormed kept
parts_moved None raws kept h e = subst AreWellFormed (same_Some raws kept e) h
parts_moved (Some id) raws kept h e = go (is_some (option_and_then {U = NamedReference} raw_slot_entry (slice_get raws id))) e
  where
    go : (b : Bool) → cond b (Some (remove raws id)) None ≡ Some kept → AreWellFormed kept
    go true f = subst AreWellFormed (same_Some (remove raws id) kept f) (parts_without raws id h)
    go false f = absurd (cc)

parts_behind : (first : Bool) (raws kept : List RawSlot) → AreWellFormed raws → slots_without_superblock first raws ≡ Some kept → AreWellFormed kept
parts_behind false raws kept h e = subst AreWellFormed (same_Some raws kept e) h
parts_behind true [] kept h e = absurd (cc)
parts_behind true (r ∷ raws) kept h e = subst AreWellFormed (same_Some raws kept e) h.1

-- ---- slots that can be kept

is_entry_at : (raws : List RawSlot) (slots : List Slot) (id : ℕ) (t : Slot) → AreWellFormed raws → decoded_slots raws ≡ Some slots → slice_get slots id ≡ Some t → IsFileOrDirectory t
    → is_some (option_and_then {U = NamedReference} raw_slot_entry (slice_get raws id)) ≡ true
is_entry_at [] slots id t h c e entry = absurd (let f = ap (λ ss. slice_get ss id) (same_Some [] slots c) in let g : None ≡ Some t = f ∙ e in cc)
is_entry_at (r ∷ raws) slots zero t h c e entry = go (raw_slot_entry r) refl
  where
    go : (o : Option NamedReference) → raw_slot_entry r ≡ o → is_some o ≡ true
    go None f =
        let p = complete_parts r raws slots c in
        absurd (entry_none r t h.0 f (p.is_first ∙ (sym (ap (λ ss. slice_get ss 0) p.all_are) ∙ e)) entry)
    go (Some x) f = refl
is_entry_at (r ∷ raws) slots (suc id) t h c e entry =
    let p = complete_parts r raws slots c in
    is_entry_at raws p.others id t h.1 p.are_others (sym (ap (λ ss. slice_get ss (suc id)) p.all_are) ∙ e) entry

can_unmove : (moved : Option ℕ) (raws : List RawSlot) (slots : List Slot) → AreWellFormed raws → decoded_slots raws ≡ Some slots → IsMovedEntry moved slots
    → (kept : List RawSlot) × (slots_without_moved moved raws ≡ Some kept)
can_unmove None raws slots h c entry = (raws, refl)
can_unmove (Some id) raws slots h c (t, (e, entry)) = (remove raws id, ap (λ b. cond b (Some (remove raws id)) None) (is_entry_at raws slots id t h c e entry))

can_go_behind : (first : Bool) (raws : List RawSlot) (slots : List Slot) → decoded_slots raws ≡ Some slots → (first ≡ true → begins_with_superblock slots ≡ true)
    → (kept : List RawSlot) × (slots_without_superblock first raws ≡ Some kept)
can_go_behind false raws slots c s = (raws, refl)
can_go_behind true [] slots c s = absurd (let e : begins_with_superblock [] ≡ true = ap begins_with_superblock (same_Some [] slots c) ∙ s refl in cc)
can_go_behind true (r ∷ raws) slots c s = (raws, refl)

can_scan : (by : NameOrder) (firsts : List (ℕ × ℕ)) (known : Name × Vertex) (raws : List RawSlot) (slots : List Slot) → AreWellFormed raws → decoded_slots raws ≡ Some slots → All IsFileOrDirectory slots
    → (new : Name × Vertex) × (scan_after_slots by firsts known raws ≡ Some new)
can_scan by firsts known raws slots h c entries = go (scan_after_slots by firsts known raws) refl
  where
    go : (o : Option (Name × Vertex)) → scan_after_slots by firsts known raws ≡ o → (new : Name × Vertex) × (o ≡ Some new)
    go None e = absurd (scan_none by firsts known raws h e slots c entries)
    go (Some new) e = (new, refl)

-- ---- one pair

pub can_take : (disk : Disk) (firsts : List (ℕ × ℕ)) (g : Gstate) (first : Bool) (p : Pair) (m : DirectoryPairHeader) (known : Name × Vertex) (sets marked : BlockStates)
    → AreByteBlocks disk.blocks → IsPairDescription disk g first p m → All IsFileOrDirectory (behind first (slots_not_moved g p)) → IsMovedEntry (moved_id g p) p.content.slots → MarksAllListsUsed disk sets (lists_of (unmoved_entries g p)) marked
    → (new : Name × Vertex) × ScansPair disk firsts m known sets new marked
can_take disk firsts g first p m known sets marked bytes h entries moved lists = go (content_after empty_raw_content (block_entries (disk_block disk m.active))) refl
  where
    held_of : raw_content disk p.at ≡ content_after empty_raw_content (block_entries (disk_block disk m.active))
    held_of = ap (option_and_then (λ block. content_after empty_raw_content (block_entries block))) h.active

    right : All IsFileOrDirectory (behind first (without (moved_id g p) p.content.slots))
    right = subst (λ ss. All IsFileOrDirectory (behind first ss)) (unmoved-without g p) entries

    with_held : (held : RawContent) → content_after empty_raw_content (block_entries (disk_block disk m.active)) ≡ Some held → (new : Name × Vertex) × ScansPair disk firsts m known sets new marked
    with_held held e =
        let parts : AreWellFormed held.slots = (logged (disk_block disk m.active) held (bytes m.active) e).slots in
        let all = held_slots disk g first p m held h e in
        let u = can_unmove (moved_id g p) held.slots p.content.slots parts all moved in
        let w = without_moved (moved_id g p) held.slots u.0 p.content.slots all u.1 in
        let starts : first ≡ true → begins_with_superblock (without (moved_id g p) p.content.slots) ≡ true = λ t. starts_without (moved_id g p) p.content.slots moved (h.starts t) in
        let k = can_go_behind first u.0 (without (moved_id g p) p.content.slots) w.are starts in
        let are = without_superblock first u.0 k.0 (without (moved_id g p) p.content.slots) w.are k.1 in
        let kept_parts : AreWellFormed k.0 = parts_behind first u.0 k.0 (parts_moved (moved_id g p) held.slots u.0 parts u.1) k.1 in
        let seen : behind first (without (moved_id g p) p.content.slots) ≡ unmoved_entries g p = sym (visible_behind first (without (moved_id g p) p.content.slots) starts right)
        ∙ ap (filter (λ x. not (is_superblock x))) (sym (unmoved-without g p)) in
        let s = can_scan disk.order firsts known k.0 (behind first (without (moved_id g p) p.content.slots)) kept_parts are right in (
          s.0,
          record {
            held = held;
            content = e;
            entries = k.0;
            kept = ap₂ (λ b o. option_and_then (slots_without_superblock b) (slots_without_moved o held.slots)) h.first h.moved ∙ ap (option_and_then (slots_without_superblock first)) u.1 ∙ k.1;
            scan = s.1;
            lists = subst (λ ls. MarksAllListsUsed disk sets ls marked) (sym (same_lists disk.order firsts known s.0 k.0 (behind first (without (moved_id g p) p.content.slots)) s.1 are ∙ ap lists_of seen)) lists;
          },
        )

    go : (o : Option RawContent) → content_after empty_raw_content (block_entries (disk_block disk m.active)) ≡ o → (new : Name × Vertex) × ScansPair disk firsts m known sets new marked
    go None e = absurd (let clash : None ≡ Some p.content = sym (ap (option_and_then decoded_content) (held_of ∙ e)) ∙ h.content in cc)
    go (Some held) e = with_held held e

-- ---- all pairs

pub can_pass : (disk : Disk) (firsts : List (ℕ × ℕ)) (g : Gstate) (first : Bool) (ps : List Pair) (ms : List DirectoryPairHeader) (known : Name × Vertex) (sets end : BlockStates)
    → AreByteBlocks disk.blocks → ArePairDescriptions disk g first ps ms → HaveEntries g first ps → Each (λ p. IsMovedEntry (moved_id g p) p.content.slots) ps
    → MarksAllListsUsed disk sets (flat_map (λ p. lists_of (unmoved_entries g p)) ps) end → (graph : DirectoryGraph) × ScansPairs disk firsts known sets ms graph end
can_pass disk firsts g first [] [] known sets end bytes h entries moved lists = ([], (refl, lists.marked))
can_pass disk firsts g first [] (m ∷ ms) known sets end bytes h entries moved lists = absurd h
can_pass disk firsts g first (p ∷ ps) [] known sets end bytes h entries moved lists = absurd h
can_pass disk firsts g first (p ∷ ps) (m ∷ ms) known sets end bytes h entries moved lists =
    let l = lists_parted disk (lists_of (unmoved_entries g p)) (flat_map (λ q. lists_of (unmoved_entries g q)) ps) sets end lists in
    let one = can_take disk firsts g first p m known sets l.0 bytes h.0 entries.0 moved.0 l.1 in
    let others = can_pass disk firsts g false ps ms (scan_after_tail m.is_hard one.0) l.0 end bytes h.1 entries.1 moved.1 l.2 in
    (graph_after_tail m.is_hard one.0 others.0, (one.0, l.0, others.0, (one.1, (refl, others.1))))
