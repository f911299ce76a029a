-- The number of slots of a block's log.
use Rattle.std.proofs.Common.{ℕ, ◌≡◌, ◌+◌, ◌-◌, ◌<◌, ◌≤◌, ◌^◌, List, [], ◌∷◌, length, replicate, Some, ap, ◌∙◌, arith}
use Rattle.lfs_mount.proofs.Common.{length-replicate, length-set, option_and_then_some, same_Some, RawSlot, RawContent, content_after, empty_raw_content, block_entries}
use Rattle.std.proofs.lemmas.List.{length-append}
use Rattle.std.proofs.lemmas.List.Edits.{length-insert, length-remove}
use Rattle.lfs_model.specs.format.Content.{attributes_after, content_after_entry, empty_slot, slot_changed_at, slot_of_id, padded_slots, entry_type_bytes}
use Rattle.lfs_model.specs.format.Log.{LogEntry}
use Rattle.lfs_model.specs.format.Tag.{tag_id}
use Rattle.lfs_tag.proofs.Effects.{Effect, attributes, creates, deletes, effect, names, rests, structures}
use Rattle.lfs_tag.proofs.Ranks.{few_entries}

-- a change of one slot
length-changed : (f : RawSlot → RawSlot) (slots : List RawSlot) (id : ℕ) → length (slot_changed_at f slots id) ≡ length slots
length-changed f slots id = length-set slots id (f (slot_of_id slots id))

one_more : (n : ℕ) (s t : List RawSlot) (e : LogEntry) → length s ≤ 1024 + n → Effect s t e → length t ≤ 1024 + n + 1
one_more n s t e few (rests high same) = let l = ap length same in omega arith
one_more n s t e few (names class keeps is) =
    let l = ap length is ∙ length-changed (λ r. record r { name = entry_type_bytes e }) (padded_slots s (tag_id e.tag)) (tag_id e.tag) in
    let padded = length-append s (replicate (tag_id e.tag + 1 - length s) empty_slot) in
    let more = length-replicate (tag_id e.tag + 1 - length s) empty_slot in
    let small : tag_id e.tag < 1024 = omega arith in
    omega arith
one_more n s t e few (creates class create le is) = let l = ap length is in let more = length-insert s (tag_id e.tag) empty_slot le in omega arith
one_more n s t e few (deletes class delete lt is) = let l = ap length is in let fewer = length-remove s (tag_id e.tag) lt in omega arith
one_more n s t e few (structures class keeps lt is) = let l = ap length is ∙ length-changed (λ r. record r { struct = entry_type_bytes e }) s (tag_id e.tag) in omega arith
one_more n s t e few (attributes class lt is) = let l = ap length is ∙ length-changed (λ r. record r { attributes = attributes_after e r.attributes }) s (tag_id e.tag) in omega arith

few_after : (n : ℕ) (c : RawContent) (es : List LogEntry) (d : RawContent) → length c.slots ≤ 1024 + n → content_after c es ≡ Some d → length d.slots ≤ 1024 + n + length es
few_after n c [] d few is = let same = ap (λ (x : RawContent). length x.slots) (same_Some c d is) in omega arith
few_after n c (e ∷ es) d few is =
    option_and_then_some (λ u. content_after u es) (content_after_entry c e) d is (λ u first rest.
    let more = one_more n c.slots u.slots e few (effect c u e first) in
    let all = few_after (n + 1) u es d (omega arith) rest in
    omega arith)

-- a block of a size that a device may have has few slots
pub few_slots : (block : List ℕ) (held : RawContent) → length block ≤ 2 ^ 16 → content_after empty_raw_content (block_entries block) ≡ Some held → length held.slots < 2 ^ 15
few_slots block held small is =
    let all = few_after 0 empty_raw_content (block_entries block) held (omega arith) is in
    let entries = few_entries block small in
    omega arith
