-- The number of slots of a log, by its entries.
use Rattle.std.proofs.Common.{◌≡◌, ℕ, ◌+◌, ◌-◌, true, false, eqb, leb, ltb, max, List, [], ◌∷◌, length, replicate, sym, ap, ◌∙◌, Some, arith, length-append}
use Rattle.lfs_tag.proofs.Common.{nat_tests, option_and_then_some, same_Some, length-replicate, tag_type, tag_id, tag_class, LogEntry, create_tag_type, RawSlot, RawContent, empty_slot, padded_slots, content_after_entry, content_after, empty_raw_content, count_after}
use Rattle.std.proofs.lemmas.List.{length-set}
use Rattle.std.proofs.lemmas.List.Edits.{length-insert, length-remove}
use Rattle.lfs_tag.specs.SlotCount.{slot_count_after_entry}
use Rattle.lfs_tag.proofs.Effects.{Effect, rests, names, creates, deletes, structures, attributes, effect}

padded_count : (s : List RawSlot) (id : ℕ) → length (padded_slots s id) ≡ max (length s) (id + 1)
padded_count s id = length-append s (replicate (id + 1 - length s) empty_slot) ∙ omega (arith, length-replicate (id + 1 - length s) empty_slot)

count_step : (s t : List RawSlot) (e : LogEntry) → Effect s t e → slot_count_after_entry (length s) e ≡ length t
count_step s t e (rests high same) =
    let a : eqb (tag_class e.tag) 0 ≡ false = grind (arith, nat_tests) in
    let b : eqb (tag_class e.tag) 4 ≡ false = grind (arith, nat_tests) in
    rw (a, b) (ap length (sym same))
count_step s t e (names class keeps is) =
    let a : eqb (tag_class e.tag) 0 ≡ true = grind (arith, nat_tests) in
    rw (a, is) (sym (length-set (padded_slots s (tag_id e.tag)) (tag_id e.tag) _ ∙ padded_count s (tag_id e.tag)))
count_step s t e (creates class create le is) =
    let a : eqb (tag_class e.tag) 0 ≡ false = grind (arith, nat_tests) in
    let b : eqb (tag_class e.tag) 4 ≡ true = grind (arith, nat_tests) in
    let c : eqb (tag_type e.tag) create_tag_type ≡ true = grind (arith, nat_tests) in
    let d : leb (tag_id e.tag) (length s) ≡ true = grind (arith, nat_tests) in
    rw (a, b, c, d, is) (sym (length-insert s (tag_id e.tag) empty_slot le))
count_step s t e (deletes class delete lt is) =
    let a : eqb (tag_class e.tag) 0 ≡ false = grind (arith, nat_tests) in
    let b : eqb (tag_class e.tag) 4 ≡ true = grind (arith, nat_tests) in
    let c : eqb (tag_type e.tag) create_tag_type ≡ false = grind (arith, nat_tests) in
    let d : ltb (tag_id e.tag) (length s) ≡ true = grind (arith, nat_tests) in
    rw (a, b, c, d, is) (omega (arith, length-remove s (tag_id e.tag) lt))
count_step s t e (structures class keeps lt is) =
    let a : eqb (tag_class e.tag) 0 ≡ false = grind (arith, nat_tests) in
    let b : eqb (tag_class e.tag) 4 ≡ false = grind (arith, nat_tests) in
    rw (a, b, is) (sym (length-set s (tag_id e.tag) _))
count_step s t e (attributes class lt is) =
    let a : eqb (tag_class e.tag) 0 ≡ false = grind (arith, nat_tests) in
    let b : eqb (tag_class e.tag) 4 ≡ false = grind (arith, nat_tests) in
    rw (a, b, is) (sym (length-set s (tag_id e.tag) _))

counts_after_content : (es : List LogEntry) (s t : RawContent) → content_after s es ≡ Some t → count_after (length s.slots) es ≡ length t.slots
counts_after_content [] s t h = ap (λ (x : RawContent). length x.slots) (same_Some _ _ h)
counts_after_content (e ∷ es) s t h =
    option_and_then_some (λ u. content_after u es) (content_after_entry s e) t h (λ u is rest.
    ap (λ n. count_after n es) (count_step s.slots u.slots e (effect s u e is)) ∙ counts_after_content es u t rest)

pub counted : (es : List LogEntry) (t : RawContent) → content_after empty_raw_content es ≡ Some t → count_after 0 es ≡ length t.slots
counted es t h = counts_after_content es empty_raw_content t h
