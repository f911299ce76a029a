-- How many bytes a content takes when it is written anew.
use Rattle.std.proofs.Common.{ℕ, ◌≡◌, ◌+◌, ◌≤◌, Bool, true, false, cond, List, [], ◌∷◌, ◌++◌, length, Option, Some, None, refl, arith}
use Rattle.std.specs.Prelude.{sum_by}
use Rattle.lfs_model.proofs.Common.{sum_by-append, sum_by-cons, Attributes, Tail, Gstate, attributes_size, LogEntry, RawSlot, RawContent, log_entry, first_attribute_type, name_or_struct_entries, attribute_entries, slot_entries, entries_of_slots, tail_entries, move_state_entries, is_zero, content_entries, name_or_struct_size, raw_slot_size, raw_slots_size}
use Rattle.lfs_model.specs.layers.WrittenContent.{move_entry}

abbrev entry_size : LogEntry → ℕ
entry_size e = 4 + length e.bytes

part_entries_size : (id : ℕ) (part : Option (ℕ × List ℕ)) → sum_by entry_size (name_or_struct_entries id part) ≡ name_or_struct_size part
part_entries_size id None = refl
part_entries_size id (Some part) = omega arith

attribute_entries_size : (id : ℕ) (attributes : Attributes) → sum_by entry_size (attribute_entries id attributes) ≡ attributes_size attributes
attribute_entries_size id [] = refl
attribute_entries_size id (a ∷ attributes) =
    let left = sum_by-cons entry_size (log_entry (first_attribute_type + a.0) id a.1) (attribute_entries id attributes) in
    let right = sum_by-cons (λ (b : ℕ × List ℕ). 4 + length b.1) a attributes in
    let rest = attribute_entries_size id attributes in
    omega (arith, left, right, rest)

slot_size_written : (id : ℕ) (s : RawSlot) → sum_by entry_size (slot_entries id s) ≡ raw_slot_size s
slot_size_written id s =
    let all = sum_by-append entry_size (name_or_struct_entries id s.name ++ name_or_struct_entries id s.struct) (attribute_entries id s.attributes) in
    let front = sum_by-append entry_size (name_or_struct_entries id s.name) (name_or_struct_entries id s.struct) in
    let name = part_entries_size id s.name in
    let struct = part_entries_size id s.struct in
    let attributes = attribute_entries_size id s.attributes in
    omega arith

slots_size_written : (id : ℕ) (slots : List RawSlot) → sum_by entry_size (entries_of_slots id slots) ≡ sum_by raw_slot_size slots
slots_size_written id [] = refl
slots_size_written id (s ∷ slots) =
    let all = sum_by-append entry_size (slot_entries id s) (entries_of_slots (id + 1) slots) in
    let whole = sum_by-cons raw_slot_size s slots in
    let here = slot_size_written id s in
    let rest = slots_size_written (id + 1) slots in
    omega arith

tail_size_written : (t : Option Tail) → sum_by entry_size (tail_entries t) ≤ 12
tail_size_written None = omega arith
tail_size_written (Some t) = omega arith

move_size_written : (g : Gstate) → sum_by entry_size (move_state_entries g) ≤ 16
move_size_written g = go (is_zero g)
  where
    go : (b : Bool) → sum_by entry_size (cond b [] (move_entry g ∷ [])) ≤ 16
    go true = omega arith
    go false = omega arith

-- the slots' bytes, a tail and a move state
pub written_size : (c : RawContent) → sum_by (λ (e : LogEntry). 4 + length e.bytes) (content_entries c) ≤ raw_slots_size c + 28
written_size c =
    let all = sum_by-append entry_size (entries_of_slots 0 c.slots ++ tail_entries c.tail) (move_state_entries c.move) in
    let front = sum_by-append entry_size (entries_of_slots 0 c.slots) (tail_entries c.tail) in
    let slots = slots_size_written 0 c.slots in
    let tail = tail_size_written c.tail in
    let move = move_size_written c.move in
    omega arith
