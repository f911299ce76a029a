-- Look-ups of data by id and type, and of names, in the slots of a log.
use Rattle.std.specs.Prelude.{ℕ, ◌≡◌, ◌<◌, ◌≤◌, ◌/◌, ◌%◌, ◌^◌, ◌==◌, ◌&&◌, not, if◌then◌else◌, Bool, true, false, List, length, Option, Some, None}
use Rattle.std.specs.Option.{option_and_then, option_map_or}
use Rattle.lfs_model.specs.declared.order.NameOrder.{NameOrder}
use Rattle.lfs_model.specs.format.Names.{Name, name_cmp, same_name, is_less}
use Rattle.lfs_model.specs.format.Content.{RawSlot, slot_of_id, attribute_bytes}
use Rattle.lfs_model.specs.format.EntryTypes.{superblock_name_type}

-- The bytes of a name or a struct, if it has the type `type`.
abbrev pub bytes_if_type : ℕ → Option (ℕ × List ℕ) → Option (List ℕ)
bytes_if_type type None = None
bytes_if_type type (Some part) = if part.0 == type then Some part.1 else None

-- The bytes of the slot's name, struct or attribute of the type `type`, or `None` if it has none of
-- this type.
abbrev pub slot_bytes : ℕ → RawSlot → Option (List ℕ)
slot_bytes type s =
    if type / 2 ^ 8 == 0 then bytes_if_type type s.name
    else (if type / 2 ^ 8 == 2 then bytes_if_type type s.struct
    else (if type / 2 ^ 8 == 3 then attribute_bytes (type % 2 ^ 8) s.attributes else None))

-- The bytes of the type `type` in the slot with the id `id`, if there are any.
abbrev pub bytes_at : List RawSlot → ℕ → ℕ → Option (List ℕ)
bytes_at slots type id = slot_bytes type (slot_of_id slots id)

-- ---- names

-- The name by which a slot can be found. A superblock can't be found by its name.
abbrev pub entry_name : RawSlot → Option Name
entry_name s = option_and_then (λ name. if name.0 == superblock_name_type then None else Some name.1) s.name

-- True if the slot with the id `id` has a name that passes the test `passes`, and `id` isn't
-- `skip`.
abbrev pub passes_name_test : (Name → Bool) → Option ℕ → List RawSlot → ℕ → Bool
passes_name_test passes skip slots id = option_map_or passes (entry_name (slot_of_id slots id)) false && not (option_map_or (λ k. k == id) skip false)

-- True if `other` comes after `name`.
abbrev pub comes_after : NameOrder → Name → Name → Bool
comes_after order name other = is_less (name_cmp order name other)

-- `id` is the least id whose slot has the name `name`. The slot with the id `skip` is ignored.
pub record IsNameId (name : Name) (skip : Option ℕ) (slots : List RawSlot) (id : ℕ) : Type 0 where
  pub named : passes_name_test (same_name name) skip slots id ≡ true
  pub least : (other : ℕ) → other < id → passes_name_test (same_name name) skip slots other ≡ false

-- No slot has the name `name`, and `id` is the least id of a slot with a greater name, or the
-- number of slots if there is none. The slot with the id `skip` is ignored.
pub record IsInsertionId (order : NameOrder) (name : Name) (skip : Option ℕ) (slots : List RawSlot) (id : ℕ) : Type 0 where
  pub absent : (other : ℕ) → passes_name_test (same_name name) skip slots other ≡ false
  pub least : (other : ℕ) → other < id → passes_name_test (comes_after order name) skip slots other ≡ false
  pub greater : id < length slots → passes_name_test (comes_after order name) skip slots id ≡ true
  pub within : id ≤ length slots
