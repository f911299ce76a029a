-- The code's content as the definitions see it: values, without their addresses in memory.
use Rattle.std.specs.Prelude.{ℕ, suc, if◌then◌else◌, nat_le, List, [], ◌∷◌, map}
use Rattle.std.specs.Option.{option_map}
use Rattle.lfs_model.specs.format.Slots.{Attributes, address_of_array}
use Rattle.lfs_model.specs.format.Slots as slots
use Rattle.lfs_model.specs.format.Content.{RawSlot, RawContent}
use Rattle.lfs_tag.specs.declared.content.NameOrStruct.{NameOrStruct}
use Rattle.lfs_tag.specs.declared.content.Attribute.{Attribute}
use Rattle.lfs_tag.specs.declared.content.Slot.{Slot}
use Rattle.lfs_tag.specs.declared.content.Tail.{Tail}
use Rattle.lfs_tag.specs.declared.content.Content.{Content}
use Rattle.lfs_tag.specs.FieldsView.{move_view}

abbrev pub part_view : NameOrStruct → ℕ × List ℕ
part_view p = (p.kind, p.bytes.now)

abbrev pub attribute_view : Attribute → ℕ × List ℕ
attribute_view a = (a.kind, a.bytes.now)

abbrev pub slot_view : Slot → RawSlot
slot_view s = record {
  name = option_map part_view s.name;
  struct = option_map part_view s.structure;
  attributes = map attribute_view s.attributes.items;
}

abbrev pub tail_view : Tail → slots.Tail
tail_view t = record { hard = t.hard; to = address_of_array t.pair }

abbrev pub content_view : Content → RawContent
content_view c = record {
  slots = map slot_view c.slots.items;
  tail = option_map tail_view c.tail;
  move = move_view c.move_state;
}

-- The list index of the first attribute with this type or a greater one, or the number of
-- attributes if there is none.
abbrev pub index_for_attribute : ℕ → Attributes → ℕ
index_for_attribute type [] = 0
index_for_attribute type (a ∷ others) = if nat_le type a.0 then 0 else suc (index_for_attribute type others)
