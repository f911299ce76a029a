use Rattle.std.proofs.Common.{◌≡◌, ◌∙◌, sym, ap, refl, arith, eqb, map, true, false}
use Rattle.lfs_tag.proofs.Common.{Attributes, tag_length, RawSlot, attributes_after, slot_view, attribute_view, log_entry_view}
use Rattle.lfs_tag.specs.declared.content.Slot.{Slot}
use Rattle.lfs_tag.proofs.Places.{changed_is, without_is}
use Rattle.lfs_tag.proofs.content.change_attribute.Goals as goal

pub returns-then-has_removal_length : goal.returns-then-has_removal_length
returns-then-has_removal_length c =
    let x : Slot = c.index_mut-slot.result.now in
    let y : Slot = record x { attributes = c.remove_attribute.new.attributes } in
    let f : RawSlot → RawSlot = λ s. record s { attributes = attributes_after (log_entry_view c.args.entry.now) s.attributes } in
    let removes : eqb (tag_length c.args.entry.now.tag) 0x3ff ≡ true = sym c.has_removal_length.ensures ∙ c.if-has_removal_length.true in
    let same = ap (map attribute_view) c.remove_attribute.ensures ∙ without_is c.chunk-kind.result x.attributes.items in
    changed_is f c.args.slots.now.items c.args.id x y (omega arith) c.index_mut-slot.ensures.value
    (rw removes (ap (λ (others : Attributes). record (slot_view x) { attributes = others }) (same ∙ rw c.chunk-kind.ensures refl)))

pub returns-in_ok-set_attribute : goal.returns-in_ok-set_attribute
returns-in_ok-set_attribute c =
    let x : Slot = c.index_mut-slot.result.now in
    let y : Slot = record x { attributes = c.set_attribute.new.attributes } in
    let f : RawSlot → RawSlot = λ s. record s { attributes = attributes_after (log_entry_view c.args.entry.now) s.attributes } in
    let sets : eqb (tag_length c.args.entry.now.tag) 0x3ff ≡ false = sym c.has_removal_length.ensures ∙ c.if-has_removal_length.false in
    changed_is f c.args.slots.now.items c.args.id x y (omega arith) c.index_mut-slot.ensures.value
    (rw sets (ap (λ (others : Attributes). record (slot_view x) { attributes = others }) (c.in_ok-set_attribute.ensures ∙ rw c.chunk-kind.ensures refl)))
