use Rattle.std.proofs.Common.{◌∙◌, List, map, sym, ap, subst}
use Rattle.lfs_lookup.proofs.Common.{same_Some, RawContent, RawSlot, slot_of_id, AttributesInOrder, AreWellFormed, attributes_size, logged, completed_parts, content_view, slot_view}
use Rattle.lfs_lookup.proofs.AttributeAtSlots.{parts_of_id, same_attributes}
use Rattle.lfs_lookup.proofs.AttributesPut.{sized}
use Rattle.lfs_lookup.proofs.BytesAtSlots.{raw_slot}
use Rattle.lfs_lookup.proofs.attribute_sizes.log_attributes_size.Goals as goal

pub slot_attributes_size-requires : goal.slot_attributes_size-requires
slot_attributes_size-requires c =
    let (content, is) = c.requires in
    let read = c.in_ok-content.ensures.content in
    let sound = logged c.args.log.now (content_view c.in_ok-content.content) is.bytes read in
    subst AreWellFormed (sym (ap (map slot_view) c.deref.ensures.value)) sound.slots

pub returns-clause-is : goal.returns-clause-is
returns-clause-is c content slot is at =
    let read = c.in_ok-content.ensures.content in
    let sound = logged c.args.log.now (content_view c.in_ok-content.content) is.bytes read in
    let same = ap (λ (r : RawContent). r.slots) (same_Some (content_view c.in_ok-content.content) is.raw (sym read ∙ is.log)) in
    let held = same_attributes (slot_of_id is.raw.slots c.args.id) slot (raw_slot is.raw.slots content.slots c.args.id slot (completed_parts is.raw content is.complete).slots at) in
    let whole = ap (λ (raw : List RawSlot). (slot_of_id raw c.args.id).attributes) same ∙ held in
    sized slot.attributes c.slot_attributes_size.result (subst (AttributesInOrder 0) whole (parts_of_id (content_view c.in_ok-content.content).slots c.args.id sound.slots).attributes)
    (c.slot_attributes_size.ensures ∙ ap (λ (raw : List RawSlot). attributes_size (slot_of_id raw c.args.id).attributes) (ap (map slot_view) c.deref.ensures.value) ∙ ap attributes_size whole)
