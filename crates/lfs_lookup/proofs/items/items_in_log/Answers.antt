use Rattle.std.proofs.Common.{◌∙◌, map, sym, ap, subst}
use Rattle.lfs_lookup.proofs.Common.{same_Some, RawContent, AreWellFormed, logged, completed_parts, content_view, slot_view, raw_entries, slots_except}
use Rattle.lfs_lookup.proofs.ItemsShown.{parts_without, shown_shapes}
use Rattle.lfs_lookup.proofs.items.items_in_log.Goals as goal

pub items_of_slots-requires : goal.items_of_slots-requires
items_of_slots-requires c =
    let (content, is) = c.requires in
    let read = c.in_ok-content.ensures.content in
    let sound = logged c.args.log.now (content_view c.in_ok-content.content) is.bytes read in
    let are = ap (map slot_view) c.deref.ensures.value ∙ c.remove_moved_slot.ensures in
    subst AreWellFormed (sym are) (parts_without c.args.moved (content_view c.in_ok-content.content).slots sound.slots)

pub returns-clause-items : goal.returns-clause-items
returns-clause-items c content is =
    let read = c.in_ok-content.ensures.content in
    let same = same_Some (content_view c.in_ok-content.content) is.raw (sym read ∙ is.log) in
    let slots = ap (λ (r : RawContent). r.slots) same in
    let are = ap (map slot_view) c.deref.ensures.value ∙ c.remove_moved_slot.ensures in
    c.in_ok-items.ensures ∙ ap raw_entries (are ∙ ap (slots_except c.args.moved) slots)
    ∙ shown_shapes c.args.moved is.raw.slots content.slots (completed_parts is.raw content is.complete).slots
