use Rattle.std.proofs.Common.{◌∙◌, ◌++◌, map, sym, ap, subst}
use Rattle.lfs_tree.proofs.Common.{same_Some, logged, slot_view, raw_slots_lists}
use Rattle.lfs_model.specs.format.Content.{RawContent}
use Rattle.lfs_model.specs.layers.LoggedContent.{AreWellFormed}
use Rattle.lfs_model.proofs.Completed.{completed_parts}
use Rattle.lfs_tag.specs.ContentView.{content_view}
use Rattle.lfs_tree.proofs.LostLists.{typed_complete}
use Rattle.lfs_tree.proofs.lost_lists.push_log_lists.Goals as goal

pub push_slot_lists-requires : goal.push_slot_lists-requires
push_slot_lists-requires c =
    let (content, is) = c.requires in
    let read = c.in_ok-content.ensures.content in
    let sound = logged c.args.log.now (content_view c.in_ok-content.content) is.bytes read in
    subst AreWellFormed (sym (ap (map slot_view) c.deref.ensures.value)) sound.slots

pub returns-clause-lists : goal.returns-clause-lists
returns-clause-lists c content is =
    let read = c.in_ok-content.ensures.content in
    let same = ap (λ (r : RawContent). r.slots) (same_Some (content_view c.in_ok-content.content) is.raw (sym read ∙ is.log)) in
    c.in_ok-push_slot_lists.ensures
    ∙ ap (λ z. c.args.lists.now.items ++ z) (ap (λ z. raw_slots_lists (map slot_view z)) c.deref.ensures.value ∙ ap raw_slots_lists same ∙ typed_complete is.raw.slots content.slots (completed_parts is.raw content is.complete).slots)
