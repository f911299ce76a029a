use Rattle.std.proofs.Common.{◌∙◌, drop, List, Some, true, map, sym, ap, subst}
use Rattle.std.proofs.lemmas.List.{take-map, drop-map}
use Rattle.lfs_pair.proofs.Common.{address_of_array, RawSlot, slot_view, content_view, IsFittingSplit}
use Rattle.lfs_model.specs.format.Slots.{Gstate}
use Rattle.lfs_tag.specs.FieldsView.{move_view}
use Rattle.lfs_pair.proofs.splits.split_off_back.Goals as goal

pub returns-clause-parts : goal.returns-clause-parts
returns-clause-parts c =
    let slots = c.args.content.now.slots.items in
    let front = ap (λ s. map slot_view s) c.in_ok-slots.ensures.items ∙ sym (take-map slot_view c.middle_cut-cut.result slots) in
    let back = ap (λ s. map slot_view s) c.in_ok-slots.ensures.tail ∙ sym (drop-map slot_view c.middle_cut-cut.result slots) in
    record {
      cut = c.middle_cut-cut.result;
      is_cut = subst (λ s. IsFittingSplit c.args.geometry.block_size c.args.geometry.page (map slot_view s) c.middle_cut-cut.result) c.deref.ensures.value c.middle_cut-cut.ensures.is_cut;
      front_is = ap (λ (s : List RawSlot). record { slots = s; tail = Some (record { hard = true; to = address_of_array c.args.fresh }); move = (content_view c.args.content.now).move }) front;
      back_is = ap (λ (s : List RawSlot). record { slots = s; tail = (content_view c.args.content.now).tail; move = move_view c.none.result }) back
          ∙ ap (λ (m : Gstate). record { slots = drop c.middle_cut-cut.result (content_view c.args.content.now).slots; tail = (content_view c.args.content.now).tail; move = m }) c.none.ensures;
    }
