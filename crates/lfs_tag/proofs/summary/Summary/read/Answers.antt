use Rattle.std.proofs.Common.{◌∙◌, ap, sym, length}
use Rattle.lfs_tag.proofs.Common.{list_all, length-map, is_complete_mark, slot_mark, outline_view}
use Rattle.lfs_tag.proofs.Summaries.{of_content, whole_content}
use Rattle.lfs_tag.proofs.summary.Summary.read.Goals as goal

pub returns-clause-summary : goal.returns-clause-summary
returns-clause-summary c =
    let held = of_content c.args.log.now (outline_view c.in-Ok.outline) c.in-Ok.ensures.outline in
    let same = held.2 in (
      held.0,
      record {
        content = held.1;
        slot_count = c.len.ensures ∙ c.in-Ok.outline.marks.ok.0 ∙ sym (ap (λ o. length o.marks) same) ∙ length-map held.0.slots slot_mark;
        tail = sym (ap (λ o. o.tail) same);
        move_state = sym (ap (λ o. o.move) same);
        complete = c.are_marks_complete.ensures ∙ ap (list_all is_complete_mark) (c.deref.ensures.value ∙ sym (ap (λ o. o.marks) same)) ∙ whole_content held.0;
      },
    )
