use Rattle.std.proofs.Common.{◌∙◌, Some, sym, ap, option_map}
use Rattle.lfs_pair.proofs.Common.{address_of_array, content_after, change_entries, content_view, change_view}
use Rattle.lfs_pair.proofs.Tails.{tail_changed}
use Rattle.lfs_pair.proofs.change.apply_change.Goals as goal

pub returns-in-Tail : goal.returns-in-Tail
returns-in-Tail c =
    let before = content_view c.args.content.now in
    ap (λ x. content_after before (change_entries (change_view x))) c.in-Tail.is
    ∙ tail_changed before c.in-Tail.hard (option_map address_of_array c.in-Tail.pair) (rw c.in-Tail.is at c.requires)
    ∙ ap (λ t. Some (record before { tail = t })) (sym c.tail_unless_null-content.ensures)
