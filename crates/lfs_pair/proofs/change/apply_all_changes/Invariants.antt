use Rattle.std.proofs.Common.{◌≡◌, take, Some}
use Rattle.lfs_pair.proofs.Common.{content_after, entries_of_changes, content_view, changes_view}
use Rattle.lfs_pair.proofs.change.apply_all_changes.Given as goal

abbrev pub invariant-loop-change : goal.invariant-loop-change
invariant-loop-change l =
    content_after (content_view l.initial.content) (entries_of_changes (changes_view (take l.change-index l.changes))) ≡ Some (content_view l.content)
