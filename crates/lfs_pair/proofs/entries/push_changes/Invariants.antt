use Rattle.std.proofs.Common.{◌≡◌, take}
use Rattle.lfs_pair.proofs.Common.{entries_of_changes, changes_view, commit_with_entries}
use Rattle.lfs_pair.proofs.entries.push_changes.Given as goal

abbrev pub invariant-loop-change : goal.invariant-loop-change
invariant-loop-change l = l.builder ≡ commit_with_entries (entries_of_changes (changes_view (take l.change-index l.changes))) l.fn.builder
