use Rattle.std.proofs.Common.{◌≡◌}
use Rattle.lfs_tag.proofs.Common.{block_entries, outline_view, outline_after, empty_outline}
use Rattle.lfs_tag.proofs.summary.read_outline.Given as goal

abbrev pub invariant-loop-entry : goal.invariant-loop-entry
invariant-loop-entry l = outline_after (outline_view l.outline) l.entry-iterator ≡ outline_after empty_outline (block_entries l.log)
