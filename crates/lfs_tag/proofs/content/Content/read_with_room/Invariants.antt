use Rattle.std.proofs.Common.{◌≡◌}
use Rattle.lfs_tag.proofs.Common.{block_entries, content_after, empty_raw_content}
use Rattle.lfs_tag.specs.ContentView.{content_view}
use Rattle.lfs_tag.proofs.content.Content.read_with_room.Given as goal

abbrev pub invariant-loop-entry : goal.invariant-loop-entry
invariant-loop-entry l = content_after (content_view l.content) l.entry-iterator ≡ content_after empty_raw_content (block_entries l.log)
