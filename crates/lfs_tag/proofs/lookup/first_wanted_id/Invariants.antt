use Rattle.std.proofs.Common.{◌≡◌, length, map, drop, Some}
use Rattle.lfs_tag.proofs.Common.{block_entries, RawContent, content_after, empty_raw_content, comparison_with_slot, first_wanted_slot}
use Rattle.lfs_tag.proofs.lookup.first_wanted_id.Given as goal

abbrev pub invariant-loop-id : goal.invariant-loop-id
invariant-loop-id l = (c : RawContent) → content_after empty_raw_content (block_entries l.log) ≡ Some c → l.count ≡ length c.slots
    → first_wanted_slot l.same l.skip l.id (drop l.id (map (comparison_with_slot l.order l.name) c.slots)) ≡ first_wanted_slot l.same l.skip 0 (map (comparison_with_slot l.order l.name) c.slots)
