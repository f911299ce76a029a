use Rattle.std.proofs.Common.{◌≡◌, ◌≤◌, ◌<◌, ◌+◌, length, slice_index}
use Rattle.lfs_file.proofs.Common.{ReadsOnly, fault_count, read_count, AreListBlocks, blocks_to_head, IsIndexVisited, HasNotedWalk, visit_count}
use Rattle.lfs_file.proofs.way.find_first_block.Given as goal

abbrev pub invariant-loop-at : goal.invariant-loop-at
invariant-loop-at g l =
    let blocks = g.D.BlockDevice.blocks in
    let history = g.D.BlockDevice.history in
    let old = l.fn.dev in
    record {
      high : l.at ≤ l.last;
      on : 0 < l.at → IsIndexVisited l.last l.at;
      found : AreListBlocks (blocks old) (l.last + 1) l.fn.head → l.block ≡ slice_index (blocks_to_head (blocks old) (l.last + 1) l.fn.head) l.at;
      noted : HasNotedWalk (blocks old) l.fn.head l.last l.at l.way;
      blocks_room : length l.way.blocks ≡ 32;
      words_room : length l.way.words ≡ 4096;
      device : ReadsOnly g.D.BlockDevice old l.dev;
      quiet : fault_count (history l.dev) ≡ fault_count (history old);
      few : read_count (history l.dev) + visit_count l.last l.at ≤ read_count (history old) + visit_count l.last l.last;
    }

abbrev pub decreases-loop-at : goal.decreases-loop-at
decreases-loop-at g l = l.at
