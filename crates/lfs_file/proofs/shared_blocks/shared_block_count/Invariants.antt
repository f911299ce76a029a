use Rattle.std.proofs.Common.{◌≡◌, ◌≢◌, ◌≤◌, ◌<◌, ◌+◌, ◌-◌, slice_index}
use Rattle.lfs_file.proofs.Common.{ReadsOnly, fault_count, read_count, blocks_to_head}
use Rattle.lfs_file.proofs.shared_blocks.shared_block_count.Given as goal

abbrev pub invariant-sharing : goal.invariant-sharing
invariant-sharing g l =
    let old = l.fn.dev in
    let blocks = blocks_to_head (g.D.BlockDevice.blocks old) l.fn.count l.fn.head in
    let others = blocks_to_head (g.D.BlockDevice.blocks old) l.fn.other_count l.fn.other in
    record {
      within : l.index ≤ l.fn.count;
      below : l.index ≤ l.fn.other_count;
      here : 0 < l.index → l.block ≡ slice_index blocks (l.index - 1);
      there : 0 < l.index → l.twin ≡ slice_index others (l.index - 1);
      most : l.index < l.fn.count → l.index < l.fn.other_count → slice_index blocks l.index ≢ slice_index others l.index;
      device : ReadsOnly g.D.BlockDevice old l.dev;
      quiet : fault_count (g.D.BlockDevice.history l.dev) ≡ fault_count (g.D.BlockDevice.history old);
      few : read_count (g.D.BlockDevice.history l.dev) + (l.index + l.index) ≤ read_count (g.D.BlockDevice.history old) + (l.fn.count + l.fn.other_count);
    }

abbrev pub decreases-sharing : goal.decreases-sharing
decreases-sharing g l = l.index
