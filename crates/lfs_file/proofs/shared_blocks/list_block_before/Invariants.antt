use Rattle.std.proofs.Common.{◌≡◌, ◌≤◌, ◌<◌, ◌+◌, ◌-◌, slice_index}
use Rattle.lfs_file.proofs.Common.{ReadsOnly, fault_count, read_count, blocks_to_head}
use Rattle.lfs_file.proofs.shared_blocks.list_block_before.Given as goal

abbrev pub invariant-going : goal.invariant-going
invariant-going g l =
    let old = l.fn.dev in
    record {
      high : l.at ≤ l.fn.count;
      low : l.fn.index ≤ l.at;
      here : 0 < l.at → l.block ≡ slice_index (blocks_to_head (g.D.BlockDevice.blocks old) l.fn.count l.fn.head) (l.at - 1);
      device : ReadsOnly g.D.BlockDevice old l.dev;
      quiet : fault_count (g.D.BlockDevice.history l.dev) ≡ fault_count (g.D.BlockDevice.history old);
      few : read_count (g.D.BlockDevice.history l.dev) + l.at ≤ read_count (g.D.BlockDevice.history old) + l.fn.count;
    }

abbrev pub decreases-going : goal.decreases-going
decreases-going g l = l.at
