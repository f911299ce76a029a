use Rattle.std.proofs.Common.{◌≡◌, ◌≤◌, ◌<◌, ◌+◌, ◌-◌, length, drop, slice_index}
use Rattle.lfs_file.proofs.Common.{ReadsOnly, fault_count, read_count, blocks_to_head}
use Rattle.lfs_file.proofs.block_copies.blocks_from_index.Given as goal

abbrev pub invariant-going : goal.invariant-going
invariant-going g l =
    let old = l.fn.dev in
    let all = blocks_to_head (g.D.BlockDevice.blocks old) l.fn.count l.fn.head in
    record {
      high : l.index ≤ l.fn.count;
      low : l.fn.from ≤ l.index;
      here : l.fn.from < l.index → l.block ≡ slice_index all (l.index - 1);
      long : length l.blocks.items ≡ l.fn.count - l.fn.from;
      done : drop (l.index - l.fn.from) l.blocks.items ≡ drop l.index all;
      device : ReadsOnly g.D.BlockDevice old l.dev;
      quiet : fault_count (g.D.BlockDevice.history l.dev) ≡ fault_count (g.D.BlockDevice.history old);
      few : read_count (g.D.BlockDevice.history l.dev) + l.index ≤ read_count (g.D.BlockDevice.history old) + l.fn.count;
    }

abbrev pub decreases-going : goal.decreases-going
decreases-going g l = l.index
