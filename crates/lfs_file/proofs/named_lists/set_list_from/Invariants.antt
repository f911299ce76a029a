use Rattle.std.proofs.Common.{◌≡◌, ◌≤◌, ◌<◌, ◌+◌, ◌-◌, drop, slice_index}
use Rattle.lfs_file.proofs.Common.{ReadsOnly, fault_count, read_count, blocks_to_head, SetsState, used_or_free}
use Rattle.lfs_file.proofs.named_lists.set_list_from.Given as goal

abbrev pub invariant-putting : goal.invariant-putting
invariant-putting g l =
    let old = l.fn.dev in
    let blocks = blocks_to_head (g.D.BlockDevice.blocks old) l.fn.count l.fn.head in
    record {
      high : l.index ≤ l.fn.count;
      low : l.fn.from ≤ l.index;
      here : l.fn.from < l.index → l.block ≡ slice_index blocks (l.index - 1);
      done : SetsState (used_or_free l.fn.used) l.fn.map l.map (drop l.index blocks);
      device : ReadsOnly g.D.BlockDevice old l.dev;
      quiet : fault_count (g.D.BlockDevice.history l.dev) ≡ fault_count (g.D.BlockDevice.history old);
      few : read_count (g.D.BlockDevice.history l.dev) + l.index ≤ read_count (g.D.BlockDevice.history old) + l.fn.count;
    }

abbrev pub decreases-putting : goal.decreases-putting
decreases-putting g l = l.index
