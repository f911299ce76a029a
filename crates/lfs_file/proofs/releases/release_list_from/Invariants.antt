use Rattle.std.proofs.Common.{◌≡◌, ◌≤◌, ◌<◌, ◌-◌, drop, slice_index}
use Rattle.lfs_file.proofs.Common.{ReadsOnly, fault_count, blocks_to_head, ReleasesInFlight}
use Rattle.lfs_file.proofs.releases.release_list_from.Given as goal

abbrev pub invariant-releasing : goal.invariant-releasing
invariant-releasing g l =
    let old = l.fn.dev in
    let blocks = blocks_to_head (g.D.BlockDevice.blocks old) l.fn.count l.fn.head in
    record {
      low : l.fn.from ≤ l.index;
      high : l.index ≤ l.fn.count;
      here : 0 < l.index → l.block ≡ slice_index blocks (l.index - 1);
      released : ReleasesInFlight l.fn.map l.map (drop l.index blocks);
      device : ReadsOnly g.D.BlockDevice old l.dev;
      quiet : fault_count (g.D.BlockDevice.history l.dev) ≡ fault_count (g.D.BlockDevice.history old);
    }

abbrev pub decreases-releasing : goal.decreases-releasing
decreases-releasing g l = l.index
