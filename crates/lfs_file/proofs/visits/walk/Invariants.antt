use Rattle.std.proofs.Common.{length, ◌≡◌, ◌≤◌, ◌+◌, drop, reverse, slice_index}
use Rattle.lfs_file.proofs.Common.{FoldsTo, ReadsOnly, fault_count, read_count, AreListBlocks, blocks_to_head, visit_count}
use Rattle.lfs_file.proofs.Walked.{IsChecked}
use Rattle.lfs_file.proofs.visits.walk.Given as goal

abbrev pub invariant-loop-index : goal.invariant-loop-index
invariant-loop-index g l =
    let geometry = g.D.BlockDevice.geometry in
    let blocks = g.D.BlockDevice.blocks in
    let history = g.D.BlockDevice.history in
    let old = l.fn.dev in
    record {
      low : l.index ≤ l.last;
      at : l.block ≡ slice_index (blocks_to_head (blocks old) (l.last + 1) l.fn.head) l.index;
      checked : IsChecked (blocks old) l.last l.fn.head l.first (geometry old).block_count l.index l.words;
      room : length l.words ≡ 128;
      visited : FoldsTo (λ p x q. goal.F-step g p x tt q) l.fn.visit (reverse (drop (l.index + 1) (blocks_to_head (blocks old) (l.last + 1) l.fn.head))) l.visit;
      callable : goal.F-IsAlwaysCallable g l.visit;
      device : ReadsOnly g.D.BlockDevice old l.dev;
      few : AreListBlocks (blocks old) (l.last + 1) l.fn.head → read_count (history l.dev) + l.index ≤ read_count (history old) + l.last + visit_count l.last l.index;
      quiet : fault_count (history l.dev) ≡ fault_count (history old);
    }

abbrev pub decreases-loop-index : goal.decreases-loop-index
decreases-loop-index g l = l.index
