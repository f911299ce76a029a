use Rattle.std.proofs.Common.{ℕ, ◌≡◌, ◌≤◌, ◌<◌, ◌+◌, ◌^◌, slice_index}
use Rattle.lfs_file.proofs.Common.{ReadsOnly, fault_count, read_count, AreListBlocks, blocks_to_head, AreKnownBlocks, IsKnownIndex}
use Rattle.lfs_file.proofs.Back.{FewSteps}
use Rattle.lfs_file.proofs.known.IndexCache.find_block.Given as goal

abbrev pub invariant-loop-at : goal.invariant-loop-at
invariant-loop-at g l =
    let blocks = g.D.BlockDevice.blocks in
    let history = g.D.BlockDevice.history in
    let old = l.fn.dev in
    record {
      low : l.index ≤ l.at;
      high : l.at ≤ l.last;
      found : AreListBlocks (blocks old) (l.last + 1) l.fn.head → AreKnownBlocks (blocks_to_head (blocks old) (l.last + 1) l.fn.head) l.fn.self → l.block ≡ slice_index (blocks_to_head (blocks old) (l.last + 1) l.fn.head) l.at;
      known : AreListBlocks (blocks old) (l.last + 1) l.fn.head → AreKnownBlocks (blocks_to_head (blocks old) (l.last + 1) l.fn.head) l.fn.self → AreKnownBlocks (blocks_to_head (blocks old) (l.last + 1) l.fn.head) l.self;
      device : ReadsOnly g.D.BlockDevice old l.dev;
      quiet : fault_count (history l.dev) ≡ fault_count (history old);
      few : (m : ℕ) → l.last < 2 ^ m → (done : ℕ) × ((read_count (history l.dev) ≤ read_count (history old) + done) × FewSteps m l.at l.index done);
      far : read_count (history l.dev) + l.at ≤ read_count (history old) + l.last;
      near : (i : ℕ) → IsKnownIndex l.fn.self i → l.index ≤ i → i ≤ l.last → (l.at ≤ i) × (read_count (history l.dev) + l.at ≤ read_count (history old) + i);
    }

abbrev pub decreases-loop-at : goal.decreases-loop-at
decreases-loop-at g l = l.at
