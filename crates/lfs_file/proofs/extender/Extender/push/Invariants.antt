use Rattle.std.proofs.Common.{ℕ, false, ◌≡◌, ◌≢◌, ◌≤◌, ◌+◌, ◌-◌, ◌++◌, length, take}
use Rattle.std.specs.Prelude.{All}
use Rattle.lfs_file.proofs.Common.{FillsFew, WritesEachOnce, ChangesTheseBlocks, fault_count, DiskHasList, IsRestShort, growing_blocks, growing_bytes, growing_size, rest_lacks_block, lasting_blocks, unwritten_block}
use Rattle.lfs_file.proofs.extender.Extender.push.Given as goal

abbrev pub invariant-loop-done : goal.invariant-loop-done
invariant-loop-done g l =
    let blocks = g.D.BlockDevice.blocks in
    let history = g.D.BlockDevice.history in
    let old = l.fn.dev in
    let was = l.fn.self in
    let now = l.self in
    let handed = unwritten_block was ++ l.fn.blocks in
    record {
      low : l.done ≤ length l.fn.bytes;
      some : l.used ≤ length l.fn.blocks;
      growing : DiskHasList (blocks l.dev) now;
      bytes : growing_bytes (blocks l.dev) now ≡ growing_bytes (blocks old) was ++ take l.done l.fn.bytes;
      sum : growing_size now ≡ growing_size was + l.done;
      kept : lasting_blocks (blocks l.dev) now ≡ lasting_blocks (blocks old) was ++ take l.used l.fn.blocks;
      own : 1 ≤ l.done → (growing_blocks (blocks l.dev) now ≡ lasting_blocks (blocks l.dev) now) × ((rest_lacks_block now ≡ false) × IsRestShort now.geometry.block_size now);
      pending : (other : ℕ) → All (λ b. b ≢ other) handed → All (λ b. b ≢ other) (unwritten_block now);
      same : now.geometry ≡ was.geometry;
      device : ChangesTheseBlocks g.D.BlockDevice handed old l.dev;
      writes : WritesEachOnce was.full now.full (history old) (history l.dev);
      few : FillsFew was now (history old) (history l.dev);
      quiet : fault_count (history l.dev) ≡ fault_count (history old);
    }

abbrev pub decreases-loop-done : goal.decreases-loop-done
decreases-loop-done g l = length l.fn.bytes - l.done
