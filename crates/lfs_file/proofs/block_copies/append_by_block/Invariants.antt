use Rattle.std.proofs.Common.{◌≡◌, ◌≤◌, ◌++◌, ◌-◌, drop, max}
use Rattle.lfs_file.proofs.Common.{fault_count, list_bytes, DiskHasList, growing_bytes, unwritten_block, growing_size_with, GrowsInFree, HasBlocksTaken, KeepsTakenBlocks, CanEndAlone, ChangesOnlyFree}
use Rattle.lfs_file.proofs.block_copies.append_by_block.Given as goal

abbrev pub invariant-copying : goal.invariant-copying
invariant-copying g l =
    let was = l.fn.list in
    let now = l.list in
    let block_size = l.fn.list.geometry.block_size in
    let old = g.D.BlockDevice.blocks l.fn.dev in
    let new = g.D.BlockDevice.blocks l.dev in
    let base = list_bytes old block_size l.fn.base.head l.fn.base.size in
    record {
      growing : DiskHasList new now;
      same : l.list.geometry ≡ l.fn.list.geometry;
      grown : GrowsInFree l.fn.map old was l.map new now;
      marked : HasBlocksTaken l.map new now;
      map : ChangesOnlyFree l.fn.map l.map;
      device : KeepsTakenBlocks g.D.BlockDevice l.fn.map (unwritten_block was) l.fn.dev l.dev;
      own : CanEndAlone new l.list;
      some : growing_size_with block_size was ≤ growing_size_with block_size now;
      top : growing_size_with block_size now ≤ max (growing_size_with block_size was) l.fn.base.size;
      bytes : growing_bytes new now ++ drop (growing_size_with block_size now) base ≡ growing_bytes old was ++ drop (growing_size_with block_size was) base;
      quiet : fault_count (g.D.BlockDevice.history l.dev) ≡ fault_count (g.D.BlockDevice.history l.fn.dev);
    }

abbrev pub decreases-copying : goal.decreases-copying
decreases-copying g l = l.fn.base.size - growing_size_with l.list.geometry.block_size l.list
