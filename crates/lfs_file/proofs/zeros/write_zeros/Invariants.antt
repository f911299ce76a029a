use Rattle.std.proofs.Common.{◌≡◌, ◌≤◌, ◌+◌, ◌-◌, replicate}
use Rattle.lfs_file.proofs.Common.{fault_count, written_contents, growing_size, CallKeepsUsed, KeepsUsedBlocks, AreZerosWritten, unfinished_bytes, KeepsStoredBlocks}
use Rattle.lfs_file.proofs.zeros.write_zeros.Given as goal

abbrev pub invariant-zeroing : goal.invariant-zeroing
invariant-zeroing g l =
    let was = l.fn.hand in
    let shows = g.D.BlockDevice in
    record {
      few : l.done ≤ l.count;
      zeroed : AreZerosWritten l.map (shows.blocks l.dev) (shows.geometry l.fn.dev) l.hand l.done (growing_size was.list + l.done)
          (written_contents (unfinished_bytes (shows.blocks l.fn.dev) was) (growing_size was.list) (replicate l.done 0));
      base : KeepsStoredBlocks (shows.geometry l.fn.dev).block_size (shows.blocks l.fn.dev) was.base (shows.blocks l.dev) l.hand.base;
      map : KeepsUsedBlocks l.fn.map l.map;
      device : CallKeepsUsed shows l.fn.map l.fn.dev l.dev;
      quiet : fault_count (shows.history l.dev) ≡ fault_count (shows.history l.fn.dev);
    }

abbrev pub decreases-zeroing : goal.decreases-zeroing
decreases-zeroing g l = l.count - l.done
