use Rattle.std.proofs.Common.{◌≡◌, ◌≤◌, ◌-◌, take}
use Rattle.lfs_file.proofs.Common.{ReadsOnly, fault_count, growing_size, buffered_bytes, stored_list_bytes}
use Rattle.lfs_file.specs.Contents.{IsBuffered}
use Rattle.lfs_file.proofs.memory.load_first_bytes.Given as goal

abbrev pub invariant-loading : goal.invariant-loading
invariant-loading g l =
    let shows = g.D.BlockDevice in
    let now = shows.geometry l.fn.dev in
    record {
      resting : IsBuffered now l.list;
      bytes : buffered_bytes l.list ≡ take (growing_size l.list) (stored_list_bytes (shows.blocks l.fn.dev) now.block_size l.fn.stored);
      few : growing_size l.list ≤ l.fn.keep;
      device : ReadsOnly shows l.fn.dev l.dev;
      quiet : fault_count (shows.history l.dev) ≡ fault_count (shows.history l.fn.dev);
    }

abbrev pub decreases-loading : goal.decreases-loading
decreases-loading g l = l.fn.keep - growing_size l.list
