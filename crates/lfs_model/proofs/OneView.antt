-- A disk has one view.
use Rattle.std.proofs.Common.{◌≡◌, sym, ap, ◌∙◌}
use Rattle.lfs_model.proofs.Common.{Disk, block_count, content_at, DiskView, disk_view, HasDiskView}
use Rattle.lfs_model.proofs.Uniqueness.{one_thread}

pub one_view : (disk : Disk) (v w : DiskView) → HasDiskView disk v → HasDiskView disk w → v ≡ w
one_view disk v w a b =
    a.1.1 ∙ ap (disk_view disk) (one_thread (content_at disk) (block_count disk) a.0 b.0 a.1.0.thread b.1.0.thread) ∙ sym b.1.1
