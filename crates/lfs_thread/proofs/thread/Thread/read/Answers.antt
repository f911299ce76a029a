use Rattle.std.proofs.Common.{◌≡◌, ◌+◌, ◌∙◌, ap, ap₂, refl, subst, sym}
use Rattle.lfs_thread.proofs.Common.{disk_of_blocks, content_at, Disk, block_count, read_count, IsThread, disk_of_device, header_pairs}
use Rattle.lfs_thread.proofs.HeaderReads.{header_reads_of}
use Rattle.lfs_thread.proofs.Keeping.{kept_thread}
use Rattle.lfs_thread.proofs.thread.Thread.read.Goals as goal

pub returns-in-Ok-read_thread_headers-clause-read : goal.returns-in-Ok-read_thread_headers-clause-read
returns-in-Ok-read_thread_headers-clause-read g c =
    let reported = c.in-Ok-read_thread_headers.ensures.reported in
    let disk : Disk = disk_of_device g.D.BlockDevice c.args.device in
    let ps = header_pairs (disk_of_device g.D.BlockDevice c.read_thread_headers.new.device) c.read_thread_headers.new.pairs.items in
    let same : disk_of_device g.D.BlockDevice c.read_thread_headers.new.device ≡ disk = ap₂ disk_of_blocks reported.device.geometry reported.device.same in
    let thread : IsThread (content_at disk) (g.D.BlockDevice.geometry c.args.device).block_count ps =
    subst (λ k. IsThread (content_at disk) k ps) (g.met.D.BlockDevice.shape c.args.device).count
    (subst (λ (d : Disk). IsThread (content_at d) (block_count d) ps) same (kept_thread _ _ _ _ c.in-Ok-read_thread_headers.ensures.kept)) in
    let read = c.in-Ok-read_thread_headers.ensures.few in
    record {
      works = refl;
      thread = thread;
      used = c.in-Ok-read_thread_headers.ensures.marked.0;
      none_in_flight = c.in-Ok-read_thread_headers.ensures.marked.1;
      disk = same;
      only = reported.device.reads;
      no_fault = reported.no_fault (λ e. absurd (cc));
      few = read ∙ ap (λ n. read_count (g.D.BlockDevice.history c.args.device) + n) (sym (header_reads_of (disk_of_device g.D.BlockDevice c.read_thread_headers.new.device) disk c.read_thread_headers.new.pairs.items));
    }
