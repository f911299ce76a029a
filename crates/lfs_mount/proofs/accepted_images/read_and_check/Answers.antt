use Rattle.std.proofs.Common.{Err, arith, ◌≡◌, ◌≤◌, ◌+◌, sym, ap, subst, ◌∙◌}
use Rattle.lfs_mount.proofs.Common.{count_before_root, header_pairs, disk_with_order, Disk, Blocks, OnlyReadsSince, fault_count, read_count, Breaks, OnlyReadsSince-trans, move_view, KeptThread, disk_of_device, mount_reads, err_from_is_err_and}
use Rattle.lfs_model.proofs.Histories.{read_count-since}
use Rattle.lfs_thread.specs.Kept.{IsCacheCurrent}
use Rattle.lfs_mount.specs.ReadImage.{thread_with_order}
use Rattle.lfs_mount.proofs.MountReads.{thread_reads-no_fewer, mount_few, some_pair}
use Rattle.lfs_mount.proofs.ReadImages.{plain_again}
use Rattle.lfs_model.specs.declared.order.NameOrder.{NameOrder}
use Rattle.lfs_mount.proofs.Called.{quiet}
use Rattle.lfs_mount.proofs.Mounted.{disk_now, given_back, is_mounted, kept_again, read_is}
use Rattle.lfs_mount.proofs.Unaccepted.{thread_violation, true_violation}
use Rattle.lfs_mount.proofs.accepted_images.read_and_check.Goals as goal

pub check_image-requires : goal.check_image-requires
check_image-requires g c =
    let read = c.in_ok-thread.ensures.read in
    let parts = c.into_parts-parts in
    let same = plain_again g.D.BlockDevice c.args.device parts.result.device parts.result.order parts.result.pairs.items parts.result.map c.in_ok-thread.thread.kept parts.ensures.same read.disk in
    let old : Disk = disk_of_device g.D.BlockDevice c.args.device in
    let disk : Disk = disk_of_device g.D.BlockDevice parts.result.device in
    read_is old disk (g.D.BlockDevice.geometry c.args.device).block_count (g.D.BlockDevice.history parts.result.device) c.deref.result.now parts.result.pairs.items parts.result.map
    (move_view c.state-state.result) c.in_ok-thread.thread.kept same c.deref.ensures.value read.disk (g.met.D.BlockDevice.shape c.args.device).count
    parts.ensures.kept read.thread read.used read.none_in_flight c.state-state.ensures

pub from_parts-requires-clause-kept : goal.from_parts-requires-clause-kept
from_parts-requires-clause-kept g c =
    let parts = c.into_parts-parts in
    let device = c.in-Ok.ensures.device.device in
    let disk : Disk = disk_of_device g.D.BlockDevice parts.result.device in
    kept_again disk (disk_of_device g.D.BlockDevice c.check_image.new.device) (g.D.BlockDevice.history parts.result.device) (g.D.BlockDevice.history c.check_image.new.device)
    parts.result.pairs.items c.deref.result.now parts.result.map c.check_image.new.map (disk_now device) c.deref.ensures.value device.reads parts.ensures.kept (c.in-Ok.ensures.image disk.order).marked

pub from_parts-requires-clause-current : goal.from_parts-requires-clause-current
from_parts-requires-clause-current g c =
    subst (λ (blocks : Blocks). IsCacheCurrent blocks c.into_parts-parts.result.cache) (sym c.in-Ok.ensures.device.device.same) c.into_parts-parts.ensures.current

pub returns-in-Ok-clause-read : goal.returns-in-Ok-clause-read
returns-in-Ok-clause-read g c =
    let read = c.in_ok-thread.ensures.read in
    let parts = c.into_parts-parts in
    let same = plain_again g.D.BlockDevice c.args.device parts.result.device parts.result.order parts.result.pairs.items parts.result.map c.in_ok-thread.thread.kept parts.ensures.same read.disk in
    let device = c.in-Ok.ensures.device.device in
    let old : Disk = disk_of_device g.D.BlockDevice c.args.device in
    let disk : Disk = disk_of_device g.D.BlockDevice parts.result.device in
    let now : Disk = disk_of_device g.D.BlockDevice c.check_image.new.device in
    let first = g.D.BlockDevice.history c.args.device in
    let history = g.D.BlockDevice.history parts.result.device in
    let later = g.D.BlockDevice.history c.check_image.new.device in
    let from : disk ≡ old = ap (λ (k : KeptThread). k.disk) same ∙ read.disk in
    let before : OnlyReadsSince old.blocks first history = subst (λ (k : KeptThread). OnlyReadsSince old.blocks first k.history) (sym same) read.only in
    let quiet : fault_count later ≡ fault_count first = quiet g.D.BlockDevice c.in-Ok.ensures.device ∙ ap (λ (k : KeptThread). fault_count k.history) same ∙ read.no_fault in
    let kept = c.from_parts.ensures.kept in
    record {
      works = c.from_parts.ensures.works;
      disk_is = ap (λ (k : KeptThread). k.disk) kept ∙ ap (λ (o : NameOrder). disk_with_order o now) (ap (λ (k : KeptThread). k.disk.order) parts.ensures.same ∙ ap (λ (d : Disk). d.order) read.disk) ∙ disk_now device ∙ from;
      reads = subst (λ (k : KeptThread). OnlyReadsSince old.blocks first k.history) (sym kept) (OnlyReadsSince-trans before device.reads (ap (λ (d : Disk). d.blocks) from));
      no_fault = ap (λ (k : KeptThread). fault_count k.history) kept ∙ quiet;
      root = c.in-Ok.ensures.root ∙ sym (ap count_before_root (ap (λ (k : KeptThread). k.pairs) kept ∙ ap (λ (d : Disk). header_pairs d parts.result.pairs.items) (disk_now device) ∙ ap (header_pairs disk) (sym c.deref.ensures.value)));
      mounted = λ order fits.
          let image = c.in-Ok.ensures.image order in
          is_mounted (disk_with_order order old) (disk_with_order order disk) (disk_with_order order now) first history later
          parts.result.pairs.items c.deref.result.now parts.result.map c.check_image.new.map (thread_with_order order c.from_parts.result)
          (ap (disk_with_order order) from) (ap (disk_with_order order) (disk_now device)) c.deref.ensures.value before device.reads (image.accepted fits) image.marked
          parts.ensures.kept.size quiet c.from_parts.ensures.works (ap (λ (k : KeptThread). record k { disk = disk_with_order order k.disk }) kept);
      few = λ order fits.
          let some = some_pair c.in_ok-thread.thread.kept.pairs read.thread.links in
          let begun = read.few in
          let count = ap (λ (k : KeptThread). read_count k.history) same in
          let since = read_count-since device.reads in
          let end = ap (λ (k : KeptThread). read_count k.history) kept in
          record {
            called = (let no_fewer = thread_reads-no_fewer old c.in_ok-thread.thread.kept.pairs in omega (arith, some, no_fewer, begun, count, since, end));
            few = subst (λ h. read_count h ≤ read_count first + mount_reads old c.from_parts.result.kept.pairs) (sym (ap (λ (k : KeptThread). k.history) kept))
                (mount_few old disk now parts.result.pairs.items c.deref.result.now c.in_ok-thread.thread.kept.pairs c.from_parts.result.kept.pairs (read_count first) (read_count history) (read_count later)
                from (disk_now device) c.deref.ensures.value (ap (λ (k : KeptThread). k.pairs) same) (ap (λ (k : KeptThread). k.pairs) kept)
                (count ∙ begun) (c.in-Ok.ensures.few order fits));
          };
      broken = λ order violation found. subst (λ (d : Disk). Breaks (disk_with_order order d) violation) from ((c.in-Ok.ensures.image order).broken violation found);
    }

pub returns-in-Err-clause-broken : goal.returns-in-Err-clause-broken
returns-in-Err-clause-broken g c = λ order.
    let read = c.in_ok-thread.ensures.read in
    let parts = c.into_parts-parts in
    let same = plain_again g.D.BlockDevice c.args.device parts.result.device parts.result.order parts.result.pairs.items parts.result.map c.in_ok-thread.thread.kept parts.ensures.same read.disk in
    let from : disk_of_device g.D.BlockDevice parts.result.device ≡ disk_of_device g.D.BlockDevice c.args.device = ap (λ (k : KeptThread). k.disk) same ∙ read.disk in
    true_violation (disk_with_order order (disk_of_device g.D.BlockDevice c.args.device)) c.in-Err.error
    (λ v is. subst (λ (d : Disk). Breaks (disk_with_order order d) v) from (c.in-Err.ensures.broken v (ap Err is) order))

pub returns-in-Err-clause-back : goal.returns-in-Err-clause-back
returns-in-Err-clause-back g c =
    let read = c.in_ok-thread.ensures.read in
    let parts = c.into_parts-parts in
    let same = plain_again g.D.BlockDevice c.args.device parts.result.device parts.result.order parts.result.pairs.items parts.result.map c.in_ok-thread.thread.kept parts.ensures.same read.disk in
    let old : Disk = disk_of_device g.D.BlockDevice c.args.device in
    given_back g.D.BlockDevice c.args.device parts.result.device c.check_image.new.device c.in-Err.error
    (ap (λ (k : KeptThread). k.disk) same ∙ read.disk)
    (subst (λ (k : KeptThread). OnlyReadsSince old.blocks (g.D.BlockDevice.history c.args.device) k.history) (sym same) read.only)
    (ap (λ (k : KeptThread). fault_count k.history) same ∙ read.no_fault)
    c.in-Err.ensures.device

pub returns-in_err-thread-clause-broken : goal.returns-in_err-thread-clause-broken
returns-in_err-thread-clause-broken g c =
    let e = err_from_is_err_and c.from_residual.result c.from_residual.ensures.1 in
    rw e.1 (rw e.2 (λ order. thread_violation order (disk_of_device g.D.BlockDevice c.args.device) _ c.in_err-thread.ensures.broken))
