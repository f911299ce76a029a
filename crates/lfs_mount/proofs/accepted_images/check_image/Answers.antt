use Rattle.std.proofs.Common.{◌≡◌, ◌∙◌, ◌≤◌, ◌+◌, inr, Err, List, true, sym, ap, ap₂, subst, subst₂, arith}
use Rattle.std.specs.Prelude.{sum_by}
use Rattle.lfs_mount.proofs.Common.{err_from_is_err_and, disk_of_blocks, disk_with_order, Disk, read_count, Gstate, move_view, PairHeader, disk_of_device, header_pairs, IsHeaderCheckResult, AreThreadDirectories, header_descriptions, violation_in_order, pair_reads}
use Rattle.lfs_mount.proofs.Called.{only_read, passed_on, quiet, read_on, same_error}
use Rattle.lfs_mount.proofs.InOrders.{head_in, read_in}
use Rattle.lfs_mount.proofs.KnownMoves.{directories_within}
use Rattle.lfs_mount.proofs.KnownThread.{directories_are}
use Rattle.lfs_mount.proofs.MountReads.{directories_read}
use Rattle.lfs_mount.proofs.Mounts.{has_image, move_breaks, pairs_break}
use Rattle.lfs_mount.proofs.accepted_images.check_image.Goals as goal

pub returns-in_err-root-clause-broken : goal.returns-in_err-root-clause-broken
returns-in_err-root-clause-broken g c = λ v is order.
    let disk : Disk = disk_of_device g.D.BlockDevice c.args.device.now in
    let e = err_from_is_err_and c.from_residual.result c.from_residual.ensures.1 in
    inr (header_pairs disk c.args.pairs.now, (c.requires.thread, c.in_err-root.ensures.broken v (ap Err (same_error e.1 e.2 is)) order))

pub pairs_from_index-directories-requires : goal.pairs_from_index-directories-requires
pairs_from_index-directories-requires g c =
    let disk : Disk = disk_of_device g.D.BlockDevice c.args.device.now in
    let below = directories_within disk c.args.pairs.now c.in_ok-root.root c.in_ok-root.ensures.head in
    omega (arith, below)

pub returns-in_err-check_move-clause-broken : goal.returns-in_err-check_move-clause-broken
returns-in_err-check_move-clause-broken g c = λ v is order.
    let disk : Disk = disk_of_device g.D.BlockDevice c.args.device.now in
    let history = g.D.BlockDevice.history c.args.device.now in
    let state : Gstate = move_view c.args.state.now in
    let e = err_from_is_err_and c.from_residual-in_err-check_move.result c.from_residual-in_err-check_move.ensures.1 in
    move_breaks (disk_with_order order disk) history c.args.pairs.now c.args.map.now state c.in_ok-root.root (read_in order disk history c.args.pairs.now c.args.map.now state c.requires)
    (head_in order disk c.args.pairs.now c.in_ok-root.root c.in_ok-root.ensures.head)
    c.pairs_from_index-directories.result.now c.pairs_from_index-directories.ensures v (c.in_err-check_move.ensures.broken v (ap Err (same_error e.1 e.2 is)))

pub returns-in_err-check_move-clause-device : goal.returns-in_err-check_move-clause-device
returns-in_err-check_move-clause-device g c =
    let e = err_from_is_err_and c.from_residual-in_err-check_move.result c.from_residual-in_err-check_move.ensures.1 in
    only_read g.D.BlockDevice c.in_ok-root.ensures.device.device (quiet g.D.BlockDevice c.in_ok-root.ensures.device) (λ io. absurd (let corrupt = c.in_err-check_move.ensures.corrupt.0 in let gives = same_error e.1 e.2 io in cc))

pub check_directories-requires : goal.check_directories-requires
check_directories-requires g c =
    let disk : Disk = disk_of_device g.D.BlockDevice c.args.device.now in
    let now : Disk = disk_of_device g.D.BlockDevice c.superblock_chain_length.new.dev in
    let history = g.D.BlockDevice.history c.args.device.now in
    let read = c.in_ok-root.ensures.device.device in
    let same : now ≡ disk = ap₂ disk_of_blocks read.geometry read.same in
    let state : Gstate = move_view c.args.state.now in
    subst (λ d. AreThreadDirectories d c.args.map.now state c.pairs_from_index-directories.result.now) (sym same)
    (subst (λ xs. AreThreadDirectories disk c.args.map.now state xs) (sym c.pairs_from_index-directories.ensures)
    (directories_are disk history c.args.pairs.now c.args.map.now state c.in_ok-root.root c.requires c.in_ok-root.ensures.head))

pub returns-in_err-violations-clause-broken : goal.returns-in_err-violations-clause-broken
returns-in_err-violations-clause-broken g c = λ v is order.
    let disk : Disk = disk_of_device g.D.BlockDevice c.args.device.now in
    let now : Disk = disk_of_device g.D.BlockDevice c.superblock_chain_length.new.dev in
    let history = g.D.BlockDevice.history c.args.device.now in
    let read = c.in_ok-root.ensures.device.device in
    let e = err_from_is_err_and c.from_residual-in_err-violations.result c.from_residual-in_err-violations.ensures.1 in
    let state : Gstate = move_view c.args.state.now in
    pairs_break (disk_with_order order disk) history c.args.pairs.now c.args.map.now state c.in_ok-root.root (read_in order disk history c.args.pairs.now c.args.map.now state c.requires)
    (head_in order disk c.args.pairs.now c.in_ok-root.root c.in_ok-root.ensures.head)
    (disk_with_order order now) (ap (disk_with_order order) (ap₂ disk_of_blocks read.geometry read.same)) c.pairs_from_index-directories.result.now c.pairs_from_index-directories.ensures v (c.in_err-violations.ensures.broken v (ap Err (same_error e.1 e.2 is)) order)

pub returns-in_err-violations-clause-device : goal.returns-in_err-violations-clause-device
returns-in_err-violations-clause-device g c =
    let e = err_from_is_err_and c.from_residual-in_err-violations.result c.from_residual-in_err-violations.ensures.1 in
    passed_on g.D.BlockDevice e.1 e.2 c.in_ok-root.ensures.device.device (quiet g.D.BlockDevice c.in_ok-root.ensures.device) c.in_err-violations.ensures.device

pub returns-clause-image : goal.returns-clause-image
returns-clause-image g c = λ order.
    let disk : Disk = disk_of_device g.D.BlockDevice c.args.device.now in
    let now : Disk = disk_of_device g.D.BlockDevice c.superblock_chain_length.new.dev in
    let history = g.D.BlockDevice.history c.args.device.now in
    let read = c.in_ok-root.ensures.device.device in
    let state : Gstate = move_view c.args.state.now in
    subst (IsHeaderCheckResult (disk_with_order order disk) c.args.pairs.now (violation_in_order order c.in_ok-violations.violations) c.args.map.now) (sym c.seed_allocation_start.ensures.same)
    (has_image (disk_with_order order disk) history c.args.pairs.now c.args.map.now state c.in_ok-root.root (read_in order disk history c.args.pairs.now c.args.map.now state c.requires)
    (head_in order disk c.args.pairs.now c.in_ok-root.root c.in_ok-root.ensures.head)
    (disk_with_order order now) (ap (disk_with_order order) (ap₂ disk_of_blocks read.geometry read.same)) c.check_directories.new.map c.pairs_from_index-directories.result.now c.pairs_from_index-directories.ensures
    c.in_ok-check_move.ensures.right (violation_in_order order c.in_ok-violations.violations) (c.in_ok-violations.ensures.ok order))

pub returns-clause-device : goal.returns-clause-device
returns-clause-device g c =
    let first = c.in_ok-root.ensures.device in
    let second = c.in_ok-violations.ensures.device in
    only_read g.D.BlockDevice (read_on g.D.BlockDevice first.device second.device) (quiet g.D.BlockDevice second ∙ quiet g.D.BlockDevice first) (λ io. absurd (cc))

pub returns-clause-few : goal.returns-clause-few
unfolding returns-clause-image
returns-clause-few g c = λ order fits.
    let disk : Disk = disk_of_device g.D.BlockDevice c.args.device.now in
    let history = g.D.BlockDevice.history c.args.device.now in
    let state : Gstate = move_view c.args.state.now in
    let image : IsHeaderCheckResult (disk_with_order order disk) c.args.pairs.now (violation_in_order order c.in_ok-violations.violations) c.args.map.now c.seed_allocation_start.new.map = returns-clause-image g c order in
    let read = c.in_ok-root.ensures.device.device in
    let first = c.in_ok-root.ensures.reads in
    let rest = subst₂ (λ (d : Disk) (hs : List PairHeader). read_count (g.D.BlockDevice.history c.check_directories.new.device) ≤ read_count (g.D.BlockDevice.history c.superblock_chain_length.new.dev) + sum_by (pair_reads d) (header_descriptions state true hs))
    (ap₂ disk_of_blocks read.geometry read.same) c.pairs_from_index-directories.ensures (c.in_ok-violations.ensures.few) in
    let most = directories_read (disk_with_order order disk) history c.args.pairs.now c.args.map.now state c.in_ok-root.root (read_in order disk history c.args.pairs.now c.args.map.now state c.requires)
    (head_in order disk c.args.pairs.now c.in_ok-root.root c.in_ok-root.ensures.head) (g.met.D.BlockDevice.bytes c.args.device.now) (image.accepted fits) in
    omega (arith, first, rest, most)

pub returns-clause-root : goal.returns-clause-root
returns-clause-root g c = sym c.in_ok-root.ensures.head.before
