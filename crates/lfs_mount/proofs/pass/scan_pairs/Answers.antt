use Rattle.std.proofs.Common.{refl, ◌≤◌, ◌+◌, ◌++◌, ◌∷◌, [], Err, drop, get_or, sym, ap, ap₂, subst, subst₂, ◌∙◌, arith, false, None}
use Rattle.lfs_mount.proofs.Common.{map-append, slice_get-get_or, err_from_is_err_and, read_count, disk_of_device, pair_reads, ReadsOnly, disk_of_blocks, disk_with_order, Disk, BlockStates, PairBreaksRule, vertex_view, graph_view, scan_view, Vertex, DirectoryGraph, ScansPair}
use Rattle.std.proofs.Math.ListN.{drop_of_length-le}
use Rattle.lfs_device.specs.declared.device.BlockDevice.{Ghosts}
use Rattle.lfs_model.specs.declared.violations.Violation.{Violation}
use Rattle.lfs_model.specs.declared.order.NameOrder.{NameOrder}
use Rattle.lfs_mount.specs.declared.pass.DirectoryPairHeader.{DirectoryPairHeader}
use Rattle.lfs_mount.proofs.Breaking.{marked_first, marked_next, thread_breaks}
use Rattle.lfs_mount.proofs.Called.{not_read, passed_on, quiet, read_on, same_error}
use Rattle.lfs_mount.proofs.ReadCounts.{pairs_more}
use Rattle.lfs_mount.proofs.Passing.{IsUnderWay, all_taken, begun, taken_hard, taken_soft}
use Rattle.lfs_mount.proofs.pass.scan_pairs.Goals as goal
use Rattle.lfs_mount.proofs.pass.scan_pairs.Goals.{then-not-member+in_ok-push, else-not-member}

-- the default past the end of a list of members
abbrev none : DirectoryPairHeader
none = record { at = []; active = 0; is_hard = false; has_superblock = false; moved = None }

pub loop-member-init : goal.loop-member-init
loop-member-init g c =
    let disk = disk_of_device g.D.BlockDevice c.args.device.now in
    record {
      way = λ order.
          subst₂ (λ (done : DirectoryGraph) k. IsUnderWay (disk_with_order order disk) c.args.places.now c.args.map.now c.args.members.now done k c.args.map.now c.args.members.now)
          (sym (ap (graph_view order) c.new-directories.ensures.items)) (sym (c.begin_directory_scan-known.ensures order))
          (begun (disk_with_order order disk) c.args.places.now c.args.map.now c.args.members.now);
      marks = λ order sync chain p rest t. marked_first (disk_with_order order disk) c.args.map.now c.args.places.now c.args.members.now sync chain p rest t;
      device = not_read g.D.BlockDevice c.args.device.now;
      quiet = refl;
      few = omega arith;
    }

-- on the device as it was before
first_on : {D : Type 0} (g : Ghosts D) (old mid : D) → ReadsOnly g old mid → (order : NameOrder) (m : DirectoryPairHeader) (sets : BlockStates) (v : Violation) → PairBreaksRule (disk_with_order order (disk_of_device g mid)) m sets v
    → PairBreaksRule (disk_with_order order (disk_of_device g old)) m sets v
first_on g old mid reads order m sets v broken = subst (λ (d : Disk). PairBreaksRule (disk_with_order order d) m sets v) (ap₂ disk_of_blocks reads.geometry reads.same) broken

pub returns-in_err-scan_pair-clause-broken : goal.returns-in_err-scan_pair-clause-broken
returns-in_err-scan_pair-clause-broken g c = λ v is order sync chain p rest t.
    let e = err_from_is_err_and c.from_residual.result c.from_residual.ensures.1 in
    let disk = disk_with_order order (disk_of_device g.D.BlockDevice c.args.device.now) in
    let m : DirectoryPairHeader = get_or c.args.members.now c.loop-member.member-index none in
    thread_breaks disk c.args.map.now c.args.places.now c.args.members.now sync chain p rest t c.loop-member.member-index m (slice_get-get_or c.args.members.now c.loop-member.member-index none c.loop-member-test.true)
    c.loop-member.map (c.loop-member.invariant.marks order sync chain p rest t) v (g.met.D.BlockDevice.bytes c.args.device.now)
    (first_on g.D.BlockDevice c.args.device.now c.loop-member.device c.loop-member.invariant.device order m c.loop-member.map v (c.in_err-scan_pair.ensures.broken v (ap Err (same_error e.1 e.2 is)) order))

pub returns-in_err-scan_pair-clause-reading : goal.returns-in_err-scan_pair-clause-reading
returns-in_err-scan_pair-clause-reading g c =
    let e = err_from_is_err_and c.from_residual.result c.from_residual.ensures.1 in
    passed_on g.D.BlockDevice e.1 e.2 c.loop-member.invariant.device c.loop-member.invariant.quiet c.in_err-scan_pair.ensures.reading

pub returns-in_err-push-clause-reading : goal.returns-in_err-push-clause-reading
returns-in_err-push-clause-reading g c =
    let e = err_from_is_err_and c.from_residual-in_err-push.result c.from_residual-in_err-push.ensures.1 in
    record {
      device = read_on g.D.BlockDevice c.loop-member.invariant.device c.in_ok-scan_pair.ensures.reading.device;
      fault = λ is. absurd (let clash = same_error e.1 e.2 is in cc);
      no_fault = λ other. quiet g.D.BlockDevice c.in_ok-scan_pair.ensures.reading ∙ c.loop-member.invariant.quiet;
    }

pub loop-member-preserved : goal.loop-member-preserved
loop-member-preserved g c =
    let disk = disk_of_device g.D.BlockDevice c.args.device.now in
    let takes : (order : NameOrder) → ScansPair (disk_with_order order disk) c.args.places.now (get_or c.args.members.now c.loop-member.member-index none) (scan_view order c.loop-member.known) c.loop-member.map (scan_view order c.scan_pair.new.known) c.scan_pair.new.map =
    λ order.
    subst (λ (d : Disk). ScansPair (disk_with_order order d) c.args.places.now (get_or c.args.members.now c.loop-member.member-index none) (scan_view order c.loop-member.known) c.loop-member.map (scan_view order c.scan_pair.new.known) c.scan_pair.new.map)
    (ap₂ disk_of_blocks c.loop-member.invariant.device.geometry c.loop-member.invariant.device.same) (c.in_ok-scan_pair.ensures.taken order) in
    record {
      way = λ order. elim c.if-not-member.branch [
        | then-not-member+in_ok-push w ↦
            subst₂ (λ (done : DirectoryGraph) k. IsUnderWay (disk_with_order order disk) c.args.places.now c.args.map.now c.args.members.now done k c.scan_pair.new.map (drop (c.loop-member.member-index + 1) c.args.members.now))
            (sym (ap (λ ds. graph_view order ds.items) w.directories-is ∙ ap (graph_view order) w.in_ok-push.ensures.items ∙ map-append (vertex_view order) c.loop-member.directories.items (w.take_scanned_directory.result ∷ [])
            ∙ ap (λ (v : Vertex). graph_view order c.loop-member.directories.items ++ v ∷ []) (w.take_scanned_directory.ensures.directory order)))
            (sym (ap (scan_view order) w.known-is ∙ w.take_scanned_directory.ensures.nothing order))
            (taken_soft (disk_with_order order disk) c.args.places.now c.args.map.now c.args.members.now (graph_view order c.loop-member.directories.items) (scan_view order c.loop-member.known) c.loop-member.map
            c.loop-member.member-index none c.loop-member-test.true (c.loop-member.invariant.way order) (scan_view order c.scan_pair.new.known) c.scan_pair.new.map (takes order) w.if-not-member.true)
        | else-not-member w ↦
            subst₂ (λ (done : DirectoryGraph) k. IsUnderWay (disk_with_order order disk) c.args.places.now c.args.map.now c.args.members.now done k c.scan_pair.new.map (drop (c.loop-member.member-index + 1) c.args.members.now))
            (sym (ap (λ ds. graph_view order ds.items) w.directories-is))
            (sym (ap (scan_view order) w.known-is))
            (taken_hard (disk_with_order order disk) c.args.places.now c.args.map.now c.args.members.now (graph_view order c.loop-member.directories.items) (scan_view order c.loop-member.known) c.loop-member.map
            c.loop-member.member-index none c.loop-member-test.true (c.loop-member.invariant.way order) (scan_view order c.scan_pair.new.known) c.scan_pair.new.map (takes order) w.if-not-member.false)
      ];
      marks = λ order sync chain p rest t.
          marked_next (disk_with_order order disk) c.args.map.now c.args.places.now c.args.members.now sync chain p rest t c.loop-member.member-index (get_or c.args.members.now c.loop-member.member-index none)
          (slice_get-get_or c.args.members.now c.loop-member.member-index none c.loop-member-test.true) c.loop-member.map (c.loop-member.invariant.marks order sync chain p rest t)
          (scan_view order c.loop-member.known) (scan_view order c.scan_pair.new.known) c.scan_pair.new.map (takes order);
      device = read_on g.D.BlockDevice c.loop-member.invariant.device c.in_ok-scan_pair.ensures.reading.device;
      quiet = quiet g.D.BlockDevice c.in_ok-scan_pair.ensures.reading ∙ c.loop-member.invariant.quiet;
      few =
          let before = c.loop-member.invariant.few in
          let this = subst (λ (d : Disk). read_count (g.D.BlockDevice.history c.scan_pair.new.device) ≤ read_count (g.D.BlockDevice.history c.loop-member.device) + pair_reads d (get_or c.args.members.now c.loop-member.member-index none))
          (ap₂ disk_of_blocks c.loop-member.invariant.device.geometry c.loop-member.invariant.device.same) (c.in_ok-scan_pair.ensures.few) in
          let more = pairs_more disk c.args.members.now c.loop-member.member-index none c.loop-member-test.true in
          omega arith;
    }

pub returns-clause-taken : goal.returns-clause-taken
returns-clause-taken g c = λ order.
    let disk = disk_with_order order (disk_of_device g.D.BlockDevice c.args.device.now) in
    all_taken disk c.args.places.now c.args.map.now c.args.members.now (graph_view order c.loop-member.directories.items) (scan_view order c.loop-member.known) c.loop-member.map
    (subst (IsUnderWay disk c.args.places.now c.args.map.now c.args.members.now (graph_view order c.loop-member.directories.items) (scan_view order c.loop-member.known) c.loop-member.map)
    (drop_of_length-le c.args.members.now (omega arith)) (c.loop-member.invariant.way order))
