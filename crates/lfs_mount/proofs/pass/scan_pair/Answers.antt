use Rattle.std.proofs.Common.{ℕ, List, Err, inl, inr, refl, arith, ◌≡◌, ◌≤◌, ◌+◌, sym, ap, ap₂, ◌∙◌, length, map, subst}
use Rattle.std.specs.Prelude.{sum_by}
use Rattle.lfs_mount.proofs.Common.{err_from_is_err_and, ReadsOnly, disk_of_blocks, BlockStates, RawSlot, disk_with_order, Disk, disk_block, read_count, slot_view, disk_of_device, HasInvalidOrSharedList, block_entry_slots, IsNoEntryAt, scan_view, lists_view, MarksAllListsUsed, list_reads, described_lists, scan_after_slots}
use Rattle.lfs_device.specs.declared.device.BlockDevice.{Ghosts}
use Rattle.lfs_device.specs.declared.geometry.Geometry.{Geometry}
use Rattle.lfs_model.specs.declared.order.NameOrder.{NameOrder}
use Rattle.lfs_model.specs.declared.violations.Violation.{Violation}
use Rattle.lfs_model.specs.declared.violations.Violation.TheVariants as violation
use Rattle.lfs_mount.specs.ListsView.{raw_slots_view}
use Rattle.lfs_mount.specs.declared.pass.DirectoryPairHeader.{DirectoryPairHeader}
use Rattle.lfs_mount.proofs.Called.{gone_on, passed_on, quiet, same_error, violation_of}
use Rattle.lfs_mount.proofs.Kept.{held_kept}
use Rattle.lfs_mount.proofs.ReadCounts.{takes_lists}
use Rattle.lfs_mount.proofs.Scans.{scan_none_at}
use Rattle.lfs_mount.proofs.pass.scan_pair.Goals as goal

-- whatever the order of names, on the device as it was before
lists_first_on : {D : Type 0} (g : Ghosts D) (old mid : D) → ReadsOnly g old mid → (order : NameOrder) (m : DirectoryPairHeader) (sets : BlockStates) (slots : List RawSlot) (v : Violation) → HasInvalidOrSharedList (disk_of_device g mid) m sets slots v
    → HasInvalidOrSharedList (disk_with_order order (disk_of_device g old)) m sets slots v
lists_first_on g old mid reads order m sets slots v broken =
    let b = subst (λ (d : Disk). HasInvalidOrSharedList d m sets slots v) (ap₂ disk_of_blocks reads.geometry reads.same) broken in
    record { index = b.index; l = b.l; is = b.is; mid = b.mid; before = b.before; breaks = b.breaks }

lists_in_order : (order : NameOrder) (disk : Disk) {old new : BlockStates} {all : List (ℕ × ℕ)} → MarksAllListsUsed disk old all new → MarksAllListsUsed (disk_with_order order disk) old all new
lists_in_order order disk m = record { lists = m.lists; marked = m.marked }

pub returns-in-Err-clause-broken : goal.returns-in-Err-clause-broken
returns-in-Err-clause-broken g c = λ v is order.
    let log = c.read.ensures ∙ c.deref.ensures.value ∙ c.in_ok-bytes.ensures.bytes in
    let from = violation_of c.in-Err.error _ v c.in-Err.ensures.errors (sym c.of.ensures ∙ same_error refl refl is) in
    let none = c.in-Err.ensures.corrupt (ap Err from.0) order in
    let at = scan_none_at order c.args.places.now (scan_view order c.args.known.now) (map slot_view c.deref-2.result.now) none in
    let same = ap (map slot_view) (c.deref-2.ensures.value ∙ sym c.deref-in-Err.ensures.value) in
    let first = c.first_invalid_slot.ensures.holds at.0 (subst (λ ss. IsNoEntryAt ss at.0) same at.1) in
    inr (
      map slot_view c.in_ok-slots.slots.items,
      (
        ap (block_entry_slots c.args.member.now) (sym log) ∙ c.in_ok-slots.ensures.kept,
        inl (
          c.first_invalid_slot.result,
          (
            sym from.1 ∙ ap (violation.Entry c.args.member.now.at) c.entry_slot_id-slot.ensures,
            subst (λ ss. IsNoEntryAt ss c.first_invalid_slot.result) (ap (map slot_view) c.deref-in-Err.ensures.value) first,
          ),
        ),
      ),
    )

pub mark_slot_lists-requires : goal.mark_slot_lists-requires
mark_slot_lists-requires g c =
    let log = ap length (c.read.ensures ∙ c.deref.ensures.value ∙ c.in_ok-bytes.ensures.bytes) in
    let size = (g.met.D.BlockDevice.shape c.args.device.now).sizes c.args.member.now.active c.requires in
    let small = (g.D.BlockDevice.geometry c.args.device.now).valid.no_larger in
    let few = c.in_ok-slots.ensures.few (omega arith) in
    let same = ap length c.deref-3.ensures.value in
    omega arith

pub returns-in_err-mark_slot_lists-clause-broken : goal.returns-in_err-mark_slot_lists-clause-broken
returns-in_err-mark_slot_lists-clause-broken g c = λ v is order.
    let p = err_from_is_err_and c.from_residual-in_err-mark_slot_lists.result c.from_residual-in_err-mark_slot_lists.ensures.1 in
    let log = c.read.ensures ∙ c.deref.ensures.value ∙ c.in_ok-bytes.ensures.bytes in
    let broken = lists_first_on g.D.BlockDevice c.args.device.now c.read_active_block.new.device c.in_ok-bytes.ensures.reading.device order c.args.member.now c.args.map.now (raw_slots_view c.deref-3.result.now) v
    (c.in_err-mark_slot_lists.ensures.broken v (ap Err (same_error p.1 p.2 is))) in
    inr (
      map slot_view c.in_ok-slots.slots.items,
      (
        ap (block_entry_slots c.args.member.now) (sym log) ∙ c.in_ok-slots.ensures.kept,
        inr (subst (λ ss. HasInvalidOrSharedList (disk_with_order order (disk_of_device g.D.BlockDevice c.args.device.now)) c.args.member.now c.args.map.now ss v) (ap (map slot_view) c.deref-3.ensures.value) broken),
      ),
    )

pub returns-in_err-mark_slot_lists-clause-reading : goal.returns-in_err-mark_slot_lists-clause-reading
returns-in_err-mark_slot_lists-clause-reading g c =
    let p = err_from_is_err_and c.from_residual-in_err-mark_slot_lists.result c.from_residual-in_err-mark_slot_lists.ensures.1 in
    passed_on g.D.BlockDevice p.1 p.2 c.in_ok-bytes.ensures.reading.device (quiet g.D.BlockDevice c.in_ok-bytes.ensures.reading) c.in_err-mark_slot_lists.ensures.reading

pub returns-clause-taken : goal.returns-clause-taken
returns-clause-taken g c = λ order.
    let disk = disk_of_device g.D.BlockDevice c.args.device.now in
    let log = c.read.ensures ∙ c.deref.ensures.value ∙ c.in_ok-bytes.ensures.bytes in
    let held = held_kept c.args.member.now (disk_block disk c.args.member.now.active) (map slot_view c.in_ok-slots.slots.items) (ap (block_entry_slots c.args.member.now) (sym log) ∙ c.in_ok-slots.ensures.kept) in
    record {
      held = held.0;
      content = held.1.0;
      entries = map slot_view c.in_ok-slots.slots.items;
      kept = held.1.1;
      scan = ap (λ xs. scan_after_slots order c.args.places.now (scan_view order c.args.known.now) (map slot_view xs)) (sym c.deref-2.ensures.value) ∙ c.in_default.ensures.ok order;
      lists = lists_in_order order disk (subst (λ ls. MarksAllListsUsed disk c.args.map.now ls c.mark_slot_lists.new.map)
          (ap lists_view c.deref-3.ensures.value)
          (subst (λ d. MarksAllListsUsed d c.args.map.now (lists_view c.deref-3.result.now) c.mark_slot_lists.new.map) (ap₂ disk_of_blocks c.in_ok-bytes.ensures.reading.device.geometry c.in_ok-bytes.ensures.reading.device.same) c.in_ok-mark_slot_lists.ensures.marked));
    }

pub returns-clause-few : goal.returns-clause-few
unfolding returns-clause-taken
returns-clause-few g c =
    let disk = disk_of_device g.D.BlockDevice c.args.device.now in
    let t = returns-clause-taken g c disk.order in
    let lists : described_lists disk c.args.member.now ≡ lists_view c.in_ok-slots.slots.items = takes_lists disk c.args.places.now c.args.member.now (scan_view disk.order c.args.known.now) _ c.args.map.now c.mark_slot_lists.new.map t in
    let sum = ap (sum_by (list_reads disk.block_size)) lists in
    let one = c.in_ok-bytes.ensures.once in
    let these = subst (λ n. read_count (g.D.BlockDevice.history c.mark_slot_lists.new.device) ≤ read_count (g.D.BlockDevice.history c.read_active_block.new.device) + sum_by (list_reads n) (lists_view c.deref-3.result.now))
    (ap (λ (k : Geometry). k.block_size) c.in_ok-bytes.ensures.reading.device.geometry) (c.in_ok-mark_slot_lists.ensures.few) in
    let same : sum_by (list_reads disk.block_size) (lists_view c.deref-3.result.now) ≡ sum_by (list_reads disk.block_size) (lists_view c.in_ok-slots.slots.items) =
    ap (λ ss. sum_by (list_reads disk.block_size) (lists_view ss)) c.deref-3.ensures.value in
    omega arith

pub returns-clause-reading : goal.returns-clause-reading
returns-clause-reading g c = gone_on g.D.BlockDevice c.in_ok-bytes.ensures.reading c.in_ok-mark_slot_lists.ensures.reading
