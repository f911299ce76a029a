use Rattle.std.proofs.Common.{ℕ, List, refl, sym, ap, ap₂, ◌∙◌, ◌≤◌, Err, subst, take, ◌+◌, arith, flat_map, option_map}
use Rattle.std.proofs.lemmas.List.{take-map}
use Rattle.lfs_mount.proofs.Common.{err_from_is_err_and, slice_get-map, slice_get_read, ReadsOnly, disk_of_blocks, BlockStates, Disk, fault_count, read_count, slot_view, disk_of_device, IsInvalidOrSharedList, lists_view, MarksListBlocksUsed, MarksAllListsUsed, MarksFreeBlocksUsed, list_heads_and_sizes, list_blocks_backwards, list_reads}
use Rattle.lfs_device.specs.declared.device.BlockDevice.{Ghosts}
use Rattle.lfs_device.specs.declared.geometry.Geometry.{Geometry}
use Rattle.lfs_model.specs.declared.violations.Violation.{Violation}
use Rattle.lfs_mount.proofs.Called.{passed_on, quiet, read_on, same_error}
use Rattle.lfs_mount.proofs.MarkedLists.{lists_more, lists_stay}
use Rattle.lfs_mount.proofs.ReadCounts.{reads_more, reads_stay}
use Rattle.lfs_mount.proofs.lists.mark_slot_lists.Goals as goal
use Rattle.lfs_mount.proofs.lists.mark_slot_lists.Goals.{in-Some+in_ok-mark_slot_list, in_default}

-- on the device as it was before
first_on : {D : Type 0} (g : Ghosts D) (old mid : D) → ReadsOnly g old mid → (sets : BlockStates) (l : ℕ × ℕ) (at : List ℕ) (slot : ℕ) (v : Violation) → IsInvalidOrSharedList (disk_of_device g mid) sets l at slot v → IsInvalidOrSharedList (disk_of_device g old) sets l at slot v
first_on g old mid reads sets l at slot v broken = subst (λ (d : Disk). IsInvalidOrSharedList d sets l at slot v) (ap₂ disk_of_blocks reads.geometry reads.same) broken

pub returns-in_err-mark_slot_list-clause-broken : goal.returns-in_err-mark_slot_list-clause-broken
returns-in_err-mark_slot_list-clause-broken g c = λ v is.
    let p = err_from_is_err_and c.from_residual.result c.from_residual.ensures.1 in
    let at = slice_get_read c.args.slots.now _ c.loop-index.index c.index-slots-index.result refl c.loop-index-test.true c.index-slots-index.is in
    let disk = disk_of_device g.D.BlockDevice c.args.device.now in
    record {
      index = c.loop-index.index;
      l = c.in-Some.list;
      is = record {
        slot = slot_view c.index-slots-index.result;
        there = slice_get-map slot_view c.args.slots.now c.loop-index.index ∙ ap (option_map slot_view) at;
        list = sym c.list_of_slot.ensures ∙ c.in-Some.is;
      };
      mid = c.loop-index.map;
      before = subst (λ ss. MarksFreeBlocksUsed c.args.map.now (flat_map (list_blocks_backwards disk) (list_heads_and_sizes ss)) c.loop-index.map) (sym (take-map slot_view c.loop-index.index c.args.slots.now)) c.loop-index.invariant.marked.marked;
      breaks = first_on g.D.BlockDevice c.args.device.now c.loop-index.device c.loop-index.invariant.device c.loop-index.map c.in-Some.list c.args.member.now.at _ v
          (subst (λ n. IsInvalidOrSharedList (disk_of_device g.D.BlockDevice c.loop-index.device) c.loop-index.map c.in-Some.list c.args.member.now.at n v) c.entry_slot_id-number.ensures
          (c.in_err-mark_slot_list.ensures.broken v (ap Err (same_error p.1 p.2 is))));
    }

pub returns-in_err-mark_slot_list-clause-reading : goal.returns-in_err-mark_slot_list-clause-reading
returns-in_err-mark_slot_list-clause-reading g c =
    let p = err_from_is_err_and c.from_residual.result c.from_residual.ensures.1 in
    passed_on g.D.BlockDevice p.1 p.2 c.loop-index.invariant.device c.loop-index.invariant.quiet c.in_err-mark_slot_list.ensures.reading

pub loop-index-preserved : goal.loop-index-preserved
loop-index-preserved g c =
    let at = slice_get_read c.args.slots.now _ c.loop-index.index c.index-slots-index.result refl c.loop-index-test.true c.index-slots-index.is in
    let disk = disk_of_device g.D.BlockDevice c.args.device.now in
    let lists = lists_view (take (c.loop-index.index + 1) c.args.slots.now) in
    elim c.match-list_of_slot.branch [
      | in-Some+in_ok-mark_slot_list w ↦
          let same = ap₂ disk_of_blocks c.loop-index.invariant.device.geometry c.loop-index.invariant.device.same in
          record {
            marked = subst (λ m. MarksAllListsUsed disk c.args.map.now lists m) (sym w.map-is)
                (lists_more disk c.args.slots.now c.loop-index.index c.index-slots-index.result w.in-Some.list c.args.map.now c.loop-index.map w.mark_slot_list.new.map at
                (sym c.list_of_slot.ensures ∙ w.in-Some.is) c.loop-index.invariant.marked
                (subst (λ (d : Disk). MarksListBlocksUsed d c.loop-index.map w.in-Some.list w.mark_slot_list.new.map) same w.in_ok-mark_slot_list.ensures.marked));
            device = subst (ReadsOnly g.D.BlockDevice c.args.device.now) (sym w.device-is) (read_on g.D.BlockDevice c.loop-index.invariant.device w.in_ok-mark_slot_list.ensures.reading.device);
            quiet = ap (λ d. fault_count (g.D.BlockDevice.history d)) w.device-is ∙ quiet g.D.BlockDevice w.in_ok-mark_slot_list.ensures.reading ∙ c.loop-index.invariant.quiet;
            few =
                let geometry = ap (λ (k : Geometry). k.block_size) c.loop-index.invariant.device.geometry in
                let this = subst (λ size. read_count (g.D.BlockDevice.history w.mark_slot_list.new.device) ≤ read_count (g.D.BlockDevice.history c.loop-index.device) + list_reads size w.in-Some.list) geometry
                w.in_ok-mark_slot_list.ensures.few in
                let before = c.loop-index.invariant.few in
                let more = reads_more (g.D.BlockDevice.geometry c.args.device.now).block_size c.args.slots.now c.loop-index.index c.index-slots-index.result w.in-Some.list at
                (sym c.list_of_slot.ensures ∙ w.in-Some.is) in
                let same_reads = ap (λ d. read_count (g.D.BlockDevice.history d)) w.device-is in
                omega arith;
          }
      | in_default w ↦ record {
        marked = subst (λ m. MarksAllListsUsed disk c.args.map.now lists m) (sym w.map-is)
            (lists_stay disk c.args.slots.now c.loop-index.index c.index-slots-index.result c.args.map.now c.loop-index.map at (sym c.list_of_slot.ensures ∙ w.in_default.is) c.loop-index.invariant.marked);
        device = subst (ReadsOnly g.D.BlockDevice c.args.device.now) (sym w.device-is) c.loop-index.invariant.device;
        quiet = ap (λ d. fault_count (g.D.BlockDevice.history d)) w.device-is ∙ c.loop-index.invariant.quiet;
        few =
            let before = c.loop-index.invariant.few in
            let stay = reads_stay (g.D.BlockDevice.geometry c.args.device.now).block_size c.args.slots.now c.loop-index.index c.index-slots-index.result at (sym c.list_of_slot.ensures ∙ w.in_default.is) in
            let same_reads = ap (λ d. read_count (g.D.BlockDevice.history d)) w.device-is in
            omega arith;
      }
    ]
