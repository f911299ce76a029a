use Rattle.std.proofs.Common.{◌∙◌, Err, ap, subst, sym}
use Rattle.lfs_device.specs.DeviceDisk.{disk_of_blocks as shown}
use Rattle.lfs_tool.proofs.Common.{disk_with_order, Disk, fault_count, IsAccepted, IsMountError, AreWalkItems, ram_blocks, ram_geometry, tree_items_view}
use Rattle.lfs_model.specs.format.Thread.{count_before_root}
use Rattle.lfs_tool.proofs.Mounts.{not_mounted, only_memory}
use Rattle.lfs_tool.proofs.image_devices.mount_and_walk.Goals as goal

pub returns-in-Err-clause-err : goal.returns-in-Err-clause-err
returns-in-Err-clause-err c =
    let e = c.in-Err.ensures in
    not_mounted (shown (ram_geometry c.args.device) (ram_blocks c.args.device)) c.in-Err.error _ _ e.errors e.corrupt e.back.fault (c.in-Err._device.no_fault ∙ sym c.args.device.no_fault)

pub returns-in-Ok-walk_tree-clause-items : goal.returns-in-Ok-walk_tree-clause-items
returns-in-Ok-walk_tree-clause-items c =
    let disk = shown (ram_geometry c.args.device) (ram_blocks c.args.device) in
    let thread = c.in-Ok.image.thread in
    let walked = c.in-Ok-walk_tree in
    let places = tree_items_view walked.items.items in
    let m = c.in-Ok.ensures.mounted.mounted in
    let e = walked.ensures in
    let same = ap (λ (d : Disk). disk_with_order d.order disk) (sym e.reading.only.disk) in
    record {
      works = e.reading.works;
      disk_is = e.reading.only.disk ∙ m.disk_is ∙ same;
      accepted = subst (λ d. IsAccepted d c.walk_tree.new.thread.kept.pairs) same (subst (IsAccepted (disk_with_order thread.kept.disk.order disk)) (sym e.reading.only.pairs) m.accepted);
      walked = subst (λ d. AreWalkItems d c.walk_tree.new.thread.kept.pairs places) (m.disk_is ∙ same) (subst (λ ps. AreWalkItems thread.kept.disk ps places) (sym e.reading.only.pairs) e.walked);
    }

pub returns-in-Ok-walk_tree-clause-root : goal.returns-in-Ok-walk_tree-clause-root
returns-in-Ok-walk_tree-clause-root c = c.in-Ok.ensures.mounted.root ∙ ap count_before_root (sym c.in-Ok-walk_tree.ensures.reading.only.pairs)

pub returns-in-Err-walk_tree-clause-err : goal.returns-in-Err-walk_tree-clause-err
returns-in-Err-walk_tree-clause-err c =
    let reported = c.in-Err-walk_tree.ensures.reading.reported in
    let memory = only_memory c.in-Err-walk_tree.error _ _ reported.errors (λ io. reported.fault (ap Err io)) (ap fault_count (sym c.device-device.ensures.history) ∙ c.device-device.result.now.no_fault) in
    subst (IsMountError (shown (ram_geometry c.args.device) (ram_blocks c.args.device))) (sym memory) tt
