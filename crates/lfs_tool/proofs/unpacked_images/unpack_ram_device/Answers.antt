use Rattle.std.proofs.Common.{◌∙◌, List, ap, subst, sym}
use Rattle.lfs_tool.proofs.Common.{disk_with_order, ram_blocks, ram_geometry, tree_items_view, Disk, IsAccepted, HaveWellFormedLists, HasDoneActionsPrefix, HasDoneActions, path_struct_actions}
use Rattle.lfs_device.specs.DeviceDisk.{disk_of_blocks as shown}
use Rattle.lfs_lookup.specs.declared.walks.TreeItem.{TreeItem}
use Rattle.lfs_tool.proofs.Mounts.{can_still}
use Rattle.lfs_tool.proofs.Unpacks.{begun_of, done_of, fails_begun, lists_walked}
use Rattle.lfs_tool.proofs.unpacked_images.unpack_ram_device.Goals as goal

pub unpack_tree_items-requires-clause-lists : goal.unpack_tree_items-requires-clause-lists
unpack_tree_items-requires-clause-lists g c =
    let image = c.in-Ok.image in
    let h = c.in-Ok.ensures.items in
    subst (λ (items : List TreeItem). HaveWellFormedLists image.thread.kept.disk (tree_items_view items)) (sym c.deref.ensures.value)
    (lists_walked _ image.thread.kept.disk image.thread.kept.pairs (tree_items_view image.items.items) h.disk_is h.walked)

pub returns-in-Ok-unpack_tree_items-clause-done : goal.returns-in-Ok-unpack_tree_items-clause-done
returns-in-Ok-unpack_tree_items-clause-done g c =
    let image = c.in-Ok.image in
    let h = c.in-Ok.ensures.items in
    let old = g.T.Target.done c.args.target.now in
    let new = g.T.Target.done c.unpack_tree_items.new.target in
    done_of (shown (ram_geometry c.args.device) (ram_blocks c.args.device)) image.thread.kept.disk image.thread.kept.disk.order image.thread.kept.pairs (tree_items_view image.items.items) h.disk_is h.accepted h.walked old new
    (subst (λ (items : List TreeItem). HasDoneActions old new (path_struct_actions image.thread.kept.disk (tree_items_view items))) c.deref.ensures.value c.in-Ok-unpack_tree_items.ensures.done)

pub returns-in-Ok-unpack_tree_items-clause-mounted : goal.returns-in-Ok-unpack_tree_items-clause-mounted
returns-in-Ok-unpack_tree_items-clause-mounted g c =
    let image = c.in-Ok.image in
    let h = c.in-Ok.ensures.items in
    let (only, works) = c.in-Ok-unpack_tree_items.ensures.only in
    let accepted = subst (λ (d : Disk). IsAccepted d image.thread.kept.pairs) (sym h.disk_is) h.accepted in
    record {
      disk_is = only.disk ∙ h.disk_is ∙ ap (λ (d : Disk). disk_with_order d.order (shown (ram_geometry c.args.device) (ram_blocks c.args.device))) (sym only.disk);
      can = can_still image.thread c.unpack_tree_items.new.thread image.root only works (record { works = h.works; accepted = accepted; root = c.in-Ok.ensures.root });
    }

pub returns-in-Err-unpack_tree_items-clause-failed : goal.returns-in-Err-unpack_tree_items-clause-failed
returns-in-Err-unpack_tree_items-clause-failed g c =
    let image = c.in-Ok.image in
    let h = c.in-Ok.ensures.items in
    let old = g.T.Target.done c.args.target.now in
    let new = g.T.Target.done c.unpack_tree_items.new.target in
    fails_begun (shown (ram_geometry c.args.device) (ram_blocks c.args.device)) old new _ _ c.in-Err-unpack_tree_items.error
    (begun_of (shown (ram_geometry c.args.device) (ram_blocks c.args.device)) image.thread.kept.disk image.thread.kept.disk.order image.thread.kept.pairs (tree_items_view image.items.items) h.disk_is h.accepted h.walked old new
    (subst (λ (items : List TreeItem). HasDoneActionsPrefix old new (path_struct_actions image.thread.kept.disk (tree_items_view items))) c.deref.ensures.value c.in-Err-unpack_tree_items.ensures.begun))
    c.in-Err-unpack_tree_items.ensures.reports
