use Rattle.std.proofs.Common.{sym, ap, subst, ◌∙◌}
use Rattle.lfs_tree.proofs.Common.{disk_with_order, Disk, disk_of_device, thread_state, IsAccepted, IsMountedTree, answered}
use Rattle.lfs_model.specs.declared.order.NameOrder.{NameOrder}
use Rattle.lfs_tree.proofs.Mounting.{mounted_rooted, mounted_tree, none_broken, read_back}
use Rattle.lfs_tree.proofs.tree.Tree.mount.Goals as goal

pub find_profile_breach-requires-clause-accepted : goal.find_profile_breach-requires-clause-accepted
find_profile_breach-requires-clause-accepted g c =
    let m = c.in_ok-image.ensures.mounted.mounted in
    subst (λ (d : Disk). IsAccepted d c.in_ok-image.image.thread.kept.pairs) (sym m.disk_is) m.accepted

pub invariant_of-result : goal.invariant_of-result
invariant_of-result g c = λ e.
    let image = c.in_ok-image.image in
    mounted_rooted (disk_with_order image.thread.kept.disk.order (disk_of_device g.D.BlockDevice c.args.device)) (g.D.BlockDevice.history c.args.device) image.thread c.find_profile_breach.new.thread image.findings.root c.is_none.result
    c.in_ok-image.ensures.mounted.mounted (answered _ _ c.find_profile_breach.result _ c.in-Ok.is c.find_profile_breach.ensures.reading) c.in_ok-image.ensures.mounted.root
    (none_broken image.thread.kept.disk image.thread.kept.pairs c.in-Ok.breach c.is_none.result c.is_none.ensures c.in-Ok.ensures.is)

pub returns-in-Ok-clause-mounted : goal.returns-in-Ok-clause-mounted
returns-in-Ok-clause-mounted g c =
    let disk : Disk = disk_of_device g.D.BlockDevice c.args.device in
    let read = answered _ _ c.find_profile_breach.result _ c.in-Ok.is c.find_profile_breach.ensures.reading in
    let was = c.in_ok-image.image.thread in
    subst (λ (o : NameOrder). IsMountedTree (disk_with_order o disk) (g.D.BlockDevice.history c.args.device) (thread_state c.find_profile_breach.new.thread c.is_none.result))
    (sym (ap (λ (d : Disk). d.order) read.only.disk))
    (mounted_tree (disk_with_order was.kept.disk.order disk) (g.D.BlockDevice.history c.args.device) was c.find_profile_breach.new.thread c.in_ok-image.image.findings.root c.is_none.result
    c.in_ok-image.ensures.mounted.mounted read c.in_ok-image.ensures.mounted.root (none_broken was.kept.disk was.kept.pairs c.in-Ok.breach c.is_none.result c.is_none.ensures c.in-Ok.ensures.is) c.in_ok-image.ensures.few.called)

pub returns-in-Ok-clause-longer : goal.returns-in-Ok-clause-longer
returns-in-Ok-clause-longer g c = λ shorter.
    let read = answered _ _ c.find_profile_breach.result _ c.in-Ok.is c.find_profile_breach.ensures.reading in
    c.in_ok-image.ensures.longer (sym (ap (λ (d : Disk). d.order) read.only.disk) ∙ shorter)

pub returns-in-Err-clause-back : goal.returns-in-Err-clause-back
returns-in-Err-clause-back g c =
    let was = c.in_ok-image.image.thread in
    read_back g.D.BlockDevice c.args.device c.into_device.result was.kept.disk.order c.find_profile_breach.new.thread.kept.disk.order was c.find_profile_breach.new.thread c.find_profile_breach.result c.in-Err.error
    c.in_ok-image.ensures.mounted.mounted c.in-Err.is c.find_profile_breach.ensures.reading c.into_device.ensures.disk c.into_device.ensures.history
