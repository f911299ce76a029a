use Rattle.std.proofs.Common.{◌∙◌}
use Rattle.lfs_lookup.proofs.AtPaths.{sized_on}
use Rattle.lfs_lookup.proofs.ShownFindings.{found_shown, in_entry}
use Rattle.lfs_lookup.proofs.by_path.find_node.Goals as goal

pub node_of_lookup-requires : goal.node_of_lookup-requires
node_of_lookup-requires g c = in_entry c.args.thread.now.kept c.args.path.now c.in_ok-shown.shown c.in_ok-shown.ensures.shown

pub returns-clause-found : goal.returns-clause-found
returns-clause-found g c =
    let t = c.args.thread.now.kept in
    let device = c.device-device.result.now in
    found_shown t c.args.path.now c.requires.accepted c.args.root c.in_ok-shown.shown c.node_of_lookup.result c.requires.root
    (sized_on g.D.BlockDevice device t.disk (g.D.BlockDevice.geometry device).block_count (c.device-device.ensures.disk ∙ c.look_up_path.ensures.reading.only.disk)
    (g.D.BlockDevice.geometry device).valid.no_smaller (g.met.D.BlockDevice.shape device))
    c.in_ok-shown.ensures.shown c.node_of_lookup.ensures
