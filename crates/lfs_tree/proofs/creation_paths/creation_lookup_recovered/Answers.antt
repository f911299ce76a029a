use Rattle.std.proofs.Common.{refl, ◌∙◌}
use Rattle.lfs_tree.proofs.Common.{sized_on, answered, answers, found_shown, in_entry}
use Rattle.lfs_tree.proofs.RenamePaths.{shows_found}
use Rattle.lfs_tree.proofs.creation_paths.creation_lookup_recovered.Goals as goal

pub node_of_lookup-requires : goal.node_of_lookup-requires
node_of_lookup-requires g c =
    let t = c.args.thread.now.kept in
    in_entry t c.args.path.now c.to_visible_lookup.result (shows_found t c.args.path.now c.in_ok-target.target.found c.to_visible_lookup.result c.requires.held.sound.accepted c.requires.settled c.in_ok-target.ensures.target.leads c.to_visible_lookup.ensures)

pub returns-clause-found : goal.returns-clause-found
returns-clause-found g c =
    let t = c.args.thread.now.kept in
    let device = c.device-device.result.now in
    found_shown t c.args.path.now c.requires.held.sound.accepted c.args.root c.to_visible_lookup.result c.node_of_lookup.result c.requires.held.root_is
    (sized_on g.D.BlockDevice device t.disk (g.D.BlockDevice.geometry device).block_count (c.device-device.ensures.disk ∙ c.find_at_path.ensures.reading.only.disk) (g.D.BlockDevice.geometry device).valid.no_smaller (g.met.D.BlockDevice.shape device))
    (shows_found t c.args.path.now c.in_ok-target.target.found c.to_visible_lookup.result c.requires.held.sound.accepted c.requires.settled c.in_ok-target.ensures.target.leads c.to_visible_lookup.ensures) c.node_of_lookup.ensures

pub returns-clause-target : goal.returns-clause-target
returns-clause-target g c = record { settled = c.requires.settled; leads = c.in_ok-target.ensures.target.leads }

pub returns-clause-reading : goal.returns-clause-reading
returns-clause-reading g c = answers _ _ _ _ refl (answered _ _ c.find_at_path.result c.in_ok-target.target c.in_ok-target.was c.find_at_path.ensures.reading)
