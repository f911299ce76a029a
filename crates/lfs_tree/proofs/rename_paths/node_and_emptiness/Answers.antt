use Rattle.std.proofs.Common.{◌∙◌, arith, refl}
use Rattle.lfs_tree.proofs.Common.{err_from_is_err_and, sized_on, answered, answers, passed, found_shown, in_entry}
use Rattle.lfs_lookup.proofs.ShownFindings.{few_from, first_at, first_within, has_beneath}
use Rattle.lfs_tree.proofs.RenamePaths.{shows_found}
use Rattle.lfs_tree.proofs.rename_paths.node_and_emptiness.Goals as goal

pub has_entries-requires-clause-below : goal.has_entries-requires-clause-below
has_entries-requires-clause-below g c =
    let t = c.args.thread.now.kept in
    let held = c.requires.rests.held in
    let shows = shows_found t c.args._path.now c.args.found c.to_visible_lookup-shown.result held.sound.accepted c.requires.rests.settled c.requires.leads c.to_visible_lookup-shown.ensures in
    first_within t c.args._path.now held.sound.accepted t.pairs c.found_directory_index.result refl (first_at t c.args._path.now held.sound.accepted c.args.root c.to_visible_lookup-shown.result c.found_directory_index.result held.root_is shows c.found_directory_index.ensures)

pub returns-in_err-has_entries-clause-few : goal.returns-in_err-has_entries-clause-few
returns-in_err-has_entries-clause-few g c =
    let t = c.args.thread.now.kept in
    let held = c.requires.rests.held in
    let shows = shows_found t c.args._path.now c.args.found c.to_visible_lookup-shown.result held.sound.accepted c.requires.rests.settled c.requires.leads c.to_visible_lookup-shown.ensures in
    let n = c.has_entries.ensures.few in
    let k = few_from t c.args._path.now held.sound.accepted t.pairs c.found_directory_index.result refl (first_at t c.args._path.now held.sound.accepted c.args.root c.to_visible_lookup-shown.result c.found_directory_index.result held.root_is shows c.found_directory_index.ensures) in
    omega (arith, n, k)

pub returns-in_err-has_entries-clause-reading : goal.returns-in_err-has_entries-clause-reading
returns-in_err-has_entries-clause-reading g c =
    let p = err_from_is_err_and c.from_residual.result c.from_residual.ensures.1 in
    passed _ _ c.has_entries.result c.from_residual.result _ p.0 c.in_err-has_entries.was p.1 p.2 c.has_entries.ensures.reading

pub node_of_lookup-requires : goal.node_of_lookup-requires
node_of_lookup-requires g c =
    let t = c.args.thread.now.kept in
    in_entry t c.args._path.now c.to_visible_lookup-shown.result (shows_found t c.args._path.now c.args.found c.to_visible_lookup-shown.result c.requires.rests.held.sound.accepted c.requires.rests.settled c.requires.leads c.to_visible_lookup-shown.ensures)

pub returns-clause-found : goal.returns-clause-found
returns-clause-found g c =
    let t = c.args.thread.now.kept in
    let held = c.requires.rests.held in
    let device = c.device-device.result.now in
    found_shown t c.args._path.now held.sound.accepted c.args.root c.to_visible_lookup-shown.result c.node_of_lookup.result held.root_is
    (sized_on g.D.BlockDevice device t.disk (g.D.BlockDevice.geometry device).block_count (c.device-device.ensures.disk ∙ c.has_entries.ensures.reading.only.disk)
    (g.D.BlockDevice.geometry device).valid.no_smaller (g.met.D.BlockDevice.shape device))
    (shows_found t c.args._path.now c.args.found c.to_visible_lookup-shown.result held.sound.accepted c.requires.rests.settled c.requires.leads c.to_visible_lookup-shown.ensures) c.node_of_lookup.ensures

pub returns-clause-has : goal.returns-clause-has
returns-clause-has g c =
    let t = c.args.thread.now.kept in
    let held = c.requires.rests.held in
    let shows = shows_found t c.args._path.now c.args.found c.to_visible_lookup-shown.result held.sound.accepted c.requires.rests.settled c.requires.leads c.to_visible_lookup-shown.ensures in
    has_beneath t c.args._path.now held.sound.accepted t.pairs c.found_directory_index.result c.in_ok-has_entries.has_entries refl (first_at t c.args._path.now held.sound.accepted c.args.root c.to_visible_lookup-shown.result c.found_directory_index.result held.root_is shows c.found_directory_index.ensures)
    c.in_ok-has_entries.ensures.has

pub returns-clause-few : goal.returns-clause-few
returns-clause-few g c =
    let t = c.args.thread.now.kept in
    let held = c.requires.rests.held in
    let shows = shows_found t c.args._path.now c.args.found c.to_visible_lookup-shown.result held.sound.accepted c.requires.rests.settled c.requires.leads c.to_visible_lookup-shown.ensures in
    let n = c.has_entries.ensures.few in
    let k = few_from t c.args._path.now held.sound.accepted t.pairs c.found_directory_index.result refl (first_at t c.args._path.now held.sound.accepted c.args.root c.to_visible_lookup-shown.result c.found_directory_index.result held.root_is shows c.found_directory_index.ensures) in
    omega (arith, n, k)

pub returns-clause-reading : goal.returns-clause-reading
returns-clause-reading g c = answers _ _ _ _ refl (answered _ _ c.has_entries.result c.in_ok-has_entries.has_entries c.in_ok-has_entries.was c.has_entries.ensures.reading)
