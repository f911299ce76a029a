use Rattle.std.proofs.Common.{◌∙◌, arith, refl}
use Rattle.lfs_lookup.proofs.Common.{err_from_is_err_and, directory_pair_count}
use Rattle.lfs_lookup.proofs.AtPaths.{sized_on}
use Rattle.lfs_lookup.proofs.Reading.{answered, answers, both, further, passed}
use Rattle.lfs_lookup.proofs.ShownFindings.{few_from, few_own, first_at, first_within, found_shown, has_beneath, in_entry}
use Rattle.lfs_lookup.proofs.by_path.path_has_entries.Goals as goal

pub has_entries-requires-clause-below : goal.has_entries-requires-clause-below
has_entries-requires-clause-below g c =
    let t = c.args.thread.now.kept in
    first_within t c.args.path.now c.requires.accepted c.look_up_path.new.thread.kept.pairs c.found_directory_index.result c.look_up_path.ensures.reading.only.pairs
    (first_at t c.args.path.now c.requires.accepted c.args.root c.in_ok-shown.shown c.found_directory_index.result c.requires.root c.in_ok-shown.ensures.shown c.found_directory_index.ensures)

pub returns-in_err-has_entries-clause-reading : goal.returns-in_err-has_entries-clause-reading
returns-in_err-has_entries-clause-reading g c =
    let p = err_from_is_err_and c.from_residual-in_err-has_entries.result c.from_residual-in_err-has_entries.ensures.1 in
    passed _ _ c.has_entries.result c.from_residual-in_err-has_entries.result _ p.0 c.in_err-has_entries.was p.1 p.2
    (further _ _ _ c.has_entries.result (answered _ _ c.look_up_path.result c.in_ok-shown.shown c.in_ok-shown.was c.look_up_path.ensures.reading) c.has_entries.ensures.reading)

pub node_of_lookup-requires : goal.node_of_lookup-requires
node_of_lookup-requires g c = in_entry c.args.thread.now.kept c.args.path.now c.in_ok-shown.shown c.in_ok-shown.ensures.shown

pub returns-clause-found : goal.returns-clause-found
returns-clause-found g c =
    let t = c.args.thread.now.kept in
    let device = c.device-device.result.now in
    found_shown t c.args.path.now c.requires.accepted c.args.root c.in_ok-shown.shown c.node_of_lookup.result c.requires.root
    (sized_on g.D.BlockDevice device t.disk (g.D.BlockDevice.geometry device).block_count (c.device-device.ensures.disk ∙ c.has_entries.ensures.reading.only.disk ∙ c.look_up_path.ensures.reading.only.disk)
    (g.D.BlockDevice.geometry device).valid.no_smaller (g.met.D.BlockDevice.shape device))
    c.in_ok-shown.ensures.shown c.node_of_lookup.ensures

pub returns-clause-has : goal.returns-clause-has
returns-clause-has g c =
    let t = c.args.thread.now.kept in
    has_beneath t c.args.path.now c.requires.accepted c.look_up_path.new.thread.kept.pairs c.found_directory_index.result c.in_ok-has_entries.has_entries c.look_up_path.ensures.reading.only.pairs
    (first_at t c.args.path.now c.requires.accepted c.args.root c.in_ok-shown.shown c.found_directory_index.result c.requires.root c.in_ok-shown.ensures.shown c.found_directory_index.ensures)
    c.in_ok-has_entries.ensures.has

pub returns-clause-reading : goal.returns-clause-reading
returns-clause-reading g c =
    answers _ _ _ _ refl (both _ _ _ (answered _ _ c.look_up_path.result c.in_ok-shown.shown c.in_ok-shown.was c.look_up_path.ensures.reading)
    (answered _ _ c.has_entries.result c.in_ok-has_entries.has_entries c.in_ok-has_entries.was c.has_entries.ensures.reading))

pub returns-in_err-shown-clause-few : goal.returns-in_err-shown-clause-few
returns-in_err-shown-clause-few g c =
    let f = c.look_up_path.ensures.reads.few in
    let s = few_own (directory_pair_count c.args.thread.now.kept.pairs) c.args.path.now in
    omega (arith, f, s)

pub returns-in_err-has_entries-clause-few : goal.returns-in_err-has_entries-clause-few
returns-in_err-has_entries-clause-few g c =
    let t = c.args.thread.now.kept in
    let f = c.look_up_path.ensures.reads.few in
    let n = c.has_entries.ensures.few in
    let k = few_from t c.args.path.now c.requires.accepted c.look_up_path.new.thread.kept.pairs c.found_directory_index.result c.look_up_path.ensures.reading.only.pairs
    (first_at t c.args.path.now c.requires.accepted c.args.root c.in_ok-shown.shown c.found_directory_index.result c.requires.root c.in_ok-shown.ensures.shown c.found_directory_index.ensures) in
    let s = few_own (directory_pair_count t.pairs) c.args.path.now in
    omega (arith, f, n, k, s)

pub returns-clause-few : goal.returns-clause-few
returns-clause-few g c =
    let t = c.args.thread.now.kept in
    let f = c.look_up_path.ensures.reads.few in
    let n = c.has_entries.ensures.few in
    let k = few_from t c.args.path.now c.requires.accepted c.look_up_path.new.thread.kept.pairs c.found_directory_index.result c.look_up_path.ensures.reading.only.pairs
    (first_at t c.args.path.now c.requires.accepted c.args.root c.in_ok-shown.shown c.found_directory_index.result c.requires.root c.in_ok-shown.ensures.shown c.found_directory_index.ensures) in
    let s = few_own (directory_pair_count t.pairs) c.args.path.now in
    omega (arith, f, n, k, s)
