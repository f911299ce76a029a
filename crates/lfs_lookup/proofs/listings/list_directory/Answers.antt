use Rattle.std.proofs.Common.{Err, ap, map, refl, ◌∙◌, arith}
use Rattle.lfs_lookup.proofs.Common.{err_from_is_err_and, directory_pair_count, listed_item_view, items_view}
use Rattle.lfs_lookup.proofs.AtPaths.{sized_on}
use Rattle.lfs_lookup.proofs.ListAtItems.{bytes_on}
use Rattle.lfs_lookup.proofs.Reading.{answered, answers, both, further, lacks_memory, passed}
use Rattle.lfs_lookup.proofs.LoadedDown.{first_on_hand, on_hand_above}
use Rattle.lfs_lookup.proofs.RecentBlocks.{on_ok}
use Rattle.lfs_lookup.proofs.ShownFindings.{few_from, few_own, first_at, first_within, found_shown, in_entry, listed_from, short_from}
use Rattle.lfs_lookup.proofs.listings.list_directory.Goals as goal

pub returns-in_err-shown-clause-few : goal.returns-in_err-shown-clause-few
returns-in_err-shown-clause-few g c =
    let f = c.look_up_path.ensures.reads.few in
    let s = few_own (directory_pair_count c.args.thread.now.kept.pairs) c.args.path.now in
    omega (arith, f, s)

pub items_if_directory-requires-clause-below : goal.items_if_directory-requires-clause-below
items_if_directory-requires-clause-below g c =
    let t = c.args.thread.now.kept in
    first_within t c.args.path.now c.requires.accepted c.look_up_path.new.thread.kept.pairs c.found_directory_index.result c.look_up_path.ensures.reading.only.pairs
    (first_at t c.args.path.now c.requires.accepted c.args.root c.in_ok-shown.shown c.found_directory_index.result c.requires.root c.in_ok-shown.ensures.shown c.found_directory_index.ensures)

pub returns-in_err-items-clause-reading : goal.returns-in_err-items-clause-reading
returns-in_err-items-clause-reading g c =
    let p = err_from_is_err_and c.from_residual-in_err-items.result c.from_residual-in_err-items.ensures.1 in
    passed _ _ c.items_if_directory.result c.from_residual-in_err-items.result _ p.0 c.in_err-items.was p.1 p.2
    (further _ _ _ c.items_if_directory.result (answered _ _ c.look_up_path.result c.in_ok-shown.shown c.in_ok-shown.was c.look_up_path.ensures.reading) c.items_if_directory.ensures.reading)

pub returns-in_err-items-clause-few : goal.returns-in_err-items-clause-few
returns-in_err-items-clause-few g c =
    let t = c.args.thread.now.kept in
    let f = c.look_up_path.ensures.reads.few in
    let n = c.items_if_directory.ensures.few in
    let k = few_from t c.args.path.now c.requires.accepted c.look_up_path.new.thread.kept.pairs c.found_directory_index.result c.look_up_path.ensures.reading.only.pairs
    (first_at t c.args.path.now c.requires.accepted c.args.root c.in_ok-shown.shown c.found_directory_index.result c.requires.root c.in_ok-shown.ensures.shown c.found_directory_index.ensures) in
    let s = few_own (directory_pair_count t.pairs) c.args.path.now in
    omega (arith, f, n, k, s)

pub to_list_items-requires : goal.to_list_items-requires
to_list_items-requires g c =
    let t = c.args.thread.now.kept in
    let device = c.device-device.result.now in
    short_from t c.args.path.now c.requires.accepted c.look_up_path.new.thread.kept.pairs c.found_directory_index.result (items_view c.in_ok-items.items.items) (items_view c.sort_shorter_first.new.items.items) c.look_up_path.ensures.reading.only.pairs
    (first_at t c.args.path.now c.requires.accepted c.args.root c.in_ok-shown.shown c.found_directory_index.result c.requires.root c.in_ok-shown.ensures.shown c.found_directory_index.ensures) c.in_ok-items.ensures.items c.sort_shorter_first.ensures
    (bytes_on g.D.BlockDevice device t.disk (c.device-device.ensures.disk ∙ c.items_if_directory.ensures.reading.only.disk ∙ c.look_up_path.ensures.reading.only.disk) (g.met.D.BlockDevice.bytes device))

pub returns-in_err-listed-clause-reading : goal.returns-in_err-listed-clause-reading
returns-in_err-listed-clause-reading g c =
    let p = err_from_is_err_and c.from_residual-in_err-listed.result c.from_residual-in_err-listed.ensures.1 in
    lacks_memory _ _ c.from_residual-in_err-listed.result (p.1 ∙ ap Err p.2)
    (both _ _ _ (answered _ _ c.look_up_path.result c.in_ok-shown.shown c.in_ok-shown.was c.look_up_path.ensures.reading) (answered _ _ c.items_if_directory.result c.in_ok-items.items c.in_ok-items.was c.items_if_directory.ensures.reading))

pub returns-in_err-listed-clause-few : goal.returns-in_err-listed-clause-few
returns-in_err-listed-clause-few g c =
    let t = c.args.thread.now.kept in
    let f = c.look_up_path.ensures.reads.few in
    let n = c.items_if_directory.ensures.few in
    let k = few_from t c.args.path.now c.requires.accepted c.look_up_path.new.thread.kept.pairs c.found_directory_index.result c.look_up_path.ensures.reading.only.pairs
    (first_at t c.args.path.now c.requires.accepted c.args.root c.in_ok-shown.shown c.found_directory_index.result c.requires.root c.in_ok-shown.ensures.shown c.found_directory_index.ensures) in
    let s = few_own (directory_pair_count t.pairs) c.args.path.now in
    omega (arith, f, n, k, s)

pub node_of_lookup-requires : goal.node_of_lookup-requires
node_of_lookup-requires g c = in_entry c.args.thread.now.kept c.args.path.now c.in_ok-shown.shown c.in_ok-shown.ensures.shown

pub returns-clause-found : goal.returns-clause-found
returns-clause-found g c =
    let t = c.args.thread.now.kept in
    let device = c.device-device.result.now in
    found_shown t c.args.path.now c.requires.accepted c.args.root c.in_ok-shown.shown c.node_of_lookup.result c.requires.root
    (sized_on g.D.BlockDevice device t.disk (g.D.BlockDevice.geometry device).block_count (c.device-device.ensures.disk ∙ c.items_if_directory.ensures.reading.only.disk ∙ c.look_up_path.ensures.reading.only.disk)
    (g.D.BlockDevice.geometry device).valid.no_smaller (g.met.D.BlockDevice.shape device))
    c.in_ok-shown.ensures.shown c.node_of_lookup.ensures

pub returns-clause-items : goal.returns-clause-items
returns-clause-items g c =
    let t = c.args.thread.now.kept in
    let device = c.device-device.result.now in
    listed_from t c.args.path.now c.requires.accepted c.look_up_path.new.thread.kept.pairs c.found_directory_index.result (items_view c.in_ok-items.items.items) (items_view c.sort_shorter_first.new.items.items) (map listed_item_view c.in_ok-listed.listed.items) c.look_up_path.ensures.reading.only.pairs
    (first_at t c.args.path.now c.requires.accepted c.args.root c.in_ok-shown.shown c.found_directory_index.result c.requires.root c.in_ok-shown.ensures.shown c.found_directory_index.ensures) c.in_ok-items.ensures.items c.sort_shorter_first.ensures
    (sized_on g.D.BlockDevice device t.disk (g.D.BlockDevice.geometry device).block_count (c.device-device.ensures.disk ∙ c.items_if_directory.ensures.reading.only.disk ∙ c.look_up_path.ensures.reading.only.disk)
    (g.D.BlockDevice.geometry device).valid.no_smaller (g.met.D.BlockDevice.shape device))
    c.in_ok-listed.ensures

pub returns-clause-few : goal.returns-clause-few
returns-clause-few g c =
    let t = c.args.thread.now.kept in
    let f = c.look_up_path.ensures.reads.few in
    let n = c.items_if_directory.ensures.few in
    let k = few_from t c.args.path.now c.requires.accepted c.look_up_path.new.thread.kept.pairs c.found_directory_index.result c.look_up_path.ensures.reading.only.pairs
    (first_at t c.args.path.now c.requires.accepted c.args.root c.in_ok-shown.shown c.found_directory_index.result c.requires.root c.in_ok-shown.ensures.shown c.found_directory_index.ensures) in
    let s = few_own (directory_pair_count t.pairs) c.args.path.now in
    omega (arith, f, n, k, s)

pub returns-clause-reading : goal.returns-clause-reading
returns-clause-reading g c =
    answers _ _ _ _ refl (both _ _ _ (answered _ _ c.look_up_path.result c.in_ok-shown.shown c.in_ok-shown.was c.look_up_path.ensures.reading)
    (answered _ _ c.items_if_directory.result c.in_ok-items.items c.in_ok-items.was c.items_if_directory.ensures.reading))

pub returns-in_err-shown-clause-kept : goal.returns-in_err-shown-clause-kept
returns-in_err-shown-clause-kept g c = λ there. c.look_up_path.ensures.reads.loads.none (on_hand_above c.args.thread.now c.args.path.now there)

pub returns-in_err-items-clause-kept : goal.returns-in_err-items-clause-kept
returns-in_err-items-clause-kept g c = λ there.
    let t = c.args.thread.now.kept in
    let only = c.look_up_path.ensures.reading.only in
    let stay = on_ok c.look_up_path.result c.in_ok-shown.shown _ c.in_ok-shown.was (c.look_up_path.ensures.reads.loads.stay (on_hand_above c.args.thread.now c.args.path.now there)) in
    let at = first_at t c.args.path.now c.requires.accepted c.args.root c.in_ok-shown.shown c.found_directory_index.result c.requires.root c.in_ok-shown.ensures.shown c.found_directory_index.ensures in
    c.items_if_directory.ensures.kept (first_on_hand c.args.thread.now c.look_up_path.new.thread c.args.path.now c.requires.accepted only c.found_directory_index.result at stay there)
    ∙ c.look_up_path.ensures.reads.loads.none (on_hand_above c.args.thread.now c.args.path.now there)

pub returns-in_err-listed-clause-kept : goal.returns-in_err-listed-clause-kept
returns-in_err-listed-clause-kept g c = λ there.
    let t = c.args.thread.now.kept in
    let only = c.look_up_path.ensures.reading.only in
    let stay = on_ok c.look_up_path.result c.in_ok-shown.shown _ c.in_ok-shown.was (c.look_up_path.ensures.reads.loads.stay (on_hand_above c.args.thread.now c.args.path.now there)) in
    let at = first_at t c.args.path.now c.requires.accepted c.args.root c.in_ok-shown.shown c.found_directory_index.result c.requires.root c.in_ok-shown.ensures.shown c.found_directory_index.ensures in
    c.items_if_directory.ensures.kept (first_on_hand c.args.thread.now c.look_up_path.new.thread c.args.path.now c.requires.accepted only c.found_directory_index.result at stay there)
    ∙ c.look_up_path.ensures.reads.loads.none (on_hand_above c.args.thread.now c.args.path.now there)

pub returns-clause-kept : goal.returns-clause-kept
returns-clause-kept g c = λ there.
    let t = c.args.thread.now.kept in
    let only = c.look_up_path.ensures.reading.only in
    let stay = on_ok c.look_up_path.result c.in_ok-shown.shown _ c.in_ok-shown.was (c.look_up_path.ensures.reads.loads.stay (on_hand_above c.args.thread.now c.args.path.now there)) in
    let at = first_at t c.args.path.now c.requires.accepted c.args.root c.in_ok-shown.shown c.found_directory_index.result c.requires.root c.in_ok-shown.ensures.shown c.found_directory_index.ensures in
    c.items_if_directory.ensures.kept (first_on_hand c.args.thread.now c.look_up_path.new.thread c.args.path.now c.requires.accepted only c.found_directory_index.result at stay there)
    ∙ c.look_up_path.ensures.reads.loads.none (on_hand_above c.args.thread.now c.args.path.now there)
