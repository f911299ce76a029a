use Rattle.std.proofs.Common.{arith, refl, subst, ◌≡◌, ◌∙◌}
use Rattle.lfs_tree.proofs.Common.{sum_by-append, err_from_is_err_and, directory_pair_count, ancestor_paths, node_attributes_of, Tree, IsAttributesSize, IsFoundNode, has_entry_beneath, sized_on, only_read, answered, answers, both, further, passed, found_shown, in_entry}
use Rattle.lfs_tree.proofs.RenamePaths.{few_since, leads_since, own_since, same_tree, shows_found, sum_of_rename}
use Rattle.lfs_tree.proofs.Shifted.{rests_still}
use Rattle.lfs_tree.proofs.rename_paths.rename_lookup_recovered.Goals as goal

pub attributes_size_at-requires : goal.attributes_size_at-requires
attributes_size_at-requires g c =
    let held = (rests_still c.args.thread.now c.find_rename_targets.new.thread c.args.root c.requires c.find_rename_targets.ensures.reading.only c.find_rename_targets.ensures.reading.works).held in
    record { works = held.works; accepted = held.sound.accepted; root = held.root_is }

pub node_and_emptiness-requires-clause-rests : goal.node_and_emptiness-requires-clause-rests
node_and_emptiness-requires-clause-rests g c =
    rests_still c.find_rename_targets.new.thread c.attributes_size_at.new.thread c.args.root (rests_still c.args.thread.now c.find_rename_targets.new.thread c.args.root c.requires c.find_rename_targets.ensures.reading.only c.find_rename_targets.ensures.reading.works)
    c.attributes_size_at.ensures.reading.only c.attributes_size_at.ensures.reading.works

pub node_and_emptiness-requires-clause-leads : goal.node_and_emptiness-requires-clause-leads
node_and_emptiness-requires-clause-leads g c =
    let t = c.args.thread.now.kept in
    let one = c.find_rename_targets.new.thread.kept in
    let two = c.attributes_size_at.new.thread.kept in
    leads_since t two c.args.to.now c.in_ok-targets.targets.target (only_read t one two c.find_rename_targets.ensures.reading.only c.attributes_size_at.ensures.reading.only) c.in_ok-targets.ensures.targets.target

pub returns-in_err-targets-clause-few : goal.returns-in_err-targets-clause-few
returns-in_err-targets-clause-few g c =
    let count = directory_pair_count c.args.thread.now.kept.pairs in
    let one = c.find_rename_targets.ensures.few in
    let s = sum_by-append count (ancestor_paths c.args.from.now) (ancestor_paths c.args.to.now) in
    let k = sum_of_rename count c.args.from.now c.args.to.now in
    omega (arith, one, s, k)

pub returns-in_err-attributes_size-clause-few : goal.returns-in_err-attributes_size-clause-few
returns-in_err-attributes_size-clause-few g c =
    let t = c.args.thread.now.kept in
    let count = directory_pair_count t.pairs in
    let one = c.find_rename_targets.ensures.few in
    let two = few_since t c.find_rename_targets.new.thread.kept (ancestor_paths c.args.from.now) _ c.find_rename_targets.ensures.reading.only c.attributes_size_at.ensures.reads.few in
    let s = sum_by-append count (ancestor_paths c.args.from.now) (ancestor_paths c.args.to.now) in
    let k = sum_of_rename count c.args.from.now c.args.to.now in
    omega (arith, one, two, s, k)

pub returns-in_err-target-clause-few : goal.returns-in_err-target-clause-few
returns-in_err-target-clause-few g c =
    let t = c.args.thread.now.kept in
    let count = directory_pair_count t.pairs in
    let one = c.find_rename_targets.ensures.few in
    let two = few_since t c.find_rename_targets.new.thread.kept (ancestor_paths c.args.from.now) _ c.find_rename_targets.ensures.reading.only c.attributes_size_at.ensures.reads.few in
    let three = own_since t c.attributes_size_at.new.thread.kept c.args.to.now _ (only_read t c.find_rename_targets.new.thread.kept c.attributes_size_at.new.thread.kept c.find_rename_targets.ensures.reading.only c.attributes_size_at.ensures.reading.only) c.node_and_emptiness.ensures.few in
    let s = sum_by-append count (ancestor_paths c.args.from.now) (ancestor_paths c.args.to.now) in
    let k = sum_of_rename count c.args.from.now c.args.to.now in
    omega (arith, one, two, three, s, k)

pub returns-in_err-attributes_size-clause-reading : goal.returns-in_err-attributes_size-clause-reading
returns-in_err-attributes_size-clause-reading g c =
    let p = err_from_is_err_and c.from_residual-in_err-attributes_size.result c.from_residual-in_err-attributes_size.ensures.1 in
    passed _ _ c.attributes_size_at.result c.from_residual-in_err-attributes_size.result _ p.0 c.in_err-attributes_size.was p.1 p.2
    (further _ _ _ c.attributes_size_at.result (answered _ _ c.find_rename_targets.result c.in_ok-targets.targets c.in_ok-targets.was c.find_rename_targets.ensures.reading) c.attributes_size_at.ensures.reading)

pub returns-in_err-target-clause-reading : goal.returns-in_err-target-clause-reading
returns-in_err-target-clause-reading g c =
    let p = err_from_is_err_and c.from_residual-in_err-target.result c.from_residual-in_err-target.ensures.1 in
    passed _ _ c.node_and_emptiness.result c.from_residual-in_err-target.result _ p.0 c.in_err-target.was p.1 p.2
    (further _ _ _ c.node_and_emptiness.result
    (both _ _ _ (answered _ _ c.find_rename_targets.result c.in_ok-targets.targets c.in_ok-targets.was c.find_rename_targets.ensures.reading)
    (answered _ _ c.attributes_size_at.result c.in_ok-attributes_size.attributes_size c.in_ok-attributes_size.was c.attributes_size_at.ensures.reading))
    c.node_and_emptiness.ensures.reading)

pub node_of_lookup-requires : goal.node_of_lookup-requires
node_of_lookup-requires g c =
    let t = c.args.thread.now.kept in
    in_entry t c.args.from.now c.to_visible_lookup.result (shows_found t c.args.from.now c.in_ok-targets.targets.entry c.to_visible_lookup.result c.requires.held.sound.accepted c.requires.settled c.in_ok-targets.ensures.targets.entry c.to_visible_lookup.ensures)

pub returns-clause-found : goal.returns-clause-found
returns-clause-found g c =
    let t = c.args.thread.now.kept in
    let one = c.find_rename_targets.new.thread.kept in
    let two = c.attributes_size_at.new.thread.kept in
    let three = c.node_and_emptiness.new.thread.kept in
    let device = c.device-device.result.now in
    let first = c.find_rename_targets.ensures.reading.only in
    let second = only_read t one two first c.attributes_size_at.ensures.reading.only in
    let third = only_read t two three second c.node_and_emptiness.ensures.reading.only in
    record {
      entry = found_shown t c.args.from.now c.requires.held.sound.accepted c.args.root c.to_visible_lookup.result c.node_of_lookup.result c.requires.held.root_is
          (sized_on g.D.BlockDevice device t.disk (g.D.BlockDevice.geometry device).block_count (c.device-device.ensures.disk ∙ third.disk) (g.D.BlockDevice.geometry device).valid.no_smaller (g.met.D.BlockDevice.shape device))
          (shows_found t c.args.from.now c.in_ok-targets.targets.entry c.to_visible_lookup.result c.requires.held.sound.accepted c.requires.settled c.in_ok-targets.ensures.targets.entry c.to_visible_lookup.ensures) c.node_of_lookup.ensures;
      target = subst (λ (z : Tree). IsFoundNode z c.args.to.now c.in_ok-target.target.finding) (same_tree t two second) c.in_ok-target.ensures.found;
      has = subst (λ (z : Tree). c.in_ok-target.target.has_entries ≡ has_entry_beneath z c.args.to.now) (same_tree t two second) c.in_ok-target.ensures.has;
      size = subst (λ (z : Tree). IsAttributesSize (node_attributes_of (z c.args.from.now)) c.in_ok-attributes_size.attributes_size) (same_tree t one first) c.in_ok-attributes_size.ensures.is;
    }

pub returns-clause-few : goal.returns-clause-few
returns-clause-few g c =
    let t = c.args.thread.now.kept in
    let count = directory_pair_count t.pairs in
    let one = c.find_rename_targets.ensures.few in
    let two = few_since t c.find_rename_targets.new.thread.kept (ancestor_paths c.args.from.now) _ c.find_rename_targets.ensures.reading.only c.attributes_size_at.ensures.reads.few in
    let three = own_since t c.attributes_size_at.new.thread.kept c.args.to.now _ (only_read t c.find_rename_targets.new.thread.kept c.attributes_size_at.new.thread.kept c.find_rename_targets.ensures.reading.only c.attributes_size_at.ensures.reading.only) c.node_and_emptiness.ensures.few in
    let s = sum_by-append count (ancestor_paths c.args.from.now) (ancestor_paths c.args.to.now) in
    let k = sum_of_rename count c.args.from.now c.args.to.now in
    omega (arith, one, two, three, s, k)

pub returns-clause-reading : goal.returns-clause-reading
returns-clause-reading g c =
    answers _ _ _ _ refl
    (both _ _ _ (both _ _ _ (answered _ _ c.find_rename_targets.result c.in_ok-targets.targets c.in_ok-targets.was c.find_rename_targets.ensures.reading)
    (answered _ _ c.attributes_size_at.result c.in_ok-attributes_size.attributes_size c.in_ok-attributes_size.was c.attributes_size_at.ensures.reading))
    (answered _ _ c.node_and_emptiness.result c.in_ok-target.target c.in_ok-target.was c.node_and_emptiness.ensures.reading))
