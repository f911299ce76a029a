use Rattle.std.proofs.Common.{◌++◌, ◌∷◌, [], arith, refl, subst, true, ◌≡◌}
use Rattle.lfs_tree.proofs.Common.{sum_by-append, sum_by-cons, err_from_is_err_and, directory_pair_count, ancestor_paths, node_attributes_of, Tree, IsAttributesSize, IsFoundNode, has_entry_beneath, only_read, answered, answers, both, further, passed}
use Rattle.lfs_tree.proofs.Asking.{rooted}
use Rattle.lfs_tree.proofs.RenamePaths.{few_since, same_tree, sum_of_rename}
use Rattle.lfs_tree.proofs.rename_paths.rename_lookup_unrecovered.Goals as goal

pub path_has_entries-requires : goal.path_has_entries-requires
path_has_entries-requires g c =
    let held = rooted c.args.thread.now c.find_node.new.thread c.args.root true c.requires c.find_node.result c.find_node.ensures.reading in
    record { works = held.works; accepted = held.sound.accepted; root = held.root_is }

pub attributes_size_at-requires : goal.attributes_size_at-requires
attributes_size_at-requires g c =
    let held = rooted c.find_node.new.thread c.path_has_entries.new.thread c.args.root true (rooted c.args.thread.now c.find_node.new.thread c.args.root true c.requires c.find_node.result c.find_node.ensures.reading) c.path_has_entries.result c.path_has_entries.ensures.reading in
    record { works = held.works; accepted = held.sound.accepted; root = held.root_is }

pub returns-in_err-entry-clause-few : goal.returns-in_err-entry-clause-few
returns-in_err-entry-clause-few g c =
    let one = c.find_node.ensures.reads.few in
    let k = sum_of_rename (directory_pair_count c.args.thread.now.kept.pairs) c.args.from.now c.args.to.now in
    omega (arith, one, k)

pub returns-in_err-target-clause-few : goal.returns-in_err-target-clause-few
returns-in_err-target-clause-few g c =
    let t = c.args.thread.now.kept in
    let count = directory_pair_count t.pairs in
    let one = c.find_node.ensures.reads.few in
    let two = few_since t c.find_node.new.thread.kept (ancestor_paths c.args.to.now ++ c.args.to.now ∷ []) _ c.find_node.ensures.reading.only c.path_has_entries.ensures.few in
    let s = sum_by-append count (ancestor_paths c.args.to.now) (c.args.to.now ∷ []) in
    let own = sum_by-cons count c.args.to.now [] in
    let k = sum_of_rename count c.args.from.now c.args.to.now in
    omega (arith, one, two, s, own, k)

pub returns-in_err-attributes_size-clause-few : goal.returns-in_err-attributes_size-clause-few
returns-in_err-attributes_size-clause-few g c =
    let t = c.args.thread.now.kept in
    let count = directory_pair_count t.pairs in
    let one = c.find_node.ensures.reads.few in
    let two = few_since t c.find_node.new.thread.kept (ancestor_paths c.args.to.now ++ c.args.to.now ∷ []) _ c.find_node.ensures.reading.only c.path_has_entries.ensures.few in
    let three = few_since t c.path_has_entries.new.thread.kept (ancestor_paths c.args.from.now) _ (only_read t c.find_node.new.thread.kept c.path_has_entries.new.thread.kept c.find_node.ensures.reading.only c.path_has_entries.ensures.reading.only) c.attributes_size_at.ensures.reads.few in
    let s = sum_by-append count (ancestor_paths c.args.to.now) (c.args.to.now ∷ []) in
    let own = sum_by-cons count c.args.to.now [] in
    let k = sum_of_rename count c.args.from.now c.args.to.now in
    omega (arith, one, two, three, s, own, k)

pub returns-in_err-target-clause-reading : goal.returns-in_err-target-clause-reading
returns-in_err-target-clause-reading g c =
    let p = err_from_is_err_and c.from_residual-in_err-target.result c.from_residual-in_err-target.ensures.1 in
    passed _ _ c.path_has_entries.result c.from_residual-in_err-target.result _ p.0 c.in_err-target.was p.1 p.2
    (further _ _ _ c.path_has_entries.result (answered _ _ c.find_node.result c.in_ok-entry.entry c.in_ok-entry.was c.find_node.ensures.reading) c.path_has_entries.ensures.reading)

pub returns-in_err-attributes_size-clause-reading : goal.returns-in_err-attributes_size-clause-reading
returns-in_err-attributes_size-clause-reading g c =
    let p = err_from_is_err_and c.from_residual-in_err-attributes_size.result c.from_residual-in_err-attributes_size.ensures.1 in
    passed _ _ c.attributes_size_at.result c.from_residual-in_err-attributes_size.result _ p.0 c.in_err-attributes_size.was p.1 p.2
    (further _ _ _ c.attributes_size_at.result
    (both _ _ _ (answered _ _ c.find_node.result c.in_ok-entry.entry c.in_ok-entry.was c.find_node.ensures.reading) (answered _ _ c.path_has_entries.result c.in_ok-target.target c.in_ok-target.was c.path_has_entries.ensures.reading))
    c.attributes_size_at.ensures.reading)

pub returns-clause-found : goal.returns-clause-found
returns-clause-found g c =
    let t = c.args.thread.now.kept in
    let one = c.find_node.new.thread.kept in
    let two = c.path_has_entries.new.thread.kept in
    let first = c.find_node.ensures.reading.only in
    let second = only_read t one two first c.path_has_entries.ensures.reading.only in
    record {
      entry = c.in_ok-entry.ensures.found;
      target = subst (λ (z : Tree). IsFoundNode z c.args.to.now c.in_ok-target.target.finding) (same_tree t one first) c.in_ok-target.ensures.found;
      has = subst (λ (z : Tree). c.in_ok-target.target.has_entries ≡ has_entry_beneath z c.args.to.now) (same_tree t one first) c.in_ok-target.ensures.has;
      size = subst (λ (z : Tree). IsAttributesSize (node_attributes_of (z c.args.from.now)) c.in_ok-attributes_size.attributes_size) (same_tree t two second) c.in_ok-attributes_size.ensures.is;
    }

pub returns-clause-few : goal.returns-clause-few
returns-clause-few g c =
    let t = c.args.thread.now.kept in
    let count = directory_pair_count t.pairs in
    let one = c.find_node.ensures.reads.few in
    let two = few_since t c.find_node.new.thread.kept (ancestor_paths c.args.to.now ++ c.args.to.now ∷ []) _ c.find_node.ensures.reading.only c.path_has_entries.ensures.few in
    let three = few_since t c.path_has_entries.new.thread.kept (ancestor_paths c.args.from.now) _ (only_read t c.find_node.new.thread.kept c.path_has_entries.new.thread.kept c.find_node.ensures.reading.only c.path_has_entries.ensures.reading.only) c.attributes_size_at.ensures.reads.few in
    let s = sum_by-append count (ancestor_paths c.args.to.now) (c.args.to.now ∷ []) in
    let own = sum_by-cons count c.args.to.now [] in
    let k = sum_of_rename count c.args.from.now c.args.to.now in
    omega (arith, one, two, three, s, own, k)

pub returns-clause-reading : goal.returns-clause-reading
returns-clause-reading g c =
    answers _ _ _ _ refl
    (both _ _ _ (both _ _ _ (answered _ _ c.find_node.result c.in_ok-entry.entry c.in_ok-entry.was c.find_node.ensures.reading) (answered _ _ c.path_has_entries.result c.in_ok-target.target c.in_ok-target.was c.path_has_entries.ensures.reading))
    (answered _ _ c.attributes_size_at.result c.in_ok-attributes_size.attributes_size c.in_ok-attributes_size.was c.attributes_size_at.ensures.reading))
