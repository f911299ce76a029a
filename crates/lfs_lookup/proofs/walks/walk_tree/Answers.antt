use Rattle.std.proofs.Common.{◌<◌, ◌++◌, ◌∷◌, [], ◌-◌, ◌∙◌, Err, List, ap, length, sym, subst, take}
use Rattle.lfs_lookup.proofs.Common.{map-append, err_from_is_err_and, Pair, all_entries, owned_view, PushesEntriesBelow, AreEntriesPushed, HasFirstPairIfDirectory, PathStruct, tree_items_view}
use Rattle.lfs_lookup.specs.TreeWalk.{tree_item_view}
use Rattle.lfs_lookup.specs.declared.walks.TreeItem.{TreeItem}
use Rattle.lfs_lookup.proofs.Reading.{answered, both, further, has_read_nothing, lacks_memory, passed}
use Rattle.lfs_lookup.proofs.Roots.{root_shapes}
use Rattle.lfs_lookup.proofs.Sizes.{less_left, load_list_into_memory}
use Rattle.lfs_lookup.proofs.Visits.{IsUnderWay, begun, ended, moved_on, next_begins, took}
use Rattle.lfs_lookup.proofs.walks.walk_tree.Goals as goal

pub returns-in_err-addresses-clause-reading : goal.returns-in_err-addresses-clause-reading
returns-in_err-addresses-clause-reading g c =
    let p = err_from_is_err_and c.from_residual.result c.from_residual.ensures.1 in
    lacks_memory _ _ c.from_residual.result (p.1 ∙ ap Err (p.2 ∙ c.in_err-addresses.ensures.errors)) (has_read_nothing _ c.requires.works)

pub loop-found-init : goal.loop-found-init
loop-found-init g c = record {
  read = answered _ _ c.push_directory_items.result c.in_ok-push_directory_items.field-0 c.in_ok-push_directory_items.was c.push_directory_items.ensures.reading;
  under_way = subst (λ (done : List PathStruct). IsUnderWay c.args.thread.now.kept.disk c.args.thread.now.kept.pairs done (tree_items_view c.push_directory_items.new.pending.items)) (sym (ap tree_items_view c.new-walked.ensures.items))
      (begun c.args.thread.now.kept.disk c.args.thread.now.kept.pairs 0 (tree_items_view c.push_directory_items.new.pending.items) c.requires.accepted
      (root_shapes c.args.thread.now.kept.disk c.args.thread.now.kept.pairs c.requires.accepted)
      (subst (λ (items : List TreeItem). AreEntriesPushed c.args.thread.now.kept.pairs [] 0 (tree_items_view items) (tree_items_view c.push_directory_items.new.pending.items)) c.new-pending.ensures.items c.in_ok-push_directory_items.ensures.pushed));
}

pub push_below_entry-requires-clause-begins : goal.push_below_entry-requires-clause-begins
push_below_entry-requires-clause-begins g c =
    let inv = c.loop-found.invariant in
    let next = took c.args.thread.now.kept.disk c.args.thread.now.kept.pairs (tree_items_view c.loop-found.walked.items) (tree_items_view c.loop-found.pending.items) (tree_items_view c.pop.new.self.items) (tree_item_view c.in-Some.found)
    (ap tree_items_view c.in-Some.ensures.items ∙ map-append tree_item_view c.pop.new.self.items (c.in-Some.found ∷ [])) inv.under_way in
    subst (λ (ps : List Pair). HasFirstPairIfDirectory ps (owned_view c.in-Some.found.structure)) (sym inv.read.only.pairs)
    (next_begins c.args.thread.now.kept.disk c.args.thread.now.kept.pairs (tree_items_view c.loop-found.walked.items) (tree_items_view c.pop.new.self.items) (tree_item_view c.in-Some.found) c.requires.accepted next)

pub returns-in_err-push_below_entry-clause-reading : goal.returns-in_err-push_below_entry-clause-reading
returns-in_err-push_below_entry-clause-reading g c =
    let p = err_from_is_err_and c.from_residual-in_err-push_below_entry.result c.from_residual-in_err-push_below_entry.ensures.1 in
    passed _ _ c.push_below_entry.result c.from_residual-in_err-push_below_entry.result _ p.0 c.in_err-push_below_entry.was p.1 p.2 (further _ _ _ c.push_below_entry.result c.loop-found.invariant.read c.push_below_entry.ensures.reading)

pub loop-found-smaller : goal.loop-found-smaller
loop-found-smaller g c =
    let inv = c.loop-found.invariant in
    let are = ap tree_items_view c.in-Some.ensures.items ∙ map-append tree_item_view c.pop.new.self.items (c.in-Some.found ∷ []) in
    let next = took c.args.thread.now.kept.disk c.args.thread.now.kept.pairs (tree_items_view c.loop-found.walked.items) (tree_items_view c.loop-found.pending.items) (tree_items_view c.pop.new.self.items) (tree_item_view c.in-Some.found) are inv.under_way in
    let pushed = subst (λ (ps : List Pair). PushesEntriesBelow ps (tree_item_view c.in-Some.found) (tree_items_view c.pop.new.self.items) (tree_items_view c.push_below_entry.new.pending.items)) inv.read.only.pairs c.in_ok-push_below_entry.ensures.pushed in
    subst (λ (places : List PathStruct). load_list_into_memory (length c.args.thread.now.kept.pairs) (all_entries c.args.thread.now.kept.pairs) (tree_items_view c.push_below_entry.new.pending.items) < load_list_into_memory (length c.args.thread.now.kept.pairs) (all_entries c.args.thread.now.kept.pairs) places) (sym are)
    (less_left c.args.thread.now.kept.disk c.args.thread.now.kept.pairs (tree_items_view c.loop-found.walked.items) (tree_items_view c.pop.new.self.items) (tree_items_view c.push_below_entry.new.pending.items) (tree_item_view c.in-Some.found) c.requires.accepted next pushed)

pub loop-found-preserved : goal.loop-found-preserved
loop-found-preserved g c =
    let inv = c.loop-found.invariant in
    let are = ap tree_items_view c.in-Some.ensures.items ∙ map-append tree_item_view c.pop.new.self.items (c.in-Some.found ∷ []) in
    let next = took c.args.thread.now.kept.disk c.args.thread.now.kept.pairs (tree_items_view c.loop-found.walked.items) (tree_items_view c.loop-found.pending.items) (tree_items_view c.pop.new.self.items) (tree_item_view c.in-Some.found) are inv.under_way in
    let pushed = subst (λ (ps : List Pair). PushesEntriesBelow ps (tree_item_view c.in-Some.found) (tree_items_view c.pop.new.self.items) (tree_items_view c.push_below_entry.new.pending.items)) inv.read.only.pairs c.in_ok-push_below_entry.ensures.pushed in
    record {
      read = both _ _ _ inv.read (answered _ _ c.push_below_entry.result c.in_ok-push_below_entry.field-0 c.in_ok-push_below_entry.was c.push_below_entry.ensures.reading);
      under_way = subst (λ (done : List PathStruct). IsUnderWay c.args.thread.now.kept.disk c.args.thread.now.kept.pairs done (tree_items_view c.push_below_entry.new.pending.items))
          (sym (ap tree_items_view c.in_ok-push.ensures.items ∙ map-append tree_item_view c.loop-found.walked.items (c.in-Some.found ∷ [])))
          (moved_on c.args.thread.now.kept.disk c.args.thread.now.kept.pairs (tree_items_view c.loop-found.walked.items) (tree_items_view c.pop.new.self.items) (tree_items_view c.push_below_entry.new.pending.items) (tree_item_view c.in-Some.found) c.requires.accepted next pushed);
    }

pub returns-in_err-push-clause-reading : goal.returns-in_err-push-clause-reading
returns-in_err-push-clause-reading g c =
    let p = err_from_is_err_and c.from_residual-in_err-push.result c.from_residual-in_err-push.ensures.1 in
    let read = both _ _ _ c.loop-found.invariant.read (answered _ _ c.push_below_entry.result c.in_ok-push_below_entry.field-0 c.in_ok-push_below_entry.was c.push_below_entry.ensures.reading) in
    lacks_memory _ _ c.from_residual-in_err-push.result (p.1 ∙ ap Err p.2) read

pub returns-clause-walked : goal.returns-clause-walked
returns-clause-walked g c =
    ended c.args.thread.now.kept.disk c.args.thread.now.kept.pairs (tree_items_view c.loop-found.walked.items) (tree_items_view c.loop-found.pending.items)
    (ap tree_items_view (c.in_default.ensures.items ∙ ap (λ items. items ++ []) (c.in_default.ensures.rest ∙ ap (λ n. take (n - 1) c.loop-found.pending.items) c.in_default.ensures.cases.0)))
    c.loop-found.invariant.under_way
