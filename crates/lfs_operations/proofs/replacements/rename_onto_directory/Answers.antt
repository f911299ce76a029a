use Rattle.lfs_operations.proofs.Common.{ap, sym, subst, ◌∙◌, ◌-◌, Err, on_ok_weaker, err_from_is_err_and, Gstate, disk_tree, CleanLossLeaves, thread_pair, CanDropAt, IsPairDropped, LeftByDrop, tree_with_entry_renamed, ReportsReadCommits, replace_directory_changes}
use Rattle.lfs_operations.proofs.Putting.{survives_more}
use Rattle.lfs_operations.proofs.AlteredOnto.{altered_within}
use Rattle.lfs_operations.proofs.OntoReporting.{over_from, over_then}
use Rattle.lfs_operations.proofs.OntoWithin.{left_within, renamed_onto_directory, replacing}
use Rattle.lfs_operations.proofs.UnlinkedSteps.{writes_first, writes_two}
use Rattle.lfs_operations.proofs.replacements.rename_onto_directory.Goals as goal
use Rattle.lfs_operations.proofs.LastDrop.{can_drop_last}

pub returns-in_err-rename_over_directory-clause-errors : goal.returns-in_err-rename_over_directory-clause-errors
returns-in_err-rename_over_directory-clause-errors g c =
    let p = err_from_is_err_and c.from_residual.result c.from_residual.ensures.1 in
    subst (λ r. ReportsReadCommits c.args.thread.now c.rename_over_directory.new.thread r) (c.in_err-rename_over_directory.was ∙ ap Err (sym p.2) ∙ sym p.1)
    (over_from c.args.thread.now c.rename_over_directory.new.thread c.rename_over_directory.result c.rename_over_directory.ensures.errors)

pub returns-in_err-rename_over_directory-clause-device : goal.returns-in_err-rename_over_directory-clause-device
returns-in_err-rename_over_directory-clause-device g c = writes_first (thread_pair c.args.thread.now.kept c.args.pair).at (thread_pair c.args.thread.now.kept (c.args.to.own_pair - 1)).at c.rename_over_directory.ensures.device

pub returns-in_err-rename_over_directory-clause-survives : goal.returns-in_err-rename_over_directory-clause-survives
returns-in_err-rename_over_directory-clause-survives g c rename = c.rename_over_directory.ensures.survives rename.over

pub drop_pair_at-requires-clause-can : goal.drop_pair_at-requires-clause-can
drop_pair_at-requires-clause-can g c =
    let rename = c.requires.can in
    let t = c.args.thread.now.kept in
    subst (CanDropAt c.rename_over_directory.new.thread.kept c.args.to.own_pair) (sym c.none.ensures)
    (can_drop_last
    (replacing t c.args.pair c.args.id c.args.to.id c.args.name.now c.args.to.own_pair rename c.rename_over_directory.new.thread.kept (c.in_ok-rename_over_directory.ensures.renamed rename.over).changed))

pub returns-clause-renamed : goal.returns-clause-renamed
returns-clause-renamed g c =
    on_ok_weaker c.drop_pair_at.result (λ is rename.
    renamed_onto_directory c.args.thread.now.kept c.args.pair c.args.id c.args.to.id c.args.name.now c.args.to.own_pair rename c.rename_over_directory.new.thread.kept (c.in_ok-rename_over_directory.ensures.renamed rename.over).changed c.drop_pair_at.new.thread.kept
    (subst (λ (s : Gstate). IsPairDropped c.rename_over_directory.new.thread.kept (c.args.to.own_pair - 1) s c.drop_pair_at.new.thread.kept) c.none.ensures is))
    c.drop_pair_at.ensures.is_dropped

pub returns-clause-errors : goal.returns-clause-errors
returns-clause-errors g c =
    over_then c.args.thread.now c.rename_over_directory.new.thread c.drop_pair_at.new.thread c.in_ok-rename_over_directory.field-0 c.rename_over_directory.result c.drop_pair_at.result c.in_ok-rename_over_directory.was c.rename_over_directory.ensures.errors c.drop_pair_at.ensures.errors

pub returns-clause-device : goal.returns-clause-device
returns-clause-device g c =
    writes_two c.args.thread.now.kept c.rename_over_directory.new.thread.kept c.drop_pair_at.new.thread.kept c.args.pair c.args.to.own_pair (replace_directory_changes c.args.thread.now.kept c.args.pair c.args.id c.args.to.id c.args.name.now)
    (c.in_ok-rename_over_directory.ensures.renamed c.requires.can.over).changed c.rename_over_directory.ensures.device c.drop_pair_at.ensures.device

pub returns-clause-survives : goal.returns-clause-survives
returns-clause-survives g c rename =
    let t = c.args.thread.now.kept in
    survives_more (disk_tree t.disk t.pairs) (tree_with_entry_renamed t rename.over.can.path rename.over.can.name c.args.name.now) c.rename_over_directory.ensures.device c.drop_pair_at.ensures.device (c.rename_over_directory.ensures.survives rename.over)
    (left_within t c.args.pair c.args.id c.args.to.id c.args.name.now c.args.to.own_pair rename c.rename_over_directory.new.thread.kept (c.in_ok-rename_over_directory.ensures.renamed rename.over).changed)
    (subst (λ (s : Gstate). CleanLossLeaves c.rename_over_directory.new.thread.kept.history c.drop_pair_at.new.thread.kept.history (LeftByDrop c.rename_over_directory.new.thread.kept (c.args.to.own_pair - 1) s)) c.none.ensures c.drop_pair_at.ensures.stops)

pub returns-clause-alters : goal.returns-clause-alters
returns-clause-alters g c =
    on_ok_weaker c.drop_pair_at.result (λ is.
    let rename = c.requires.can in
    let t = c.args.thread.now.kept in
    let m = c.rename_over_directory.new.thread.kept in
    let changed = (c.in_ok-rename_over_directory.ensures.renamed rename.over).changed in
    let k = replacing t c.args.pair c.args.id c.args.to.id c.args.name.now c.args.to.own_pair rename m changed in
    altered_within t m c.args.to.own_pair c.args.to.own_pair (can_drop_last k).above rename.below k c.drop_pair_at.new.thread.kept
    (subst (λ (s : Gstate). IsPairDropped m (c.args.to.own_pair - 1) s c.drop_pair_at.new.thread.kept) c.none.ensures is) c.args.pair
    (writes_two t m c.drop_pair_at.new.thread.kept c.args.pair c.args.to.own_pair (replace_directory_changes t c.args.pair c.args.id c.args.to.id c.args.name.now) changed c.rename_over_directory.ensures.device c.drop_pair_at.ensures.device))
    c.drop_pair_at.ensures.is_dropped
