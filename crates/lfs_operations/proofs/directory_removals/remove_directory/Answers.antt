use Rattle.lfs_operations.proofs.Common.{ℕ, ◌≡◌, ◌-◌, sym, subst, ap, ◌∙◌, Err, on_ok_weaker, err_from_is_err_and, Gstate, zero_gstate, disk_tree, CleanLossLeaves, KeptThread, ChangesThreadBlocks, thread_pair, address_blocks, move_view, CanDropAt, IsPairDropped, LeftByDrop, removal_written_address, tree_without_entry}
use Rattle.lfs_operations.specs.Unlinking.{pair_index_after_unlink}
use Rattle.lfs_operations.proofs.LastDrop.{can_drop_last}
use Rattle.lfs_operations.proofs.Putting.{survives_more, survives_step}
use Rattle.lfs_operations.proofs.Removed.{reports_again}
use Rattle.lfs_operations.proofs.UnlinkedSteps.{directory_alters, directory_removed, left_second, steps_from, steps_then, writes_first, writes_then}
use Rattle.lfs_operations.proofs.UnlinkedWhole.{left_first, unlinked}
use Rattle.lfs_operations.proofs.directory_removals.remove_directory.Goals as goal

then_dropped : (m : KeptThread) (i j : ℕ) (s : Gstate) (new : KeptThread) → i ≡ j → s ≡ zero_gstate → IsPairDropped m (i - 1) s new → IsPairDropped m (j - 1) zero_gstate new
then_dropped m i j s new e f h = subst (λ (k : ℕ). IsPairDropped m (k - 1) zero_gstate new) e (subst (λ z. IsPairDropped m (i - 1) z new) f h)

pub returns-in_err-unlink_directory_entry-clause-errors : goal.returns-in_err-unlink_directory_entry-clause-errors
returns-in_err-unlink_directory_entry-clause-errors g c =
    let p = err_from_is_err_and c.from_residual.result c.from_residual.ensures.1 in
    steps_from c.args.thread.now c.unlink_directory_entry.new.thread c.from_residual.result
    (reports_again c.args.thread.now c.unlink_directory_entry.new.thread p.0 c.unlink_directory_entry.result c.from_residual.result (c.in_err-unlink_directory_entry.was ∙ ap Err (sym p.2)) p.1 c.unlink_directory_entry.ensures.errors.failed c.unlink_directory_entry.ensures.errors.reported)

pub returns-in_err-unlink_directory_entry-clause-device : goal.returns-in_err-unlink_directory_entry-clause-device
returns-in_err-unlink_directory_entry-clause-device g c =
    writes_first (removal_written_address c.args.thread.now.kept c.args.pair c.args.first) (thread_pair c.args.thread.now.kept (c.args.gone - 1)).at c.unlink_directory_entry.ensures.device

pub returns-in_err-unlink_directory_entry-clause-survives : goal.returns-in_err-unlink_directory_entry-clause-survives
returns-in_err-unlink_directory_entry-clause-survives g c take = survives_step c.args.thread.now.kept.disk (left_first c.args.thread.now.kept c.args.pair c.args.id c.args.first c.args.gone take) c.unlink_directory_entry.ensures.stops

pub drop_pair_at-requires-clause-can : goal.drop_pair_at-requires-clause-can
drop_pair_at-requires-clause-can g c =
    let m = c.unlink_directory_entry.new.thread.kept in
    subst (CanDropAt m c.index_after_unlinking-own.result) (sym c.none.ensures)
    (subst (λ (i : ℕ). CanDropAt m i zero_gstate) (sym c.index_after_unlinking-own.ensures)
    (can_drop_last (unlinked c.args.thread.now.kept c.args.pair c.args.id c.args.first c.args.gone c.requires.can m c.in_ok-unlink_directory_entry.ensures.is_unlinked).last))

pub returns-clause-is_removed : goal.returns-clause-is_removed
returns-clause-is_removed g c = on_ok_weaker c.drop_pair_at.result (λ is take.
    directory_removed (unlinked c.args.thread.now.kept c.args.pair c.args.id c.args.first c.args.gone take c.unlink_directory_entry.new.thread.kept c.in_ok-unlink_directory_entry.ensures.is_unlinked) c.drop_pair_at.new.thread.kept
    (then_dropped c.unlink_directory_entry.new.thread.kept c.index_after_unlinking-own.result (pair_index_after_unlink c.args.thread.now.kept c.args.pair c.args.first c.args.gone) (move_view c.none.result) c.drop_pair_at.new.thread.kept c.index_after_unlinking-own.ensures c.none.ensures is)) c.drop_pair_at.ensures.is_dropped

pub returns-clause-alters : goal.returns-clause-alters
returns-clause-alters g c = on_ok_weaker c.drop_pair_at.result (λ is.
    directory_alters (unlinked c.args.thread.now.kept c.args.pair c.args.id c.args.first c.args.gone c.requires.can c.unlink_directory_entry.new.thread.kept c.in_ok-unlink_directory_entry.ensures.is_unlinked) c.drop_pair_at.new.thread.kept
    (then_dropped c.unlink_directory_entry.new.thread.kept c.index_after_unlinking-own.result (pair_index_after_unlink c.args.thread.now.kept c.args.pair c.args.first c.args.gone) (move_view c.none.result) c.drop_pair_at.new.thread.kept c.index_after_unlinking-own.ensures c.none.ensures is)) c.drop_pair_at.ensures.is_dropped

pub returns-clause-errors : goal.returns-clause-errors
returns-clause-errors g c = steps_then c.args.thread.now c.unlink_directory_entry.new.thread c.drop_pair_at.new.thread c.in_ok-unlink_directory_entry.field-0 c.unlink_directory_entry.result c.drop_pair_at.result c.in_ok-unlink_directory_entry.was c.unlink_directory_entry.ensures.errors c.drop_pair_at.ensures.errors

pub returns-clause-device : goal.returns-clause-device
returns-clause-device g c =
    let m = c.unlink_directory_entry.new.thread.kept in
    writes_then (unlinked c.args.thread.now.kept c.args.pair c.args.id c.args.first c.args.gone c.requires.can m c.in_ok-unlink_directory_entry.ensures.is_unlinked) c.drop_pair_at.new.thread.kept c.unlink_directory_entry.ensures.device
    (subst (λ (i : ℕ). ChangesThreadBlocks (address_blocks (thread_pair m (i - 1)).at) m c.drop_pair_at.new.thread.kept) c.index_after_unlinking-own.ensures c.drop_pair_at.ensures.device)

pub returns-clause-survives : goal.returns-clause-survives
returns-clause-survives g c take =
    let t = c.args.thread.now.kept in
    let m = c.unlink_directory_entry.new.thread.kept in
    let new = c.drop_pair_at.new.thread.kept in
    survives_more (disk_tree t.disk t.pairs) (tree_without_entry t take.can.path take.can.name) c.unlink_directory_entry.ensures.device c.drop_pair_at.ensures.device
    (survives_step t.disk (left_first t c.args.pair c.args.id c.args.first c.args.gone take) c.unlink_directory_entry.ensures.stops)
    (left_second (unlinked t c.args.pair c.args.id c.args.first c.args.gone take m c.in_ok-unlink_directory_entry.ensures.is_unlinked))
    (subst (λ (i : ℕ). CleanLossLeaves m.history new.history (LeftByDrop m (i - 1) zero_gstate)) c.index_after_unlinking-own.ensures
    (subst (λ (s : Gstate). CleanLossLeaves m.history new.history (LeftByDrop m (c.index_after_unlinking-own.result - 1) s)) c.none.ensures c.drop_pair_at.ensures.stops))
