use Rattle.lfs_operations.proofs.Common.{on_ok_weaker, sym, subst, false, true, ◌-◌, ◌≡◌, arith, AllByRecursion, IsPairAt, Gstate, same_pair, Pair, disk_tree, CleanLossLeaves, CanDropAt, IsPairDropped, LeftByDrop, tree_with_entry_moved, move_start_changes}
use Rattle.lfs_operations.proofs.Putting.{survives_more}
use Rattle.lfs_operations.proofs.AlteredLast.{altered_onto_directory}
use Rattle.lfs_operations.proofs.MovReporting.{not_io, reports_of_end}
use Rattle.lfs_operations.proofs.OntoAcross.{can_drop_onto, left_across, not_nowhere, renamed_onto, two_written}
use Rattle.lfs_operations.proofs.OntoReporting.{works_after}
use Rattle.lfs_operations.proofs.OntoWritten.{more}
use Rattle.lfs_operations.proofs.moves.replace_across_pairs.Goals as goal

pub move_between_pairs-requires-clause-can : goal.move_between_pairs-requires-clause-can
move_between_pairs-requires-clause-can g c = c.requires.can.onto

pub returns-in_err-move_between_pairs-clause-device : goal.returns-in_err-move_between_pairs-clause-device
returns-in_err-move_between_pairs-clause-device g c = two_written c.requires.can c.move_between_pairs.ensures.device

pub returns-in_err-move_between_pairs-clause-survives : goal.returns-in_err-move_between_pairs-clause-survives
returns-in_err-move_between_pairs-clause-survives g c rename = c.move_between_pairs.ensures.survives rename.onto

pub drop_pair_at-requires-clause-works : goal.drop_pair_at-requires-clause-works
drop_pair_at-requires-clause-works g c = works_after c.move_between_pairs.ensures.errors c.in_ok-move_between_pairs.was

pub drop_pair_at-requires-clause-can : goal.drop_pair_at-requires-clause-can
drop_pair_at-requires-clause-can g c =
    subst (CanDropAt c.move_between_pairs.new.thread.kept c.in-Some.index) (sym c.none.ensures)
    (can_drop_onto c.requires.can c.in_ok-move_between_pairs.ensures.moved (subst (λ at. IsPairAt c.move_between_pairs.new.thread.kept.pairs at c.in-Some.index) c.blocks_of_pair-at.ensures c.in-Some.ensures.there))

pub returns-in-Some-clause-renamed : goal.returns-in-Some-clause-renamed
returns-in-Some-clause-renamed g c =
    on_ok_weaker c.drop_pair_at.result (λ is rename.
    renamed_onto rename c.in_ok-move_between_pairs.ensures.moved (subst (λ at. IsPairAt c.move_between_pairs.new.thread.kept.pairs at c.in-Some.index) c.blocks_of_pair-at.ensures c.in-Some.ensures.there)
    (subst (λ (s : Gstate). IsPairDropped c.move_between_pairs.new.thread.kept (c.in-Some.index - 1) s c.drop_pair_at.new.thread.kept) c.none.ensures is))
    c.drop_pair_at.ensures.is_dropped

pub returns-in-Some-clause-errors : goal.returns-in-Some-clause-errors
returns-in-Some-clause-errors g c =
    reports_of_end c.args.thread.now c.move_between_pairs.new.thread c.drop_pair_at.new.thread c.args.route.new_pair (move_start_changes true true c.args.thread.now.kept c.args.route c.args.name.now) c.drop_pair_at.result
    (c.move_between_pairs.ensures.errors.no_fault (not_io c.move_between_pairs.result c.in_ok-move_between_pairs.field-0 c.in_ok-move_between_pairs.was)) c.drop_pair_at.ensures.errors

pub returns-in-Some-clause-device : goal.returns-in-Some-clause-device
returns-in-Some-clause-device g c =
    let at = subst (λ at. IsPairAt c.move_between_pairs.new.thread.kept.pairs at c.in-Some.index) c.blocks_of_pair-at.ensures c.in-Some.ensures.there in
    more c.args.thread.now.kept c.move_between_pairs.new.thread.kept c.drop_pair_at.new.thread.kept (c.in-Some.index - 1) c.in_ok-move_between_pairs.ensures.moved.done.blocks
    (let k = (can_drop_onto c.requires.can c.in_ok-move_between_pairs.ensures.moved at).below in omega arith) c.drop_pair_at.ensures.device

pub returns-in-Some-clause-survives : goal.returns-in-Some-clause-survives
returns-in-Some-clause-survives g c rename =
    survives_more (disk_tree c.args.thread.now.kept.disk c.args.thread.now.kept.pairs) (tree_with_entry_moved c.args.thread.now.kept rename.onto.old.path rename.onto.old.name rename.onto.path c.args.name.now)
    c.move_between_pairs.ensures.device.writes c.drop_pair_at.ensures.device (c.move_between_pairs.ensures.survives rename.onto)
    (left_across rename c.in_ok-move_between_pairs.ensures.moved (subst (λ at. IsPairAt c.move_between_pairs.new.thread.kept.pairs at c.in-Some.index) c.blocks_of_pair-at.ensures c.in-Some.ensures.there))
    (subst (λ (s : Gstate). CleanLossLeaves c.move_between_pairs.new.thread.kept.history c.drop_pair_at.new.thread.kept.history (LeftByDrop c.move_between_pairs.new.thread.kept (c.in-Some.index - 1) s)) c.none.ensures c.drop_pair_at.ensures.stops)

pub returns-in-Some-clause-alters : goal.returns-in-Some-clause-alters
returns-in-Some-clause-alters g c =
    on_ok_weaker c.drop_pair_at.result (λ is.
    altered_onto_directory c.requires.can c.in_ok-move_between_pairs.ensures.moved (subst (λ at. IsPairAt c.move_between_pairs.new.thread.kept.pairs at c.in-Some.index) c.blocks_of_pair-at.ensures c.in-Some.ensures.there)
    (subst (λ (s : Gstate). IsPairDropped c.move_between_pairs.new.thread.kept (c.in-Some.index - 1) s c.drop_pair_at.new.thread.kept) c.none.ensures is) c.move_between_pairs.ensures.device c.drop_pair_at.ensures.device)
    c.drop_pair_at.ensures.is_dropped

pub returns-in-None-clause-renamed : goal.returns-in-None-clause-renamed
returns-in-None-clause-renamed g c rename =
    absurd (not_nowhere rename c.in_ok-move_between_pairs.ensures.moved (subst (λ at. AllByRecursion (λ (z : Pair). same_pair z.at at ≡ false) c.move_between_pairs.new.thread.kept.pairs) c.blocks_of_pair-at.ensures c.in-None.ensures.nowhere))

pub returns-in-None-clause-device : goal.returns-in-None-clause-device
returns-in-None-clause-device g c = two_written c.requires.can c.move_between_pairs.ensures.device

pub returns-in-None-clause-survives : goal.returns-in-None-clause-survives
returns-in-None-clause-survives g c rename = c.move_between_pairs.ensures.survives rename.onto

pub returns-in-None-clause-alters : goal.returns-in-None-clause-alters
returns-in-None-clause-alters g c =
    absurd (not_nowhere c.requires.can c.in_ok-move_between_pairs.ensures.moved (subst (λ at. AllByRecursion (λ (z : Pair). same_pair z.at at ≡ false) c.move_between_pairs.new.thread.kept.pairs) c.blocks_of_pair-at.ensures c.in-None.ensures.nowhere))
