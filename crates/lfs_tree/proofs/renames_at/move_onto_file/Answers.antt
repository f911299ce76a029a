use Rattle.std.proofs.Common.{ap, sym, ◌∙◌, Err, rules}
use Rattle.lfs_tree.proofs.Common.{err_from_is_err_and, Path, HasSameBlocksInFlight, IsRecoveredWritableImage, CanMoveOntoFile, HasMovedEntry}
use Rattle.lfs_tree.proofs.CarryFreed.{ok_both}
use Rattle.lfs_tree.proofs.ShiftedFiles.{apart_then, onto_done, onto_frees, onto_survives, reported_of, reported_then}
use Rattle.lfs_tree.proofs.renames_at.move_onto_file.Goals as goal

pub move_entry-requires-clause-can : goal.move_entry-requires-clause-can
move_entry-requires-clause-can g c = let can = c.requires.can in (can.0, can.1, can.2.onto)

pub free_file_blocks-requires : goal.free_file_blocks-requires
free_file_blocks-requires g c =
    record {
      works = search rules;
      can = let can = c.requires.can in onto_frees c.args.thread.now.kept can.0 can.1 c.args.source c.args.slot c.args.contents c.args.name.now can.2 c.move_entry.new.thread.kept c.move_entry.ensures.device (c.in_ok-move_entry.ensures.moved can.0 can.1 can.2.onto);
    }

pub returns-in_err-move_entry-clause-errors : goal.returns-in_err-move_entry-clause-errors
returns-in_err-move_entry-clause-errors g c =
    let p = err_from_is_err_and c.from_residual.result c.from_residual.ensures.1 in
    reported_of c.args.thread.now c.move_entry.new.thread p.0 c.move_entry.result c.from_residual.result (c.in_err-move_entry.was ∙ ap Err (sym p.2)) p.1 c.move_entry.ensures.errors

pub returns-in_err-move_entry-clause-survives : goal.returns-in_err-move_entry-clause-survives
returns-in_err-move_entry-clause-survives g c from to can = c.move_entry.ensures.survives from to can.onto

pub returns-clause-shifted : goal.returns-clause-shifted
returns-clause-shifted g c =
    let t = c.args.thread.now.kept in
    let mid = c.move_entry.new.thread.kept in
    let new = c.free_file_blocks.new.thread.kept in
    ok_both c.free_file_blocks.result (IsRecoveredWritableImage new) (HasSameBlocksInFlight mid.map new.map) ((from to : Path) → CanMoveOntoFile t from to c.args.source c.args.slot c.args.contents c.args.name.now → HasMovedEntry t from to new)
    (λ ready flying from to can. onto_done t mid new from to can.onto.gone (c.in_ok-move_entry.ensures.moved from to can.onto) c.free_file_blocks.ensures.only ready flying)
    c.free_file_blocks.ensures.ready c.free_file_blocks.ensures.flying

pub returns-clause-errors : goal.returns-clause-errors
returns-clause-errors g c = reported_then c.args.thread.now c.move_entry.new.thread c.free_file_blocks.new.thread c.in_ok-move_entry.field-0 c.move_entry.result c.free_file_blocks.result c.in_ok-move_entry.was c.move_entry.ensures.errors c.free_file_blocks.ensures.failed c.free_file_blocks.ensures.reports

pub returns-clause-device : goal.returns-clause-device
returns-clause-device g c = apart_then c.args.thread.now.kept c.move_entry.new.thread.kept c.free_file_blocks.new.thread.kept c.move_entry.ensures.device c.free_file_blocks.ensures.only

pub returns-clause-survives : goal.returns-clause-survives
returns-clause-survives g c from to can =
    onto_survives c.args.thread.now.kept c.move_entry.new.thread.kept c.free_file_blocks.new.thread.kept from to can.onto.gone c.move_entry.ensures.device (c.in_ok-move_entry.ensures.moved from to can.onto) c.free_file_blocks.ensures.only
    (c.move_entry.ensures.survives from to can.onto)
