use Rattle.std.proofs.Common.{false, subst}
use Rattle.lfs_tree.proofs.Common.{err_from_is_err_and, CanMoveOntoFound, CanMoveEntryTo, answered, passed}
use Rattle.lfs_tree.proofs.Operated.{only_read_change}
use Rattle.lfs_tree.proofs.Shifted.{move_does}
use Rattle.lfs_tree.proofs.ShiftedSlots.{if_done, moved_new}
use Rattle.lfs_tree.proofs.renames_at.rename_at.Goals as goal

pub returns-in_err-found : goal.returns-in_err-found
returns-in_err-found g c =
    let p = err_from_is_err_and c.from_residual.result c.from_residual.ensures.1 in
    only_read_change c.args.thread.now c.args.root c.requires.rests c.look_up_move.new.thread _ _ c.from_residual.result p.0 p.1
    (passed _ _ c.look_up_move.result c.from_residual.result _ p.0 c.in_err-found.was p.1 p.2 c.look_up_move.ensures.reading)

pub returns-in-Nothing : goal.returns-in-Nothing
returns-in-Nothing g c =
    let mid = c.look_up_move.new.thread in
    let found = c.in_ok-found.found in
    let shift : CanMoveEntryTo false mid.kept c.args.from.now c.args.to.now found.source c.in-Nothing.place found.name.now = subst (λ f. CanMoveOntoFound mid.kept c.args.from.now c.args.to.now found.source f found.name.now) c.in-Nothing.is c.in_ok-found.ensures.can in
    let read = answered c.args.thread.now mid c.look_up_move.result found c.in_ok-found.was c.look_up_move.ensures.reading in
    let e = c.move_entry.ensures in
    move_does c.args.thread.now mid c.move_entry.new.thread c.args.root c.requires.rests _ _ c.requires.apart read c.in_ok-found.ensures.paths c.move_entry.result
    (if_done c.move_entry.result e.moved (λ gives. moved_new _ _ _ _ _ shift.target.none (gives _ _ shift))) e.errors e.device (e.survives _ _ shift)

pub returns-in-File : goal.returns-in-File
returns-in-File g c =
    let mid = c.look_up_move.new.thread in
    let found = c.in_ok-found.found in
    let shift = subst (λ f. CanMoveOntoFound mid.kept c.args.from.now c.args.to.now found.source f found.name.now) c.in-File.is c.in_ok-found.ensures.can in
    let read = answered c.args.thread.now mid c.look_up_move.result found c.in_ok-found.was c.look_up_move.ensures.reading in
    let e = c.move_onto_file.ensures in
    move_does c.args.thread.now mid c.move_onto_file.new.thread c.args.root c.requires.rests _ _ c.requires.apart read c.in_ok-found.ensures.paths c.move_onto_file.result
    (if_done c.move_onto_file.result e.shifted (λ gives. gives _ _ shift)) e.errors e.device (e.survives _ _ shift)

pub returns-in-Directory : goal.returns-in-Directory
returns-in-Directory g c =
    let mid = c.look_up_move.new.thread in
    let found = c.in_ok-found.found in
    let shift = subst (λ f. CanMoveOntoFound mid.kept c.args.from.now c.args.to.now found.source f found.name.now) c.in-Directory.is c.in_ok-found.ensures.can in
    let read = answered c.args.thread.now mid c.look_up_move.result found c.in_ok-found.was c.look_up_move.ensures.reading in
    let e = c.move_onto_directory.ensures in
    move_does c.args.thread.now mid c.move_onto_directory.new.thread c.args.root c.requires.rests _ _ c.requires.apart read c.in_ok-found.ensures.paths c.move_onto_directory.result
    (if_done c.move_onto_directory.result e.shifted (λ gives. gives _ _ shift)) e.errors e.device (e.survives _ _ shift)
