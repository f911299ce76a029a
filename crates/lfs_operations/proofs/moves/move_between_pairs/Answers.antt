use Rattle.lfs_operations.proofs.Common.{ap, sym, subst, ◌∙◌, ◌<◌, length, Err, on_ok_weaker, err_from_is_err_and, changes_view, move_ending_written_pair, IsMoveCopiedAndEnded, PowerLossKeepsEitherTree, ReportsAllocatingCommits, WritesPairsAndTwoFree, move_start_changes, subst₂, CanCopyAndEndMove}
use Rattle.lfs_device.specs.declared.error.Error.TheVariants as Error
use Rattle.lfs_operations.proofs.MovLater.{address_before, aim, changes_are, done_after_read, ends_after_read, survives_after_read, reports_after_read, reports_unmade, reports_unread, writes_after_read, writes_read, new_below}
use Rattle.lfs_operations.proofs.MovPlaced.{ends_aimed, shows_aimed}
use Rattle.lfs_operations.proofs.MovStep.{left_tree}
use Rattle.lfs_operations.proofs.Putting.{not_both}
use Rattle.lfs_operations.proofs.RenameRead.{can_after_read, put_after_read, read_survives}
use Rattle.lfs_operations.proofs.moves.move_between_pairs.Goals as goal
use Rattle.lfs_operations.proofs.AlteredLater.{old_low}

pub move_start_delta-state-requires-clause-old_below : goal.move_start_delta-state-requires-clause-old_below
move_start_delta-state-requires-clause-old_below g c =
    let to = c.args.route in
    subst (λ ps. to.old_pair < length ps) (sym c.copy_pair_slot.ensures.only.pairs) (old_low c.requires.can.old)

pub move_start_delta-state-requires-clause-new_below : goal.move_start_delta-state-requires-clause-new_below
move_start_delta-state-requires-clause-new_below g c =
    let to = c.args.route in
    subst (λ ps. to.new_pair < length ps) (sym c.copy_pair_slot.ensures.only.pairs) (new_below c.args.replaces c.args.sync c.args.thread.now.kept to c.args.name.now c.requires.can)

pub returns-in_err-copy-clause-errors : goal.returns-in_err-copy-clause-errors
returns-in_err-copy-clause-errors g c =
    let p = err_from_is_err_and c.from_residual.result c.from_residual.ensures.1 in
    reports_unread (c.in_err-copy.was ∙ ap Err (sym p.2)) p.1 c.copy_pair_slot.ensures.works c.copy_pair_slot.ensures.only c.copy_pair_slot.ensures.errors

pub returns-in_err-copy-clause-device : goal.returns-in_err-copy-clause-device
returns-in_err-copy-clause-device g c = writes_read c.copy_pair_slot.ensures.only

pub returns-in_err-copy-clause-survives : goal.returns-in_err-copy-clause-survives
returns-in_err-copy-clause-survives g c rename =
    read_survives c.args.thread.now.kept c.copy_pair_slot.new.thread.kept.history c.copy_pair_slot.ensures.only.reads rename.old.ready _

pub returns-in_err-changes-clause-errors : goal.returns-in_err-changes-clause-errors
returns-in_err-changes-clause-errors g c =
    let from = c.from_residual-in_err-changes in
    let p = err_from_is_err_and from.result from.ensures.1 in
    reports_unmade (p.1 ∙ ap Err p.2) c.copy_pair_slot.ensures.works c.copy_pair_slot.ensures.only (c.copy_pair_slot.ensures.errors.no_fault (λ io. not_both c.copy_pair_slot.result c.in_ok-copy.copy Error.Io c.in_ok-copy.was io))

pub returns-in_err-changes-clause-device : goal.returns-in_err-changes-clause-device
returns-in_err-changes-clause-device g c = writes_read c.copy_pair_slot.ensures.only

pub returns-in_err-changes-clause-survives : goal.returns-in_err-changes-clause-survives
returns-in_err-changes-clause-survives g c rename =
    read_survives c.args.thread.now.kept c.copy_pair_slot.new.thread.kept.history c.copy_pair_slot.ensures.only.reads rename.old.ready _

pub copy_then_end-requires-clause-can : goal.copy_then_end-requires-clause-can
copy_then_end-requires-clause-can g c =
    let t = c.args.thread.now.kept in
    let mid = c.copy_pair_slot.new.thread.kept in
    let only = c.copy_pair_slot.ensures.only in
    let to = c.args.route in
    let are = changes_are only c.args.replaces c.args.sync to c.args.name.now (ap changes_view c.deref.ensures.value ∙ c.in_ok-changes.ensures) c.move_start_delta-state.ensures.delta c.in_ok-copy.ensures.copied in
    let at = aim c.args.replaces c.args.sync t to c.args.name.now c.requires.can (address_before only to.old_pair c.move_start_delta-state.ensures.address) in
    let changes = move_start_changes c.args.replaces c.args.sync t to c.args.name.now in
    subst₂ (λ b z. CanCopyAndEndMove mid to.old_pair to.old_id b to.new_pair z) (sym c.must_drop_pair-goes.ensures) (sym are) (record {
      turns = can_after_read t mid to.new_pair changes only at.aimed.can;
      ends = λ last is. ends_after_read only (ends_aimed at.aimed last (put_after_read t mid last to.new_pair changes only is));
    })

pub returns-clause-moved : goal.returns-clause-moved
returns-clause-moved g c =
    let t = c.args.thread.now.kept in
    let only = c.copy_pair_slot.ensures.only in
    let to = c.args.route in
    let are = changes_are only c.args.replaces c.args.sync to c.args.name.now (ap changes_view c.deref.ensures.value ∙ c.in_ok-changes.ensures) c.move_start_delta-state.ensures.delta c.in_ok-copy.ensures.copied in
    on_ok_weaker c.copy_then_end.result (λ is. record {
      address = address_before only to.old_pair c.move_start_delta-state.ensures.address;
      done = subst₂ (λ b z. IsMoveCopiedAndEnded t to.old_pair to.old_id b to.new_pair z c.copy_then_end.new.thread.kept) c.must_drop_pair-goes.ensures are (done_after_read only is);
    }) c.copy_then_end.ensures.done

pub returns-clause-errors : goal.returns-clause-errors
returns-clause-errors g c =
    let only = c.copy_pair_slot.ensures.only in
    let to = c.args.route in
    let are = changes_are only c.args.replaces c.args.sync to c.args.name.now (ap changes_view c.deref.ensures.value ∙ c.in_ok-changes.ensures) c.move_start_delta-state.ensures.delta c.in_ok-copy.ensures.copied in
    reports_after_read only (c.copy_pair_slot.ensures.errors.no_fault (λ io. not_both c.copy_pair_slot.result c.in_ok-copy.copy Error.Io c.in_ok-copy.was io))
    (subst (λ z. ReportsAllocatingCommits c.copy_pair_slot.new.thread c.copy_then_end.new.thread to.new_pair z c.copy_then_end.result) are c.copy_then_end.ensures.errors)

pub returns-clause-device : goal.returns-clause-device
returns-clause-device g c =
    subst (λ b. WritesPairsAndTwoFree c.args.thread.now.kept (move_ending_written_pair c.args.route.old_pair b) c.args.route.new_pair c.copy_then_end.new.thread.kept) c.must_drop_pair-goes.ensures
    (writes_after_read c.copy_pair_slot.ensures.only c.copy_then_end.ensures.device)

pub returns-clause-survives : goal.returns-clause-survives
returns-clause-survives g c rename =
    let t = c.args.thread.now.kept in
    let only = c.copy_pair_slot.ensures.only in
    let to = c.args.route in
    let are = changes_are only c.args.replaces c.args.sync to c.args.name.now (ap changes_view c.deref.ensures.value ∙ c.in_ok-changes.ensures) c.move_start_delta-state.ensures.delta c.in_ok-copy.ensures.copied in
    let at = aim c.args.replaces c.args.sync t to c.args.name.now rename (address_before only to.old_pair c.move_start_delta-state.ensures.address) in
    survives_after_read only c.copy_then_end.ensures.device (subst (λ z. PowerLossKeepsEitherTree c.copy_pair_slot.new.thread.kept to.new_pair z c.copy_then_end.new.thread.kept) are c.copy_then_end.ensures.survives) rename.old.ready
    (λ left l. left_tree at.aimed.way left l) (λ last is. shows_aimed at.aimed last is)
