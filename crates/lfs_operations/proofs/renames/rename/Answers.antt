use Rattle.lfs_operations.proofs.Common.{ap, sym, subst, ◌∙◌, ◌∷◌, Err, on_ok_weaker, err_from_is_err_and, Delete, changes_view, CleanLossLeaves, CanCommitOrSplit, LeftByCommitOrSplit, AreCommittedOrSplit, ReportsCommitOrSplit, id_after_removal, renaming_changes, removal_changes, slot_creation_changes, ◌++◌}
use Rattle.lfs_device.specs.declared.error.Error.TheVariants as Error
use Rattle.lfs_operations.proofs.Putting.{not_both}
use Rattle.lfs_operations.proofs.RenameRead.{can_after_read, moves_after_read, moves_unread, put_after_read, read_stops, read_writes, stops_after_read, writes_after_read}
use Rattle.lfs_operations.proofs.RenameTarget.{has_slot}
use Rattle.lfs_operations.proofs.RenameReplaced.{moves_here, renamed_here, survives_here}
use Rattle.lfs_operations.proofs.renames.rename.Goals as goal

pub copy_pair_slot-requires-clause-there : goal.copy_pair_slot-requires-clause-there
copy_pair_slot-requires-clause-there g c = has_slot c.requires.can.can

pub returns-in_err-copy-clause-errors : goal.returns-in_err-copy-clause-errors
returns-in_err-copy-clause-errors g c =
    let p = err_from_is_err_and c.from_residual.result c.from_residual.ensures.1 in
    moves_unread c.args.thread.now c.copy_pair_slot.new.thread c.args.pair (renaming_changes c.args.to.replaces c.args.thread.now.kept c.args.pair c.args.id c.args.to.id c.args.name.now) p.0 c.copy_pair_slot.result c.from_residual.result
    (c.in_err-copy.was ∙ ap Err (sym p.2)) p.1 c.copy_pair_slot.ensures.works c.copy_pair_slot.ensures.only c.copy_pair_slot.ensures.errors

pub returns-in_err-copy-clause-device : goal.returns-in_err-copy-clause-device
returns-in_err-copy-clause-device g c = read_writes c.args.thread.now.kept c.copy_pair_slot.new.thread.kept c.copy_pair_slot.ensures.only c.args.pair

pub returns-in_err-copy-clause-survives : goal.returns-in_err-copy-clause-survives
returns-in_err-copy-clause-survives g c rename =
    survives_here c.args.to.replaces c.args.thread.now.kept c.args.pair c.args.id c.args.to.id c.args.name.now rename c.copy_pair_slot.new.thread.kept.history (read_stops c.args.thread.now.kept c.copy_pair_slot.new.thread.kept c.requires.can.can (renaming_changes c.args.to.replaces c.args.thread.now.kept c.args.pair c.args.id c.args.to.id c.args.name.now) c.copy_pair_slot.ensures.only)

pub returns-in_err-changes-clause-device : goal.returns-in_err-changes-clause-device
returns-in_err-changes-clause-device g c = read_writes c.args.thread.now.kept c.copy_pair_slot.new.thread.kept c.copy_pair_slot.ensures.only c.args.pair

pub returns-in_err-changes-clause-survives : goal.returns-in_err-changes-clause-survives
returns-in_err-changes-clause-survives g c rename =
    survives_here c.args.to.replaces c.args.thread.now.kept c.args.pair c.args.id c.args.to.id c.args.name.now rename c.copy_pair_slot.new.thread.kept.history (read_stops c.args.thread.now.kept c.copy_pair_slot.new.thread.kept c.requires.can.can (renaming_changes c.args.to.replaces c.args.thread.now.kept c.args.pair c.args.id c.args.to.id c.args.name.now) c.copy_pair_slot.ensures.only)

pub commit_or_split-requires-clause-can : goal.commit_or_split-requires-clause-can
commit_or_split-requires-clause-can g c =
    let are = ap changes_view c.deref.ensures.value ∙ c.in_ok-changes.ensures ∙ ap (λ z. Delete c.args.id ∷ (removal_changes c.args.to.replaces (id_after_removal c.args.id c.args.to.id) ++ slot_creation_changes (id_after_removal c.args.id c.args.to.id) c.args.name.now z)) c.in_ok-copy.ensures.copied in
    subst (CanCommitOrSplit c.copy_pair_slot.new.thread.kept c.args.pair) (sym are)
    (can_after_read c.args.thread.now.kept c.copy_pair_slot.new.thread.kept c.args.pair (renaming_changes c.args.to.replaces c.args.thread.now.kept c.args.pair c.args.id c.args.to.id c.args.name.now) c.copy_pair_slot.ensures.only
    (moves_here c.args.to.replaces c.args.thread.now.kept c.args.pair c.args.id c.args.to.id c.args.name.now c.requires.can).can_put)

pub returns-clause-renamed : goal.returns-clause-renamed
returns-clause-renamed g c =
    on_ok_weaker c.commit_or_split.result (λ is rename.
    let are = ap changes_view c.deref.ensures.value ∙ c.in_ok-changes.ensures ∙ ap (λ z. Delete c.args.id ∷ (removal_changes c.args.to.replaces (id_after_removal c.args.id c.args.to.id) ++ slot_creation_changes (id_after_removal c.args.id c.args.to.id) c.args.name.now z)) c.in_ok-copy.ensures.copied in
    renamed_here c.args.to.replaces c.args.thread.now.kept c.args.pair c.args.id c.args.to.id c.args.name.now rename c.commit_or_split.new.thread.kept
    (put_after_read c.args.thread.now.kept c.copy_pair_slot.new.thread.kept c.commit_or_split.new.thread.kept c.args.pair (renaming_changes c.args.to.replaces c.args.thread.now.kept c.args.pair c.args.id c.args.to.id c.args.name.now) c.copy_pair_slot.ensures.only
    (subst (λ z. AreCommittedOrSplit c.copy_pair_slot.new.thread.kept c.args.pair z c.commit_or_split.new.thread.kept) are is)))
    c.commit_or_split.ensures.is_put

pub returns-clause-errors : goal.returns-clause-errors
returns-clause-errors g c =
    let are = ap changes_view c.deref.ensures.value ∙ c.in_ok-changes.ensures ∙ ap (λ z. Delete c.args.id ∷ (removal_changes c.args.to.replaces (id_after_removal c.args.id c.args.to.id) ++ slot_creation_changes (id_after_removal c.args.id c.args.to.id) c.args.name.now z)) c.in_ok-copy.ensures.copied in
    moves_after_read c.args.thread.now c.copy_pair_slot.new.thread c.commit_or_split.new.thread c.args.pair (renaming_changes c.args.to.replaces c.args.thread.now.kept c.args.pair c.args.id c.args.to.id c.args.name.now) c.commit_or_split.result c.copy_pair_slot.ensures.only
    (c.copy_pair_slot.ensures.errors.no_fault (λ io. not_both c.copy_pair_slot.result c.in_ok-copy.copy Error.Io c.in_ok-copy.was io))
    (subst (λ z. ReportsCommitOrSplit c.copy_pair_slot.new.thread c.commit_or_split.new.thread c.args.pair z c.commit_or_split.result) are c.commit_or_split.ensures.errors)

pub returns-clause-device : goal.returns-clause-device
returns-clause-device g c = writes_after_read c.args.thread.now.kept c.copy_pair_slot.new.thread.kept c.commit_or_split.new.thread.kept c.args.pair c.copy_pair_slot.ensures.only c.commit_or_split.ensures.device

pub returns-clause-survives : goal.returns-clause-survives
returns-clause-survives g c rename =
    let are = ap changes_view c.deref.ensures.value ∙ c.in_ok-changes.ensures ∙ ap (λ z. Delete c.args.id ∷ (removal_changes c.args.to.replaces (id_after_removal c.args.id c.args.to.id) ++ slot_creation_changes (id_after_removal c.args.id c.args.to.id) c.args.name.now z)) c.in_ok-copy.ensures.copied in
    survives_here c.args.to.replaces c.args.thread.now.kept c.args.pair c.args.id c.args.to.id c.args.name.now rename c.commit_or_split.new.thread.kept.history
    (stops_after_read c.args.thread.now.kept c.copy_pair_slot.new.thread.kept c.commit_or_split.new.thread.kept c.requires.can.can (renaming_changes c.args.to.replaces c.args.thread.now.kept c.args.pair c.args.id c.args.to.id c.args.name.now) c.copy_pair_slot.ensures.only c.commit_or_split.ensures.device
    (subst (λ z. CleanLossLeaves c.copy_pair_slot.new.thread.kept.history c.commit_or_split.new.thread.kept.history (LeftByCommitOrSplit c.copy_pair_slot.new.thread.kept c.args.pair z)) are c.commit_or_split.ensures.stops))
