use Rattle.lfs_operations.proofs.Common.{ap, ap₂, sym, subst, ◌∙◌, ◌∷◌, Err, err_from_is_err_and, Delete, PutMove, gstate_xor, sync_bit_delta, changes_view, CleanLossLeaves, KeptThread, IsPairCommitted, LossLeavesPair, ChangesThreadBlocks, thread_pair, address_blocks, id_after_removal, tree_with_entry_renamed, replace_directory_changes, slot_creation_changes, CanCommit, on_ok_weaker}
use Rattle.lfs_device.specs.declared.error.Error.TheVariants as Error
use Rattle.lfs_operations.proofs.Putting.{not_both, read_is}
use Rattle.lfs_operations.proofs.RenameRead.{read_survives}
use Rattle.lfs_operations.proofs.RenameReadOver.{blocks_after_read, can_change_after_read, change_stops_after_read, changed_after_read, only_read_writes, over_later, over_unread, refused_after_read}
use Rattle.lfs_operations.proofs.RenameOver.{can_over, over_not_refused, over_survives, renamed_over}
use Rattle.lfs_operations.proofs.replacements.rename_over_directory.Goals as goal
use Rattle.lfs_operations.proofs.RenameTarget.{has_slot}

pub copy_pair_slot-requires-clause-there : goal.copy_pair_slot-requires-clause-there
copy_pair_slot-requires-clause-there g c = has_slot c.requires.can.can

pub returns-in_err-copy-clause-errors : goal.returns-in_err-copy-clause-errors
returns-in_err-copy-clause-errors g c =
    let p = err_from_is_err_and c.from_residual.result c.from_residual.ensures.1 in
    over_unread c.args.thread.now c.copy_pair_slot.new.thread p.0 c.copy_pair_slot.result c.from_residual.result (c.in_err-copy.was ∙ ap Err (sym p.2)) p.1 c.copy_pair_slot.ensures.works c.copy_pair_slot.ensures.only c.copy_pair_slot.ensures.errors

pub returns-in_err-copy-clause-device : goal.returns-in_err-copy-clause-device
returns-in_err-copy-clause-device g c = only_read_writes c.args.thread.now.kept c.copy_pair_slot.new.thread.kept (address_blocks (thread_pair c.args.thread.now.kept c.args.pair).at) c.copy_pair_slot.ensures.only

pub returns-in_err-copy-clause-survives : goal.returns-in_err-copy-clause-survives
returns-in_err-copy-clause-survives g c rename =
    read_survives c.args.thread.now.kept c.copy_pair_slot.new.thread.kept.history c.copy_pair_slot.ensures.only.reads rename.can.ready (tree_with_entry_renamed c.args.thread.now.kept rename.can.path rename.can.name c.args.name.now)

pub returns-in_err-changes-clause-device : goal.returns-in_err-changes-clause-device
returns-in_err-changes-clause-device g c = only_read_writes c.args.thread.now.kept c.copy_pair_slot.new.thread.kept (address_blocks (thread_pair c.args.thread.now.kept c.args.pair).at) c.copy_pair_slot.ensures.only

pub returns-in_err-changes-clause-survives : goal.returns-in_err-changes-clause-survives
returns-in_err-changes-clause-survives g c rename =
    read_survives c.args.thread.now.kept c.copy_pair_slot.new.thread.kept.history c.copy_pair_slot.ensures.only.reads rename.can.ready (tree_with_entry_renamed c.args.thread.now.kept rename.can.path rename.can.name c.args.name.now)

pub commit_without_split-requires-clause-can : goal.commit_without_split-requires-clause-can
commit_without_split-requires-clause-can g c =
    let t = c.args.thread.now.kept in
    let mid = c.copy_pair_slot.new.thread.kept in
    let only = c.copy_pair_slot.ensures.only in
    let state = c.gstate_xor_delta-state.ensures ∙ ap₂ gstate_xor c.delta.ensures c.sync_flip_delta.ensures ∙ ap (λ (k : KeptThread). gstate_xor (thread_pair k c.args.pair).content.move sync_bit_delta) (read_is t mid only) in
    let are = ap changes_view c.deref.ensures.value ∙ c.in_ok-changes.ensures
    ∙ ap₂ (λ m z. PutMove m ∷ Delete c.args.id ∷ Delete (id_after_removal c.args.id c.args.place) ∷ slot_creation_changes (id_after_removal c.args.id c.args.place) c.args.name.now z) state c.in_ok-copy.ensures.copied in
    let changes = replace_directory_changes t c.args.pair c.args.id c.args.place c.args.name.now in
    subst (CanCommit mid c.args.pair) (sym are) (record {
      can = can_change_after_read t mid c.args.pair changes only (can_over t c.args.pair c.args.id c.args.place c.args.name.now c.requires.can);
      fits = λ new refused. over_not_refused t c.args.pair c.args.id c.args.place c.args.name.now c.requires.can new (refused_after_read t mid new c.args.pair changes only refused);
    })

pub returns-clause-renamed : goal.returns-clause-renamed
returns-clause-renamed g c =
    let t = c.args.thread.now.kept in
    let mid = c.copy_pair_slot.new.thread.kept in
    let only = c.copy_pair_slot.ensures.only in
    let state = c.gstate_xor_delta-state.ensures ∙ ap₂ gstate_xor c.delta.ensures c.sync_flip_delta.ensures ∙ ap (λ (k : KeptThread). gstate_xor (thread_pair k c.args.pair).content.move sync_bit_delta) (read_is t mid only) in
    let are = ap changes_view c.deref.ensures.value ∙ c.in_ok-changes.ensures
    ∙ ap₂ (λ m z. PutMove m ∷ Delete c.args.id ∷ Delete (id_after_removal c.args.id c.args.place) ∷ slot_creation_changes (id_after_removal c.args.id c.args.place) c.args.name.now z) state c.in_ok-copy.ensures.copied in
    let changes = replace_directory_changes t c.args.pair c.args.id c.args.place c.args.name.now in
    on_ok_weaker c.commit_without_split.result (λ is rename. renamed_over t c.args.pair c.args.id c.args.place c.args.name.now rename c.commit_without_split.new.thread.kept (changed_after_read t mid c.commit_without_split.new.thread.kept c.args.pair changes only
    (subst (λ z. IsPairCommitted mid c.args.pair z c.commit_without_split.new.thread.kept) are is))) c.commit_without_split.ensures.is_changed

pub returns-clause-errors : goal.returns-clause-errors
returns-clause-errors g c = over_later c.args.thread.now c.copy_pair_slot.new.thread c.commit_without_split.new.thread c.commit_without_split.result c.copy_pair_slot.ensures.only
    (c.copy_pair_slot.ensures.errors.no_fault (λ io. not_both c.copy_pair_slot.result c.in_ok-copy.copy Error.Io c.in_ok-copy.was io)) c.commit_without_split.ensures.errors

pub returns-clause-device : goal.returns-clause-device
returns-clause-device g c =
    let t = c.args.thread.now.kept in
    let mid = c.copy_pair_slot.new.thread.kept in
    let only = c.copy_pair_slot.ensures.only in
    blocks_after_read t mid c.commit_without_split.new.thread.kept (address_blocks (thread_pair t c.args.pair).at) only
    (subst (λ (k : KeptThread). ChangesThreadBlocks (address_blocks (thread_pair k c.args.pair).at) mid c.commit_without_split.new.thread.kept) (read_is t mid only) c.commit_without_split.ensures.device)

pub returns-clause-survives : goal.returns-clause-survives
returns-clause-survives g c rename =
    let t = c.args.thread.now.kept in
    let mid = c.copy_pair_slot.new.thread.kept in
    let only = c.copy_pair_slot.ensures.only in
    let state = c.gstate_xor_delta-state.ensures ∙ ap₂ gstate_xor c.delta.ensures c.sync_flip_delta.ensures ∙ ap (λ (k : KeptThread). gstate_xor (thread_pair k c.args.pair).content.move sync_bit_delta) (read_is t mid only) in
    let are = ap changes_view c.deref.ensures.value ∙ c.in_ok-changes.ensures
    ∙ ap₂ (λ m z. PutMove m ∷ Delete c.args.id ∷ Delete (id_after_removal c.args.id c.args.place) ∷ slot_creation_changes (id_after_removal c.args.id c.args.place) c.args.name.now z) state c.in_ok-copy.ensures.copied in
    let changes = replace_directory_changes t c.args.pair c.args.id c.args.place c.args.name.now in
    over_survives t c.args.pair c.args.id c.args.place c.args.name.now rename c.commit_without_split.new.thread.kept.history
    (change_stops_after_read t mid c.commit_without_split.new.thread.kept rename.can changes only c.commit_without_split.ensures.device
    (subst (λ z. CleanLossLeaves mid.history c.commit_without_split.new.thread.kept.history (LossLeavesPair mid c.args.pair z)) are c.commit_without_split.ensures.stops))
