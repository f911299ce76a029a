use Rattle.std.proofs.Common.{ap, sym, ◌∙◌, Err, rules}
use Rattle.lfs_tree.proofs.Common.{err_from_is_err_and, Path, HasSameBlocksInFlight, editable_slot, IsRecoveredWritableImage, CanRemoveFile, HasRemovedEntry, RemovalKeepsUnrelatedBlocks}
use Rattle.lfs_tree.proofs.CarryFreed.{can_free, file_writes, files_stay, ok_both, shape_geometry, writes_then}
use Rattle.lfs_tree.proofs.CarryGone.{file_gone, freeing_survives, removal_survives, steps_both, steps_from}
use Rattle.lfs_tree.proofs.CarrySpared.{file_spares}
use Rattle.lfs_tree.proofs.removals_at.remove_with_list.Goals as goal

pub remove_file-requires-clause-can : goal.remove_file-requires-clause-can
remove_file-requires-clause-can g c = c.requires.can.1.take

pub free_file_blocks-requires : goal.free_file_blocks-requires
free_file_blocks-requires g c =
    let t = c.args.thread.now.kept in
    let mid = c.remove_file.new.thread.kept in
    let s = c.args.slot in
    let take = c.requires.can.1 in
    let w = c.remove_file.ensures.device in
    let is = c.in_ok-remove_file.ensures.is_removed take.take in
    record {
      works = search rules;
      can = can_free t mid s.pair s.id take.take.can c.args.contents take.shows (shape_geometry t mid w.shape) (files_stay t mid s.pair s.id c.args.parent take.take.can w) is.now.ready is.once;
    }

pub returns-in_err-remove_file-clause-errors : goal.returns-in_err-remove_file-clause-errors
returns-in_err-remove_file-clause-errors g c =
    let p = err_from_is_err_and c.from_residual.result c.from_residual.ensures.1 in
    steps_from c.args.thread.now c.remove_file.new.thread p.0 c.remove_file.result c.from_residual.result (c.in_err-remove_file.was ∙ ap Err (sym p.2)) p.1 c.remove_file.ensures.errors

pub returns-in_err-remove_file-clause-device : goal.returns-in_err-remove_file-clause-device
returns-in_err-remove_file-clause-device g c =
    let s = c.args.slot in
    file_writes c.args.thread.now.kept c.remove_file.new.thread.kept s.pair s.id c.args.parent c.requires.can.1.take.can c.remove_file.ensures.device

pub returns-clause-gone : goal.returns-clause-gone
returns-clause-gone g c =
    let t = c.args.thread.now.kept in
    let mid = c.remove_file.new.thread.kept in
    let new = c.free_file_blocks.new.thread.kept in
    ok_both c.free_file_blocks.result (IsRecoveredWritableImage new) (HasSameBlocksInFlight mid.map new.map) ((path : Path) → CanRemoveFile t path c.args.parent c.args.slot c.args.contents → HasRemovedEntry t path new)
    (λ ready flying path take. file_gone t mid new path take.take.can.path take.take.can.name (editable_slot take.take.can).struct take.is (c.in_ok-remove_file.ensures.is_removed take.take) c.free_file_blocks.ensures.only ready flying)
    c.free_file_blocks.ensures.ready c.free_file_blocks.ensures.flying

pub returns-clause-alone : goal.returns-clause-alone
returns-clause-alone g c =
    let t = c.args.thread.now.kept in
    let mid = c.remove_file.new.thread.kept in
    let new = c.free_file_blocks.new.thread.kept in
    let s = c.args.slot in
    ok_both c.free_file_blocks.result (IsRecoveredWritableImage new) (HasSameBlocksInFlight mid.map new.map) ((path : Path) → CanRemoveFile t path c.args.parent c.args.slot c.args.contents → RemovalKeepsUnrelatedBlocks t path new)
    (λ ready flying path take. file_spares t mid new path s.pair s.id c.args.parent take.take take.is c.in_ok-remove_file.ensures.alters c.remove_file.ensures.device c.free_file_blocks.ensures.only)
    c.free_file_blocks.ensures.ready c.free_file_blocks.ensures.flying

pub returns-clause-errors : goal.returns-clause-errors
returns-clause-errors g c = steps_both c.args.thread.now c.remove_file.new.thread c.free_file_blocks.new.thread c.in_ok-remove_file.field-0 c.remove_file.result c.free_file_blocks.result c.in_ok-remove_file.was c.remove_file.ensures.errors c.free_file_blocks.ensures.failed c.free_file_blocks.ensures.reports

pub returns-clause-device : goal.returns-clause-device
returns-clause-device g c =
    let s = c.args.slot in
    let t = c.args.thread.now.kept in
    file_writes t c.free_file_blocks.new.thread.kept s.pair s.id c.args.parent c.requires.can.1.take.can (writes_then t c.remove_file.new.thread.kept c.free_file_blocks.new.thread.kept _ c.remove_file.ensures.device c.free_file_blocks.ensures.only)

pub returns-in_err-remove_file-clause-survives : goal.returns-in_err-remove_file-clause-survives
returns-in_err-remove_file-clause-survives g c path take =
    removal_survives c.args.thread.now.kept c.remove_file.new.thread.kept path take.take.can.path take.take.can.name take.is (c.remove_file.ensures.survives take.take)

pub returns-clause-survives : goal.returns-clause-survives
returns-clause-survives g c path take =
    freeing_survives c.args.thread.now.kept c.remove_file.new.thread.kept c.free_file_blocks.new.thread.kept path take.take.can.path take.take.can.name (editable_slot take.take.can).struct _ take.is c.remove_file.ensures.device
    (c.in_ok-remove_file.ensures.is_removed take.take) c.free_file_blocks.ensures.only (c.remove_file.ensures.survives take.take)
