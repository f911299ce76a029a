use Rattle.std.proofs.Common.{subst, sym}
use Rattle.std.specs.Prelude.{OnOk}
use Rattle.lfs_tree.proofs.Common.{err_from_is_err_and, attributes_without, CanEditIn, HasRemovedAttribute, tree_setting_attributes, ChangesThreadBlocks, thread_pair, PowerLossLeavesEither, answered, passed, address_blocks}
use Rattle.lfs_tree.proofs.Carried.{read_is}
use Rattle.lfs_tree.proofs.CarryEdited.{can_edit, clear_does, entry_to_clear, slot_for, slot_found}
use Rattle.lfs_tree.proofs.ReportedFaults.{reported_by_reading}
use Rattle.lfs_tree.proofs.Operated.{only_read_change, works_reported}
use Rattle.lfs_tree.proofs.attributes_at.remove_attr_at.Goals as goal

pub found_entry_slot-slot-requires : goal.found_entry_slot-slot-requires
found_entry_slot-slot-requires g c = slot_found c.args.thread.now.kept c.args.path.now c.in_ok-target.target.found (entry_to_clear c.args.thread.now.kept c.args.path.now c.args.kind c.requires.can) c.in_ok-target.ensures.target.leads

pub remove_attribute-requires-clause-can : goal.remove_attribute-requires-clause-can
remove_attribute-requires-clause-can g c =
    let t = c.args.thread.now in
    let mid = c.find_at_path.new.thread in
    let s = c.found_entry_slot-slot.result in
    let slot = slot_for t.kept c.args.path.now c.in_ok-target.target.found s c.in_ok-target.ensures.target.leads c.found_entry_slot-slot.ensures in
    subst (λ k. CanEditIn k s.pair s.id) (sym (read_is t.kept mid.kept c.find_at_path.ensures.reading.only))
    (can_edit t c.args.root c.requires.rests c.args.path.now c.lemma_block_facts.ensures.large c.lemma_block_facts.ensures.bytes s slot mid.kept.history)

pub returns-in_err-target : goal.returns-in_err-target
returns-in_err-target g c =
    let p = err_from_is_err_and c.from_residual.result c.from_residual.ensures.1 in
    only_read_change c.args.thread.now c.args.root c.requires.rests c.find_at_path.new.thread _ _ c.from_residual.result p.0 p.1
    (passed _ _ c.find_at_path.result c.from_residual.result _ p.0 c.in_err-target.was p.1 p.2 c.find_at_path.ensures.reading)

pub returns : goal.returns
returns g c =
    let t = c.args.thread.now in
    let mid = c.find_at_path.new.thread in
    let s = c.found_entry_slot-slot.result in
    let slot = slot_for t.kept c.args.path.now c.in_ok-target.target.found s c.in_ok-target.ensures.target.leads c.found_entry_slot-slot.ensures in
    let new = c.remove_attribute.new.thread in
    let read = answered t mid c.find_at_path.result c.in_ok-target.target c.in_ok-target.was c.find_at_path.ensures.reading in
    let is = read_is t.kept mid.kept read.only in
    let e = c.remove_attribute.ensures in
    clear_does t c.args.root c.requires.rests c.args.path.now c.lemma_block_facts.ensures.large c.lemma_block_facts.ensures.bytes s slot mid.kept.history new c.remove_attribute.result c.args.kind c.lemma_path_bytes.ensures.0 c.lemma_path_bytes.ensures.1
    read.same read.only.reads (subst (λ k. ChangesThreadBlocks (address_blocks (thread_pair k s.pair).at) k new.kept) is e.device)
    (subst (λ k. OnOk c.remove_attribute.result ((can : CanEditIn k s.pair s.id) → HasRemovedAttribute k new.kept can.path can.name c.args.kind)) is e.is_removed)
    (reported_by_reading mid.kept new.kept c.remove_attribute.result e.errors.reported) (works_reported new c.remove_attribute.result e.errors.failed)
    (subst (λ k. (can : CanEditIn k s.pair s.id) → PowerLossLeavesEither k new.kept (tree_setting_attributes k can.path can.name (attributes_without c.args.kind))) is e.survives)
