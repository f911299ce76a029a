use Rattle.std.proofs.Common.{subst, sym}
use Rattle.std.specs.Prelude.{OnOk}
use Rattle.lfs_tree.proofs.Common.{err_from_is_err_and, attributes_with, WritesPairAndTwoFree, CanSetAttribute, HasSetAttribute, tree_setting_attributes, HasFreeBlocks, KeptThread, PowerLossLeavesEither, answered, passed}
use Rattle.lfs_tree.proofs.Carried.{read_is}
use Rattle.lfs_tree.proofs.CarryEdited.{can_set, entry_to_set, set_does, slot_for, slot_found}
use Rattle.lfs_tree.proofs.CarryRooms.{room_for}
use Rattle.lfs_tree.proofs.ReportedFaults.{reported_with_room}
use Rattle.lfs_tree.proofs.Operated.{only_read_change, works_put}
use Rattle.lfs_tree.proofs.attributes_at.set_attr_at.Goals as goal

pub found_entry_slot-slot-requires : goal.found_entry_slot-slot-requires
found_entry_slot-slot-requires g c = slot_found c.args.thread.now.kept c.args.path.now c.in_ok-target.target.found (entry_to_set c.args.thread.now.kept c.args.path.now c.args.kind c.args.bytes.now c.requires.can) c.in_ok-target.ensures.target.leads

pub set_attribute-requires-clause-can : goal.set_attribute-requires-clause-can
set_attribute-requires-clause-can g c =
    let t = c.args.thread.now in
    let mid = c.find_at_path.new.thread in
    let s = c.found_entry_slot-slot.result in
    let slot = slot_for t.kept c.args.path.now c.in_ok-target.target.found s c.in_ok-target.ensures.target.leads c.found_entry_slot-slot.ensures in
    subst (λ k. CanSetAttribute k s.pair s.id c.args.kind c.args.bytes.now) (sym (read_is t.kept mid.kept c.find_at_path.ensures.reading.only))
    (can_set t c.args.root c.requires.rests c.args.path.now c.lemma_block_facts.ensures.large c.lemma_block_facts.ensures.bytes s slot mid.kept.history c.args.kind c.args.bytes.now c.requires.can)

pub returns-in_err-target : goal.returns-in_err-target
returns-in_err-target g c =
    let p = err_from_is_err_and c.from_residual.result c.from_residual.ensures.1 in
    only_read_change c.args.thread.now c.args.root c.requires.rests c.find_at_path.new.thread _ _ c.from_residual.result p.0 p.1
    (passed _ _ c.find_at_path.result c.from_residual.result _ p.0 c.in_err-target.was p.1 p.2 c.find_at_path.ensures.reading)

pub returns : goal.returns
returns g c =
    let t = c.args.thread.now in
    let mid = c.find_at_path.new.thread in
    let s = c.found_entry_slot-slot.result in
    let slot = slot_for t.kept c.args.path.now c.in_ok-target.target.found s c.in_ok-target.ensures.target.leads c.found_entry_slot-slot.ensures in
    let new = c.set_attribute.new.thread in
    let read = answered t mid c.find_at_path.result c.in_ok-target.target c.in_ok-target.was c.find_at_path.ensures.reading in
    let is = read_is t.kept mid.kept read.only in
    let e = c.set_attribute.ensures in
    set_does t c.args.root c.requires.rests c.args.path.now c.lemma_block_facts.ensures.large c.lemma_block_facts.ensures.bytes s slot mid.kept.history new c.set_attribute.result c.args.kind c.args.bytes.now c.lemma_path_bytes.ensures.0 c.lemma_path_bytes.ensures.1 c.requires.can
    read.same read.only.reads (subst (λ k. WritesPairAndTwoFree k s.pair new.kept) is e.device)
    (subst (λ k. OnOk c.set_attribute.result ((set : CanSetAttribute k s.pair s.id c.args.kind c.args.bytes.now) → HasSetAttribute k new.kept set.can.path set.can.name c.args.kind c.args.bytes.now)) is e.is_set)
    (reported_with_room mid.kept new.kept c.set_attribute.result (subst (λ (k : KeptThread). HasFreeBlocks 2 k.map) (sym is) (room_for t.kept 2 c.requires.rests.held.sound c.requires.can.room)) e.errors.reports.reports) (works_put new c.set_attribute.result e.errors.reports.failed)
    (subst (λ k. (set : CanSetAttribute k s.pair s.id c.args.kind c.args.bytes.now) → PowerLossLeavesEither k new.kept (tree_setting_attributes k set.can.path set.can.name (attributes_with c.args.kind c.args.bytes.now))) is e.survives)
