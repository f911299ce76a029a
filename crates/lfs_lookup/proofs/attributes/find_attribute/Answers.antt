use Rattle.std.proofs.Common.{◌∙◌, ap, refl, arith, rules}
use Rattle.lfs_lookup.proofs.Common.{err_from_is_err_and, read_count, node_attributes_of, disk_tree, KeptThread}
use Rattle.lfs_lookup.proofs.AtPaths.{sized_on}
use Rattle.lfs_lookup.proofs.AttributeAtSlots.{are_held, held_later, slot_is_cached, slot_within}
use Rattle.lfs_lookup.proofs.Reading.{answered, answers, both, further, passed}
use Rattle.lfs_lookup.proofs.ShownFindings.{found_shown, in_entry}
use Rattle.lfs_lookup.proofs.attributes.find_attribute.Goals as goal

pub attribute_if_slot-requires : goal.attribute_if_slot-requires
attribute_if_slot-requires g c = record {
  works = c.look_up_path.ensures.reading.works;
  below = slot_within c.args.thread.now.kept c.args.path.now c.in_ok-shown.shown c.slot_of_lookup.result c.look_up_path.new.thread.kept.pairs c.in_ok-shown.ensures.shown c.slot_of_lookup.ensures c.look_up_path.ensures.reading.only.pairs;
  cached_log = slot_is_cached c.look_up_path.new.thread c.in_ok-shown.shown c.slot_of_lookup.result c.in_ok-shown.ensures.cached_log c.slot_of_lookup.ensures;
}

pub returns-in_err-bytes-clause-reading : goal.returns-in_err-bytes-clause-reading
returns-in_err-bytes-clause-reading g c =
    let p = err_from_is_err_and c.from_residual-in_err-bytes.result c.from_residual-in_err-bytes.ensures.1 in
    passed _ _ c.attribute_if_slot.result c.from_residual-in_err-bytes.result _ p.0 c.in_err-bytes.was p.1 p.2
    (further _ _ _ c.attribute_if_slot.result (answered _ _ c.look_up_path.result c.in_ok-shown.shown c.in_ok-shown.was c.look_up_path.ensures.reading) c.attribute_if_slot.ensures.reading)

pub returns-in_err-bytes-clause-reads : goal.returns-in_err-bytes-clause-reads
returns-in_err-bytes-clause-reads g c = record {
  few = (
      let f = c.look_up_path.ensures.reads.few in
      let e = ap (λ (t : KeptThread). read_count t.history) c.attribute_if_slot.ensures.no_call in
      omega (arith, f, e)
      );
  halves = λ settled slots. (
      let k = c.look_up_path.ensures.reads.halves settled slots in
      let e = ap (λ (t : KeptThread). read_count t.history) c.attribute_if_slot.ensures.no_call in
      omega (arith, k, e)
      );
  kept = λ there. ap (λ (t : KeptThread). read_count t.history) c.attribute_if_slot.ensures.no_call ∙ c.look_up_path.ensures.reads.loads.none there;
}

pub node_of_lookup-requires : goal.node_of_lookup-requires
node_of_lookup-requires g c = in_entry c.args.thread.now.kept c.args.path.now c.in_ok-shown.shown c.in_ok-shown.ensures.shown

pub returns-clause-found : goal.returns-clause-found
returns-clause-found g c =
    let t = c.args.thread.now.kept in
    let device = c.device-device.result.now in
    found_shown t c.args.path.now c.requires.accepted c.args.root c.in_ok-shown.shown c.node_of_lookup.result c.requires.root
    (sized_on g.D.BlockDevice device t.disk (g.D.BlockDevice.geometry device).block_count (c.device-device.ensures.disk ∙ c.attribute_if_slot.ensures.reading.only.disk ∙ c.look_up_path.ensures.reading.only.disk)
    (g.D.BlockDevice.geometry device).valid.no_smaller (g.met.D.BlockDevice.shape device))
    c.in_ok-shown.ensures.shown c.node_of_lookup.ensures

pub returns-clause-is : goal.returns-clause-is
returns-clause-is g c =
    let t = c.args.thread.now.kept in
    let held = are_held t c.args.path.now c.in_ok-shown.shown c.slot_of_lookup.result c.in_ok-shown.ensures.shown c.slot_of_lookup.ensures in
    c.in_ok-bytes.ensures.is (node_attributes_of (disk_tree t.disk t.pairs c.args.path.now)) (held_later t c.look_up_path.new.thread.kept c.slot_of_lookup.result _ c.look_up_path.ensures.reading.only.pairs held)

pub returns-clause-reads : goal.returns-clause-reads
returns-clause-reads g c = record {
  few = (
      let f = c.look_up_path.ensures.reads.few in
      let e = ap (λ (t : KeptThread). read_count t.history) c.attribute_if_slot.ensures.no_call in
      omega (arith, f, e)
      );
  halves = λ settled slots. (
      let k = c.look_up_path.ensures.reads.halves settled slots in
      let e = ap (λ (t : KeptThread). read_count t.history) c.attribute_if_slot.ensures.no_call in
      omega (arith, k, e)
      );
  kept = λ there. ap (λ (t : KeptThread). read_count t.history) c.attribute_if_slot.ensures.no_call ∙ c.look_up_path.ensures.reads.loads.none there;
}

pub returns-clause-reading : goal.returns-clause-reading
returns-clause-reading g c =
    answers _ _ _ _ refl (both _ _ _ (answered _ _ c.look_up_path.result c.in_ok-shown.shown c.in_ok-shown.was c.look_up_path.ensures.reading)
    (answered _ _ c.attribute_if_slot.result c.in_ok-bytes.bytes c.in_ok-bytes.was c.attribute_if_slot.ensures.reading))

pub returns-in_err-shown-clause-reads : goal.returns-in_err-shown-clause-reads
returns-in_err-shown-clause-reads g c = record {
  few = search rules;
  halves = search rules;
  kept = c.look_up_path.ensures.reads.loads.none;
}
