use Rattle.std.proofs.Common.{◌∙◌, ap, refl, sym, arith, rules}
use Rattle.lfs_lookup.proofs.Common.{err_from_is_err_and, read_count, KeptThread}
use Rattle.lfs_lookup.proofs.AtPaths.{sized_on}
use Rattle.lfs_lookup.proofs.BytesAtSlots.{file_of_path, file_since, not_file}
use Rattle.lfs_lookup.proofs.FileContentsAt.{contents_at, file_at_hand}
use Rattle.lfs_lookup.proofs.Reading.{answered, answers, both, further, passed}
use Rattle.lfs_lookup.proofs.ShownFindings.{found_shown, in_entry}
use Rattle.lfs_lookup.proofs.file_contents.find_file_contents.Goals as goal

pub node_of_lookup-finding-requires : goal.node_of_lookup-finding-requires
node_of_lookup-finding-requires g c = in_entry c.args.thread.now.kept c.args.path.now c.in_ok-shown.shown c.in_ok-shown.ensures.shown

pub contents_of_slot-requires-clause-file : goal.contents_of_slot-requires-clause-file
contents_of_slot-requires-clause-file g c =
    let t = c.args.thread.now.kept in
    let f = file_of_path t c.args.path.now c.in_ok-shown.shown c.in-Some.slot c.in-Some.contents c.requires.accepted c.in_ok-shown.ensures.shown (sym c.slot_of_file.ensures ∙ c.in-Some.is) in
    (f.held, file_since t c.look_up_path.new.thread.kept c.in-Some.slot c.in-Some.contents f.held c.look_up_path.ensures.reading.only.pairs c.look_up_path.ensures.reading.only.disk f.file)

pub contents_of_slot-requires-clause-cached_log : goal.contents_of_slot-requires-clause-cached_log
contents_of_slot-requires-clause-cached_log g c =
    file_at_hand c.look_up_path.new.thread c.in_ok-shown.shown c.in-Some.slot c.in-Some.contents c.in_ok-shown.ensures.cached_log (sym c.slot_of_file.ensures ∙ c.in-Some.is)

pub returns-clause-contents : goal.returns-clause-contents
returns-clause-contents g c =
    let t = c.args.thread.now.kept in
    let now = c.look_up_path.new.thread.kept in
    let f = file_of_path t c.args.path.now c.in_ok-shown.shown c.in-Some.slot c.in-Some.contents c.requires.accepted c.in_ok-shown.ensures.shown (sym c.slot_of_file.ensures ∙ c.in-Some.is) in
    let is = file_since t now c.in-Some.slot c.in-Some.contents f.held c.look_up_path.ensures.reading.only.pairs c.look_up_path.ensures.reading.only.disk f.file in
    contents_at t.pairs c.args.path.now f.held _ f.at (c.in_ok-contents.ensures.is f.held is)

pub returns-in_default-clause-contents : goal.returns-in_default-clause-contents
returns-in_default-clause-contents g c =
    not_file c.args.thread.now.kept c.args.path.now c.in_ok-shown.shown c.in_ok-shown.ensures.shown (sym c.slot_of_file.ensures ∙ c.in_default.is)

pub returns-clause-found : goal.returns-clause-found
returns-clause-found g c =
    let t = c.args.thread.now.kept in
    let device = c.device-device.result.now in
    found_shown t c.args.path.now c.requires.accepted c.args.root c.in_ok-shown.shown c.node_of_lookup-finding.result c.requires.root
    (sized_on g.D.BlockDevice device t.disk (g.D.BlockDevice.geometry device).block_count (c.device-device.ensures.disk ∙ c.look_up_path.ensures.reading.only.disk)
    (g.D.BlockDevice.geometry device).valid.no_smaller (g.met.D.BlockDevice.shape device))
    c.in_ok-shown.ensures.shown c.node_of_lookup-finding.ensures

pub returns-in_default-clause-found : goal.returns-in_default-clause-found
returns-in_default-clause-found g c =
    let t = c.args.thread.now.kept in
    let device = c.device-device.result.now in
    found_shown t c.args.path.now c.requires.accepted c.args.root c.in_ok-shown.shown c.node_of_lookup-finding.result c.requires.root
    (sized_on g.D.BlockDevice device t.disk (g.D.BlockDevice.geometry device).block_count (c.device-device.ensures.disk ∙ c.look_up_path.ensures.reading.only.disk)
    (g.D.BlockDevice.geometry device).valid.no_smaller (g.met.D.BlockDevice.shape device))
    c.in_ok-shown.ensures.shown c.node_of_lookup-finding.ensures

pub returns-clause-reads : goal.returns-clause-reads
returns-clause-reads g c = record {
  few = (
      let f = c.look_up_path.ensures.reads.few in
      let e = ap (λ (t : KeptThread). read_count t.history) c.contents_of_slot.ensures.no_call in
      omega (arith, f, e)
      );
  halves = λ settled slots. (
      let k = c.look_up_path.ensures.reads.halves settled slots in
      let e = ap (λ (t : KeptThread). read_count t.history) c.contents_of_slot.ensures.no_call in
      omega (arith, k, e)
      );
  kept = λ there. ap (λ (t : KeptThread). read_count t.history) c.contents_of_slot.ensures.no_call ∙ c.look_up_path.ensures.reads.loads.none there;
}

pub returns-in_err-contents-clause-reads : goal.returns-in_err-contents-clause-reads
returns-in_err-contents-clause-reads g c = record {
  few = (
      let f = c.look_up_path.ensures.reads.few in
      let e = ap (λ (t : KeptThread). read_count t.history) c.contents_of_slot.ensures.no_call in
      omega (arith, f, e)
      );
  halves = λ settled slots. (
      let k = c.look_up_path.ensures.reads.halves settled slots in
      let e = ap (λ (t : KeptThread). read_count t.history) c.contents_of_slot.ensures.no_call in
      omega (arith, k, e)
      );
  kept = λ there. ap (λ (t : KeptThread). read_count t.history) c.contents_of_slot.ensures.no_call ∙ c.look_up_path.ensures.reads.loads.none there;
}

pub returns-in_default-clause-reads : goal.returns-in_default-clause-reads
returns-in_default-clause-reads g c = record {
  few = search rules;
  halves = search rules;
  kept = c.look_up_path.ensures.reads.loads.none;
}

pub returns-in_err-shown-clause-reads : goal.returns-in_err-shown-clause-reads
returns-in_err-shown-clause-reads g c = record {
  few = search rules;
  halves = search rules;
  kept = c.look_up_path.ensures.reads.loads.none;
}

pub returns-clause-reading : goal.returns-clause-reading
returns-clause-reading g c =
    answers _ _ _ _ refl (both _ _ _ (answered _ _ c.look_up_path.result c.in_ok-shown.shown c.in_ok-shown.was c.look_up_path.ensures.reading)
    (answered _ _ c.contents_of_slot.result c.in_ok-contents.contents c.in_ok-contents.was c.contents_of_slot.ensures.reading))

pub returns-in_default-clause-reading : goal.returns-in_default-clause-reading
returns-in_default-clause-reading g c =
    answers _ _ _ _ refl (answered _ _ c.look_up_path.result c.in_ok-shown.shown c.in_ok-shown.was c.look_up_path.ensures.reading)

pub returns-in_err-contents-clause-reading : goal.returns-in_err-contents-clause-reading
returns-in_err-contents-clause-reading g c =
    let p = err_from_is_err_and c.from_residual-in_err-contents.result c.from_residual-in_err-contents.ensures.1 in
    passed _ _ c.contents_of_slot.result c.from_residual-in_err-contents.result _ p.0 c.in_err-contents.was p.1 p.2
    (further _ _ _ c.contents_of_slot.result (answered _ _ c.look_up_path.result c.in_ok-shown.shown c.in_ok-shown.was c.look_up_path.ensures.reading) c.contents_of_slot.ensures.reading)
