use Rattle.std.proofs.Common.{length, ◌<◌, sym, ap, ap₂, subst, ◌∙◌, set, Ok, Err, refl, rules}
use Rattle.lfs_thread.proofs.Common.{length-set, disk_of_blocks, BlockStates, Free, HoldsAtLosses-weaker, header_address, PairHeader, map_freeing, address_blocks, err_from_is_err_and}
use Rattle.lfs_thread.proofs.CachedPair.{reading_there}
use Rattle.lfs_thread.proofs.Changing.{can_commit, left_in_thread, full_kept, refused}
use Rattle.lfs_thread.proofs.Dropped.{next_there, here_at, gone_is, next_used, device_dropped, device_is_dropped}
use Rattle.lfs_thread.proofs.drops.drop_next_pair.Goals as goal
use Rattle.lfs_thread.proofs.Reported.{errors_again, reports_of}

pub commit_cached-requires : goal.commit_cached-requires
commit_cached-requires g c = record {
  can =
      let n = next_there (disk_of_blocks (g.D.BlockDevice.geometry c.args.parts.now.device) (g.D.BlockDevice.blocks c.args.parts.now.device)) c.args.parts.now.pairs.items c.args.index c.index_mut-pair.result.now c.requires.can.below c.index_mut-pair.ensures.value in
      can_commit _ _ c.args.parts.now.pairs.items c.args.parts.now.map c.args.index _ _ (here_at _ _ _ n) c.requires.kept.0 c.requires.can.content c.requires.can.made;
  current = c.requires.kept.1;
}

pub returns-in_err-outcome-clause-stops : goal.returns-in_err-outcome-clause-stops
returns-in_err-outcome-clause-stops g c cleanly =
    let n = next_there (disk_of_blocks (g.D.BlockDevice.geometry c.args.parts.now.device) (g.D.BlockDevice.blocks c.args.parts.now.device)) c.args.parts.now.pairs.items c.args.index c.index_mut-pair.result.now c.requires.can.below c.index_mut-pair.ensures.value in
    HoldsAtLosses-weaker (λ left l. left_in_thread (disk_of_blocks (g.D.BlockDevice.geometry c.args.parts.now.device) (g.D.BlockDevice.blocks c.args.parts.now.device)) _ c.args.parts.now.pairs.items c.args.parts.now.map c.args.index _ _ left (here_at _ _ _ n) c.requires.kept.0 c.requires.can.content c.requires.can.made l) (c.in_err-outcome.ensures.stops cleanly)

pub returns-in-Full-clause-stops : goal.returns-in-Full-clause-stops
returns-in-Full-clause-stops g c cleanly =
    let n = next_there (disk_of_blocks (g.D.BlockDevice.geometry c.args.parts.now.device) (g.D.BlockDevice.blocks c.args.parts.now.device)) c.args.parts.now.pairs.items c.args.index c.index_mut-pair.result.now c.requires.can.below c.index_mut-pair.ensures.value in
    HoldsAtLosses-weaker (λ left l. left_in_thread (disk_of_blocks (g.D.BlockDevice.geometry c.args.parts.now.device) (g.D.BlockDevice.blocks c.args.parts.now.device)) _ c.args.parts.now.pairs.items c.args.parts.now.map c.args.index _ _ left (here_at _ _ _ n) c.requires.kept.0 c.requires.can.content c.requires.can.made l) (c.in_ok-outcome.ensures.stops cleanly)

pub returns-clause-stops : goal.returns-clause-stops
returns-clause-stops g c cleanly =
    let n = next_there (disk_of_blocks (g.D.BlockDevice.geometry c.args.parts.now.device) (g.D.BlockDevice.blocks c.args.parts.now.device)) c.args.parts.now.pairs.items c.args.index c.index_mut-pair.result.now c.requires.can.below c.index_mut-pair.ensures.value in
    HoldsAtLosses-weaker (λ left l. left_in_thread (disk_of_blocks (g.D.BlockDevice.geometry c.args.parts.now.device) (g.D.BlockDevice.blocks c.args.parts.now.device)) _ c.args.parts.now.pairs.items c.args.parts.now.map c.args.index _ _ left (here_at _ _ _ n) c.requires.kept.0 c.requires.can.content c.requires.can.made l) (c.in_ok-outcome.ensures.stops cleanly)

pub returns-in-Full-clause-parts : goal.returns-in-Full-clause-parts
returns-in-Full-clause-parts g c = record {
  device =
      let disk = disk_of_blocks (g.D.BlockDevice.geometry c.args.parts.now.device) (g.D.BlockDevice.blocks c.args.parts.now.device) in
      let n = next_there disk c.args.parts.now.pairs.items c.args.index c.index_mut-pair.result.now c.requires.can.below c.index_mut-pair.ensures.value in
      reading_there disk (g.D.BlockDevice.history c.args.parts.now.device) c.args.parts.now.pairs.items c.args.parts.now.map c.args.index c.index_mut-pair.result.now (here_at _ _ _ n) c.requires.kept.0
      g.D.BlockDevice c.args.parts.now.device c.commit_cached.new.dev address_blocks 1 c.args.parts.now.cache refl c.in_ok-outcome.ensures.device;
  kept =
      let n = next_there (disk_of_blocks (g.D.BlockDevice.geometry c.args.parts.now.device) (g.D.BlockDevice.blocks c.args.parts.now.device)) c.args.parts.now.pairs.items c.args.index c.index_mut-pair.result.now c.requires.can.below c.index_mut-pair.ensures.value in
      let e = c.in_ok-outcome.ensures in
      let full = ap Ok c.in-Full.is in
      full_kept _ _ _ _ c.args.parts.now.pairs.items _ c.args.index _ _ (here_at _ _ _ n) c.requires.kept.0 (ap₂ disk_of_blocks (e.ends.full full).device.geometry (e.ends.full full).device.same) (e.ends.full full).pair (e.ends.full full).device.reads;
  current = c.in_ok-outcome.ensures.ends.current;
  order = refl;
}

pub returns-in-Full-clause-ends : goal.returns-in-Full-clause-ends
returns-in-Full-clause-ends g c = record {
  done = λ gives. absurd (cc);
  full = λ _.
      let n = next_there (disk_of_blocks (g.D.BlockDevice.geometry c.args.parts.now.device) (g.D.BlockDevice.blocks c.args.parts.now.device)) c.args.parts.now.pairs.items c.args.index c.index_mut-pair.result.now c.requires.can.below c.index_mut-pair.ensures.value in
      let e = c.in_ok-outcome.ensures in
      let full = ap Ok c.in-Full.is in
      refused _ _ _ _ c.args.parts.now.pairs.items _ c.args.index _ _ _ c.requires.can.content (here_at _ _ _ n) c.requires.can.made (e.ends.full full).completed (ap₂ disk_of_blocks (e.ends.full full).device.geometry (e.ends.full full).device.same) (e.ends.full full).pair (e.ends.full full).device.reads;
}

pub release-requires : goal.release-requires
release-requires g c =
    let n = next_there (disk_of_blocks (g.D.BlockDevice.geometry c.args.parts.now.device) (g.D.BlockDevice.blocks c.args.parts.now.device)) c.args.parts.now.pairs.items c.args.index c.index_mut-pair.result.now c.requires.can.below c.index_mut-pair.ensures.value in
    let gone = gone_is _ _ _ _ _ n c.remove-gone.ensures.value in
    subst (λ (h : PairHeader). (header_address h).0 < length c.args.parts.now.map) (sym gone) (next_used _ _ _ _ _ _ n c.requires.kept.0).0

pub release-requires-2 : goal.release-requires-2
release-requires-2 g c =
    let n = next_there (disk_of_blocks (g.D.BlockDevice.geometry c.args.parts.now.device) (g.D.BlockDevice.blocks c.args.parts.now.device)) c.args.parts.now.pairs.items c.args.index c.index_mut-pair.result.now c.requires.can.below c.index_mut-pair.ensures.value in
    let gone = gone_is _ _ _ _ _ n c.remove-gone.ensures.value in
    subst (λ k. (header_address c.remove-gone.result).1 < k) (sym (ap length c.release.ensures ∙ length-set c.args.parts.now.map (header_address c.remove-gone.result).0 Free))
    (subst (λ (h : PairHeader). (header_address h).1 < length c.args.parts.now.map) (sym gone) (next_used _ _ _ _ _ _ n c.requires.kept.0).1)

pub returns-clause-parts : goal.returns-clause-parts
returns-clause-parts g c = record {
  device =
      let disk = disk_of_blocks (g.D.BlockDevice.geometry c.args.parts.now.device) (g.D.BlockDevice.blocks c.args.parts.now.device) in
      let n = next_there disk c.args.parts.now.pairs.items c.args.index c.index_mut-pair.result.now c.requires.can.below c.index_mut-pair.ensures.value in
      reading_there disk (g.D.BlockDevice.history c.args.parts.now.device) c.args.parts.now.pairs.items c.args.parts.now.map c.args.index c.index_mut-pair.result.now (here_at _ _ _ n) c.requires.kept.0
      g.D.BlockDevice c.args.parts.now.device c.commit_cached.new.dev address_blocks 1 c.args.parts.now.cache refl c.in_ok-outcome.ensures.device;
  kept =
      let n = next_there (disk_of_blocks (g.D.BlockDevice.geometry c.args.parts.now.device) (g.D.BlockDevice.blocks c.args.parts.now.device)) c.args.parts.now.pairs.items c.args.index c.index_mut-pair.result.now c.requires.can.below c.index_mut-pair.ensures.value in
      let gone = gone_is _ _ _ _ _ n c.remove-gone.ensures.value in
      let e = c.in_ok-outcome.ensures in
      device_dropped _ _ _ _ _ _ _ _ _ _ _ _ e.device.only.geometry n c.requires.kept.0 c.requires.can (e.ends.done (ap Ok c.in_default.is)) e.device.only.others e.device.only.elsewhere _ c.remove-gone.ensures.items _
      (c.release-2.ensures ∙ ap (λ (s : BlockStates). set s (header_address c.remove-gone.result).1 Free) c.release.ensures ∙ ap (λ (h : PairHeader). map_freeing c.args.parts.now.map (header_address h)) gone);
  current = c.in_ok-outcome.ensures.ends.current;
  order = refl;
}

pub returns-clause-ends : goal.returns-clause-ends
returns-clause-ends g c = record {
  done = λ _.
      let n = next_there (disk_of_blocks (g.D.BlockDevice.geometry c.args.parts.now.device) (g.D.BlockDevice.blocks c.args.parts.now.device)) c.args.parts.now.pairs.items c.args.index c.index_mut-pair.result.now c.requires.can.below c.index_mut-pair.ensures.value in
      let gone = gone_is _ _ _ _ _ n c.remove-gone.ensures.value in
      let e = c.in_ok-outcome.ensures in
      device_is_dropped _ _ _ _ _ _ _ _ _ _ _ _ e.device.only.geometry n c.requires.kept.0 c.requires.can (e.ends.done (ap Ok c.in_default.is)) e.device.only.others e.device.only.elsewhere _ c.remove-gone.ensures.items _
      (c.release-2.ensures ∙ ap (λ (s : BlockStates). set s (header_address c.remove-gone.result).1 Free) c.release.ensures ∙ ap (λ (h : PairHeader). map_freeing c.args.parts.now.map (header_address h)) gone);
  full = λ gives. absurd (cc);
}

pub returns-in_err-outcome-clause-parts : goal.returns-in_err-outcome-clause-parts
returns-in_err-outcome-clause-parts g c = record {
  device =
      let disk = disk_of_blocks (g.D.BlockDevice.geometry c.args.parts.now.device) (g.D.BlockDevice.blocks c.args.parts.now.device) in
      let n = next_there disk c.args.parts.now.pairs.items c.args.index c.index_mut-pair.result.now c.requires.can.below c.index_mut-pair.ensures.value in
      reading_there disk (g.D.BlockDevice.history c.args.parts.now.device) c.args.parts.now.pairs.items c.args.parts.now.map c.args.index c.index_mut-pair.result.now (here_at _ _ _ n) c.requires.kept.0
      g.D.BlockDevice c.args.parts.now.device c.commit_cached.new.dev address_blocks 1 c.args.parts.now.cache refl c.in_err-outcome.ensures.device;
  kept = search rules;
  current = search rules;
  order = refl;
}

pub returns-in_err-outcome-clause-errors : goal.returns-in_err-outcome-clause-errors
returns-in_err-outcome-clause-errors g c =
    let p = err_from_is_err_and c.from_residual.result c.from_residual.ensures.1 in
    errors_again c.in_err-outcome.field-0.0 _ c.from_residual.result c.in_err-outcome.was (p.1 ∙ ap Err p.2) (reports_of c.index_mut-pair.result.now c.commit_cached.new.pair c.commit_cached.ensures.error c.commit_cached.ensures.faults)

pub returns-in-Full-clause-errors : goal.returns-in-Full-clause-errors
returns-in-Full-clause-errors g c = record {
  errors = tt;
  faults = record { fault = λ gives. absurd (cc); no_fault = λ other. c.in_ok-outcome.ensures.faults.no_fault (λ gives. absurd (cc)) };
  unwritten = λ gives. absurd (cc);
}

pub returns-clause-errors : goal.returns-clause-errors
returns-clause-errors g c = record {
  errors = tt;
  faults = record { fault = λ gives. absurd (cc); no_fault = λ other. c.in_ok-outcome.ensures.faults.no_fault (λ gives. absurd (cc)) };
  unwritten = λ gives. absurd (cc);
}
