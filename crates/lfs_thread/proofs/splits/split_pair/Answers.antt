use Rattle.std.proofs.Common.{◌+◌, ◌∙◌, Err, List, ap, refl, subst, sym, set, rules}
use Rattle.lfs_thread.proofs.Common.{err_from_is_err_and, BlockStates, IsInFlight, Used, address_of_array, HoldsAtLosses-weaker, PairHeader, disk_of_device, addresses_blocks}
use Rattle.lfs_thread.proofs.Changing.{at_there}
use Rattle.lfs_thread.proofs.Coming.{second_held}
use Rattle.lfs_thread.proofs.CachedPair.{cached_beside, reading_there}
use Rattle.lfs_thread.proofs.Parting.{can_split, device_split, device_is_split, left_by_split, placed}
use Rattle.lfs_thread.proofs.Reported.{errors_again, reports_of}
use Rattle.lfs_thread.proofs.splits.split_pair.Goals as goal
use Rattle.lfs_thread.proofs.CachedLogs.{current_without, first_gone}
use Rattle.lfs_model.proofs.Cache.{cached_bytes-without_same}
use Rattle.lfs_model.specs.layers.Cache.{cache_without}

pub split_cached-requires : goal.split_cached-requires
split_cached-requires g c = record {
  can =
      let a = at_there (disk_of_device g.D.BlockDevice c.args.parts.now.device) c.args.parts.now.pairs.items c.args.index c.index.result.now c.requires.can.can.below c.index.ensures in
      can_split _ _ _ c.args.parts.now.map c.args.index _ (address_of_array c.args.fresh) _ a c.requires.kept.0 c.requires.can;
  current = rw c.forget_cached_pair.ensures (current_without _ _ _ (current_without _ _ _ c.requires.kept.1));
  first = rw c.forget_cached_pair.ensures (first_gone c.args.parts.now.cache _ _);
  second = rw c.forget_cached_pair.ensures (cached_bytes-without_same (cache_without c.args.parts.now.cache (address_of_array c.args.fresh).0) (address_of_array c.args.fresh).1);
}

pub returns-in_err-fresh_pair-clause-stops : goal.returns-in_err-fresh_pair-clause-stops
returns-in_err-fresh_pair-clause-stops g c cleanly =
    let a = at_there (disk_of_device g.D.BlockDevice c.args.parts.now.device) c.args.parts.now.pairs.items c.args.index c.index.result.now c.requires.can.can.below c.index.ensures in
    HoldsAtLosses-weaker (λ left l. left_by_split _ _ c.args.parts.now.pairs.items c.args.parts.now.map c.args.index _ (address_of_array c.args.fresh) _ left a c.requires.kept.0 c.requires.can l) (c.in_err-fresh_pair.ensures.stops cleanly)

pub settle-requires-2 : goal.settle-requires-2
settle-requires-2 g c =
    subst (λ (s : BlockStates). IsInFlight s (address_of_array c.args.fresh).1) (sym c.settle.ensures) (second_held _ (address_of_array c.args.fresh) c.requires.can.held)

pub returns-clause-parts : goal.returns-clause-parts
returns-clause-parts g c = record {
  device =
      let disk = disk_of_device g.D.BlockDevice c.args.parts.now.device in
      let a = at_there disk c.args.parts.now.pairs.items c.args.index c.index.result.now c.requires.can.can.below c.index.ensures in
      let same = cached_beside disk (g.D.BlockDevice.history c.args.parts.now.device) c.args.parts.now.pairs.items c.args.parts.now.map c.args.index c.index.result.now a c.requires.kept.0 (address_of_array c.args.fresh) c.requires.can.held c.args.parts.now.cache c.forget_cached_pair.new.cache c.forget_cached_pair.ensures in
      reading_there disk (g.D.BlockDevice.history c.args.parts.now.device) c.args.parts.now.pairs.items c.args.parts.now.map c.args.index c.index.result.now a c.requires.kept.0
      g.D.BlockDevice c.args.parts.now.device c.split_cached.new.dev (λ at. addresses_blocks at (address_of_array c.args.fresh)) 3 c.args.parts.now.cache same c.in_ok-fresh_pair.ensures.device;
  kept =
      let a = at_there (disk_of_device g.D.BlockDevice c.args.parts.now.device) c.args.parts.now.pairs.items c.args.index c.index.result.now c.requires.can.can.below c.index.ensures in
      let e = c.in_ok-fresh_pair.ensures in
      device_split _ _ _ _ _ _ _ _ _ _ _ _ (address_of_array c.args.fresh) _ e.device.only.geometry a c.requires.kept.0 c.requires.can e.splits.splits e.device.only.others e.device.only.elsewhere _
      (ap (λ (z : List PairHeader). set (set z c.args.index c.split_cached.new.pair) (c.args.index + 1) c.in_ok-fresh_pair.fresh_pair) c.in_ok-insert.ensures.items ∙ placed _ _ _ _ _ c.in_ok-fresh_pair.fresh_pair a) _ (c.settle-2.ensures ∙ ap (λ (s : BlockStates). set s (address_of_array c.args.fresh).1 Used) c.settle.ensures);
  current = c.in_ok-fresh_pair.ensures.splits.current;
  order = refl;
}

pub returns-clause-is_split : goal.returns-clause-is_split
returns-clause-is_split g c =
    let a = at_there (disk_of_device g.D.BlockDevice c.args.parts.now.device) c.args.parts.now.pairs.items c.args.index c.index.result.now c.requires.can.can.below c.index.ensures in
    let e = c.in_ok-fresh_pair.ensures in
    device_is_split _ _ _ _ _ _ _ _ _ _ _ _ (address_of_array c.args.fresh) _ e.device.only.geometry a c.requires.kept.0 c.requires.can e.splits.splits e.device.only.others e.device.only.elsewhere _
    (ap (λ (z : List PairHeader). set (set z c.args.index c.split_cached.new.pair) (c.args.index + 1) c.in_ok-fresh_pair.fresh_pair) c.in_ok-insert.ensures.items ∙ placed _ _ _ _ _ c.in_ok-fresh_pair.fresh_pair a) _ (c.settle-2.ensures ∙ ap (λ (s : BlockStates). set s (address_of_array c.args.fresh).1 Used) c.settle.ensures)

pub returns-clause-stops : goal.returns-clause-stops
returns-clause-stops g c cleanly =
    let a = at_there (disk_of_device g.D.BlockDevice c.args.parts.now.device) c.args.parts.now.pairs.items c.args.index c.index.result.now c.requires.can.can.below c.index.ensures in
    HoldsAtLosses-weaker (λ left l. left_by_split _ _ c.args.parts.now.pairs.items c.args.parts.now.map c.args.index _ (address_of_array c.args.fresh) _ left a c.requires.kept.0 c.requires.can l) (c.in_ok-fresh_pair.ensures.stops cleanly)

pub returns-in_err-fresh_pair-clause-errors : goal.returns-in_err-fresh_pair-clause-errors
returns-in_err-fresh_pair-clause-errors g c =
    let p = err_from_is_err_and c.from_residual-in_err-fresh_pair.result c.from_residual-in_err-fresh_pair.ensures.1 in
    errors_again c.in_err-fresh_pair.field-0.0 (Err c.in_err-fresh_pair.field-0.0) c.from_residual-in_err-fresh_pair.result refl (p.1 ∙ ap Err p.2) (reports_of c.index.result.now c.split_cached.new.pair {result = Err c.in_err-fresh_pair.field-0.0} c.in_err-fresh_pair.ensures.error c.in_err-fresh_pair.ensures.faults)

pub returns-clause-errors : goal.returns-clause-errors
returns-clause-errors g c = record {
  errors = tt;
  faults = record { fault = λ gives. absurd (cc); no_fault = λ other. c.in_ok-fresh_pair.ensures.faults.no_fault (λ gives. absurd (cc)) };
  unwritten = λ gives. absurd (cc);
}

pub returns-in_err-fresh_pair-clause-parts : goal.returns-in_err-fresh_pair-clause-parts
returns-in_err-fresh_pair-clause-parts g c = record {
  device =
      let disk = disk_of_device g.D.BlockDevice c.args.parts.now.device in
      let a = at_there disk c.args.parts.now.pairs.items c.args.index c.index.result.now c.requires.can.can.below c.index.ensures in
      let same = cached_beside disk (g.D.BlockDevice.history c.args.parts.now.device) c.args.parts.now.pairs.items c.args.parts.now.map c.args.index c.index.result.now a c.requires.kept.0 (address_of_array c.args.fresh) c.requires.can.held c.args.parts.now.cache c.forget_cached_pair.new.cache c.forget_cached_pair.ensures in
      reading_there disk (g.D.BlockDevice.history c.args.parts.now.device) c.args.parts.now.pairs.items c.args.parts.now.map c.args.index c.index.result.now a c.requires.kept.0
      g.D.BlockDevice c.args.parts.now.device c.split_cached.new.dev (λ at. addresses_blocks at (address_of_array c.args.fresh)) 3 c.args.parts.now.cache same c.in_err-fresh_pair.ensures.device;
  kept = search rules;
  current = search rules;
  order = refl;
}
