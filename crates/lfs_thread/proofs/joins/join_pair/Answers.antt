use Rattle.std.proofs.Common.{◌≤◌, ◌<◌, ◌+◌, ◌∙◌, Err, Ok, List, ap, ap₂, arith, subst, sym, set, length, remove, refl, rules}
use Rattle.lfs_thread.proofs.Common.{err_from_is_err_and, disk_pair_at, length-map, disk_of_blocks, SameExceptBlocks, BlockStates, IsInFlight, Used, address_of_array, fault_count-since, changes_view, header_address, ReportsWritingNothing, PairHeader, IsKeptOnDisk, disk_of_device, kept_view, kept_of_device, RefusesThreading, address_blocks, addresses_blocks}
use Rattle.lfs_thread.proofs.CachedLogs.{current_but_two}
use Rattle.lfs_thread.proofs.Changing.{at_there}
use Rattle.lfs_thread.proofs.Coming.{held_address, second_held}
use Rattle.lfs_thread.proofs.CachedPair.{cached_beside, reading_there}
use Rattle.lfs_thread.specs.Joins.{headers_without, reads_behind, source_index}
use Rattle.lfs_thread.proofs.WrittenBehind.{can_write}
use Rattle.lfs_thread.proofs.Threaded.{device_can, device_left_beside, device_stops, beside_read, is_beside, device_joined, device_is_joined, unplaced, source_below, can_drop, freed}
use Rattle.lfs_thread.proofs.Parting.{placed}
use Rattle.lfs_thread.proofs.Reported.{errors_keeping, changes_by_fresh, changes_by_both, reports_of}
use Rattle.lfs_thread.proofs.joins.join_pair.Goals as goal

pub source_of-source-requires : goal.source_of-source-requires
source_of-source-requires g c =
    subst (λ n. source_index c.args.index c.args.behind < n) (length-map c.args.parts.now.pairs.items (λ h. disk_pair_at (disk_of_device g.D.BlockDevice c.args.parts.now.device) (header_address h)))
    (source_below c.args.behind (kept_of_device g.D.BlockDevice c.args.parts.now.device c.args.parts.now.pairs.items c.args.parts.now.map) c.args.index c.requires.can.below c.requires.holds)

pub write_behind-requires : goal.write_behind-requires
write_behind-requires g c =
    let at_source = at_there (disk_of_device g.D.BlockDevice c.args.parts.now.device) c.args.parts.now.pairs.items (source_index c.args.index c.args.behind) c.source_of-source.result (source_below c.args.behind (kept_of_device g.D.BlockDevice c.args.parts.now.device c.args.parts.now.pairs.items c.args.parts.now.map) c.args.index c.requires.can.below c.requires.holds) c.source_of-source.ensures in
    let few : length (g.D.BlockDevice.blocks c.args.parts.now.device) ≤ 65536 = let s = (g.met.D.BlockDevice.shape c.args.parts.now.device).count in let m = (g.D.BlockDevice.geometry c.args.parts.now.device).valid.no_more in omega arith in
    can_write c.args.behind _ _ c.args.parts.now.pairs.items c.args.parts.now.map c.args.index c.source_of-source.result (address_of_array c.args.fresh) at_source c.requires.kept.0 (held_address _ _ _ _ _ c.requires.kept.0 c.requires.can.held) few c.requires.holds

pub returns-in_err-fresh_pair-clause-parts : goal.returns-in_err-fresh_pair-clause-parts
returns-in_err-fresh_pair-clause-parts g c = record {
  device =
      let a = at_there (disk_of_device g.D.BlockDevice c.args.parts.now.device) c.args.parts.now.pairs.items c.args.index c.index.result.now c.requires.can.below c.index.ensures in
      let e = c.in_err-fresh_pair.ensures in
      record { only = changes_by_fresh g.D.BlockDevice _ (address_of_array c.args.fresh) e.device.only; few = let first = e.device.few in omega (arith, first) };
  kept = search rules;
  current = search rules;
  order = refl;
}

pub returns-in_err-fresh_pair-clause-errors : goal.returns-in_err-fresh_pair-clause-errors
returns-in_err-fresh_pair-clause-errors g c =
    let p = err_from_is_err_and c.from_residual-in_err-fresh_pair.result c.from_residual-in_err-fresh_pair.ensures.1 in
    errors_keeping (address_blocks (address_of_array c.args.fresh)) c.in_err-fresh_pair.field-0.0 (Err c.in_err-fresh_pair.field-0.0) c.from_residual-in_err-fresh_pair.result refl (p.1 ∙ ap Err p.2) c.in_err-fresh_pair.ensures.error c.in_err-fresh_pair.ensures.faults c.in_err-fresh_pair.ensures.device.only.others

pub returns-in_err-fresh_pair-clause-stops : goal.returns-in_err-fresh_pair-clause-stops
returns-in_err-fresh_pair-clause-stops g c cleanly =
    let a = at_there (disk_of_device g.D.BlockDevice c.args.parts.now.device) c.args.parts.now.pairs.items c.args.index c.index.result.now c.requires.can.below c.index.ensures in
    let e = c.in_err-fresh_pair.ensures in
    device_left_beside _ _ _ _ _ _ c.args.parts.now.pairs.items c.args.parts.now.map c.args.index c.index.result.now (address_of_array c.args.fresh) _ c.args.behind e.device.only.geometry a c.requires.kept.0 c.requires.can e.device.only.others e.device.only.elsewhere e.device.only.at_worst

pub commit_cached-requires : goal.commit_cached-requires
commit_cached-requires g c = record {
  can =
      let a = at_there (disk_of_device g.D.BlockDevice c.args.parts.now.device) c.args.parts.now.pairs.items c.args.index c.index.result.now c.requires.can.below c.index.ensures in
      let e = c.in_ok-fresh_pair.ensures in
      device_can _ _ _ _ _ _ c.args.parts.now.pairs.items c.args.parts.now.map c.args.index c.index.result.now (address_of_array c.args.fresh) _ c.args.behind e.device.only.geometry a c.requires.kept.0 c.requires.can e.device.only.others e.device.only.elsewhere;
  current = current_but_two _ _ _ _ (address_of_array c.args.fresh) c.requires.kept.1 c.forget_cached_pair.ensures c.in_ok-fresh_pair.ensures.device.only.others;
}

pub returns-in_err-outcome-clause-parts : goal.returns-in_err-outcome-clause-parts
returns-in_err-outcome-clause-parts g c = record {
  device =
      let disk = disk_of_device g.D.BlockDevice c.args.parts.now.device in
      let history = g.D.BlockDevice.history c.args.parts.now.device in
      let a = at_there disk c.args.parts.now.pairs.items c.args.index c.index.result.now c.requires.can.below c.index.ensures in
      let fresh = c.in_ok-fresh_pair.ensures.device in
      let commit = c.in_err-outcome.ensures.device in
      let same = cached_beside disk history c.args.parts.now.pairs.items c.args.parts.now.map c.args.index c.index.result.now a c.requires.kept.0 (address_of_array c.args.fresh) c.requires.can.held c.args.parts.now.cache c.forget_cached_pair.new.cache c.forget_cached_pair.ensures in
      reading_there disk history c.args.parts.now.pairs.items c.args.parts.now.map c.args.index c.index.result.now a c.requires.kept.0
      g.D.BlockDevice c.args.parts.now.device c.commit_cached.new.dev (λ at. addresses_blocks at (address_of_array c.args.fresh)) (reads_behind c.args.behind + 1) c.args.parts.now.cache same
      (record {
        only = changes_by_both g.D.BlockDevice (header_address c.index.result.now) (address_of_array c.args.fresh) fresh.only commit.only;
        few = let first = fresh.few in let second = commit.few in omega (arith, first, second);
      });
  kept = search rules;
  current = search rules;
  order = refl;
}

pub returns-in_err-outcome-clause-errors : goal.returns-in_err-outcome-clause-errors
returns-in_err-outcome-clause-errors g c =
    let p = err_from_is_err_and c.from_residual-in_err-outcome.result c.from_residual-in_err-outcome.ensures.1 in
    let t = subst (λ r. ReportsWritingNothing g.D.BlockDevice c.write_behind.new.dev c.commit_cached.new.dev r) (sym (p.1 ∙ ap Err p.2)) (reports_of c.index.result.now c.commit_cached.new.pair {result = Err c.in_err-outcome.field-0.0} c.in_err-outcome.ensures.error c.in_err-outcome.ensures.faults) in
    let so_far = fault_count-since c.in_ok-fresh_pair.ensures.device.only.at_worst in
    record {
      errors = t.errors;
      faults = record {
        fault = λ e. let rose = t.faults.fault e in omega arith;
        no_fault = λ e. t.faults.no_fault e ∙ c.in_ok-fresh_pair.ensures.faults.no_fault (λ gives. absurd (cc));
      };
      beside = λ e. subst (λ blocks. SameExceptBlocks (address_blocks (address_of_array c.args.fresh)) (g.D.BlockDevice.blocks c.args.parts.now.device) blocks) (sym (t.unwritten e).same) c.in_ok-fresh_pair.ensures.device.only.others;
    }

pub returns-in_err-outcome-clause-stops : goal.returns-in_err-outcome-clause-stops
returns-in_err-outcome-clause-stops g c =
    let a = at_there (disk_of_device g.D.BlockDevice c.args.parts.now.device) c.args.parts.now.pairs.items c.args.index c.index.result.now c.requires.can.below c.index.ensures in
    let at_source = at_there (disk_of_device g.D.BlockDevice c.args.parts.now.device) c.args.parts.now.pairs.items (source_index c.args.index c.args.behind) c.source_of-source.result (source_below c.args.behind (kept_of_device g.D.BlockDevice c.args.parts.now.device c.args.parts.now.pairs.items c.args.parts.now.map) c.args.index c.requires.can.below c.requires.holds) c.source_of-source.ensures in
    let few : length (g.D.BlockDevice.blocks c.args.parts.now.device) ≤ 65536 = let s = (g.met.D.BlockDevice.shape c.args.parts.now.device).count in let m = (g.D.BlockDevice.geometry c.args.parts.now.device).valid.no_more in omega arith in
    let e = c.in_ok-fresh_pair.ensures in
    let k = c.in_err-outcome.ensures in
    device_stops _ _ _ _ _ _ c.args.parts.now.pairs.items c.args.parts.now.map c.args.index c.index.result.now (address_of_array c.args.fresh) _ c.args.behind e.device.only.geometry a c.requires.kept.0 c.requires.can e.device.only.others e.device.only.elsewhere c.source_of-source.result _ at_source c.requires.holds e.written few
    _ e.device.only.at_worst k.device.only.at_worst k.stops

pub returns-in-Full-clause-parts : goal.returns-in-Full-clause-parts
returns-in-Full-clause-parts g c = record {
  device =
      let disk = disk_of_device g.D.BlockDevice c.args.parts.now.device in
      let history = g.D.BlockDevice.history c.args.parts.now.device in
      let a = at_there disk c.args.parts.now.pairs.items c.args.index c.index.result.now c.requires.can.below c.index.ensures in
      let fresh = c.in_ok-fresh_pair.ensures.device in
      let commit = c.in_ok-outcome.ensures.device in
      let same = cached_beside disk history c.args.parts.now.pairs.items c.args.parts.now.map c.args.index c.index.result.now a c.requires.kept.0 (address_of_array c.args.fresh) c.requires.can.held c.args.parts.now.cache c.forget_cached_pair.new.cache c.forget_cached_pair.ensures in
      reading_there disk history c.args.parts.now.pairs.items c.args.parts.now.map c.args.index c.index.result.now a c.requires.kept.0
      g.D.BlockDevice c.args.parts.now.device c.commit_cached.new.dev (λ at. addresses_blocks at (address_of_array c.args.fresh)) (reads_behind c.args.behind + 1) c.args.parts.now.cache same
      (record {
        only = changes_by_both g.D.BlockDevice (header_address c.index.result.now) (address_of_array c.args.fresh) fresh.only commit.only;
        few = let first = fresh.few in let second = commit.few in omega (arith, first, second);
      });
  kept =
      let disk = disk_of_device g.D.BlockDevice c.args.parts.now.device in
      let a = at_there disk c.args.parts.now.pairs.items c.args.index c.index.result.now c.requires.can.below c.index.ensures in
      let e = c.in_ok-fresh_pair.ensures in
      let full = (c.in_ok-outcome.ensures.ends.full (ap Ok c.in-Full.is)).device in
      let items = c.remove.ensures.items ∙ ap (λ (z : List PairHeader). remove z (c.args.index + 1)) c.in_ok-insert.ensures.items ∙ unplaced _ _ _ _ a in
      subst (λ (z : List PairHeader). IsKeptOnDisk (disk_of_device g.D.BlockDevice c.commit_cached.new.dev) (g.D.BlockDevice.history c.commit_cached.new.dev) z c.args.parts.now.map) (sym items)
      (beside_read _ _ _ _ _ _ c.args.parts.now.pairs.items c.args.parts.now.map c.args.index c.index.result.now (address_of_array c.args.fresh) _ c.args.behind e.device.only.geometry a c.requires.kept.0 c.requires.can e.device.only.others e.device.only.elsewhere _ _ (ap₂ disk_of_blocks full.geometry full.same) full.reads);
  current = c.in_ok-outcome.ensures.ends.current;
  order = refl;
}

pub returns-in-Full-clause-ends : goal.returns-in-Full-clause-ends
returns-in-Full-clause-ends g c = record {
  done = λ gives. absurd (cc);
  full = λ _.
      let disk = disk_of_device g.D.BlockDevice c.args.parts.now.device in
      let a = at_there disk c.args.parts.now.pairs.items c.args.index c.index.result.now c.requires.can.below c.index.ensures in
      let e = c.in_ok-fresh_pair.ensures in
      let full = (c.in_ok-outcome.ensures.ends.full (ap Ok c.in-Full.is)).device in
      let items = c.remove.ensures.items ∙ ap (λ (z : List PairHeader). remove z (c.args.index + 1)) c.in_ok-insert.ensures.items ∙ unplaced _ _ _ _ a in
      subst (λ (z : List PairHeader). RefusesThreading (kept_of_device g.D.BlockDevice c.args.parts.now.device c.args.parts.now.pairs.items c.args.parts.now.map) c.args.index (address_of_array c.args.fresh) (changes_view c.args.changes.now) (kept_view (disk_of_device g.D.BlockDevice c.commit_cached.new.dev) (g.D.BlockDevice.history c.commit_cached.new.dev) z c.args.parts.now.map)) (sym items)
      (is_beside _ _ _ _ _ _ c.args.parts.now.pairs.items c.args.parts.now.map c.args.index c.index.result.now (address_of_array c.args.fresh) _ c.args.behind e.device.only.geometry a c.requires.kept.0 c.requires.can e.device.only.others e.device.only.elsewhere _ (g.D.BlockDevice.history c.commit_cached.new.dev) (ap₂ disk_of_blocks full.geometry full.same) (c.in_ok-outcome.ensures.ends.full (ap Ok c.in-Full.is)).completed);
}

pub returns-in-Full-clause-stops : goal.returns-in-Full-clause-stops
returns-in-Full-clause-stops g c =
    let a = at_there (disk_of_device g.D.BlockDevice c.args.parts.now.device) c.args.parts.now.pairs.items c.args.index c.index.result.now c.requires.can.below c.index.ensures in
    let at_source = at_there (disk_of_device g.D.BlockDevice c.args.parts.now.device) c.args.parts.now.pairs.items (source_index c.args.index c.args.behind) c.source_of-source.result (source_below c.args.behind (kept_of_device g.D.BlockDevice c.args.parts.now.device c.args.parts.now.pairs.items c.args.parts.now.map) c.args.index c.requires.can.below c.requires.holds) c.source_of-source.ensures in
    let few : length (g.D.BlockDevice.blocks c.args.parts.now.device) ≤ 65536 = let s = (g.met.D.BlockDevice.shape c.args.parts.now.device).count in let m = (g.D.BlockDevice.geometry c.args.parts.now.device).valid.no_more in omega arith in
    let e = c.in_ok-fresh_pair.ensures in
    let k = c.in_ok-outcome.ensures in
    device_stops _ _ _ _ _ _ c.args.parts.now.pairs.items c.args.parts.now.map c.args.index c.index.result.now (address_of_array c.args.fresh) _ c.args.behind e.device.only.geometry a c.requires.kept.0 c.requires.can e.device.only.others e.device.only.elsewhere c.source_of-source.result _ at_source c.requires.holds e.written few
    _ e.device.only.at_worst k.device.only.at_worst k.stops

pub settle-requires-2 : goal.settle-requires-2
settle-requires-2 g c =
    subst (λ (s : BlockStates). IsInFlight s (address_of_array c.args.fresh).1) (sym c.settle.ensures) (second_held _ (address_of_array c.args.fresh) c.requires.can.held)

pub drop_copied-requires : goal.drop_copied-requires
drop_copied-requires g c =
    let a = at_there (disk_of_device g.D.BlockDevice c.args.parts.now.device) c.args.parts.now.pairs.items c.args.index c.index.result.now c.requires.can.below c.index.ensures in
    let at_source = at_there (disk_of_device g.D.BlockDevice c.args.parts.now.device) c.args.parts.now.pairs.items (source_index c.args.index c.args.behind) c.source_of-source.result (source_below c.args.behind (kept_of_device g.D.BlockDevice c.args.parts.now.device c.args.parts.now.pairs.items c.args.parts.now.map) c.args.index c.requires.can.below c.requires.holds) c.source_of-source.ensures in
    can_drop c.args.behind _ _ c.args.parts.now.pairs.items c.args.parts.now.map c.args.index c.index.result.now c.commit_cached.new.pair c.in_ok-fresh_pair.fresh_pair c.source_of-source.result (address_of_array c.args.fresh) a at_source c.requires.kept.0
    (ap (λ (z : List PairHeader). set (set z c.args.index c.commit_cached.new.pair) (c.args.index + 1) c.in_ok-fresh_pair.fresh_pair) c.in_ok-insert.ensures.items ∙ placed _ _ _ _ _ c.in_ok-fresh_pair.fresh_pair a)
    (c.settle-2.ensures ∙ ap (λ (s : BlockStates). set s (address_of_array c.args.fresh).1 Used) c.settle.ensures)

pub returns-clause-parts : goal.returns-clause-parts
returns-clause-parts g c = record {
  device =
      let disk = disk_of_device g.D.BlockDevice c.args.parts.now.device in
      let history = g.D.BlockDevice.history c.args.parts.now.device in
      let a = at_there disk c.args.parts.now.pairs.items c.args.index c.index.result.now c.requires.can.below c.index.ensures in
      let fresh = c.in_ok-fresh_pair.ensures.device in
      let commit = c.in_ok-outcome.ensures.device in
      let same = cached_beside disk history c.args.parts.now.pairs.items c.args.parts.now.map c.args.index c.index.result.now a c.requires.kept.0 (address_of_array c.args.fresh) c.requires.can.held c.args.parts.now.cache c.forget_cached_pair.new.cache c.forget_cached_pair.ensures in
      reading_there disk history c.args.parts.now.pairs.items c.args.parts.now.map c.args.index c.index.result.now a c.requires.kept.0
      g.D.BlockDevice c.args.parts.now.device c.commit_cached.new.dev (λ at. addresses_blocks at (address_of_array c.args.fresh)) (reads_behind c.args.behind + 1) c.args.parts.now.cache same
      (record {
        only = changes_by_both g.D.BlockDevice (header_address c.index.result.now) (address_of_array c.args.fresh) fresh.only commit.only;
        few = let first = fresh.few in let second = commit.few in omega (arith, first, second);
      });
  kept =
      let a = at_there (disk_of_device g.D.BlockDevice c.args.parts.now.device) c.args.parts.now.pairs.items c.args.index c.index.result.now c.requires.can.below c.index.ensures in
      let at_source = at_there (disk_of_device g.D.BlockDevice c.args.parts.now.device) c.args.parts.now.pairs.items (source_index c.args.index c.args.behind) c.source_of-source.result (source_below c.args.behind (kept_of_device g.D.BlockDevice c.args.parts.now.device c.args.parts.now.pairs.items c.args.parts.now.map) c.args.index c.requires.can.below c.requires.holds) c.source_of-source.ensures in
      let few : length (g.D.BlockDevice.blocks c.args.parts.now.device) ≤ 65536 = let s = (g.met.D.BlockDevice.shape c.args.parts.now.device).count in let m = (g.D.BlockDevice.geometry c.args.parts.now.device).valid.no_more in omega arith in
      let e = c.in_ok-fresh_pair.ensures in
      let k = c.in_ok-outcome.ensures in
      device_joined _ _ _ _ _ _ c.args.parts.now.pairs.items c.args.parts.now.map c.args.index c.index.result.now (address_of_array c.args.fresh) _ c.args.behind e.device.only.geometry a c.requires.kept.0 c.requires.can e.device.only.others e.device.only.elsewhere c.source_of-source.result _ at_source c.requires.holds e.written few
      _ _ _ _ k.device.only.geometry (k.ends.done (ap Ok c.in_default.is)) k.device.only.others k.device.only.elsewhere
      _ (c.drop_copied.ensures.headers ∙ ap (λ (z : List PairHeader). headers_without c.args.behind z (c.args.index + 2)) (ap (λ (z : List PairHeader). set (set z c.args.index c.commit_cached.new.pair) (c.args.index + 1) c.in_ok-fresh_pair.fresh_pair) c.in_ok-insert.ensures.items ∙ placed _ _ _ _ _ c.in_ok-fresh_pair.fresh_pair a))
      _ (c.drop_copied.ensures.map ∙ freed c.args.behind (disk_of_device g.D.BlockDevice c.args.parts.now.device) (g.D.BlockDevice.history c.args.parts.now.device) c.args.parts.now.pairs.items c.args.parts.now.map c.args.index at_source (c.settle-2.ensures ∙ ap (λ (s : BlockStates). set s (address_of_array c.args.fresh).1 Used) c.settle.ensures));
  current = c.in_ok-outcome.ensures.ends.current;
  order = refl;
}

pub returns-clause-ends : goal.returns-clause-ends
returns-clause-ends g c = record {
  done = λ _.
      let a = at_there (disk_of_device g.D.BlockDevice c.args.parts.now.device) c.args.parts.now.pairs.items c.args.index c.index.result.now c.requires.can.below c.index.ensures in
      let at_source = at_there (disk_of_device g.D.BlockDevice c.args.parts.now.device) c.args.parts.now.pairs.items (source_index c.args.index c.args.behind) c.source_of-source.result (source_below c.args.behind (kept_of_device g.D.BlockDevice c.args.parts.now.device c.args.parts.now.pairs.items c.args.parts.now.map) c.args.index c.requires.can.below c.requires.holds) c.source_of-source.ensures in
      let few : length (g.D.BlockDevice.blocks c.args.parts.now.device) ≤ 65536 = let s = (g.met.D.BlockDevice.shape c.args.parts.now.device).count in let m = (g.D.BlockDevice.geometry c.args.parts.now.device).valid.no_more in omega arith in
      let e = c.in_ok-fresh_pair.ensures in
      let k = c.in_ok-outcome.ensures in
      device_is_joined _ _ _ _ _ _ c.args.parts.now.pairs.items c.args.parts.now.map c.args.index c.index.result.now (address_of_array c.args.fresh) _ c.args.behind e.device.only.geometry a c.requires.kept.0 c.requires.can e.device.only.others e.device.only.elsewhere c.source_of-source.result _ at_source c.requires.holds e.written few
      _ _ _ _ k.device.only.geometry (k.ends.done (ap Ok c.in_default.is)) k.device.only.others k.device.only.elsewhere
      _ (c.drop_copied.ensures.headers ∙ ap (λ (z : List PairHeader). headers_without c.args.behind z (c.args.index + 2)) (ap (λ (z : List PairHeader). set (set z c.args.index c.commit_cached.new.pair) (c.args.index + 1) c.in_ok-fresh_pair.fresh_pair) c.in_ok-insert.ensures.items ∙ placed _ _ _ _ _ c.in_ok-fresh_pair.fresh_pair a))
      _ (c.drop_copied.ensures.map ∙ freed c.args.behind (disk_of_device g.D.BlockDevice c.args.parts.now.device) (g.D.BlockDevice.history c.args.parts.now.device) c.args.parts.now.pairs.items c.args.parts.now.map c.args.index at_source (c.settle-2.ensures ∙ ap (λ (s : BlockStates). set s (address_of_array c.args.fresh).1 Used) c.settle.ensures));
  full = λ gives. absurd (cc);
}

pub returns-clause-stops : goal.returns-clause-stops
returns-clause-stops g c =
    let a = at_there (disk_of_device g.D.BlockDevice c.args.parts.now.device) c.args.parts.now.pairs.items c.args.index c.index.result.now c.requires.can.below c.index.ensures in
    let at_source = at_there (disk_of_device g.D.BlockDevice c.args.parts.now.device) c.args.parts.now.pairs.items (source_index c.args.index c.args.behind) c.source_of-source.result (source_below c.args.behind (kept_of_device g.D.BlockDevice c.args.parts.now.device c.args.parts.now.pairs.items c.args.parts.now.map) c.args.index c.requires.can.below c.requires.holds) c.source_of-source.ensures in
    let few : length (g.D.BlockDevice.blocks c.args.parts.now.device) ≤ 65536 = let s = (g.met.D.BlockDevice.shape c.args.parts.now.device).count in let m = (g.D.BlockDevice.geometry c.args.parts.now.device).valid.no_more in omega arith in
    let e = c.in_ok-fresh_pair.ensures in
    let k = c.in_ok-outcome.ensures in
    device_stops _ _ _ _ _ _ c.args.parts.now.pairs.items c.args.parts.now.map c.args.index c.index.result.now (address_of_array c.args.fresh) _ c.args.behind e.device.only.geometry a c.requires.kept.0 c.requires.can e.device.only.others e.device.only.elsewhere c.source_of-source.result _ at_source c.requires.holds e.written few
    _ e.device.only.at_worst k.device.only.at_worst k.stops

pub returns-clause-errors : goal.returns-clause-errors
returns-clause-errors g c = record {
  errors = tt;
  faults = record {
    fault = λ gives. absurd (cc);
    no_fault = λ e. c.in_ok-outcome.ensures.faults.no_fault (λ gives. absurd (cc)) ∙ c.in_ok-fresh_pair.ensures.faults.no_fault (λ gives. absurd (cc));
  };
  beside = λ e. absurd (cc);
}

pub returns-in-Full-clause-errors : goal.returns-in-Full-clause-errors
returns-in-Full-clause-errors g c = record {
  errors = tt;
  faults = record {
    fault = λ gives. absurd (cc);
    no_fault = λ e. c.in_ok-outcome.ensures.faults.no_fault (λ gives. absurd (cc)) ∙ c.in_ok-fresh_pair.ensures.faults.no_fault (λ gives. absurd (cc));
  };
  beside = λ e. absurd (cc);
}
