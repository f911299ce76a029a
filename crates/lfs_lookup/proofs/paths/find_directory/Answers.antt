use Rattle.std.proofs.Common.{◌≡◌, None, ap, map, take, subst, ◌∙◌, arith, refl}
use Rattle.lfs_lookup.proofs.Common.{err_from_is_err_and, length-map, ancestor_paths, directory_pair_count, NoEnt, NotDir, IsParentAt, parent_refusal}
use Rattle.std.specs.Prelude.{sum_by}
use Rattle.lfs_lookup.specs.declared.paths.Parent.TheVariants as parent
use Rattle.lfs_lookup.proofs.ReadOnly.{only_read, reported_on}
use Rattle.lfs_lookup.proofs.LoadedDown.{run_same, searched_all, searched_on, searched_to_here, stops_none}
use Rattle.lfs_lookup.proofs.RecentBlocks.{on_ok, passes_none}
use Rattle.lfs_lookup.proofs.Descended.{take_whole, name_at, some_at, begins_same, enters_same, few_same, few_whole, stops_at, descends_on, has_descended}
use Rattle.lfs_lookup.proofs.HalvedDown.{halved_end, halved_step, halved_stop}
use Rattle.lfs_lookup.proofs.Reading.{answered, answers, both}
use Rattle.lfs_lookup.proofs.paths.find_directory.Goals as goal

pub returns-in_err-next-clause-reads : goal.returns-in_err-next-clause-reads
returns-in_err-next-clause-reads g c = record {
  few = (
      let inv = c.loop-name.invariant in
      let d = inv.descended in
      let names = map (λ name. name.now) c.args.path.now in
      let (n, at) = some_at (λ name. name.now) c.args.path.now c.loop-name.name-index c.loop-name-test.true in
      let few = c.find_subdirectory.ensures.reads.few in
      let same = few_same c.args.thread.now.kept c.loop-name.thread.kept c.requires.can.hiding.accepted inv.only (take c.loop-name.name-index names) c.loop-name.first d.begins in
      few_whole c.args.thread.now.kept c.loop-name.thread.kept c.find_subdirectory.new.thread.kept names c.loop-name.name-index c.loop-name.first n d at (omega (arith, few, same))
      );
  halves = λ none slots. (
      let inv = c.loop-name.invariant in
      let (n, at) = some_at (λ name. name.now) c.args.path.now c.loop-name.name-index c.loop-name-test.true in
      halved_stop c.args.thread.now c.loop-name.thread c.find_subdirectory.new.thread (map (λ name. name.now) c.args.path.now) c.loop-name.name-index c.loop-name.first n c.requires.can.hiding.accepted inv.only inv.descended.begins at slots
      (inv.halves none slots) (c.find_subdirectory.ensures.reads.halves none)
      );
  loads = (
      let inv = c.loop-name.invariant in
      let d = inv.descended in
      let t = c.args.thread.now.kept in
      let names = map (λ name. name.now) c.args.path.now in
      let at = some_at (λ name. name.now) c.args.path.now c.loop-name.name-index c.loop-name-test.true in
      let run = run_same t c.loop-name.thread.kept (take c.loop-name.name-index names) c.loop-name.first c.requires.can.hiding.accepted inv.only d.begins in
      let p = err_from_is_err_and c.from_residual.result c.from_residual.ensures.1 in
      searched_to_here c.args.thread.now c.loop-name.thread names c.loop-name.name-index at.0 at.1 inv.searched _ run c.find_subdirectory.new.thread c.find_subdirectory.result c.from_residual.result (λ q. parent_refusal q ≡ None)
      c.find_subdirectory.ensures.reads.loads (passes_none c.find_subdirectory.result c.from_residual.result p.0 p.1) (stops_none (λ q. parent_refusal q ≡ None) c.from_residual.result p.0 p.1)
      );
}

pub returns-in_err-next-clause-reading : goal.returns-in_err-next-clause-reading
returns-in_err-next-clause-reading g c =
    let p = err_from_is_err_and c.from_residual.result c.from_residual.ensures.1 in
    let only = only_read _ _ _ c.loop-name.invariant.only c.find_subdirectory.ensures.reading.only in
    record {
      only = only;
      works = c.find_subdirectory.ensures.reading.works;
      reported = reported_on _ _ _ c.find_subdirectory.result c.from_residual.result _ p.0 only c.loop-name.invariant.no_fault c.find_subdirectory.ensures.reading.reported c.in_err-next.was p.1 p.2;
    }

pub returns-in-File-clause-answer : goal.returns-in-File-clause-answer
returns-in-File-clause-answer g c =
    let inv = c.loop-name.invariant in
    let d = inv.descended in
    let t = c.args.thread.now.kept in
    let names = map (λ name. name.now) c.args.path.now in
    let at = name_at (λ name. name.now) c.args.path.now c.loop-name.name-index _ c.loop-name-test.true in
    let on = begins_same t c.loop-name.thread.kept inv.only (take c.loop-name.name-index names) c.loop-name.first d.begins in
    let e = enters_same t c.loop-name.thread.kept inv.only _ parent.File (subst (IsParentAt c.loop-name.thread.kept _) c.in-File.is (c.in_ok-next.ensures.answer (take c.loop-name.name-index names) on)) in
    record { fault = stops_at t c.loop-name.thread.kept c.find_subdirectory.new.thread.kept names c.loop-name.name-index c.loop-name.first _ d at NotDir e; begins = tt }

pub returns-in-File-clause-reads : goal.returns-in-File-clause-reads
returns-in-File-clause-reads g c = record {
  few = (
      let inv = c.loop-name.invariant in
      let d = inv.descended in
      let names = map (λ name. name.now) c.args.path.now in
      let (n, at) = some_at (λ name. name.now) c.args.path.now c.loop-name.name-index c.loop-name-test.true in
      let few = c.find_subdirectory.ensures.reads.few in
      let same = few_same c.args.thread.now.kept c.loop-name.thread.kept c.requires.can.hiding.accepted inv.only (take c.loop-name.name-index names) c.loop-name.first d.begins in
      few_whole c.args.thread.now.kept c.loop-name.thread.kept c.find_subdirectory.new.thread.kept names c.loop-name.name-index c.loop-name.first n d at (omega (arith, few, same))
      );
  halves = λ none slots. (
      let inv = c.loop-name.invariant in
      let (n, at) = some_at (λ name. name.now) c.args.path.now c.loop-name.name-index c.loop-name-test.true in
      halved_stop c.args.thread.now c.loop-name.thread c.find_subdirectory.new.thread (map (λ name. name.now) c.args.path.now) c.loop-name.name-index c.loop-name.first n c.requires.can.hiding.accepted inv.only inv.descended.begins at slots
      (inv.halves none slots) (c.find_subdirectory.ensures.reads.halves none)
      );
  loads = (
      let inv = c.loop-name.invariant in
      let d = inv.descended in
      let t = c.args.thread.now.kept in
      let names = map (λ name. name.now) c.args.path.now in
      let at = some_at (λ name. name.now) c.args.path.now c.loop-name.name-index c.loop-name-test.true in
      let run = run_same t c.loop-name.thread.kept (take c.loop-name.name-index names) c.loop-name.first c.requires.can.hiding.accepted inv.only d.begins in
      searched_to_here c.args.thread.now c.loop-name.thread names c.loop-name.name-index at.0 at.1 inv.searched _ run c.find_subdirectory.new.thread c.find_subdirectory.result _ (λ q. parent_refusal q ≡ None)
      c.find_subdirectory.ensures.reads.loads (λ P h. on_ok c.find_subdirectory.result c.in_ok-next.field-0 P c.in_ok-next.was h) (λ Q e. absurd (let k : _ = e in cc))
      );
}

pub returns-in-File-clause-reading : goal.returns-in-File-clause-reading
returns-in-File-clause-reading g c =
    let inv = c.loop-name.invariant in
    answers _ _ _ _ refl (both _ _ _ (record { only = inv.only; works = inv.works; same = inv.no_fault }) (answered _ _ c.find_subdirectory.result c.in_ok-next.field-0 c.in_ok-next.was c.find_subdirectory.ensures.reading))

pub returns-in-Nothing-clause-answer : goal.returns-in-Nothing-clause-answer
returns-in-Nothing-clause-answer g c =
    let inv = c.loop-name.invariant in
    let d = inv.descended in
    let t = c.args.thread.now.kept in
    let names = map (λ name. name.now) c.args.path.now in
    let at = name_at (λ name. name.now) c.args.path.now c.loop-name.name-index _ c.loop-name-test.true in
    let on = begins_same t c.loop-name.thread.kept inv.only (take c.loop-name.name-index names) c.loop-name.first d.begins in
    let e = enters_same t c.loop-name.thread.kept inv.only _ parent.Nothing (subst (IsParentAt c.loop-name.thread.kept _) c.in-Nothing.is (c.in_ok-next.ensures.answer (take c.loop-name.name-index names) on)) in
    record { fault = stops_at t c.loop-name.thread.kept c.find_subdirectory.new.thread.kept names c.loop-name.name-index c.loop-name.first _ d at NoEnt e; begins = tt }

pub returns-in-Nothing-clause-reads : goal.returns-in-Nothing-clause-reads
returns-in-Nothing-clause-reads g c = record {
  few = (
      let inv = c.loop-name.invariant in
      let d = inv.descended in
      let names = map (λ name. name.now) c.args.path.now in
      let (n, at) = some_at (λ name. name.now) c.args.path.now c.loop-name.name-index c.loop-name-test.true in
      let few = c.find_subdirectory.ensures.reads.few in
      let same = few_same c.args.thread.now.kept c.loop-name.thread.kept c.requires.can.hiding.accepted inv.only (take c.loop-name.name-index names) c.loop-name.first d.begins in
      few_whole c.args.thread.now.kept c.loop-name.thread.kept c.find_subdirectory.new.thread.kept names c.loop-name.name-index c.loop-name.first n d at (omega (arith, few, same))
      );
  halves = λ none slots. (
      let inv = c.loop-name.invariant in
      let (n, at) = some_at (λ name. name.now) c.args.path.now c.loop-name.name-index c.loop-name-test.true in
      halved_stop c.args.thread.now c.loop-name.thread c.find_subdirectory.new.thread (map (λ name. name.now) c.args.path.now) c.loop-name.name-index c.loop-name.first n c.requires.can.hiding.accepted inv.only inv.descended.begins at slots
      (inv.halves none slots) (c.find_subdirectory.ensures.reads.halves none)
      );
  loads = (
      let inv = c.loop-name.invariant in
      let d = inv.descended in
      let t = c.args.thread.now.kept in
      let names = map (λ name. name.now) c.args.path.now in
      let at = some_at (λ name. name.now) c.args.path.now c.loop-name.name-index c.loop-name-test.true in
      let run = run_same t c.loop-name.thread.kept (take c.loop-name.name-index names) c.loop-name.first c.requires.can.hiding.accepted inv.only d.begins in
      searched_to_here c.args.thread.now c.loop-name.thread names c.loop-name.name-index at.0 at.1 inv.searched _ run c.find_subdirectory.new.thread c.find_subdirectory.result _ (λ q. parent_refusal q ≡ None)
      c.find_subdirectory.ensures.reads.loads (λ P h. on_ok c.find_subdirectory.result c.in_ok-next.field-0 P c.in_ok-next.was h) (λ Q e. absurd (let k : _ = e in cc))
      );
}

pub returns-in-Nothing-clause-reading : goal.returns-in-Nothing-clause-reading
returns-in-Nothing-clause-reading g c =
    let inv = c.loop-name.invariant in
    answers _ _ _ _ refl (both _ _ _ (record { only = inv.only; works = inv.works; same = inv.no_fault }) (answered _ _ c.find_subdirectory.result c.in_ok-next.field-0 c.in_ok-next.was c.find_subdirectory.ensures.reading))

pub loop-name-preserved : goal.loop-name-preserved
loop-name-preserved g c =
    let inv = c.loop-name.invariant in
    let d = inv.descended in
    let t = c.args.thread.now.kept in
    let names = map (λ name. name.now) c.args.path.now in
    let at = name_at (λ name. name.now) c.args.path.now c.loop-name.name-index _ c.loop-name-test.true in
    let few = c.find_subdirectory.ensures.reads.few in
    let same = few_same t c.loop-name.thread.kept c.requires.can.hiding.accepted inv.only (take c.loop-name.name-index names) c.loop-name.first d.begins in
    let on = begins_same t c.loop-name.thread.kept inv.only (take c.loop-name.name-index names) c.loop-name.first d.begins in
    let e = enters_same t c.loop-name.thread.kept inv.only _ (parent.Directory c.in-Directory.next) (subst (IsParentAt c.loop-name.thread.kept _) c.in-Directory.is (c.in_ok-next.ensures.answer (take c.loop-name.name-index names) on)) in
    let below = c.loop-name-test.true in
    let name = some_at (λ name. name.now) c.args.path.now c.loop-name.name-index c.loop-name-test.true in
    let l = length-map c.args.path.now (λ name. name.now) in
    record {
      only = only_read _ _ _ inv.only c.find_subdirectory.ensures.reading.only;
      no_fault = c.in_ok-next.ensures.reading.reported.no_fault (λ e. absurd (let k : _ = e in cc)) ∙ inv.no_fault;
      works = c.in_ok-next.ensures.reading.works;
      searched = searched_on c.args.thread.now c.loop-name.thread names c.loop-name.name-index name.0 name.1 inv.searched _
          (run_same t c.loop-name.thread.kept (take c.loop-name.name-index names) c.loop-name.first c.requires.can.hiding.accepted inv.only d.begins) c.find_subdirectory.new.thread c.in_ok-next.field-0 c.in_ok-next.ensures.reads.loads c.find_subdirectory.ensures.reading.only.disk (omega (arith, below, l));
      end = refl;
      within = omega (arith, below);
      halves = λ none slots. halved_step c.args.thread.now c.loop-name.thread c.find_subdirectory.new.thread names c.loop-name.name-index c.loop-name.first name.0 c.requires.can.hiding.accepted inv.only d.begins name.1 slots (inv.halves none slots) (c.find_subdirectory.ensures.reads.halves none);
      descended = descends_on t c.loop-name.thread.kept c.find_subdirectory.new.thread.kept names c.loop-name.name-index c.loop-name.first _ d at (omega (arith, few, same)) c.in-Directory.next e;
    }

pub returns-clause-answer : goal.returns-clause-answer
returns-clause-answer g c =
    let inv = c.loop-name.invariant in
    let past = c.loop-name-test.false in
    let l = length-map c.args.path.now (λ name. name.now) in
    has_descended c.args.thread.now.kept c.loop-name.thread.kept (map (λ name. name.now) c.args.path.now) c.loop-name.name-index c.loop-name.first inv.descended (omega (arith, past, l))

pub returns-clause-reads : goal.returns-clause-reads
returns-clause-reads g c = record {
  few = (
      let past = c.loop-name-test.false in
      let l = length-map c.args.path.now (λ name. name.now) in
      let few = c.loop-name.invariant.descended.few in
      let whole = ap (λ p. sum_by (directory_pair_count c.args.thread.now.kept.pairs) (ancestor_paths p)) (take_whole c.loop-name.name-index (map (λ name. name.now) c.args.path.now) (omega (arith, past, l))) in
      omega (arith, few, whole)
      );
  halves = λ none slots. (
      let past = c.loop-name-test.false in
      let l = length-map c.args.path.now (λ name. name.now) in
      halved_end c.args.thread.now c.loop-name.thread (map (λ name. name.now) c.args.path.now) c.loop-name.name-index (omega (arith, past, l)) (c.loop-name.invariant.halves none slots)
      );
  loads = (
      let inv = c.loop-name.invariant in
      let past = c.loop-name-test.false in
      let within = inv.within in
      let end = inv.end in
      let l = length-map c.args.path.now (λ name. name.now) in
      searched_all c.args.thread.now c.loop-name.thread (map (λ name. name.now) c.args.path.now) c.loop-name.name-index _ (λ q. parent_refusal q ≡ None) inv.searched (omega (arith, past, l)) (omega (arith, within, end, l))
      );
}

pub returns-clause-reading : goal.returns-clause-reading
returns-clause-reading g c =
    let inv = c.loop-name.invariant in
    answers _ _ _ _ refl (record { only = inv.only; works = inv.works; same = inv.no_fault })
