use Rattle.std.proofs.Common.{subst, rules}
use Rattle.lfs_lookup.proofs.Common.{err_from_is_err_and, IsNamePositionInDirectory}
use Rattle.lfs_lookup.specs.NameSearch.{CachesFoundPair}
use Rattle.lfs_lookup.proofs.InOrder.{found_shown, nothing_shown}
use Rattle.lfs_lookup.proofs.RecentBlocks.{along_as, on_ok, passes_none}
use Rattle.lfs_lookup.proofs.search.find_visible.Goals as goal

pub find_name-requires-clause-entries : goal.find_name-requires-clause-entries
find_name-requires-clause-entries g c = (c.requires.in_order c.in-None.is).plain

pub returns-in-Found-clause-answer : goal.returns-in-Found-clause-answer
returns-in-Found-clause-answer g c =
    let t = c.args.thread.now.kept in
    found_shown t.disk.order t.pairs c.args.moved c.args.first c.args.name.now c.in-Found.spot c.in-Found.entry c.in-None.is
    (subst (IsNamePositionInDirectory t.disk.order t.pairs c.args.first c.args.name.now) c.in-Found.is c.in_ok-spot-in-None.ensures.answer)

pub returns-in-Found-clause-cached_log : goal.returns-in-Found-clause-cached_log
returns-in-Found-clause-cached_log g c = subst (CachesFoundPair c.find_name.new.thread) c.in-Found.is c.in_ok-spot-in-None.ensures.cached_log

pub returns-in-Place-clause-answer : goal.returns-in-Place-clause-answer
returns-in-Place-clause-answer g c =
    let t = c.args.thread.now.kept in
    nothing_shown t.disk.order t.pairs c.args.moved c.args.first c.args.name.now c.in-Place.field-0 c.in-None.is (c.requires.in_order c.in-None.is)
    (subst (IsNamePositionInDirectory t.disk.order t.pairs c.args.first c.args.name.now) c.in-Place.is c.in_ok-spot-in-None.ensures.answer)

pub returns-in_err-spot-in-None-clause-reads : goal.returns-in_err-spot-in-None-clause-reads
returns-in_err-spot-in-None-clause-reads g c = record {
  few = search rules;
  halves = search rules;
  loads = (
      let p = err_from_is_err_and c.from_residual.result c.from_residual.ensures.1 in
      along_as _ _ _ c.find_name.result c.from_residual.result (passes_none c.find_name.result c.from_residual.result p.0 p.1) c.find_name.ensures.reads.loads
      );
}

pub returns-in-Found-clause-reads : goal.returns-in-Found-clause-reads
returns-in-Found-clause-reads g c = record {
  few = search rules;
  halves = search rules;
  loads = along_as _ _ _ c.find_name.result _ (λ P h. on_ok c.find_name.result c.in_ok-spot-in-None.field-0 P c.in_ok-spot-in-None.was h) c.find_name.ensures.reads.loads;
}

pub returns-in-Place-clause-reads : goal.returns-in-Place-clause-reads
returns-in-Place-clause-reads g c = record {
  few = search rules;
  halves = search rules;
  loads = along_as _ _ _ c.find_name.result _ (λ P h. on_ok c.find_name.result c.in_ok-spot-in-None.field-0 P c.in_ok-spot-in-None.was h) c.find_name.ensures.reads.loads;
}
