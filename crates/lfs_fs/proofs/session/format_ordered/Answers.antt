use Rattle.lfs_fs.proofs.Common.{session_view, files_view}
use Rattle.std.proofs.Common.{ap}
use Rattle.lfs_fs.proofs.FreshBegun.{fresh_state}
use Rattle.lfs_fs.proofs.Remounting.{fresh_ready}
use Rattle.lfs_fs.proofs.session.format_ordered.Goals as goal

pub invariant_of-result : goal.invariant_of-result
invariant_of-result g c = record {
  ready = λ works. fresh_ready _ c.in-Ok.tree c.without_open_files.result c.without_open_files.ensures c.in-Ok.ensures.sound c.in-Ok.ensures.formatted c.in-Ok.ensures.calls.calls;
  reported = λ works. c.lemma_calls_conform.ensures;
}

pub returns-in-Ok-clause-state : goal.returns-in-Ok-clause-state
returns-in-Ok-clause-state g c = fresh_state (session_view c.in-Ok.tree c.without_open_files.result) c.in-Ok.ensures.works.0 (ap (files_view c.in-Ok.tree) c.without_open_files.ensures) c.in-Ok.ensures.sound.accepted c.in-Ok.ensures.formatted.fresh
