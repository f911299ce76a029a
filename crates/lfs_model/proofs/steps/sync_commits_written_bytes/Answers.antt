use Rattle.lfs_model.proofs.StoppedSync.{sync_survives, not_lost}
use Rattle.lfs_model.proofs.WrittenFile.{sync_step, sync_seen, close_step}
use Rattle.lfs_model.proofs.steps.sync_commits_written_bytes.Goals as goal

pub returns-clause-turn : goal.returns-clause-turn
returns-clause-turn c = sync_step

pub returns-clause-not_uncommitted : goal.returns-clause-not_uncommitted
returns-clause-not_uncommitted c = sync_seen

pub returns-clause-survives : goal.returns-clause-survives
returns-clause-survives c = sync_survives

pub returns-clause-not_lost : goal.returns-clause-not_lost
returns-clause-not_lost c = not_lost

pub returns-clause-closed : goal.returns-clause-closed
returns-clause-closed c = close_step
