use Rattle.lfs_model.proofs.WrittenFile.{write_step, write_unseen}
use Rattle.lfs_model.proofs.steps.unsynced_bytes_are_not_visible.Goals as goal

pub returns-clause-turn : goal.returns-clause-turn
returns-clause-turn c = write_step

pub returns-clause-not_shown : goal.returns-clause-not_shown
returns-clause-not_shown c = write_unseen
