use Rattle.lfs_model.proofs.SafeImage.{is_safe}
use Rattle.lfs_model.proofs.FreshSession.{none_accepted}
use Rattle.lfs_model.proofs.losses.fresh_disk_keeps_its_tree.Goals as goal

pub returns-clause-safe : goal.returns-clause-safe
returns-clause-safe c = is_safe

pub returns-clause-not_safe : goal.returns-clause-not_safe
returns-clause-not_safe c = λ tree h. none_accepted h.pairs h.accepted
