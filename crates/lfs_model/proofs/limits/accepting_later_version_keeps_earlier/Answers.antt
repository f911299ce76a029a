use Rattle.lfs_model.proofs.LaterVersion as law
use Rattle.lfs_model.proofs.limits.accepting_later_version_keeps_earlier.Goals as goal

pub returns : goal.returns
returns c = law.wider
