use Rattle.lfs_file.proofs.Recalled.{few_at_once}
use Rattle.lfs_file.proofs.read.read_at.Goals as goal

pub returns-clause-few : goal.returns-clause-few
returns-clause-few g c m first last off end le is there = few_at_once _ _ _ c.args.size c.args.pos _ _ _ c.read_at.result m first last off end c.read_at.ensures.few le is there
