use Rattle.std.proofs.Common.{refl}
use Rattle.lfs_model.proofs.sessions.space_for_blocks_is_checked.Goals as goal

pub returns-clause-not_turned : goal.returns-clause-not_turned
unfolding lib.Count.count_trailing_zeros
returns-clause-not_turned c = refl

pub returns-clause-turned : goal.returns-clause-turned
unfolding lib.Count.count_trailing_zeros
returns-clause-turned c = refl

pub returns-clause-truncated : goal.returns-clause-truncated
unfolding lib.Count.count_trailing_zeros
returns-clause-truncated c = refl
