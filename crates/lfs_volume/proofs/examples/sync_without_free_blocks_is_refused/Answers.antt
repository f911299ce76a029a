use Rattle.std.proofs.Common.{refl}
use Rattle.lfs_volume.proofs.examples.sync_without_free_blocks_is_refused.Goals as goal

pub returns-clause-full : goal.returns-clause-full
unfolding lib.Count.count_trailing_zeros
returns-clause-full c = refl

pub returns-clause-fits : goal.returns-clause-fits
unfolding lib.Count.count_trailing_zeros
returns-clause-fits c = refl
