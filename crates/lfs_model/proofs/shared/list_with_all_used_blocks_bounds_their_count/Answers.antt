use Rattle.lfs_model.proofs.BlockCounts.{few_flying, few_used}
use Rattle.lfs_model.proofs.shared.list_with_all_used_blocks_bounds_their_count.Goals as goal

pub returns-clause-flying : goal.returns-clause-flying
returns-clause-flying c = λ sets bs all. few_flying bs sets all

pub returns-clause-used : goal.returns-clause-used
returns-clause-used c = λ sets bs all. few_used bs sets all
