use Rattle.std.proofs.Common.{◌≤◌, arith}
use Rattle.lfs_model.proofs.change.pair_has_at_most_1000_slots.Goals as goal

pub returns : goal.returns
returns c = λ s fits. let count : 1001 ≤ 1000 = fits.count in omega arith
