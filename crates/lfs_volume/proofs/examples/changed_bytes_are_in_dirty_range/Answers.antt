use Rattle.std.proofs.Common.{◌≤◌, arith, refl}
use Rattle.lfs_volume.proofs.examples.changed_bytes_are_in_dirty_range.Goals as goal

pub returns-clause-within : goal.returns-clause-within
returns-clause-within c = record { order = omega arith; inside = omega arith; begins = omega arith; before = refl; behind = refl }

pub returns-clause-behind : goal.returns-clause-behind
returns-clause-behind c differs = absurd (let k = differs.behind in cc)

pub returns-clause-other : goal.returns-clause-other
returns-clause-other c same = absurd (let k = same in cc)
