use Rattle.std.proofs.Common.{◌≡◌, true, false, refl, sym, ◌∙◌}
use Rattle.lfs_volume.proofs.examples.failed_volume_changes_nothing.Goals as goal

pub returns-clause-refused : goal.returns-clause-refused
returns-clause-refused c v call failed = record { failed = λ f. (refl, refl); works = λ w. absurd (let k : true ≡ false = sym failed ∙ w in cc) }

pub returns-clause-other : goal.returns-clause-other
returns-clause-other c v w call failed is = absurd (let k = (is.failed failed).0 in cc)
