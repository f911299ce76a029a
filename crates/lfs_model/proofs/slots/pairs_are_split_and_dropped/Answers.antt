use Rattle.std.proofs.Common.{◌≤◌, [], ◌∷◌, None, refl, arith}
use Rattle.std.specs.Prelude.{codes}
use Rattle.lfs_model.proofs.Common.{IsFittingPair, small_image, pair_with_tail, long_attribute_slot}
use Rattle.lfs_model.proofs.slots.pairs_are_split_and_dropped.Goals as goal

too_much : IsFittingPair small_image (pair_with_tail (2, 3) (long_attribute_slot (codes "a") ∷ long_attribute_slot (codes "b") ∷ []) None) → ⊥
too_much h = let k : 1026 ≤ 857 = h.size in omega arith

pub returns-clause-cut : goal.returns-clause-cut
returns-clause-cut c = (refl, refl, too_much, record { size = omega arith; count = omega arith }, record { size = omega arith; count = omega arith }, λ e. e)

pub returns-clause-not_whole : goal.returns-clause-not_whole
returns-clause-not_whole c = λ q h. too_much h.2

pub returns-clause-not_kept : goal.returns-clause-not_kept
returns-clause-not_kept c = λ q h. h.4 refl refl
