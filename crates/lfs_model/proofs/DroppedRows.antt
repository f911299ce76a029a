-- Rows of what a pair that goes leaves to the one in front of it, and of numbers once a pair is gone.
use Rattle.std.proofs.Common.{◌≡◌, true, false, Some, None, refl}
use Rattle.lfs_model.specs.layers.StepResults.{predecessor_tail_after_drop, pair_index_after_drop}

-- inside a directory
goes_on : predecessor_tail_after_drop (Some (record { hard = true; to = (6, 7) })) (Some (record { hard = true; to = (8, 9) })) ≡ Some (record { hard = true; to = (8, 9) })
goes_on = refl

-- at its end
ends : predecessor_tail_after_drop (Some (record { hard = true; to = (6, 7) })) (Some (record { hard = false; to = (8, 9) })) ≡ Some (record { hard = false; to = (8, 9) })
ends = refl

-- a first pair of a directory that went on
not_joined : predecessor_tail_after_drop (Some (record { hard = false; to = (6, 7) })) (Some (record { hard = true; to = (8, 9) })) ≡ Some (record { hard = false; to = (8, 9) })
not_joined = refl

-- at the end of the thread
last : predecessor_tail_after_drop (Some (record { hard = true; to = (6, 7) })) None ≡ None
last = refl

behind : pair_index_after_drop 2 5 ≡ 4
behind = refl

in_front : pair_index_after_drop 5 2 ≡ 2
in_front = refl
