use Rattle.std.proofs.Common.{ℕ, ◌≡◌, ◌<◌, Bool, true, get_or}
use Rattle.lfs_mount.proofs.reachability.first_unreached_directory.Given as goal

abbrev pub invariant-loop-place : goal.invariant-loop-place
invariant-loop-place l = (k : ℕ) (d : Bool) → k < l.place → get_or l.is_reached k d ≡ true
