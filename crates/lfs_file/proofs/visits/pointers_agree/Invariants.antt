use Rattle.std.proofs.Common.{ℕ, ◌≡◌, ◌<◌, ◌*◌}
use Rattle.lfs_file.proofs.Common.{word_at}
use Rattle.lfs_file.proofs.visits.pointers_agree.Given as goal

abbrev pub invariant-loop-k : goal.invariant-loop-k
invariant-loop-k l = (j : ℕ) → j < l.k → word_at l.words (4 * j) ≡ l.block
