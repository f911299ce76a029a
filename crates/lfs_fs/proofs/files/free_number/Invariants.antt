use Rattle.std.proofs.Common.{◌≡◌, ◌+◌, ◌≤◌, drop}
use Rattle.lfs_fs.proofs.Common.{lowest_free_fd}
use Rattle.lfs_fs.proofs.files.free_number.Given as goal

abbrev pub invariant-loop-entry : goal.invariant-loop-entry
invariant-loop-entry l = record { few : l.number ≤ l.entry-index; is : lowest_free_fd l.entries ≡ l.number + lowest_free_fd (drop l.entry-index l.entries) }
