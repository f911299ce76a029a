use Rattle.std.proofs.Common.{◌≡◌, ◌+◌, ◌≤◌, drop, length}
use Rattle.lfs_fs.proofs.Common.{readers_among}
use Rattle.lfs_fs.proofs.files.reader_count.Given as goal

abbrev pub invariant-loop-entry : goal.invariant-loop-entry
invariant-loop-entry l = record { few : l.count ≤ l.entry-index; is : length (readers_among l.entries) ≡ l.count + length (readers_among (drop l.entry-index l.entries)) }
