use Rattle.std.proofs.Common.{◌≡◌, drop}
use Rattle.lfs_fs.proofs.Common.{writers_among}
use Rattle.lfs_fs.proofs.files.count_reserved_blocks.Given as goal

abbrev pub invariant-loop-entry : goal.invariant-loop-entry
invariant-loop-entry l = writers_among l.entries ≡ writers_among (drop l.entry-index l.entries)
