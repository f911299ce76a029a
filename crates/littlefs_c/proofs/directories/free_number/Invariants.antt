use Rattle.std.proofs.Common.{◌≡◌, ◌+◌, ◌≤◌, drop, is_none}
use Rattle.std.specs.List.{position_or_len}
use Rattle.littlefs_c.proofs.directories.free_number.Given as goal

abbrev pub invariant-loop-entry : goal.invariant-loop-entry
invariant-loop-entry l = record { few : l.number ≤ l.entry-index; is : position_or_len is_none l.directories ≡ l.number + position_or_len is_none (drop l.entry-index l.directories) }
