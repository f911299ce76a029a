use Rattle.std.proofs.Common.{◌≡◌, ◌+◌, ◌≤◌, drop, is_none}
use Rattle.std.specs.List.{position_or_len}
use Rattle.lfs_volume.proofs.handles.free_entry_index.Given as goal

abbrev pub invariant-loop-entry : goal.invariant-loop-entry
invariant-loop-entry g l = record { few : l.number ≤ l.entry-index; is : position_or_len is_none l.entries ≡ l.number + position_or_len is_none (drop l.entry-index l.entries) }
