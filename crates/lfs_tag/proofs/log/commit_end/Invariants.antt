use Rattle.std.proofs.Common.{◌≡◌, ◌≤◌, ◌-◌, length}
use Rattle.lfs_tag.proofs.Common.{option_map, commit_at, stop}
use Rattle.lfs_tag.proofs.log.commit_end.Given as goal

abbrev pub invariant-loop-entry : goal.invariant-loop-entry
invariant-loop-entry l = record {
  start : l.start ≤ l.at;
  reached : l.fn.at ≤ l.at;
  same : option_map stop (commit_at l.block l.start l.at l.before) ≡ option_map stop (commit_at l.block l.start l.fn.at l.fn.before);
}

abbrev pub decreases-loop-entry : goal.decreases-loop-entry
decreases-loop-entry l = length l.block - l.at
