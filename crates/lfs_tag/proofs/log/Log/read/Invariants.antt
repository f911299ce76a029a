use Rattle.std.proofs.Common.{◌≡◌, ◌≤◌, ◌-◌, length}
use Rattle.lfs_tag.proofs.Common.{longest_sequence}
use Rattle.lfs_model.specs.format.Log.{chain_of}
use Rattle.lfs_model.proofs.Chains.{chain_stop}
use Rattle.lfs_tag.proofs.log.Log.read.Given as goal

abbrev pub invariant-loop-commit : goal.invariant-loop-commit
invariant-loop-commit l = record {
  start : l.start ≤ l.end;
  same : chain_stop (longest_sequence l.block l.start l.end l.last) ≡ chain_stop (chain_of l.block);
}

abbrev pub decreases-loop-commit : goal.decreases-loop-commit
decreases-loop-commit l = length l.block - l.end
