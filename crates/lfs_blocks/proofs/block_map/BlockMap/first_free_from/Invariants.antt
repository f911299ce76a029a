use Rattle.std.proofs.Common.{◌≢◌, ℕ, ◌+◌, ◌*◌, ◌<◌, ◌≤◌}
use Rattle.lfs_model.specs.layers.BlockSets.BlockState.{Free}
use Rattle.lfs_blocks.specs.BlockMap.{state_in_marks}
use Rattle.lfs_blocks.proofs.block_map.BlockMap.first_free_from.Given as goal

-- no block from the start up to the place where the search stands is free
abbrev pub invariant-loop-index : goal.invariant-loop-index
invariant-loop-index l = record {
  in_marks : l.place < 64;
  begins : l.start ≤ l.index * 64 + l.place;
  passed : (b : ℕ) → l.start ≤ b → b < l.index * 64 + l.place → state_in_marks l.self-inside.marks.items b ≢ Free;
}
