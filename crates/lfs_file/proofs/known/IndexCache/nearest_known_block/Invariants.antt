use Rattle.std.proofs.Common.{◌≡◌, ◌≤◌, ◌<◌, ◌+◌, ℕ, List, length, slice_index}
use Rattle.lfs_file.proofs.Common.{AreKnownBlocks}
use Rattle.lfs_file.proofs.known.IndexCache.nearest_known_block.Given as goal

abbrev pub invariant-loop-row : goal.invariant-loop-row
invariant-loop-row l = record {
  low : l.index ≤ l.at;
  high : l.at ≤ l.last;
  block : (all : List ℕ) → AreKnownBlocks all l.fn.self → length all ≡ l.last + 1 → l.head ≡ slice_index all l.last → l.block ≡ slice_index all l.at;
  near : (row : ℕ) → row < l.row → l.index ≤ slice_index l.self.indices row → slice_index l.self.indices row ≤ l.last → l.at ≤ slice_index l.self.indices row;
}
