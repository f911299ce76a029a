use Rattle.std.proofs.Common.{ℕ, List, ◌≡◌, ◌<◌, ◌-◌, ◌*◌, ◌^◌, slice_index}
use Rattle.lfs_file.proofs.Common.{OnlyBelowKnown, AreKnownBlocks, IsKnownIndex, pointer_count, word_at}
use Rattle.lfs_file.proofs.block.FullBlocks.begin_before_block.Given as goal

abbrev pub invariant-loop-k : goal.invariant-loop-k
invariant-loop-k l = record {
  count : l.self.count ≡ l.index;
  head : 0 < l.k → l.self.head ≡ word_at l.bytes 0;
  known : (all : List ℕ) → ((j : ℕ) → j < pointer_count l.index → word_at l.bytes (4 * j) ≡ slice_index all (l.index - 2 ^ j)) → AreKnownBlocks all l.self.known;
  below : OnlyBelowKnown l.index l.self.known;
  pointers : (j : ℕ) → j < l.k → IsKnownIndex l.self.known (l.index - 2 ^ j);
}
