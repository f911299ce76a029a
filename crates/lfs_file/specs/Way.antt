-- The walk from a list's last block back to its first, by the longest pointers.
use Rattle.std.specs.Prelude.{ℕ, zero, suc, ◌≡◌, ◌+◌, ◌*◌, ◌-◌, ◌<◌, ◌≤◌, ◌^◌, if◌then◌else◌, nat_lt, List, slice_index}
use Rattle.std.specs.Int.{w32, trailing_zeros}
use Rattle.lfs_model.specs.format.Blocks.{Blocks, block_bytes}
use Rattle.lfs_model.specs.session.History.{CallEvent, read_count}
use Rattle.lfs_model.specs.format.SkipLists.{AreListBlocks, blocks_to_head, word_at}
use Rattle.lfs_file.specs.declared.way.WalkedBlocks.{WalkedBlocks}

-- the block at this index is on the walk
abbrev pub IsIndexVisited : ℕ → ℕ → Type 0
IsIndexVisited last i = last - i < 2 ^ trailing_zeros w32 i

-- how many of the indices from 1 to this one are on the walk
abbrev pub visit_count : ℕ → ℕ → ℕ
visit_count last zero = 0
visit_count last (suc i) = visit_count last i + (if nat_lt (last - suc i) (2 ^ trailing_zeros w32 (suc i)) then 1 else 0)

-- Each block on the walk behind an index is noted with its pointers,
abbrev pub HasNotedPointers : Blocks → ℕ → ℕ → WalkedBlocks → Type 0
HasNotedPointers d last at way = (i k : ℕ) → at < i → i ≤ last → IsIndexVisited last i → k ≤ trailing_zeros w32 i
    → word_at way.words (128 * trailing_zeros w32 i + 4 * k) ≡ word_at (block_bytes d (slice_index way.blocks (trailing_zeros w32 i))) (4 * k)

-- and if the disk has a list, it is the list's block.
pub record HasNotedWalk (d : Blocks) (head last at : ℕ) (way : WalkedBlocks) : Type 0 where
  pub words : HasNotedPointers d last at way
  pub blocks : AreListBlocks d (last + 1) head → (i : ℕ) → at < i → i ≤ last → IsIndexVisited last i → slice_index way.blocks (trailing_zeros w32 i) ≡ slice_index (blocks_to_head d (last + 1) head) i

-- A block of the list costs at most one read, and none if it is on the walk.
pub record ReadsUnlessNoted (way : WalkedBlocks) (last index block : ℕ) (old new : List CallEvent) : Type 0 where
  pub few : read_count new ≤ read_count old + 1
  pub known : IsIndexVisited last index → slice_index way.blocks (trailing_zeros w32 index) ≡ block → read_count new ≡ read_count old
