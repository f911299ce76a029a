-- The states of a device's blocks, as stored in the marks of a block map.
use Rattle.std.specs.Prelude.{◌≡◌, ℕ, ◌*◌, ◌/◌, ◌%◌, ◌≤◌, List, map, length, slice_index_or}
use Rattle.std.specs.List.{range_with_len}
use Rattle.lfs_model.specs.layers.BlockSets.{BlockState, BlockStates, used_count as used_count_of}
use Rattle.lfs_blocks.specs.declared.marks.Marks.{Marks}
use Rattle.lfs_blocks.specs.Marks.{state_at_bit}

-- The marks of 64 free blocks.
abbrev pub free_marks : Marks
free_marks = record { used = 0; in_flight = 0 }

-- The state of block `b`.
abbrev pub state_in_marks : List Marks → ℕ → BlockState
state_in_marks marks b = state_at_bit (slice_index_or marks (b / 64) free_marks) (b % 64)

-- The states of the blocks below `block_count`.
abbrev pub marks_states : List Marks → ℕ → BlockStates
marks_states marks block_count = map (state_in_marks marks) (range_with_len 0 block_count)

-- The marks cover all blocks, and `used_count` is the number of used ones.
pub record MarksCountUsed (marks : List Marks) (block_count used_count : ℕ) : Type 0 where
  pub covered : block_count ≤ 64 * length marks
  pub no_more : length marks ≤ block_count
  pub counted : used_count ≡ used_count_of (marks_states marks block_count)
