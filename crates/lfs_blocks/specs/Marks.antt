-- The states of 64 blocks, by their marks.
use Rattle.std.specs.Prelude.{ℕ, ◌==◌, if◌then◌else◌}
use Rattle.std.specs.Int.{bit_at}
use Rattle.lfs_model.specs.layers.BlockSets.{BlockState}
use Rattle.lfs_model.specs.layers.BlockSets.BlockState.{Free, InFlight, Used}
use Rattle.lfs_blocks.specs.declared.marks.Marks.{Marks}
use Rattle.lfs_blocks.specs.declared.marks.BlockUse.{BlockUse}
use Rattle.lfs_blocks.specs.declared.marks.BlockUse.TheVariants as state

abbrev pub use_view : BlockUse → BlockState
use_view state.Free = Free
use_view state.InFlight = InFlight
use_view state.Used = Used

-- The state of the block at the bit `place`.
abbrev pub state_at_bit : Marks → ℕ → BlockState
state_at_bit marks place =
    if bit_at marks.used place == 1 then Used
    else if bit_at marks.in_flight place == 1 then InFlight
    else Free
