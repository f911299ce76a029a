-- The number of writes of blocks.
use Rattle.std.specs.Prelude.{ℕ, ◌≡◌, ◌+◌, List}
use Rattle.lfs_model.specs.session.History.{CallEvent, erase_count, program_count}

-- `to - from` erases and as many programs: each of so many blocks was erased and programmed once
pub record WritesEachOnce (from to : ℕ) (old new : List CallEvent) : Type 0 where
  pub erased : erase_count new + from ≡ erase_count old + to
  pub programmed : program_count new + from ≡ program_count old + to
