-- The successful results of a commit.
use Rattle.std.specs.Prelude.{ℕ, ◌≡◌, List, OnOk, Result, Ok}
use Rattle.lfs_device.specs.declared.device.BlockDevice.{Ghosts}
use Rattle.lfs_device.specs.declared.error.Error.{Error}
use Rattle.lfs_device.specs.DeviceDisk.{disk_of_blocks}
use Rattle.lfs_model.specs.format.Blocks.{block_bytes}
use Rattle.lfs_model.specs.layers.Changes.{ContentChange}
use Rattle.lfs_pair.specs.declared.commits.Outcome.{Outcome}
use Rattle.lfs_pair.specs.declared.commits.Outcome.TheVariants.{Done, Full}
use Rattle.lfs_pair.specs.declared.pair.Pair.{Pair}
use Rattle.lfs_pair.specs.Commits.{CommitsChanges, RefusesCommit}

-- A commit succeeds or is refused. The bytes passed in are then those of the block that was active.
pub record CommitReturns {D : Type 0} (g : Ghosts D) (changes : List ContentChange) (old new : D) (was now : Pair) (block : List ℕ) (result : Result Outcome Error) : Type 0 where
  pub done : result ≡ Ok Done
      → CommitsChanges (disk_of_blocks (g.geometry old) (g.blocks old)) (g.history old) changes was (disk_of_blocks (g.geometry new) (g.blocks new)) (g.history new) now
  pub full : result ≡ Ok Full → RefusesCommit g changes old new was now
  pub held : OnOk result (block ≡ block_bytes (g.blocks new) was.active)
