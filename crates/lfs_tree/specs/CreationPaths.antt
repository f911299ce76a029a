-- The look-up of the path of a file that may be created.
use Rattle.std.specs.Prelude.{◌≡◌}
use Rattle.lfs_model.specs.format.Slots.{zero_gstate}
use Rattle.lfs_model.specs.format.Thread.{pairs_gstate}
use Rattle.lfs_model.specs.tree.Tree.{Path}
use Rattle.lfs_lookup.specs.LookupPaths.{IsResultOfPath}
use Rattle.lfs_lookup.specs.declared.paths.PathLookup.{PathLookup}
use Rattle.lfs_thread.specs.Kept.{KeptThread}

-- the image has nothing to recover, and `target` is the result of the path's look-up
pub record IsCreationResult (t : KeptThread) (path : Path) (target : PathLookup) : Type 0 where
  pub settled : pairs_gstate t.pairs ≡ zero_gstate
  pub leads : IsResultOfPath t path target
