-- What a recovery completes: a set move, the sync bit, and directories that no path leads to.
use Rattle.std.specs.Prelude.{◌≡◌, Bool, true, false, not, List, All}
use Rattle.lfs_model.specs.format.Slots.{zero_gstate}
use Rattle.lfs_model.specs.format.Thread.{Pair, pairs_gstate}
use Rattle.lfs_model.specs.tree.Shown.{all_directories, IsReachedDirectory}
use Rattle.lfs_model.specs.session.TreeEdits.{same_path}
use Rattle.lfs_model.specs.session.Operations as ops
use Rattle.lfs_model.specs.session.Operations.{Operation}
use Rattle.lfs_model.specs.session.Refusals.{path_or_root}

-- A path leads to every directory of the thread.
abbrev pub AllReached : List Pair → Type 0
AllReached ps = All (λ d. IsReachedDirectory ps d.at) (all_directories ps)

-- Nothing is left to recover.
pub record IsRecovered (ps : List Pair) : Type 0 where
  pub gstate : pairs_gstate ps ≡ zero_gstate
  pub reached : AllReached ps

-- Whether the operation recovers first, if no check refuses it.
abbrev pub recovers_first : Operation → Bool
recovers_first (ops.Open path flags) = flags.write
recovers_first (ops.Mkdir path) = true
recovers_first (ops.Remove path) = true
recovers_first (ops.Rename old new) = not (same_path (path_or_root old) (path_or_root new))
recovers_first (ops.SetAttr path kind bytes) = true
recovers_first (ops.RemoveAttr path kind) = true
recovers_first ops.Recover = true
recovers_first _ = false
