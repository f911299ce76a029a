-- Paths of entries.
use Rattle.std.specs.Prelude.{ℕ, if◌then◌else◌, List, Option, None}
use Rattle.lfs_model.specs.session.Operations.{parse_path}
use Rattle.lfs_model.specs.session.Refusals.{path_unusable}
use Rattle.lfs_model.specs.tree.Tree.{Path}

-- the path of these bytes, if it is well formed and isn't the root's
abbrev pub entry_path : List ℕ → Option Path
entry_path bytes = if path_unusable (parse_path bytes) then None else parse_path bytes
