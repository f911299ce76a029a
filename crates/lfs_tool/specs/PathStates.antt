-- The kind of file at a path, by the system's metadata.
use Rattle.std.specs.Prelude.{◌≡◌, ◌≢◌, Result, Ok, Err}
use Rattle.std.specs.Fs.{IsFile, file_type, metadata_mode, permissions_mode}
use Rattle.std.specs.IoError.{error_kind}
use Rattle.std.specs.declared.fs.attrs.Metadata.{Metadata}
use Rattle.std.specs.declared.io.Error.{Error}
use Rattle.std.specs.declared.io.ErrorKind.TheVariants.{NotFound}
use Rattle.lfs_tool.specs.declared.path_state.PathState.{PathState}
use Rattle.lfs_tool.specs.declared.path_state.PathState.TheVariants.{File, Nothing, Other}

-- a file has its permissions; there is nothing only if the system says so
abbrev pub IsPathState : Result Metadata Error → PathState → Type 0
IsPathState (Ok there) Nothing = ⊥
IsPathState (Ok there) (File permissions) = IsFile (file_type there) × (permissions_mode permissions ≡ metadata_mode there)
IsPathState (Ok there) Other = ¬ IsFile (file_type there)
IsPathState (Err error) Nothing = error_kind error ≡ NotFound
IsPathState (Err error) (File permissions) = ⊥
IsPathState (Err error) Other = error_kind error ≢ NotFound
