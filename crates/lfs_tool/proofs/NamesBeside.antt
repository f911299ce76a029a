-- Names beside a path.
use Rattle.std.proofs.Common.{ℕ, ◌≡◌, ◌++◌, List, append_assoc, codes}
use Rattle.std.specs.Fmt.{decimal}
use Rattle.std.specs.Path.{path_join, path_with_file_name, with_separator, without_file_name}
use Rattle.lfs_tool.specs.TemporaryNames.{numbered_path, temporary_prefix}

-- the number may be added behind the path
pub beside_by_number : (path : List ℕ) (n : ℕ) → temporary_prefix path ++ decimal n ≡ numbered_path path n
unfolding path_with_file_name path_join
beside_by_number path n = append_assoc (with_separator (without_file_name path)) (codes ".mklittlefs-") (decimal n)
