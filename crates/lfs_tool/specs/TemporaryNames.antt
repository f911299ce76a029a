-- Names of temporary files beside a path.
use Rattle.std.specs.Prelude.{ℕ, ◌≡◌, ◌++◌, List, codes}
use Rattle.std.specs.Fmt.{decimal}
use Rattle.std.specs.Path.{path_with_file_name}

-- the beginning of each of these names, in the folder of a path
abbrev pub temporary_prefix : List ℕ → List ℕ
temporary_prefix path = path_with_file_name path (codes ".mklittlefs-")

-- the name of that number in the folder of a path
abbrev pub numbered_path : List ℕ → ℕ → List ℕ
numbered_path path number = path_with_file_name path (codes ".mklittlefs-" ++ decimal number)

-- one of these names
abbrev pub IsNumberedPath : List ℕ → List ℕ → Type 0
IsNumberedPath path at = (number : ℕ) × (at ≡ numbered_path path number)
