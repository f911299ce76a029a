-- The bytes of files.
use Rattle.std.specs.Prelude.{ℕ, List, []}
use Rattle.lfs_model.specs.format.Disk.{Disk}
use Rattle.lfs_model.specs.format.Slots.{Struct, Inline, Ctz, Branch}
use Rattle.lfs_model.specs.tree.Shown.{disk_list_bytes}

-- the bytes of a file with this struct
abbrev pub struct_file_bytes : Disk → Struct → List ℕ
struct_file_bytes disk (Inline bytes) = bytes
struct_file_bytes disk (Ctz head size) = disk_list_bytes disk head size
struct_file_bytes disk (Branch to) = []
