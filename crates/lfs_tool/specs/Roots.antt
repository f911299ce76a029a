-- The paths of real folders.
use Rattle.std.specs.Prelude.{ℕ, List}
use Rattle.std.specs.String.{string_bytes}
use Rattle.lfs_tool.specs.declared.source_folder.Folder.{Folder}
use Rattle.lfs_tool.specs.declared.target_folder.TargetFolder.{TargetFolder}

-- the path of a folder that is read
abbrev pub source_root : {R : Type 0} → Folder R → List ℕ
source_root f = string_bytes f.root.path

-- the size in bytes of the image for which the folder is read
abbrev pub source_image_size : {R : Type 0} → Folder R → ℕ
source_image_size f = f.image

-- the path of a folder that is written
abbrev pub target_root : {R : Type 0} → TargetFolder R → List ℕ
target_root t = string_bytes t.root.path
