-- The path of an image that is being made.
use Rattle.std.specs.Prelude.{ℕ, List}
use Rattle.std.specs.String.{string_bytes}
use Rattle.lfs_tool.specs.declared.new_image.NewImage.{NewImage}

-- the path of the finished image
abbrev pub image_path : {R F D : Type 0} → NewImage R F D → List ℕ
image_path i = string_bytes i.paths.path
