-- The partial commit that a builder's fields describe.
use Rattle.lfs_tag.specs.declared.builder.CommitBuilder.TheInside.{Inside}
use Rattle.lfs_tag.specs.Builder.{PartialCommit}
use Rattle.lfs_tag.specs.BuilderKeeps.{BuildsCommit}

-- The partial commit that the builder describes.
abbrev pub builder_view : Inside → PartialCommit
builder_view b = b.pushed.so_far

-- The fields of the builder describe its partial commit.
abbrev pub IsBuilder : Inside → Type 0
IsBuilder b = BuildsCommit b.page b.len b.last b.buf.now b.pushed.so_far
