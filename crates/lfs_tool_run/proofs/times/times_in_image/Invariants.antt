use Rattle.lfs_tool.specs.Unpackings.{CanFindAttributes}
use Rattle.lfs_tool_run.proofs.times.times_in_image.Given as goal

abbrev pub invariant-loop-index : goal.invariant-loop-index
invariant-loop-index l = CanFindAttributes l.image
