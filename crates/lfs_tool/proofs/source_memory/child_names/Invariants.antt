use Rattle.std.proofs.Common.{◌≡◌, map, take}
use Rattle.lfs_tool.specs.SourceTrees.{listed_view}
use Rattle.lfs_tool.specs.MemorySources.{memory_view, names_in_folder}
use Rattle.lfs_tool.proofs.source_memory.child_names.Given as goal

abbrev pub invariant-loop-one : goal.invariant-loop-one
invariant-loop-one l = map listed_view l.names.items ≡ names_in_folder (map memory_view (take l.one-index l.held)) l.folder
