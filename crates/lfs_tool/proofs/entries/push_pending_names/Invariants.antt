use Rattle.std.proofs.Common.{◌≡◌, ◌++◌, map, take}
use Rattle.lfs_tool.specs.SourceTrees.{listed_view}
use Rattle.lfs_tool.specs.SourceEntries.{pending_entry_view, paths_in_folder}
use Rattle.lfs_tool.proofs.entries.push_pending_names.Given as goal

abbrev pub invariant-loop-one : goal.invariant-loop-one
invariant-loop-one l = map pending_entry_view l.waiting.items ≡ map pending_entry_view l.fn.waiting.items ++ paths_in_folder l.folder (map listed_view (take l.one-index l.names))
