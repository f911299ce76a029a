use Rattle.std.proofs.Common.{◌≡◌, [], drop, map}
use Rattle.lfs_tool.specs.SourceEntries.{listed_name, are_ascending_after}
use Rattle.lfs_tool.proofs.names.are_ascending_components.Given as goal

abbrev pub invariant-loop-one : goal.invariant-loop-one
invariant-loop-one l = are_ascending_after [] (map listed_name l.fn.names) ≡ are_ascending_after l.last (map listed_name (drop l.one-index l.names))
