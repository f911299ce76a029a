use Rattle.std.proofs.Common.{◌≡◌, ◌≤◌, count_by, take}
use Rattle.lfs_tool.proofs.Common.{is_file_item}
use Rattle.lfs_tool.proofs.summaries.count_files.Given as goal

abbrev pub invariant-loop-item : goal.invariant-loop-item
invariant-loop-item l = (l.count ≡ count_by is_file_item (take l.item-index l.items)) × (l.count ≤ l.item-index)
