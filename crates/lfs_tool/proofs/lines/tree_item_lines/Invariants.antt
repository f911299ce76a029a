use Rattle.std.proofs.Common.{◌≡◌, take}
use Rattle.lfs_tool.proofs.Common.{path_struct_lines, tree_items_view}
use Rattle.lfs_tool.proofs.lines.tree_item_lines.Given as goal

abbrev pub invariant-loop-one : goal.invariant-loop-one
invariant-loop-one l = l.text.items ≡ path_struct_lines (tree_items_view (take l.one-index l.found))
