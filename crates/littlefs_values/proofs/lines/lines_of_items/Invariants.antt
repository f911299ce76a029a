use Rattle.std.proofs.Common.{◌≡◌, map, take}
use Rattle.lfs_lookup.specs.Finds.{listed_item_view}
use Rattle.littlefs_values.specs.Buffers.{item_lines}
use Rattle.littlefs_values.proofs.lines.lines_of_items.Given as goal

abbrev pub invariant-loop-item : goal.invariant-loop-item
invariant-loop-item l = l.text.items ≡ item_lines (map listed_item_view (take l.item-index l.items))
