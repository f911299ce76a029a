use Rattle.lfs_tree.proofs.Formatted.{marked_both, marked_first}
use Rattle.lfs_tree.proofs.formats.map_after_format.Goals as goal

pub returns-clause-map : goal.returns-clause-map
returns-clause-map c =
    marked_both c.args.block_count c.mark.new.self c.mark-2.new.self c.mark-2.result c.requires
    (marked_first c.args.block_count c.in_ok-map.map c.mark.new.self c.mark.result c.requires c.in_ok-map.ensures.free c.mark.ensures.free.1 c.mark.ensures.marked)
    c.mark-2.ensures.free.1 c.mark-2.ensures.marked
