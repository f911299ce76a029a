use Rattle.std.proofs.Common.{sym, arith}
use Rattle.lfs_file.proofs.Sizes.{skip_list_block_count-place, place-le}
use Rattle.lfs_file.proofs.size.blocks_for.Goals as goal

pub overflow_add-result : goal.overflow_add-result
overflow_add-result c =
    let few = place-le _ _ _ _ c.requires c.place-last.ensures in
    omega arith

pub returns : goal.returns
returns c = sym (skip_list_block_count-place _ _ _ _ c.requires (omega arith) c.place-last.ensures)
