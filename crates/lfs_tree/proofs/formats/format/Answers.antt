use Rattle.std.proofs.Common.{[], ap, sym, subst, ◌∙◌}
use Rattle.lfs_tree.proofs.Common.{kept_in_order, ChangesThreadBlocks, superblock_pair_address, address_blocks, IsFreshlyFormatted}
use Rattle.lfs_tree.proofs.Formatted.{shows_empty, empty_formatted, empty_kept, wrote}
use Rattle.lfs_tree.proofs.formats.format.Goals as goal

pub from_parts-requires-clause-kept : goal.from_parts-requires-clause-kept
from_parts-requires-clause-kept g c =
    empty_kept _ _ _ _ c.geometry-block_count.result.block_count
    ((g.met.D.BlockDevice.shape c.write_root_thread.new.device).count ∙ ap (λ k. k.block_count) (c.in-Ok-write_root_thread.ensures.device.geometry ∙ sym c.geometry-block_count.ensures))
    c.in-Ok-write_root_thread.ensures.root c.in-Ok.ensures.map

is_formatted : (g : _) (c : goal.After-from_parts g) → IsFreshlyFormatted c.from_parts.result.kept
is_formatted g c =
    subst IsFreshlyFormatted (sym c.from_parts.ensures.kept)
    (empty_formatted c.args.order _ _ _ _ c.geometry-block_count.result.block_count
    ((g.met.D.BlockDevice.shape c.write_root_thread.new.device).count ∙ ap (λ k. k.block_count) (c.in-Ok-write_root_thread.ensures.device.geometry ∙ sym c.geometry-block_count.ensures))
    c.in-Ok-write_root_thread.ensures.root c.in-Ok.ensures.map)

pub returns-in-Ok-write_root_thread-clause-formatted : goal.returns-in-Ok-write_root_thread-clause-formatted
returns-in-Ok-write_root_thread-clause-formatted g c = is_formatted g c

pub returns-in-Ok-write_root_thread-clause-shows : goal.returns-in-Ok-write_root_thread-clause-shows
returns-in-Ok-write_root_thread-clause-shows g c = shows_empty c.from_parts.result.kept (is_formatted g c)

pub returns-in-Ok-write_root_thread-clause-writes : goal.returns-in-Ok-write_root_thread-clause-writes
returns-in-Ok-write_root_thread-clause-writes g c =
    subst (ChangesThreadBlocks (address_blocks superblock_pair_address) (kept_in_order g.D.BlockDevice c.args.order c.args.device [] [])) (sym c.from_parts.ensures.kept)
    (wrote g.D.BlockDevice c.args.order _ _ (address_blocks superblock_pair_address) c.in-Ok-write_root_thread.ensures.device)
