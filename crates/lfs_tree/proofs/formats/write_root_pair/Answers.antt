use Rattle.std.proofs.Common.{sym, ◌∙◌}
use Rattle.lfs_tree.proofs.Formatted.{can_root, device_root}
use Rattle.lfs_tree.proofs.formats.write_root_pair.Goals as goal

pub fresh-requires : goal.fresh-requires
fresh-requires g c =
    can_root (g.D.BlockDevice.geometry c.args.device.now) c.geometry-geometry.result (g.D.BlockDevice.blocks c.args.device.now) _ _ _ (g.met.D.BlockDevice.shape c.args.device.now).count
    c.geometry-geometry.ensures c.superblock_changes-changes.ensures c.superblock_bytes-structure.ensures.bytes c.fresh_superblock.ensures.bytes

pub returns-clause-root : goal.returns-clause-root
returns-clause-root g c =
    device_root (g.D.BlockDevice.geometry c.fresh.new.dev) c.geometry-geometry.result (g.D.BlockDevice.blocks c.fresh.new.dev) _ _ _ _ _ _ (g.met.D.BlockDevice.shape c.fresh.new.dev).count
    (c.geometry-geometry.ensures ∙ sym c.in_ok-pair.ensures.device.only.geometry) c.superblock_changes-changes.ensures c.superblock_bytes-structure.ensures.bytes c.fresh_superblock.ensures.bytes c.in_ok-pair.ensures.fresh
