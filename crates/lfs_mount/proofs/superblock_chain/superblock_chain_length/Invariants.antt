use Rattle.std.proofs.Common.{◌≡◌, ◌≤◌, ◌+◌, ◌-◌}
use Rattle.lfs_mount.proofs.Common.{ReadsOnly, fault_count, read_count, disk_of_device, header_pairs}
use Rattle.lfs_mount.proofs.Heads.{IsWalked}
use Rattle.lfs_mount.proofs.superblock_chain.superblock_chain_length.Given as goal

abbrev pub invariant-loop-index : goal.invariant-loop-index
invariant-loop-index g l = record {
  walked : IsWalked (g.D.BlockDevice.geometry l.fn.dev).profile.versions l.bytes.items (header_pairs (disk_of_device g.D.BlockDevice l.fn.dev) l.pairs) l.root (l.index - 1);
  device : ReadsOnly g.D.BlockDevice l.fn.dev l.dev;
  no_fault : fault_count (g.D.BlockDevice.history l.dev) ≡ fault_count (g.D.BlockDevice.history l.fn.dev);
  read : read_count (g.D.BlockDevice.history l.dev) ≤ read_count (g.D.BlockDevice.history l.fn.dev) + 1 + l.root;
}
