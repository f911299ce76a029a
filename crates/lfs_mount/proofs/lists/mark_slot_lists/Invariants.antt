use Rattle.std.proofs.Common.{◌≡◌, ◌≤◌, ◌+◌, take}
use Rattle.std.specs.Prelude.{sum_by}
use Rattle.lfs_mount.proofs.Common.{ReadsOnly, fault_count, read_count, disk_of_device, lists_view, MarksAllListsUsed, list_reads}
use Rattle.lfs_mount.proofs.lists.mark_slot_lists.Given as goal

abbrev pub invariant-loop-index : goal.invariant-loop-index
invariant-loop-index g l = record {
  marked : MarksAllListsUsed (disk_of_device g.D.BlockDevice l.initial.device) l.initial.map (lists_view (take l.index l.slots)) l.map;
  device : ReadsOnly g.D.BlockDevice l.initial.device l.device;
  quiet : fault_count (g.D.BlockDevice.history l.device) ≡ fault_count (g.D.BlockDevice.history l.initial.device);
  few : read_count (g.D.BlockDevice.history l.device)
      ≤ read_count (g.D.BlockDevice.history l.initial.device) + sum_by (list_reads (g.D.BlockDevice.geometry l.initial.device).block_size) (lists_view (take l.index l.slots));
}
