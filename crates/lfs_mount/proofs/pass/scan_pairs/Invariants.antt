use Rattle.std.proofs.Common.{◌≡◌, ◌≤◌, ◌+◌, ◌∷◌, Bool, List, drop, take}
use Rattle.std.specs.Prelude.{sum_by}
use Rattle.lfs_mount.proofs.Common.{ReadsOnly, disk_with_order, fault_count, read_count, Pair, disk_of_device, IsDescribedThread, graph_view, scan_view, pair_reads}
use Rattle.lfs_model.specs.declared.order.NameOrder.{NameOrder}
use Rattle.lfs_mount.proofs.Breaking.{AreMarked}
use Rattle.lfs_mount.proofs.Passing.{IsUnderWay}
use Rattle.lfs_mount.proofs.pass.scan_pairs.Given as goal

abbrev pub invariant-loop-member : goal.invariant-loop-member
invariant-loop-member g l = record {
  way : (order : NameOrder)
      → IsUnderWay (disk_with_order order (disk_of_device g.D.BlockDevice l.initial.device)) l.places l.initial.map l.members (graph_view order l.directories.items) (scan_view order l.known) l.map (drop l.member-index l.members);
  marks : (order : NameOrder) (sync : Bool) (chain : List Pair) (p : Pair) (rest : List Pair) → IsDescribedThread (disk_with_order order (disk_of_device g.D.BlockDevice l.initial.device)) l.initial.map l.places l.members sync chain p rest
      → AreMarked (disk_with_order order (disk_of_device g.D.BlockDevice l.initial.device)) chain (p ∷ rest) l.member-index l.map;
  device : ReadsOnly g.D.BlockDevice l.initial.device l.device;
  quiet : fault_count (g.D.BlockDevice.history l.device) ≡ fault_count (g.D.BlockDevice.history l.initial.device);
  few : read_count (g.D.BlockDevice.history l.device)
      ≤ read_count (g.D.BlockDevice.history l.initial.device) + sum_by (pair_reads (disk_of_device g.D.BlockDevice l.initial.device)) (take l.member-index l.members);
}
