use Rattle.std.proofs.Common.{◌≡◌, ◌+◌, length}
use Rattle.std.specs.Prelude.{sum_by}
use Rattle.lfs_thread.proofs.Common.{option_map, disk_of_blocks, ReadsOnly, read_count, address_of_array, header_address, fetch_reads, IsThreadBeginning}
use Rattle.lfs_model.specs.session.History.{fault_count}
use Rattle.lfs_thread.proofs.headers.read_thread_headers.Given as goal

abbrev pub invariant-loop : goal.invariant-loop
invariant-loop g l = record {
  begun : IsThreadBeginning (disk_of_blocks (g.D.BlockDevice.geometry l.device) (g.D.BlockDevice.blocks l.device)) (g.D.BlockDevice.history l.device) l.pairs.items l.map (option_map address_of_array l.next);
  device : ReadsOnly g.D.BlockDevice l.fn.device l.device;
  no_fault : fault_count (g.D.BlockDevice.history l.device) ≡ fault_count (g.D.BlockDevice.history l.fn.device);
  count : length l.pairs.items ≡ l.counter;
  few : read_count (g.D.BlockDevice.history l.device) ≡ read_count (g.D.BlockDevice.history l.fn.device) + sum_by (λ h. fetch_reads (disk_of_blocks (g.D.BlockDevice.geometry l.fn.device) (g.D.BlockDevice.blocks l.fn.device)) (header_address h)) l.pairs.items;
}
