-- The result of reading a thread from a device.
use Rattle.std.specs.Prelude.{ℕ, ◌≡◌, ◌+◌, false, List, [], slice_set, sum_by}
use Rattle.lfs_device.specs.declared.device.BlockDevice.{Ghosts}
use Rattle.lfs_model.specs.layers.BlockSets.{AreInFlight, AreUsed, BlockStates, Used}
use Rattle.lfs_model.specs.format.Content.{content_at}
use Rattle.lfs_model.specs.format.Disk.{Disk}
use Rattle.lfs_model.specs.session.History.{CallEvent, OnlyReadsSince, fault_count, read_count}
use Rattle.lfs_model.specs.format.Thread.{IsThread, Pair, pairs_blocks}
use Rattle.lfs_pair.specs.Pair.{header_address, fetch_reads}
use Rattle.lfs_thread.specs.Begun.{OnFreeBlocks}
use Rattle.lfs_thread.specs.Kept.{PairHeader, IsHeader, ThreadView, disk_of_device}

-- The header is that of the pair at an address. The pair's blocks were free, and are used now.
pub record IsHeaderRead (disk : Disk) (history : List CallEvent) (at : ℕ × ℕ) (old new : BlockStates) (h : PairHeader) : Type 0 where
  pub header : IsHeader disk history h
  pub address : header_address h ≡ at
  pub stands : OnFreeBlocks disk old at
  pub marked : new ≡ slice_set (slice_set old at.0 Used) at.1 Used

-- the reads that fetching a thread's pairs costs
abbrev pub thread_reads : Disk → List Pair → ℕ
thread_reads disk ps = sum_by (λ p. fetch_reads disk p.at) ps

-- The thread was read, by one fetch for each pair and without a fault; the device was only read. It works. In the map the pairs'
-- blocks are used and no others, and none is in flight.
pub record IsReadThread {D : Type 0} (g : Ghosts D) (device : D) (t : ThreadView) : Type 0 where
  pub works : t.failed ≡ false
  pub thread : IsThread (content_at (disk_of_device g device)) (g.geometry device).block_count t.kept.pairs
  pub used : AreUsed t.kept.map (pairs_blocks t.kept.pairs)
  pub none_in_flight : AreInFlight t.kept.map []
  pub disk : t.kept.disk ≡ disk_of_device g device
  pub only : OnlyReadsSince (g.blocks device) (g.history device) t.kept.history
  pub no_fault : fault_count t.kept.history ≡ fault_count (g.history device)
  pub few : read_count t.kept.history ≡ read_count (g.history device) + thread_reads (disk_of_device g device) t.kept.pairs
