-- The cost of fetching a pair's header, and the errors of the fetch.
use Rattle.std.specs.Prelude.{◌≡◌, ◌≤◌, ◌⊎◌, ◌+◌, ℕ, List, Result, Err, None, IfErr, OnOk}
use Rattle.lfs_device.specs.declared.device.BlockDevice.{Ghosts}
use Rattle.lfs_device.specs.declared.error.Error.{Error}
use Rattle.lfs_device.specs.declared.error.Error.TheVariants.{Corrupt, Io, NoMemory}
use Rattle.lfs_device.specs.DeviceCalls.{ReportsFaults}
use Rattle.lfs_device.specs.DeviceDisk.{disk_of_blocks}
use Rattle.lfs_model.specs.format.Disk.{Disk}
use Rattle.lfs_model.specs.format.Log.{chain_of, block_entries, block_revision}
use Rattle.lfs_model.specs.format.Content.{content_after, empty_raw_content, raw_content}
use Rattle.lfs_model.specs.session.History.{CallEvent, read_count}
use Rattle.lfs_pair.specs.declared.block_logs.ActiveBlockCandidate.{ActiveBlockCandidate}
use Rattle.lfs_pair.specs.declared.pair.Pair.{Pair}
use Rattle.lfs_pair.specs.Pair.{fetch_reads}

-- The candidate has the end, the last tag and the revision count of the block's log.
pub record CandidateDescribesLog (block : List ℕ) (head : ActiveBlockCandidate) : Type 0 where
  pub end : head.end ≡ (chain_of block).end
  pub last : head.last ≡ (chain_of block).last
  pub revision : head.revision ≡ block_revision block

-- The header can't be made: the block's log is malformed, or memory runs out.
pub record HeaderFails (block : List ℕ) (result : Result Pair Error) : Type 0 where
  pub corrupt : result ≡ Err Corrupt → content_after empty_raw_content (block_entries block) ≡ None
  pub errors : IfErr result (λ e. (e ≡ Corrupt) ⊎ (e ≡ NoMemory))

-- There are two reads if both succeed, otherwise at most two.
pub record ReadsTwice {X : Type 0} (before after : List CallEvent) (result : Result X Error) : Type 0 where
  pub reads : read_count after ≤ read_count before + 2
  pub both : OnOk result (read_count after ≡ read_count before + 2)

-- The fetch fails. With `Corrupt`, there is no content at the address. The error is `Io` if and
-- only if the device had a fault.
pub record FetchFails {D : Type 0} (g : Ghosts D) (at : ℕ × ℕ) (old new : D) (result : Result Pair Error) : Type 0 where
  pub corrupt : result ≡ Err Corrupt → raw_content (disk_of_blocks (g.geometry old) (g.blocks old)) at ≡ None
  pub errors : IfErr result (λ e. (e ≡ Corrupt) ⊎ ((e ≡ NoMemory) ⊎ (e ≡ Io)))
  pub faults : ReportsFaults g old new result

-- The number of reads is exactly that of `fetch_reads` if the result is Ok, and at most four.
pub record FetchReads (disk : Disk) (at : ℕ × ℕ) (before after : List CallEvent) (result : Result Pair Error) : Type 0 where
  pub reads : OnOk result (read_count after ≡ read_count before + fetch_reads disk at)
  pub few : read_count after ≤ read_count before + 4
