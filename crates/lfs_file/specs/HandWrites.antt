-- A draft, and the contents of its two lists.
use Rattle.std.specs.Prelude.{ℕ, ◌≡◌, ◌≢◌, ◌≤◌, true, List, max}
use Rattle.lfs_device.specs.declared.geometry.Geometry.{Geometry}
use Rattle.lfs_model.specs.format.Blocks.{Blocks}
use Rattle.lfs_model.specs.layers.BlockSets.{BlockStates}
use Rattle.lfs_file.specs.Growing.{growing_size}
use Rattle.lfs_file.specs.Hand.{SharesFirstBlocks, CanEndOver, IsFinishedList, bytes_over_base, stored_list_bytes}
use Rattle.lfs_file.specs.BlockOwners.{AreUsedAmong, stored_blocks}
use Rattle.lfs_file.specs.declared.stored_list.StoredList.{StoredList}
use Rattle.lfs_file.specs.declared.writes.PendingList.{PendingList}

-- the size of a draft's contents in bytes
abbrev pub unfinished_length : PendingList → ℕ
unfinished_length hand = max (growing_size hand.list) hand.base.size

-- the contents of a draft
abbrev pub unfinished_bytes : Blocks → PendingList → List ℕ
unfinished_bytes disk hand = bytes_over_base disk hand.list.geometry.block_size hand.list hand.base

-- a draft that was started, of this device
pub record IsUnfinishedList (map : BlockStates) (disk : Blocks) (now : Geometry) (hand : PendingList) : Type 0 where
  pub geometry : now ≡ hand.list.geometry
  pub begun : SharesFirstBlocks map disk hand.list.geometry.block_size hand.list hand.base hand.shared

-- a draft whose new list has bytes, of this device
pub record CanEndUnfinished (map : BlockStates) (disk : Blocks) (now : Geometry) (hand : PendingList) : Type 0 where
  pub geometry : now ≡ hand.list.geometry
  pub list : CanEndOver map disk hand.list.geometry.block_size hand.list hand.base hand.shared
  pub some : 1 ≤ growing_size hand.list

-- a draft that was started: its new list ends at this offset, and the contents are these
pub record IsUnfinishedTo (map : BlockStates) (disk : Blocks) (now : Geometry) (hand : PendingList) (place : ℕ) (contents : List ℕ) : Type 0 where
  pub begun : IsUnfinishedList map disk now hand
  pub size : growing_size hand.list ≡ place
  pub bytes : unfinished_bytes disk hand ≡ contents

-- the same for a draft whose new list has bytes
pub record EndsAtPlace (map : BlockStates) (disk : Blocks) (now : Geometry) (hand : PendingList) (place : ℕ) (contents : List ℕ) : Type 0 where
  pub going : CanEndUnfinished map disk now hand
  pub size : growing_size hand.list ≡ place
  pub bytes : unfinished_bytes disk hand ≡ contents

-- the old list is the same if the draft continues at its end; otherwise it has all contents, and may be in flight
pub record KeepsOrReplacesBase (old : PendingList) (place : ℕ) (new : PendingList) : Type 0 where
  pub same : growing_size old.list ≡ place → new.base ≡ old.base
  pub size : growing_size old.list ≢ place → new.base.size ≡ unfinished_length old
  pub flying : growing_size old.list ≢ place → new.base.in_flight ≡ true

-- and its used blocks are those of the old list before
pub record TakesOldBase (map : BlockStates) (block_size : ℕ) (disk : Blocks) (old : PendingList) (place : ℕ) (later : Blocks) (new : PendingList) : Type 0 where
  pub over : KeepsOrReplacesBase old place new
  pub owned : AreUsedAmong map (stored_blocks disk block_size old.base) (stored_blocks later block_size new.base)

-- a stored list of these bytes
pub record IsFinishedOf (map : BlockStates) (disk : Blocks) (now : Geometry) (s : StoredList) (length : ℕ) (contents : List ℕ) : Type 0 where
  pub stored : IsFinishedList map disk now.block_size s
  pub count : s.size ≡ length
  pub bytes : stored_list_bytes disk now.block_size s ≡ contents

-- `count` zeros were written at the end of a draft's new list
pub record AreZerosWritten (map : BlockStates) (disk : Blocks) (now : Geometry) (hand : PendingList) (count place : ℕ) (contents : List ℕ) : Type 0 where
  pub at : IsUnfinishedTo map disk now hand place contents
  pub going : 1 ≤ count → CanEndUnfinished map disk now hand
