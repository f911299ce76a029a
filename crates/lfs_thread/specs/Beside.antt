-- Work on a thread's device and map that leaves its pairs alone.
use Rattle.std.specs.Prelude.{ℕ, ◌≡◌, length, true, Contains}
use Rattle.std.specs.Fn.{Once}
use Rattle.std.specs.Borrow.{MutBor}
use Rattle.lfs_device.specs.declared.device.BlockDevice.{Ghosts}
use Rattle.lfs_device.specs.declared.geometry.Geometry.{Geometry}
use Rattle.lfs_model.specs.format.Blocks.{block_bytes}
use Rattle.lfs_model.specs.layers.BlockSets.{BlockStates, IsUsedBlock}
use Rattle.lfs_model.specs.format.Disk.{Disk, block_count, disk_with_order}
use Rattle.lfs_model.specs.session.History.{is_unprogrammed_byte}
use Rattle.lfs_model.specs.format.Thread.{pairs_blocks}
use Rattle.lfs_thread.specs.Kept.{KeptThread, disk_of_device}

-- the disk has this geometry
pub record HasGeometry (geometry : Geometry) (disk : Disk) : Type 0 where
  pub block_size : geometry.block_size ≡ disk.block_size
  pub page : geometry.page ≡ disk.page
  pub profile : geometry.profile ≡ disk.profile
  pub count : geometry.block_count ≡ block_count disk

-- work that is called with a device and a map and returns an X
abbrev pub DeviceWork : Type 0 → Type 0 → Type 0 → Type 1
DeviceWork F D X = Once F (MutBor D × (MutBor BlockStates × Unit {0})) (X × (MutBor D × (MutBor BlockStates × Unit {0})))

-- the device and the map are the thread's
pub record BelongToThread {D : Type 0} (g : Ghosts D) (t : KeptThread) (device : D) (sets : BlockStates) : Type 0 where
  pub disk : disk_with_order t.disk.order (disk_of_device g device) ≡ t.disk
  pub history : g.history device ≡ t.history
  pub map : sets ≡ t.map

-- the work may be called with this device and this map
pub record CanRunWork {F D X : Type 0} (call : DeviceWork F D X) (work : F) (device : D) (map : BlockStates) : Type 0 where
  pub can : (p : MutBor D) (q : MutBor BlockStates) → p.now ≡ device → q.now ≡ map → call.pre work (p, (q, tt))

-- a call of the work with this device and this map may return x, and leave the device and the map as `later` and `later_map`
pub record WorkMayReturn {F D X : Type 0} (call : DeviceWork F D X) (work : F) (device : D) (map : BlockStates) (x : X) (later : D) (later_map : BlockStates) : Type 0 where
  pub shown : MutBor D
  pub shows : shown.now ≡ device
  pub shown_map : MutBor BlockStates
  pub shows_map : shown_map.now ≡ map
  pub left : MutBor D
  pub left_map : MutBor BlockStates
  pub met : call.post work (shown, (shown_map, tt)) (x, (left, (left_map, tt)))
  pub leaves : left.now ≡ later
  pub leaves_map : left_map.now ≡ later_map

-- No used block changes. The blocks of the thread's pairs stay used, and their unprogrammed bytes stay unprogrammed.
pub record KeepsPairBlocks {D : Type 0} (g : Ghosts D) (t : KeptThread) (device : D) (map : BlockStates) (later : D) (later_map : BlockStates) : Type 0 where
  pub geometry : g.geometry later ≡ g.geometry device
  pub count : length (g.blocks later) ≡ length (g.blocks device)
  pub same : (b : ℕ) → IsUsedBlock map b → block_bytes (g.blocks later) b ≡ block_bytes (g.blocks device) b
  pub stays : (b k : ℕ) → Contains (pairs_blocks t.pairs) b → IsUsedBlock map b → is_unprogrammed_byte (g.history device) b k ≡ true → is_unprogrammed_byte (g.history later) b k ≡ true
  pub size : length later_map ≡ length map
  pub used : (b : ℕ) → Contains (pairs_blocks t.pairs) b → IsUsedBlock map b → IsUsedBlock later_map b

-- The work was called with the thread's device and map, and returned x. The thread has the device and the map that the work left;
-- the order of its names is the same.
pub record HasRunWork {F D X : Type 0} (g : Ghosts D) (call : DeviceWork F D X) (work : F) (old : KeptThread) (x : X) (new : KeptThread) : Type 0 where
  pub device : D
  pub map : BlockStates
  pub later : D
  pub later_map : BlockStates
  pub before : BelongToThread g old device map
  pub after : BelongToThread g new later later_map
  pub order : new.disk.order ≡ old.disk.order
  pub run : WorkMayReturn call work device map x later later_map
