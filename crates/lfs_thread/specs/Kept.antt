-- A thread as it is kept in memory, and as contracts see it.
use Rattle.std.specs.Prelude.{ℕ, ◌≡◌, Bool, nat_eq, unwrap_or, map, length, List, [], ◌∷◌, Option, Some}
use Rattle.std.specs.List.{IsDistinct}
use Rattle.lfs_device.specs.declared.device.BlockDevice.{Ghosts}
use Rattle.lfs_device.specs.DeviceDisk.{disk_of_blocks}
use Rattle.lfs_model.specs.format.Blocks.{Blocks, block_bytes}
use Rattle.lfs_model.specs.layers.BlockSets.{BlockStates, IsUsedBlock}
use Rattle.lfs_model.specs.layers.Cache.{CachedBlocks, cached_bytes}
use Rattle.lfs_model.specs.format.Disk.{Disk, block_count, disk_with_order}
use Rattle.lfs_model.specs.session.History.{CallEvent, OnlyReadsSince}
use Rattle.lfs_model.specs.format.Slots.{PairContent, zero_gstate}
use Rattle.lfs_model.specs.format.Content.{RawContent, raw_content, content_at, decoded_content}
use Rattle.lfs_model.specs.declared.order.NameOrder.{NameOrder}
use Rattle.lfs_model.specs.format.Thread.{Pair, superblock_pair_address, AreLinkedByTails, pairs_blocks}
use Rattle.lfs_pair.specs.declared.pair.Pair as header
use Rattle.lfs_thread.specs.declared.parts.ThreadParts.{ThreadParts}
use Rattle.lfs_pair.specs.Pair.{IsTrueHeader, header_address}
use Rattle.lfs_pair.specs.Commits.{IsPairAddress}

-- The header of a pair that is kept in memory.
abbrev pub PairHeader : Type 0
PairHeader = header.Pair

-- The state that a thread keeps: the disk and its calls so far, the pairs in the thread's order, and the block map.
pub record KeptThread : Type 0 where
  pub disk : Disk
  pub history : List CallEvent
  pub pairs : List Pair
  pub map : BlockStates

-- A thread as contracts see it: what it keeps, the cached blocks, and whether a call failed.
pub record ThreadView : Type 0 where
  pub kept : KeptThread
  pub cache : CachedBlocks
  pub failed : Bool

-- the pair that the disk has at an address
abbrev pub disk_pair_at : Disk → ℕ × ℕ → Pair
disk_pair_at disk at = record { at = at; content = unwrap_or (content_at disk at) (record { slots = []; tail = Option.None; move = zero_gstate }) }

abbrev pub header_pairs : Disk → List PairHeader → List Pair
header_pairs disk headers = map (λ h. disk_pair_at disk (header_address h)) headers

abbrev pub kept_view : Disk → List CallEvent → List PairHeader → BlockStates → KeptThread
kept_view disk history headers sets = record { disk = disk; history = history; pairs = header_pairs disk headers; map = sets }

-- The disk has the pair as its header says, and each of its slots has a name and a struct.
pub record IsHeader (disk : Disk) (history : List CallEvent) (h : PairHeader) : Type 0 where
  pub address : IsPairAddress disk (header_address h)
  pub held : RawContent
  pub is_pair : IsTrueHeader disk history h held
  pub raw : raw_content disk (header_address h) ≡ Some held
  pub content : PairContent
  pub complete : decoded_content held ≡ Some content

abbrev pub AreHeaders : Disk → List CallEvent → List PairHeader → Type 0
AreHeaders disk history [] = Unit {0}
AreHeaders disk history (h ∷ hs) = IsHeader disk history h × AreHeaders disk history hs

abbrev pub AllBlocksUsed : BlockStates → List ℕ → Type 0
AllBlocksUsed sets [] = Unit {0}
AllBlocksUsed sets (b ∷ bs) = IsUsedBlock sets b × AllBlocksUsed sets bs

-- The state kept is that of the disk: the headers are those of its thread, and their blocks are used in the map.
pub record IsKeptOnDisk (disk : Disk) (history : List CallEvent) (headers : List PairHeader) (sets : BlockStates) : Type 0 where
  pub each : AreHeaders disk history headers
  pub links : AreLinkedByTails (Some superblock_pair_address) (header_pairs disk headers)
  pub distinct : IsDistinct nat_eq (pairs_blocks (header_pairs disk headers))
  pub size : length sets ≡ block_count disk
  pub used : AllBlocksUsed sets (pairs_blocks (header_pairs disk headers))

-- The headers were kept at some time, and the disk was only read since then. Their blocks are used in the map.
pub record WasKeptOnDisk (disk : Disk) (history : List CallEvent) (headers : List PairHeader) (sets : BlockStates) : Type 0 where
  pub before : List CallEvent
  pub since : OnlyReadsSince disk.blocks before history
  pub each : AreHeaders disk before headers
  pub links : AreLinkedByTails (Some superblock_pair_address) (header_pairs disk headers)
  pub distinct : IsDistinct nat_eq (pairs_blocks (header_pairs disk headers))
  pub size : length sets ≡ block_count disk
  pub used : AllBlocksUsed sets (pairs_blocks (header_pairs disk headers))

-- each cached block has the bytes that the device has
abbrev pub IsCacheCurrent : Blocks → CachedBlocks → Type 0
IsCacheCurrent blocks cache = (b : ℕ) (bytes : List ℕ) → cached_bytes cache b ≡ Some bytes → bytes ≡ block_bytes blocks b

-- ---- the same for a device, whose order of names isn't known

abbrev pub disk_of_device : {D : Type 0} → Ghosts D → D → Disk
disk_of_device g device = disk_of_blocks (g.geometry device) (g.blocks device)

abbrev pub kept_of_device : {D : Type 0} → Ghosts D → D → List PairHeader → BlockStates → KeptThread
kept_of_device g device headers sets = kept_view (disk_of_device g device) (g.history device) headers sets

-- what is kept of a thread over a device, with its names in that order
abbrev pub kept_in_order : {D : Type 0} → Ghosts D → NameOrder → D → List PairHeader → BlockStates → KeptThread
kept_in_order g order device headers sets = kept_view (disk_with_order order (disk_of_device g device)) (g.history device) headers sets

abbrev pub IsKept : {D : Type 0} → Ghosts D → D → List PairHeader → BlockStates → Type 0
IsKept g device headers sets = IsKeptOnDisk (disk_of_device g device) (g.history device) headers sets

abbrev pub WasKeptOnDevice : {D : Type 0} → Ghosts D → D → List PairHeader → BlockStates → Type 0
WasKeptOnDevice g device headers sets = WasKeptOnDisk (disk_of_device g device) (g.history device) headers sets

-- ---- the same for the parts of a thread

-- what is kept in the parts of a thread, whose order of names doesn't matter
abbrev pub kept_parts : {D : Type 0} → Ghosts D → ThreadParts D → KeptThread
kept_parts g parts = kept_of_device g parts.device parts.pairs.items parts.map

-- the headers and the map are those of the device, and each cached block has the bytes that the device has
abbrev pub AreKeptParts : {D : Type 0} → Ghosts D → ThreadParts D → Type 0
AreKeptParts g parts = IsKept g parts.device parts.pairs.items parts.map × IsCacheCurrent (g.blocks parts.device) parts.cache
