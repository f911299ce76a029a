-- A list being extended, as contracts see it.
use Rattle.std.specs.Prelude.{ℕ, Bool, true, false, ◌≡◌, ◌≢◌, ◌≤◌, ◌<◌, ◌+◌, ◌-◌, ◌*◌, List, [], ◌∷◌, ◌++◌, length, take, drop, slice_index, All, ◌&&◌, nat_lt}
use Rattle.std.specs.List.{flat_map, enumerate_from}
use Rattle.lfs_model.specs.format.Blocks.{Blocks, block_bytes}
use Rattle.lfs_model.specs.format.SkipLists.{pointer_count, bytes_before_block, block_capacity, blocks_to_head, skip_list_block_count, AreListBlocks, block_data}
use Rattle.lfs_device.specs.declared.geometry.Geometry.{Geometry}
use Rattle.lfs_file.specs.Known.{AreKnownBlocks}
use Rattle.lfs_file.specs.declared.known.IndexCache.{IndexCache}
use Rattle.lfs_file.specs.declared.rest.RestLocation.{RestLocation}
use Rattle.lfs_file.specs.declared.rest.RestLocation.TheVariants.{Closed, Shared, Handed, Held}

pub record GrowingList : Type 0 where
  -- the geometry of the device
  pub geometry : Geometry
  -- the number of full blocks on the disk, the last of them if there is one, and the index cache
  pub full : ℕ
  pub head : ℕ
  pub known : IndexCache
  -- the bytes of the partial block, and where they are
  pub rest : List ℕ
  pub stand : RestLocation

-- the block for the partial bytes that was passed in and isn't written yet
abbrev pub unwritten_rest_block : RestLocation → List ℕ
unwritten_rest_block Closed = []
unwritten_rest_block (Shared b) = []
unwritten_rest_block (Handed b) = b ∷ []
unwritten_rest_block Held = []

-- the block that has the partial bytes, or will have them
abbrev pub rest_block : RestLocation → List ℕ
rest_block Closed = []
rest_block (Shared b) = b ∷ []
rest_block (Handed b) = b ∷ []
rest_block Held = []

-- the partial bytes are in memory without a block
abbrev pub lacks_last_block : RestLocation → Bool
lacks_last_block Closed = false
lacks_last_block (Shared b) = false
lacks_last_block (Handed b) = false
lacks_last_block Held = true

abbrev pub rest_lacks_block : GrowingList → Bool
rest_lacks_block g = lacks_last_block g.stand

abbrev pub unwritten_block : GrowingList → List ℕ
unwritten_block g = unwritten_rest_block g.stand

-- the blocks that stay the list's when it is extended: the full ones, and the unwritten one
abbrev pub lasting_blocks : Blocks → GrowingList → List ℕ
lasting_blocks disk g = blocks_to_head disk g.full g.head ++ unwritten_block g

-- the blocks of the list as it is now
abbrev pub growing_blocks : Blocks → GrowingList → List ℕ
growing_blocks disk g = blocks_to_head disk g.full g.head ++ rest_block g.stand

abbrev pub blocks_data : Blocks → List ℕ → List ℕ
blocks_data disk bs = flat_map (block_data disk) (enumerate_from 0 bs)

-- the bytes of the list
abbrev pub growing_bytes : Blocks → GrowingList → List ℕ
growing_bytes disk g = blocks_data disk (blocks_to_head disk g.full g.head) ++ g.rest

abbrev pub growing_size_with : ℕ → GrowingList → ℕ
growing_size_with block_size g = bytes_before_block block_size g.full + length g.rest

-- the size of the list in bytes
abbrev pub growing_size : GrowingList → ℕ
growing_size g = growing_size_with g.geometry.block_size g

-- the partial bytes don't fill a block, so the full blocks are all counted
abbrev pub IsRestShort : ℕ → GrowingList → Type 0
IsRestShort block_size g = length g.rest < block_capacity block_size g.full

-- how many more blocks the list needs for `n` more bytes
abbrev pub appended_count : GrowingList → ℕ → ℕ
appended_count g n = skip_list_block_count g.geometry.block_size (growing_size g + n) - (g.full + length (unwritten_block g))

-- there is an unwritten block, and it isn't full with `n` more bytes
abbrev pub fits_unwritten_block : GrowingList → ℕ → Bool
fits_unwritten_block g n = nat_lt 0 (length (unwritten_block g)) && nat_lt (length g.rest + n) (block_capacity g.geometry.block_size g.full)

-- the partial bytes are in memory, for a block that was passed in
pub record IsRestUnwritten (disk : Blocks) (full head : ℕ) (rest : List ℕ) (b : ℕ) : Type 0 where
  pub some : 1 ≤ length rest
  pub in_range : b < length disk
  pub apart : All (λ c. c ≢ b) (blocks_to_head disk full head)

-- the partial bytes are the beginning of a block that follows the full ones on the disk
pub record IsRestShared (disk : Blocks) (full head : ℕ) (rest : List ℕ) (b : ℕ) : Type 0 where
  pub some : 1 ≤ length rest
  pub chain : AreListBlocks disk (full + 1) b
  pub back : blocks_to_head disk (full + 1) b ≡ blocks_to_head disk full head ++ b ∷ []
  pub begins : take (length rest) (drop (4 * pointer_count full) (block_bytes disk b)) ≡ rest

abbrev pub IsRestAt : Blocks → ℕ → ℕ → List ℕ → RestLocation → Type 0
IsRestAt disk full head rest Closed = rest ≡ []
IsRestAt disk full head rest (Shared b) = IsRestShared disk full head rest b
IsRestAt disk full head rest (Handed b) = IsRestUnwritten disk full head rest b
IsRestAt disk full head rest Held = full ≡ 0

-- the disk has the list's full blocks, and its partial block if that is shared
pub record DiskHasList (disk : Blocks) (g : GrowingList) : Type 0 where
  pub chain : AreListBlocks disk g.full g.head
  pub known : AreKnownBlocks (blocks_to_head disk g.full g.head) g.known
  pub stand : IsRestAt disk g.full g.head g.rest g.stand

-- the block for the next bytes, and how many of the blocks passed in are used then
abbrev pub block_for_push : RestLocation → List ℕ → ℕ → ℕ × ℕ
block_for_push Closed blocks used = (slice_index blocks used, used + 1)
block_for_push (Shared b) blocks used = (slice_index blocks used, used + 1)
block_for_push (Handed b) blocks used = (b, used)
block_for_push Held blocks used = (slice_index blocks used, used + 1)

-- the list is the same on a later disk
pub record SameListLater (disk later : Blocks) (g : GrowingList) : Type 0 where
  pub growing : DiskHasList later g
  pub content : growing_bytes later g ≡ growing_bytes disk g
  pub kept : lasting_blocks later g ≡ lasting_blocks disk g
  pub blocks : growing_blocks later g ≡ growing_blocks disk g

-- all bytes are in memory, and none in a block
pub record IsAllBuffered (g : GrowingList) : Type 0 where
  pub held : rest_lacks_block g ≡ true
  pub none : g.full ≡ 0

-- the list can be ended, and its unwritten block is one of these
pub record HasUnwrittenAmong (bs : List ℕ) (g : GrowingList) : Type 0 where
  pub listed : rest_lacks_block g ≡ false
  pub pending : (other : ℕ) → All (λ b. b ≢ other) bs → All (λ b. b ≢ other) (unwritten_block g)
