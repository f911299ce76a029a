-- A list being extended, on a disk.
use Rattle.std.specs.Prelude.{ℕ, ◌≡◌, List, length, All}
use Rattle.lfs_device.specs.declared.geometry.Geometry.{Geometry}
use Rattle.lfs_model.specs.format.Blocks.{Blocks, block_bytes}
use Rattle.lfs_file.specs.Growing.{GrowingList, DiskHasList, IsRestShort, SameListLater, growing_blocks, growing_bytes, lasting_blocks, growing_size_with}

-- On a disk the list has these `size` bytes, in the blocks `all`. Its blocks `own` stay its own when it is extended.
pub record ListHasBytes (divided : Geometry) (disk : Blocks) (list : GrowingList) (bytes : List ℕ) (size : ℕ) (own all : List ℕ) : Type 0 where
  pub geometry : list.geometry ≡ divided
  pub growing : DiskHasList disk list
  pub content : growing_bytes disk list ≡ bytes
  pub sum : growing_size_with divided.block_size list ≡ size
  pub whole : length bytes ≡ size
  pub kept : lasting_blocks disk list ≡ own
  pub blocks : growing_blocks disk list ≡ all
  pub short : IsRestShort divided.block_size list
  -- the same on any disk that has the same bytes in these blocks
  pub stays : (later : Blocks) → length later ≡ length disk → All (λ b. block_bytes later b ≡ block_bytes disk b) all → SameListLater disk later list
