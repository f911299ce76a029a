-- The lists that hold a writer's contents, and the states of their blocks.
use Rattle.std.specs.Prelude.{ℕ, ◌≡◌, ◌≢◌, ◌≤◌, ◌++◌, ◌⊎◌, All, Contains, true, false, List, length, take, drop}
use Rattle.lfs_model.specs.format.Blocks.{Blocks, block_bytes}
use Rattle.lfs_model.specs.layers.BlockSets.{BlockStates, IsFree, IsInFlight, IsUsedBlock, used_count}
use Rattle.lfs_model.specs.session.History.{CallEvent, is_unprogrammed_byte}
use Rattle.lfs_model.specs.format.SkipLists.{skip_list_block_count, list_bytes}
use Rattle.lfs_file.specs.Growing.{GrowingList, DiskHasList, growing_blocks, growing_bytes, rest_lacks_block, lasting_blocks, unwritten_block, growing_size_with}
use Rattle.lfs_file.specs.BlocksApart.{IsTakenNotPending, HasBlocksTaken}
use Rattle.lfs_file.specs.Bases.{IsListOrEmpty, blocks_of_list}
use Rattle.lfs_file.specs.declared.stored_list.StoredList.{StoredList}

-- A stored list has all contents. If it is in flight, some of its blocks may be; no other blocks are.
pub record IsFinishedList (map : BlockStates) (disk : Blocks) (block_size : ℕ) (s : StoredList) : Type 0 where
  pub base : IsListOrEmpty disk block_size s.head s.size
  pub count : length map ≡ length disk
  pub marked : All (λ b. ¬ (IsFree map b)) (blocks_of_list disk block_size s.head s.size)
  pub flying : (b : ℕ) → IsInFlight map b → (s.in_flight ≡ true) × Contains (blocks_of_list disk block_size s.head s.size) b

-- A draft: the new list has the first bytes, the old list (`base`) those behind them. Both share their first blocks. The other
-- blocks of the new list aren't the old one's, and not used. No other block is in flight.
pub record SharesFirstBlocks (map : BlockStates) (disk : Blocks) (block_size : ℕ) (g : GrowingList) (base : StoredList) (shared : ℕ) : Type 0 where
  pub growing : DiskHasList disk g
  pub marked : HasBlocksTaken map disk g
  pub list : IsListOrEmpty disk block_size base.head base.size
  pub apart : All (IsTakenNotPending map (unwritten_block g)) (blocks_of_list disk block_size base.head base.size)
  pub few : shared ≤ skip_list_block_count block_size base.size
  pub front : take shared (lasting_blocks disk g) ≡ take shared (blocks_of_list disk block_size base.head base.size)
  pub behind : All (λ b. All (λ c. c ≢ b) (blocks_of_list disk block_size base.head base.size)) (drop shared (lasting_blocks disk g))
  pub taken : (b : ℕ) → Contains (lasting_blocks disk g) b → IsUsedBlock map b → Contains (blocks_of_list disk block_size base.head base.size) b
  pub flying : (b : ℕ) → IsInFlight map b → Contains (lasting_blocks disk g) b ⊎ ((base.in_flight ≡ true) × Contains (blocks_of_list disk block_size base.head base.size) b)

-- All blocks of the new list are its own, as many as its bytes need, and it can be ended.
pub record CanEndOver (map : BlockStates) (disk : Blocks) (block_size : ℕ) (g : GrowingList) (base : StoredList) (shared : ℕ) : Type 0 where
  pub begun : SharesFirstBlocks map disk block_size g base shared
  pub own : growing_blocks disk g ≡ lasting_blocks disk g
  pub many : length (lasting_blocks disk g) ≡ skip_list_block_count block_size (growing_size_with block_size g)
  pub listed : rest_lacks_block g ≡ false

-- the contents of a stored list, and of a draft
abbrev pub stored_list_bytes : Blocks → ℕ → StoredList → List ℕ
stored_list_bytes disk block_size s = list_bytes disk block_size s.head s.size

abbrev pub bytes_over_base : Blocks → ℕ → GrowingList → StoredList → List ℕ
bytes_over_base disk block_size g base = growing_bytes disk g ++ drop (growing_size_with block_size g) (stored_list_bytes disk block_size base)

-- no used block changes
pub record KeepsUsedBytes (map : BlockStates) (old new : Blocks) : Type 0 where
  pub count : length new ≡ length old
  pub sizes : (b : ℕ) → length (block_bytes new b) ≡ length (block_bytes old b)
  pub same : (b : ℕ) → IsUsedBlock map b → block_bytes new b ≡ block_bytes old b

-- bytes of used blocks that were unprogrammed still are
pub record UsedStayUnprogrammed (map : BlockStates) (old new : List CallEvent) : Type 0 where
  pub stays : (b k : ℕ) → IsUsedBlock map b → is_unprogrammed_byte old b k ≡ true → is_unprogrammed_byte new b k ≡ true

-- the same blocks are used
pub record KeepsUsedBlocks (old new : BlockStates) : Type 0 where
  pub count : length new ≡ length old
  pub used : used_count new ≡ used_count old
  pub stays : (b : ℕ) → IsUsedBlock old b → IsUsedBlock new b
