-- The blocks that extending a list leaves alone, and the states of the list's own blocks.
use Rattle.std.specs.Prelude.{ℕ, ◌≡◌, ◌≢◌, ◌+◌, ◌⊎◌, All, Contains, true, List, length, take, drop}
use Rattle.lfs_model.specs.format.Blocks.{Blocks, block_bytes}
use Rattle.lfs_model.specs.layers.BlockSets.{BlockStates, IsFree, IsInFlight, in_flight_count}
use Rattle.lfs_model.specs.session.History.{CallEvent, is_unprogrammed_byte}
use Rattle.lfs_file.specs.Growing.{GrowingList, lasting_blocks, unwritten_block}

-- a block is in flight or used, and isn't the list's unwritten one
abbrev pub IsTakenNotPending : BlockStates → List ℕ → ℕ → Type 0
IsTakenNotPending map pending b = (¬ (IsFree map b)) × All (λ p. p ≢ b) pending

-- such blocks keep their bytes
pub record KeepsTakenBytes (map : BlockStates) (pending : List ℕ) (old new : Blocks) : Type 0 where
  pub count : length new ≡ length old
  pub sizes : (b : ℕ) → length (block_bytes new b) ≡ length (block_bytes old b)
  pub same : (b : ℕ) → IsTakenNotPending map pending b → block_bytes new b ≡ block_bytes old b

-- bytes in them that were unprogrammed still are
pub record TakenStayUnprogrammed (map : BlockStates) (pending : List ℕ) (old new : List CallEvent) : Type 0 where
  pub stays : (b k : ℕ) → IsTakenNotPending map pending b → is_unprogrammed_byte old b k ≡ true → is_unprogrammed_byte new b k ≡ true

-- no block of the list is free, and its unwritten block is in flight
pub record HasBlocksTaken (map : BlockStates) (disk : Blocks) (g : GrowingList) : Type 0 where
  pub count : length map ≡ length disk
  pub kept : All (λ b. ¬ (IsFree map b)) (lasting_blocks disk g)
  pub pending : All (IsInFlight map) (unwritten_block g)

-- a list was extended in blocks that were free; only these became in flight
pub record GrowsInFree (map : BlockStates) (disk : Blocks) (g : GrowingList) (later : BlockStates) (new : Blocks) (h : GrowingList) : Type 0 where
  pub apart : (b : ℕ) → IsTakenNotPending map (unwritten_block g) b → IsTakenNotPending later (unwritten_block h) b
  pub flying : (b : ℕ) → IsInFlight later b → IsInFlight map b ⊎ Contains (lasting_blocks new h) b
  pub front : take (length (lasting_blocks disk g)) (lasting_blocks new h) ≡ lasting_blocks disk g
  pub fresh : All (IsFree map) (drop (length (lasting_blocks disk g)) (lasting_blocks new h))
  pub count : in_flight_count later + length (lasting_blocks disk g) ≡ in_flight_count map + length (lasting_blocks new h)
