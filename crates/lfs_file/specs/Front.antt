-- The full blocks of a list, while a block behind them is written.
use Rattle.std.specs.Prelude.{ℕ, ◌≡◌, ◌≤◌, ◌+◌, ◌-◌, List}
use Rattle.lfs_model.specs.session.History.{CallEvent, read_count}
use Rattle.lfs_model.specs.format.SkipLists.{pointer_count}
use Rattle.lfs_file.specs.Known.{ArePointersKnown, OnlyBelowKnown, AreKnownBlocks}
use Rattle.lfs_file.specs.declared.block.FullBlocks.{FullBlocks}

-- the same blocks, of which more may be cached
pub record KeepsFullBlocks (all : List ℕ) (old new : FullBlocks) : Type 0 where
  pub count : new.count ≡ old.count
  pub head : new.head ≡ old.head
  pub known : AreKnownBlocks all new.known
  pub below : OnlyBelowKnown old.count old.known → OnlyBelowKnown new.count new.known

-- Each pointer of the next block, except its first, costs at most one read, and none if all are cached.
pub record ReadsUnknownPointers (old new : FullBlocks) (before after : List CallEvent) : Type 0 where
  pub few : read_count after ≤ read_count before + (pointer_count old.count - 1)
  pub none : ArePointersKnown old.count old.known → (new.known ≡ old.known) × (read_count after ≡ read_count before)
