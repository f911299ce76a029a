-- Images that an operation may change.
use Rattle.std.specs.Prelude.{ℕ, ◌≡◌, ◌≤◌, ◌+◌, List, length, slice_get, Some}
use Rattle.lfs_model.specs.layers.BlockSets.{AreUsed, BlockStates, IsFree, IsInFlight}
use Rattle.lfs_model.specs.format.Content.{RawContent, raw_content}
use Rattle.lfs_model.specs.format.Disk.{Disk, block_count}
use Rattle.lfs_model.specs.layers.LoggedContent.{IsWellFormed}
use Rattle.lfs_model.specs.format.Slots.{zero_gstate}
use Rattle.lfs_model.specs.format.Thread.{pairs_gstate, count_before_root}
use Rattle.lfs_model.specs.tree.View.{IsAccepted}
use Rattle.lfs_model.specs.tree.Profile.{IsWritable}
use Rattle.lfs_model.specs.tree.Shown.{disk_tree, used_blocks}
use Rattle.lfs_model.specs.tree.Tree.{Tree}
use Rattle.lfs_model.specs.layers.Steps.{occurrence_count}
use Rattle.lfs_thread.specs.Kept.{KeptThread}

-- The image is accepted and in the writing profile. No move is pending, and the sync bit isn't set. The map's used blocks are
-- the image's. A block has at least 1,024 bytes, as in each geometry.
pub record IsRecoveredWritableImage (t : KeptThread) : Type 0 where
  pub accepted : IsAccepted t.disk t.pairs
  pub writable : IsWritable t.disk t.pairs
  pub settled : pairs_gstate t.pairs ≡ zero_gstate
  pub used : AreUsed t.map (used_blocks t.disk t.pairs)
  pub size : length t.map ≡ block_count t.disk
  pub large : 1024 ≤ t.disk.block_size

-- a block that wasn't free has the same state
abbrev pub KeepsNonFreeStates : BlockStates → BlockStates → Type 0
KeepsNonFreeStates old new = (b : ℕ) → (IsFree old b → ⊥) → slice_get new b ≡ slice_get old b

-- a block that is in flight was in flight before
abbrev pub AddsNoneInFlight : BlockStates → BlockStates → Type 0
AddsNoneInFlight old new = (b : ℕ) → IsInFlight new b → IsInFlight old b

-- the root directory's first pair has the same index
abbrev pub KeepsRootPairIndex : KeptThread → KeptThread → Type 0
KeepsRootPairIndex old new = count_before_root new.pairs ≡ count_before_root old.pairs

-- the content of a pair's log is one that a log can have, since its bytes are below 256
abbrev pub IsLogContentDecodable : Disk → ℕ × ℕ → Type 0
IsLogContentDecodable disk at = (raw : RawContent) → raw_content disk at ≡ Some raw → IsWellFormed raw

-- The image has that tree and may be changed again. The root directory begins with the same pair. No block that wasn't free has
-- changed its state in the map, and no further block is in flight.
pub record IsRecoveredWithTree (old new : KeptThread) (tree : Tree) : Type 0 where
  pub ready : IsRecoveredWritableImage new
  pub shows : disk_tree new.disk new.pairs ≡ tree
  pub stays : KeepsNonFreeStates old.map new.map
  pub none_comes : AddsNoneInFlight old.map new.map
  pub root : KeepsRootPairIndex old new

-- The map's used blocks are `used` without `come` and with `gone`.
pub record AreUsedBeforeMapUpdate (sets : BlockStates) (used gone come : List ℕ) : Type 0 where
  pub owned : List ℕ
  pub are : AreUsed sets owned
  pub same : (b : ℕ) → occurrence_count b owned + occurrence_count b come ≡ occurrence_count b used + occurrence_count b gone

-- An image that may be changed again once `come` are settled in the map, and `gone` are freed.
pub record IsWritableBeforeMapUpdate (t : KeptThread) (gone come : List ℕ) : Type 0 where
  pub accepted : IsAccepted t.disk t.pairs
  pub writable : IsWritable t.disk t.pairs
  pub settled : pairs_gstate t.pairs ≡ zero_gstate
  pub used : AreUsedBeforeMapUpdate t.map (used_blocks t.disk t.pairs) gone come
  pub size : length t.map ≡ block_count t.disk
  pub large : 1024 ≤ t.disk.block_size

pub record HasTreeBeforeMapUpdate (old new : KeptThread) (tree : Tree) (gone come : List ℕ) : Type 0 where
  pub ready : IsWritableBeforeMapUpdate new gone come
  pub shows : disk_tree new.disk new.pairs ≡ tree
  pub stays : KeepsNonFreeStates old.map new.map
  pub none_comes : AddsNoneInFlight old.map new.map
  pub root : KeepsRootPairIndex old new
