-- The results of the pass over a thread's slots.
use Rattle.std.specs.Prelude.{ℕ, ◌≡◌, false, List, [], ◌∷◌, ◌++◌, length, Option, Some, None}
use Rattle.lfs_model.specs.layers.BlockSets.{AreInFlight, AreUsed, BlockStates}
use Rattle.lfs_model.specs.format.Disk.{Disk, block_count}
use Rattle.lfs_model.specs.format.Thread.{Pair, pairs_gstate}
use Rattle.lfs_model.specs.tree.View.{IsAccepted, HasValidMove}
use Rattle.lfs_model.specs.tree.Shown.{used_blocks}
use Rattle.lfs_model.specs.layers.Violations.{Breaks, PairsBreak}
use Rattle.lfs_model.specs.declared.violations.Violation.{Violation}
use Rattle.lfs_model.specs.session.History.{CallEvent, OnlyReadsSince, fault_count}
use Rattle.lfs_thread.specs.Kept.{PairHeader, ThreadView, header_pairs}
use Rattle.lfs_mount.specs.Checked.{HasSuperblockChain}
use Rattle.lfs_mount.specs.MoveChecks.{MoveSourceIsEntry}

-- a map of as many blocks as before, in which these blocks are used, and all others free
pub record MapUsesBlocks (old new : BlockStates) (bs : List ℕ) : Type 0 where
  pub len : length new ≡ length old
  pub used : AreUsed new bs
  pub none_in_flight : AreInFlight new []

-- The slot that a set move names is an entry. If the superblock's pairs are right, the map has the image's blocks. If the move is
-- right, too, the image is accepted unless its directories break a rule in the disk's order of names. If they break one, the
-- pairs of the thread do.
pub record IsThreadCheckResult (disk : Disk) (broken_rule : Option Violation) (old new : BlockStates) (chain : List Pair) (p : Pair) (rest : List Pair) : Type 0 where
  pub moved : MoveSourceIsEntry (pairs_gstate (chain ++ p ∷ rest)) (p ∷ rest)
  pub marked : (bytes : List ℕ) → HasSuperblockChain disk chain p rest bytes → MapUsesBlocks old new (used_blocks disk (chain ++ p ∷ rest))
  pub accepted : broken_rule ≡ None → (bytes : List ℕ) → HasSuperblockChain disk chain p rest bytes → HasValidMove (chain ++ p ∷ rest) (pairs_gstate (chain ++ p ∷ rest)) → IsAccepted disk (chain ++ p ∷ rest)
  pub broken : (violation : Violation) → broken_rule ≡ Some violation → PairsBreak disk (chain ++ p ∷ rest) violation

-- The map has the image's blocks. The image is accepted unless its directories break a rule in the disk's order of names. If they
-- break one, the disk does.
pub record IsHeaderCheckResult (disk : Disk) (headers : List PairHeader) (broken_rule : Option Violation) (old new : BlockStates) : Type 0 where
  pub marked : MapUsesBlocks old new (used_blocks disk (header_pairs disk headers))
  pub accepted : broken_rule ≡ None → IsAccepted disk (header_pairs disk headers)
  pub broken : (violation : Violation) → broken_rule ≡ Some violation → Breaks disk violation

-- The thread of an accepted image, whose device was only read, without a fault. In its map exactly the image's blocks are used,
-- and none is in flight.
pub record IsMountedUnwritten (disk : Disk) (history : List CallEvent) (t : ThreadView) : Type 0 where
  pub works : t.failed ≡ false
  pub disk_is : t.kept.disk ≡ disk
  pub reads : OnlyReadsSince disk.blocks history t.kept.history
  pub accepted : IsAccepted disk t.kept.pairs
  pub used : AreUsed t.kept.map (used_blocks disk t.kept.pairs)
  pub none_in_flight : AreInFlight t.kept.map []
  pub size : length t.kept.map ≡ block_count disk
  pub no_fault : fault_count t.kept.history ≡ fault_count history
