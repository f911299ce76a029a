-- A pair that is dropped from the thread: the pair before it gets its tail and its delta of the global state.
use Rattle.std.specs.Prelude.{ℕ, ◌≡◌, ◌⊎◌, ◌<◌, ◌+◌, ◌-◌, ◌↔◌, List, [], ◌∷◌, length, Option}
use Rattle.std.specs.List.{remove}
use Rattle.lfs_model.specs.format.Blocks.{Blocks}
use Rattle.lfs_model.specs.layers.BlockSets.{BlockStates, IsInFlight}
use Rattle.lfs_model.specs.layers.Changes.{ContentChange, PutMove}
use Rattle.lfs_model.specs.format.Content.{content_at}
use Rattle.lfs_model.specs.format.Disk.{block_count}
use Rattle.lfs_model.specs.layers.LoggedContent.{MoveStateFits}
use Rattle.lfs_model.specs.format.Slots.{PairContent, FitsInPair, Gstate, Tail, gstate_xor}
use Rattle.lfs_model.specs.layers.StepResults.{predecessor_tail_after_drop}
use Rattle.lfs_model.specs.format.Thread.{IsThread, pairs_gstate}
use Rattle.lfs_model.specs.tree.Tree.{Tree}
use Rattle.lfs_model.specs.tree.Shown.{disk_tree}
use Rattle.lfs_thread.specs.Kept.{KeptThread}
use Rattle.lfs_thread.specs.ThreadSteps.{IsPairWritten, thread_pair, tail_change, pairs_with_content, map_freeing}
use Rattle.lfs_operations.specs.Ready.{IsWritableBeforeMapUpdate, KeepsRootPairIndex}

-- the new delta of the pair of that index, by which the global state becomes g once the pair behind it is dropped
abbrev pub delta_after_drop : KeptThread → ℕ → Gstate → Gstate
delta_after_drop t front state = gstate_xor (gstate_xor (thread_pair t front).content.move (thread_pair t (front + 1)).content.move) (gstate_xor (pairs_gstate t.pairs) state)

abbrev pub tail_after_drop : KeptThread → ℕ → Option Tail
tail_after_drop t front = predecessor_tail_after_drop (thread_pair t front).content.tail (thread_pair t (front + 1)).content.tail

-- the content of the pair before the dropped one afterwards: its slots, the dropped pair's tail, and that delta
abbrev pub content_after_drop : KeptThread → ℕ → Gstate → PairContent
content_after_drop t front state = record { slots = (thread_pair t front).content.slots; tail = tail_after_drop t front; move = delta_after_drop t front state }

abbrev pub dropping_changes : KeptThread → ℕ → Gstate → List ContentChange
dropping_changes t front state = tail_change (tail_after_drop t front) ∷ PutMove (delta_after_drop t front state) ∷ []

-- The pair of that index isn't the first of the thread, and the content of the pair before it fits a pair. The new global state
-- can be written.
pub record CanDropAt (t : KeptThread) (index : ℕ) (state : Gstate) : Type 0 where
  pub above : 0 < index
  pub below : index < length t.pairs
  pub thread : IsThread (content_at t.disk) (block_count t.disk) t.pairs
  pub fits : FitsInPair t.disk.block_size t.disk.page (thread_pair t (index - 1)).content
  pub storable : MoveStateFits state

-- The pair behind the one of that index is dropped, and its blocks are free. The global state is the new one, and everything
-- else is as it was.
pub record IsPairDropped (old : KeptThread) (front : ℕ) (state : Gstate) (new : KeptThread) : Type 0 where
  pub written : IsPairWritten old front (content_after_drop old front state) new.disk
  pub pairs : new.pairs ≡ remove (pairs_with_content old front (content_after_drop old front state)) (front + 1)
  pub gstate : pairs_gstate new.pairs ≡ state
  pub thread : IsThread (content_at new.disk) (block_count new.disk) new.pairs
  pub map : new.map ≡ map_freeing old.map (thread_pair old (front + 1)).at

-- what a power loss leaves of a drop: the pair before the dropped one with its old content, or with its new one
pub record LeftByDrop (old : KeptThread) (front : ℕ) (state : Gstate) (left : Blocks) : Type 0 where
  pub content : PairContent
  pub is : (content ≡ (thread_pair old front).content) ⊎ (content ≡ content_after_drop old front state)
  pub written : IsPairWritten old front content (record old.disk { blocks = left })

-- ---- an operation by which pairs may be dropped

-- the same blocks are in flight as before
abbrev pub HasSameBlocksInFlight : BlockStates → BlockStates → Type 0
HasSameBlocksInFlight old new = (b : ℕ) → IsInFlight new b ↔ IsInFlight old b

-- The image has that tree, and may be changed again once the blocks `gone` are freed. The root directory begins with the same
-- pair. The blocks of the dropped pairs are free already.
pub record HasTreeAfterDrops (old new : KeptThread) (tree : Tree) (gone : List ℕ) : Type 0 where
  pub ready : IsWritableBeforeMapUpdate new gone []
  pub shows : disk_tree new.disk new.pairs ≡ tree
  pub flying : HasSameBlocksInFlight old.map new.map
  pub root : KeepsRootPairIndex old new
