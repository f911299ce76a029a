-- A fresh pair, put into the thread behind another one: the step as a whole, then its parts.
use Rattle.std.specs.Prelude.{ℕ, ◌≡◌, ◌⊎◌, ◌<◌, ◌+◌, ◌%◌, ◌^◌, List, [], ◌∷◌, length, slice_set, Some}
use Rattle.std.specs.List.{remove}
use Rattle.std.specs.Option.{option_map}
use Rattle.lfs_model.specs.format.Blocks.{Blocks}
use Rattle.lfs_model.specs.format.Content.{content_at}
use Rattle.lfs_model.specs.format.Disk.{Disk, block_count}
use Rattle.lfs_model.specs.format.Slots.{FitsInPair, PairContent, zero_gstate}
use Rattle.lfs_model.specs.format.Thread.{IsThread, Pair}
use Rattle.lfs_model.specs.layers.BlockSets.{BlockStates}
use Rattle.lfs_model.specs.layers.Changes.{ContentChange, PutMove}
use Rattle.lfs_model.specs.session.History.{CallEvent}
use Rattle.lfs_pair.specs.Copies.{CanCopyPair, IsPairCopied}
use Rattle.lfs_pair.specs.FreshPair.{CanMakeFresh, IsFreshPair}
use Rattle.lfs_pair.specs.Pair.{header_address}
use Rattle.lfs_pair.specs.Split.{KeepsOutsideBoth}
use Rattle.lfs_tag.specs.ContentView.{tail_view}
use Rattle.lfs_thread.specs.Kept.{KeptThread, PairHeader}
use Rattle.lfs_thread.specs.Moves.{BeginsWithAnySuperblock, pair_revision}
use Rattle.lfs_thread.specs.ThreadSteps.{HasOldPair, KeepsSuperblockFirst, complete_after, map_freeing, map_using, pairs_split, tail_change, thread_pair}
use Rattle.lfs_thread.specs.declared.joins.Behind.{Behind}
use Rattle.lfs_thread.specs.declared.joins.Behind.TheVariants as kind

-- ---- the content of the fresh pair

-- The pair that is copied exists and fits a pair.
abbrev pub CanHold : KeptThread → ℕ → Behind → Type 0
CanHold t index kind.Empty = Unit {0}
CanHold t index kind.Slots = FitsInPair t.disk.block_size t.disk.page (thread_pair t index).content
CanHold t index kind.Next = (index + 1 < length t.pairs) × FitsInPair t.disk.block_size t.disk.page (thread_pair t (index + 1)).content

-- The fresh pair's content: no slots and the tail of the pair at the index; or also its slots, without its delta; or the whole
-- content of the next pair.
abbrev pub content_behind : KeptThread → ℕ → Behind → PairContent
content_behind t index kind.Empty = record { slots = []; tail = (thread_pair t index).content.tail; move = zero_gstate }
content_behind t index kind.Slots = record (thread_pair t index).content { move = zero_gstate }
content_behind t index kind.Next = (thread_pair t (index + 1)).content

abbrev pub pair_behind : KeptThread → ℕ → Behind → ℕ × ℕ → Pair
pair_behind t index b fresh = record { at = fresh; content = content_behind t index b }

-- the pair from which the fresh one is copied
abbrev pub source_index : ℕ → Behind → ℕ
source_index index kind.Empty = index
source_index index kind.Slots = index
source_index index kind.Next = index + 1

-- the pairs with two in place of the one at an index, and of the next one if that is copied
abbrev pub pairs_joined : Behind → List Pair → ℕ → Pair → Pair → List Pair
pairs_joined kind.Empty ps index p q = pairs_split ps index p q
pairs_joined kind.Slots ps index p q = pairs_split ps index p q
pairs_joined kind.Next ps index p q = slice_set (slice_set ps index p) (index + 1) q

-- the map with the blocks at an address free, if the next pair is copied
abbrev pub map_without : Behind → BlockStates → ℕ × ℕ → BlockStates
map_without kind.Empty sets at = sets
map_without kind.Slots sets at = sets
map_without kind.Next sets at = map_freeing sets at

-- A copy has the next revision.
abbrev pub HasNextRevision : KeptThread → ℕ → Behind → ℕ × ℕ → Disk → Type 0
HasNextRevision old index kind.Empty fresh disk = Unit {0}
HasNextRevision old index kind.Slots fresh disk = pair_revision disk fresh ≡ option_map (λ r. (r + 1) % 2 ^ 32) (pair_revision old.disk (thread_pair old index).at)
HasNextRevision old index kind.Next fresh disk = pair_revision disk fresh ≡ option_map (λ r. (r + 1) % 2 ^ 32) (pair_revision old.disk (thread_pair old (index + 1)).at)

-- A fresh pair was put into the thread: the pair at the index has the changed content, and the fresh pair follows it with the
-- content of the step. A pair that was copied whole is gone, and its blocks are free.
pub record IsJoined (old : KeptThread) (index : ℕ) (b : Behind) (fresh : ℕ × ℕ) (changes : List ContentChange) (new : KeptThread) : Type 0 where
  pub content : PairContent
  pub made : complete_after old index changes ≡ Some content
  pub fits : FitsInPair old.disk.block_size old.disk.page content
  pub first : KeepsSuperblockFirst old.disk (thread_pair old index).at content new.disk
  pub pairs : new.pairs ≡ pairs_joined b old.pairs index (record { at = (thread_pair old index).at; content = content }) (pair_behind old index b fresh)
  pub thread : IsThread (content_at new.disk) (block_count new.disk) new.pairs
  pub map : new.map ≡ map_without b (map_using old.map fresh) (thread_pair old (index + 1)).at
  pub anew : BeginsWithAnySuperblock (pair_behind old index b fresh) new.disk
  pub revision : HasNextRevision old index b fresh new.disk

-- on the disk, the pair at the index has the changed content, and the fresh pair follows it
pub record JoinedOnDisk (old : KeptThread) (index : ℕ) (b : Behind) (fresh : ℕ × ℕ) (changes : List ContentChange) (disk : Disk) : Type 0 where
  pub content : PairContent
  pub made : complete_after old index changes ≡ Some content
  pub fits : FitsInPair old.disk.block_size old.disk.page content
  pub holds : content_at disk (thread_pair old index).at ≡ Some content
  pub behind : content_at disk fresh ≡ Some (pair_behind old index b fresh).content
  pub first : KeepsSuperblockFirst old.disk (thread_pair old index).at content disk
  pub anew : BeginsWithAnySuperblock (pair_behind old index b fresh) disk

-- A stop leaves the pair at the index with its old content, or with the changed one and the fresh pair behind it.
pub record LossLeavesJoined (old : KeptThread) (index : ℕ) (b : Behind) (fresh : ℕ × ℕ) (changes : List ContentChange) (left : Blocks) : Type 0 where
  pub others : KeepsOutsideBoth (thread_pair old index).at fresh old.disk.blocks left
  pub content : HasOldPair old index (record old.disk { blocks = left })
      ⊎ JoinedOnDisk old index b fresh changes (record old.disk { blocks = left })

-- ---- the parts of the step

-- the most reads while the fresh pair is written
abbrev pub reads_behind : Behind → ℕ
reads_behind kind.Empty = 2
reads_behind kind.Slots = 3
reads_behind kind.Next = 3

-- the change by which a fresh pair without slots is made
abbrev pub tail_of : PairHeader → List ContentChange
tail_of source = tail_change (option_map tail_view source.tail) ∷ []

-- the conditions of writing the fresh pair
abbrev pub CanWriteBehind : Disk → List CallEvent → PairHeader → ℕ × ℕ → Behind → Type 0
CanWriteBehind disk history source fresh kind.Empty = CanMakeFresh disk fresh (tail_of source)
CanWriteBehind disk history source fresh kind.Slots = CanCopyPair disk history source fresh (PutMove zero_gstate ∷ [])
CanWriteBehind disk history source fresh kind.Next = CanCopyPair disk history source fresh []

-- the fresh pair was written
abbrev pub IsWrittenBehind : Disk → List CallEvent → PairHeader → Behind → Disk → List CallEvent → ℕ × ℕ → PairHeader → Type 0
IsWrittenBehind old before source kind.Empty disk history fresh f = IsFreshPair before (tail_of source) disk history fresh f
IsWrittenBehind old before source kind.Slots disk history fresh f = IsPairCopied old before (PutMove zero_gstate ∷ []) source disk history fresh f
IsWrittenBehind old before source kind.Next disk history fresh f = IsPairCopied old before [] source disk history fresh f

-- the headers without the one at an index, if the next pair is copied
abbrev pub headers_without : Behind → List PairHeader → ℕ → List PairHeader
headers_without kind.Empty hs place = hs
headers_without kind.Slots hs place = hs
headers_without kind.Next hs place = remove hs place

-- the header at an index can be removed, and its blocks are of the map
abbrev pub CanDropCopied : Behind → List PairHeader → ℕ → PairHeader → BlockStates → Type 0
CanDropCopied kind.Empty hs place source sets = Unit {0}
CanDropCopied kind.Slots hs place source sets = Unit {0}
CanDropCopied kind.Next hs place source sets = (place < length hs) × (((header_address source).0 < length sets) × ((header_address source).1 < length sets))
