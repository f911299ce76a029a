-- The effects of a thread's steps.
use Rattle.std.specs.Prelude.{ℕ, ◌≡◌, ◌≢◌, ◌⊎◌, ◌<◌, ◌≤◌, ◌+◌, slice_get, codes, true, false, List, [], length, take, drop, slice_set, slice_index_or, Option, Some, None, Result, Err, IfErr, IsErrOf}
use Rattle.lfs_device.specs.declared.error.Error.{Error}
use Rattle.lfs_device.specs.declared.error.Error.TheVariants.{Io, NoMemory}
use Rattle.std.specs.Option.{option_and_then, option_map}
use Rattle.std.specs.List.{insert, remove}
use Rattle.lfs_model.specs.format.Blocks.{Blocks, SameExceptBlocks}
use Rattle.lfs_model.specs.format.Disk.{Disk, block_count}
use Rattle.lfs_model.specs.session.History.{LossLeavesAtWorst, HoldsAtLosses, OnlyReadsSince, OthersStayUnprogrammed, fault_count, read_count}
use Rattle.lfs_model.specs.format.Slots.{PairContent, FitsInPair, Slot, Tail, zero_gstate}
use Rattle.lfs_model.specs.format.Content.{RawContent, content_at, decoded_content, current_block}
use Rattle.lfs_model.specs.layers.Changes.{ContentChange, PutTail}
use Rattle.lfs_model.specs.format.Thread.{Pair, superblock_pair_address, IsThread, tail_target, begins_with_superblock}
use Rattle.lfs_pair.specs.Commits.{changed_pair_content, KeepsOutsidePair}
use Rattle.lfs_model.specs.tree.View.{HasFirstLogEntry, superblock_entry}
use Rattle.lfs_model.specs.layers.BlockSets.{Free, Used, BlockStates, IsInFlight}
use Rattle.lfs_pair.specs.HalfCut.{AreSplittable}
use Rattle.lfs_pair.specs.Split.{KeepsOutsideBoth}
use Rattle.lfs_thread.specs.Kept.{KeptThread}

abbrev pub empty_anchor : Pair
empty_anchor = record { at = superblock_pair_address; content = record { slots = []; tail = Option.None; move = zero_gstate } }

abbrev pub thread_pair : KeptThread → ℕ → Pair
thread_pair t index = slice_index_or t.pairs index empty_anchor

-- the content of the pair at an index after changes, if each slot then has a name and a struct
abbrev pub complete_after : KeptThread → ℕ → List ContentChange → Option PairContent
complete_after t index changes = option_and_then decoded_content (changed_pair_content t.disk (thread_pair t index).at changes)

-- ---- what every step reports

-- the new disk has as many blocks, blocks and pages of the same sizes, the same order of names and the same profile
pub record SameGeometryAs (old new : Disk) : Type 0 where
  pub block_size : new.block_size ≡ old.block_size
  pub page : new.page ≡ old.page
  pub order : new.order ≡ old.order
  pub profile : new.profile ≡ old.profile
  pub count : block_count new ≡ block_count old

-- Only these blocks change. Unprogrammed bytes of other blocks stay so, and a loss of power during the step leaves the other
-- blocks as they were.
pub record ChangesThreadBlocks (bs : List ℕ) (old new : KeptThread) : Type 0 where
  pub others : SameExceptBlocks bs old.disk.blocks new.disk.blocks
  pub elsewhere : OthersStayUnprogrammed bs old.history new.history
  pub shape : SameGeometryAs old.disk new.disk
  pub at_worst : HoldsAtLosses LossLeavesAtWorst old.history new.history (SameExceptBlocks bs old.disk.blocks)

-- Only these blocks change, and the device is read at most `most` times.
pub record ChangesWithinReads (most : ℕ) (bs : List ℕ) (old new : KeptThread) : Type 0 where
  pub only : ChangesThreadBlocks bs old new
  pub few : read_count new.history ≤ read_count old.history + most

-- the device was only read
pub record OnlyReadsDevice (old new : KeptThread) : Type 0 where
  pub disk : new.disk ≡ old.disk
  pub reads : OnlyReadsSince old.disk.blocks old.history new.history

-- `Io` comes with a fault of the device, and any other result without one. At `NoMemory` nothing was written.
pub record ThreadReportsErrors {X : Type 0} (old new : KeptThread) (result : Result X Error) : Type 0 where
  pub errors : IfErr result (λ e. (e ≡ Io) ⊎ (e ≡ NoMemory))
  pub fault : IsErrOf result Io → fault_count old.history < fault_count new.history
  pub no_fault : ¬ IsErrOf result Io → fault_count new.history ≡ fault_count old.history
  pub unwritten : result ≡ Err NoMemory → OnlyReadsDevice old new

-- `Io` comes with a fault of the device, and any other result without one. At `NoMemory` only these blocks were written.
pub record ThreadReportsKeepingOthers {X : Type 0} (bs : List ℕ) (old new : KeptThread) (result : Result X Error) : Type 0 where
  pub errors : IfErr result (λ e. (e ≡ Io) ⊎ (e ≡ NoMemory))
  pub fault : IsErrOf result Io → fault_count old.history < fault_count new.history
  pub no_fault : ¬ IsErrOf result Io → fault_count new.history ≡ fault_count old.history
  pub beside : result ≡ Err NoMemory → SameExceptBlocks bs old.disk.blocks new.disk.blocks

-- the device was only read, and the thread is as it was
pub record OnlyReadsThread (old new : KeptThread) : Type 0 where
  pub disk : new.disk ≡ old.disk
  pub reads : OnlyReadsSince old.disk.blocks old.history new.history
  pub pairs : new.pairs ≡ old.pairs
  pub map : new.map ≡ old.map

-- ---- a pair is changed

-- There is a pair at the index, and the tail of its changed content names the same pair as before.
pub record CanChangePair (t : KeptThread) (index : ℕ) (changes : List ContentChange) : Type 0 where
  pub below : index < length t.pairs
  pub content : PairContent
  pub made : complete_after t index changes ≡ Some content
  pub next : tail_target content.tail ≡ tail_target (thread_pair t index).content.tail

abbrev pub pairs_with_content : KeptThread → ℕ → PairContent → List Pair
pairs_with_content t index c = slice_set t.pairs index (record { at = (thread_pair t index).at; content = c })

-- slot 0 is the superblock
abbrev pub BeginWithSuperblock : List Slot → Type 0
BeginWithSuperblock slots = (begins_with_superblock slots ≡ true) × (option_map (λ s. s.name) (slice_get slots 0) ≡ Some (codes "littlefs"))

abbrev pub HasSuperblock : PairContent → Type 0
HasSuperblock c = BeginWithSuperblock c.slots

-- If a pair's log began with the superblock's entry, and its content now has the superblock in slot 0, its log begins with that
-- entry now.
abbrev pub KeepsSuperblockFirst : Disk → ℕ × ℕ → PairContent → Disk → Type 0
KeepsSuperblockFirst old at c disk = HasFirstLogEntry (current_block old at) superblock_entry → HasSuperblock c → HasFirstLogEntry (current_block disk at) superblock_entry

-- The pair at an index has this content on the disk, and only its two blocks differ. The superblock stays first.
pub record IsPairWritten (old : KeptThread) (index : ℕ) (content : PairContent) (disk : Disk) : Type 0 where
  pub holds : content_at disk (thread_pair old index).at ≡ Some content
  pub others : KeepsOutsidePair (thread_pair old index).at old.disk.blocks disk.blocks
  pub shape : SameGeometryAs old.disk disk
  pub first : KeepsSuperblockFirst old.disk (thread_pair old index).at content disk

-- A commit that is done: the pair has the changed content, and everything else is as it was.
pub record IsPairCommitted (old : KeptThread) (index : ℕ) (changes : List ContentChange) (new : KeptThread) : Type 0 where
  pub content : PairContent
  pub made : complete_after old index changes ≡ Some content
  pub written : IsPairWritten old index content new.disk
  pub fits : FitsInPair old.disk.block_size old.disk.page content
  pub pairs : new.pairs ≡ pairs_with_content old index content
  pub thread : IsThread (content_at new.disk) (block_count new.disk) new.pairs
  pub map : new.map ≡ old.map

-- A commit that is refused: the changed content doesn't fit, and nothing was written.
pub record RefusesChanges (old : KeptThread) (index : ℕ) (changes : List ContentChange) (new : KeptThread) : Type 0 where
  pub content : PairContent
  pub made : complete_after old index changes ≡ Some content
  pub too_large : ¬ FitsInPair old.disk.block_size old.disk.page content
  pub only : OnlyReadsThread old new

-- A stop in a commit leaves the pair with its old content or with the changed one.
pub record LossLeavesPair (old : KeptThread) (index : ℕ) (changes : List ContentChange) (left : Blocks) : Type 0 where
  pub content : PairContent
  pub is : (content ≡ (thread_pair old index).content) ⊎ ((complete_after old index changes ≡ Some content) × FitsInPair old.disk.block_size old.disk.page content)
  pub written : IsPairWritten old index content (record old.disk { blocks = left })

-- ---- blocks of a fresh pair

-- two different blocks are in flight
pub record FreshInFlight (sets : BlockStates) (fresh : ℕ × ℕ) : Type 0 where
  pub apart : fresh.0 ≢ fresh.1
  pub first : IsInFlight sets fresh.0
  pub second : IsInFlight sets fresh.1

-- the map with these two blocks used
abbrev pub map_using : BlockStates → ℕ × ℕ → BlockStates
map_using sets fresh = slice_set (slice_set sets fresh.0 Used) fresh.1 Used

-- the pairs with two pairs in place of the one at an index
abbrev pub pairs_split : List Pair → ℕ → Pair → Pair → List Pair
pairs_split ps index p q = insert (slice_set ps index p) (index + 1) q

-- the pair has its old content, and its log still begins with the superblock's entry if it did before
pub record HasOldPair (old : KeptThread) (index : ℕ) (disk : Disk) : Type 0 where
  pub holds : content_at disk (thread_pair old index).at ≡ Some (thread_pair old index).content
  pub first : HasFirstLogEntry (current_block old.disk (thread_pair old index).at) superblock_entry → HasFirstLogEntry (current_block disk (thread_pair old index).at) superblock_entry

-- ---- a pair is split

-- There is a pair at the index. Its changed content can be cut in two, and its tail names the same pair as before.
pub record CanSplitAt (t : KeptThread) (index : ℕ) (fresh : ℕ × ℕ) (changes : List ContentChange) : Type 0 where
  pub can : CanChangePair t index changes
  pub held : FreshInFlight t.map fresh
  pub raw : RawContent
  pub made : changed_pair_content t.disk (thread_pair t index).at changes ≡ Some raw
  pub cut : AreSplittable t.disk.block_size t.disk.page raw.slots

-- The two parts of a content: the slots before the cut with a hard tail to the fresh pair, and the slots behind it with the old
-- tail.
abbrev pub front_pair : KeptThread → ℕ → PairContent → ℕ → ℕ × ℕ → Pair
front_pair t index c cut fresh = record { at = (thread_pair t index).at; content = record { slots = take cut c.slots; tail = Some (record { hard = true; to = fresh }); move = c.move } }

abbrev pub back_pair : PairContent → ℕ → ℕ × ℕ → Pair
back_pair c cut fresh = record { at = fresh; content = record { slots = drop cut c.slots; tail = c.tail; move = zero_gstate } }

-- Both parts fit, and both have slots if the whole doesn't fit. The superblock stays first.
pub record PartsFit (old : KeptThread) (index : ℕ) (content : PairContent) (cut : ℕ) (fresh : ℕ × ℕ) (disk : Disk) : Type 0 where
  pub front_fits : FitsInPair old.disk.block_size old.disk.page (front_pair old index content cut fresh).content
  pub back_fits : FitsInPair old.disk.block_size old.disk.page (back_pair content cut fresh).content
  pub inside : ¬ FitsInPair old.disk.block_size old.disk.page content → (0 < cut) × (cut < length content.slots)
  pub first : KeepsSuperblockFirst old.disk (thread_pair old index).at (front_pair old index content cut fresh).content disk

-- A split that is done: both pairs have their parts, and everything else is as it was.
pub record HasSplit (old : KeptThread) (index : ℕ) (fresh : ℕ × ℕ) (changes : List ContentChange) (new : KeptThread) : Type 0 where
  pub content : PairContent
  pub made : complete_after old index changes ≡ Some content
  pub cut : ℕ
  pub parts : PartsFit old index content cut fresh new.disk
  pub pairs : new.pairs ≡ pairs_split old.pairs index (front_pair old index content cut fresh) (back_pair content cut fresh)
  pub thread : IsThread (content_at new.disk) (block_count new.disk) new.pairs
  pub map : new.map ≡ map_using old.map fresh

-- each pair has its part on the disk
pub record SplitOnDisk (old : KeptThread) (index : ℕ) (changes : List ContentChange) (fresh : ℕ × ℕ) (disk : Disk) : Type 0 where
  pub content : PairContent
  pub made : complete_after old index changes ≡ Some content
  pub cut : ℕ
  pub front : content_at disk (thread_pair old index).at ≡ Some (front_pair old index content cut fresh).content
  pub back : content_at disk fresh ≡ Some (back_pair content cut fresh).content
  pub parts : PartsFit old index content cut fresh disk

-- A stop in a split leaves the old pair with its old content, or both pairs with their parts.
pub record LossLeavesThreadSplit (old : KeptThread) (index : ℕ) (fresh : ℕ × ℕ) (changes : List ContentChange) (left : Blocks) : Type 0 where
  pub others : KeepsOutsideBoth (thread_pair old index).at fresh old.disk.blocks left
  pub content : HasOldPair old index (record old.disk { blocks = left })
      ⊎ SplitOnDisk old index changes fresh (record old.disk { blocks = left })

-- ---- a fresh pair is put into the thread

-- There is a pair at the index, and the tail of its changed content names the two blocks, which are in flight.
pub record CanThreadIn (t : KeptThread) (index : ℕ) (fresh : ℕ × ℕ) (changes : List ContentChange) : Type 0 where
  pub below : index < length t.pairs
  pub content : PairContent
  pub made : complete_after t index changes ≡ Some content
  pub next : tail_target content.tail ≡ Some fresh
  pub held : FreshInFlight t.map fresh

-- the change that sets this tail
abbrev pub tail_change : Option Tail → ContentChange
tail_change None = PutTail false None
tail_change (Some t) = PutTail t.hard (Some t.to)

-- a pair without slots, with the tail of the pair at an index
abbrev pub fresh_with_tail : KeptThread → ℕ → ℕ × ℕ → Pair
fresh_with_tail t index fresh = record { at = fresh; content = record { slots = []; tail = (thread_pair t index).content.tail; move = zero_gstate } }

-- A fresh pair that was put into the thread: the pair at the index has the changed content, and the fresh pair follows it.
pub record IsThreadedIn (old : KeptThread) (index : ℕ) (fresh : ℕ × ℕ) (changes : List ContentChange) (new : KeptThread) : Type 0 where
  pub content : PairContent
  pub made : complete_after old index changes ≡ Some content
  pub fits : FitsInPair old.disk.block_size old.disk.page content
  pub first : KeepsSuperblockFirst old.disk (thread_pair old index).at content new.disk
  pub pairs : new.pairs ≡ pairs_split old.pairs index (record { at = (thread_pair old index).at; content = content }) (fresh_with_tail old index fresh)
  pub thread : IsThread (content_at new.disk) (block_count new.disk) new.pairs
  pub map : new.map ≡ map_using old.map fresh

-- The changed content doesn't fit. The thread is as it was, and only the two blocks of the fresh pair were written.
pub record RefusesThreading (old : KeptThread) (index : ℕ) (fresh : ℕ × ℕ) (changes : List ContentChange) (new : KeptThread) : Type 0 where
  pub content : PairContent
  pub made : complete_after old index changes ≡ Some content
  pub too_large : ¬ FitsInPair old.disk.block_size old.disk.page content
  pub pairs : new.pairs ≡ old.pairs
  pub map : new.map ≡ old.map
  pub others : KeepsOutsidePair fresh old.disk.blocks new.disk.blocks

-- on the disk, the pair at the index has the changed content, and the fresh pair follows it
pub record ThreadedInOnDisk (old : KeptThread) (index : ℕ) (fresh : ℕ × ℕ) (changes : List ContentChange) (disk : Disk) : Type 0 where
  pub content : PairContent
  pub made : complete_after old index changes ≡ Some content
  pub fits : FitsInPair old.disk.block_size old.disk.page content
  pub holds : content_at disk (thread_pair old index).at ≡ Some content
  pub behind : content_at disk fresh ≡ Some (fresh_with_tail old index fresh).content
  pub first : KeepsSuperblockFirst old.disk (thread_pair old index).at content disk

-- A stop while a fresh pair is put into the thread leaves the pair at the index with its old content, or with the changed one and
-- the fresh pair behind it.
pub record LossLeavesThreaded (old : KeptThread) (index : ℕ) (fresh : ℕ × ℕ) (changes : List ContentChange) (left : Blocks) : Type 0 where
  pub others : KeepsOutsideBoth (thread_pair old index).at fresh old.disk.blocks left
  pub content : HasOldPair old index (record old.disk { blocks = left })
      ⊎ ThreadedInOnDisk old index fresh changes (record old.disk { blocks = left })

-- ---- the pair behind another is dropped

-- There is a pair at the index and one behind it. The tail of the first one's changed content names what the second one's tail
-- names.
pub record CanDropNext (t : KeptThread) (index : ℕ) (changes : List ContentChange) : Type 0 where
  pub below : index + 1 < length t.pairs
  pub content : PairContent
  pub made : complete_after t index changes ≡ Some content
  pub next : tail_target content.tail ≡ tail_target (thread_pair t (index + 1)).content.tail

-- the map with the dropped pair's blocks free
abbrev pub map_freeing : BlockStates → ℕ × ℕ → BlockStates
map_freeing sets at = slice_set (slice_set sets at.0 Free) at.1 Free

-- A drop that is done: the pair at the index has the changed content, the pair behind it is gone, and everything else is as it
-- was.
pub record IsNextDropped (old : KeptThread) (index : ℕ) (changes : List ContentChange) (new : KeptThread) : Type 0 where
  pub content : PairContent
  pub made : complete_after old index changes ≡ Some content
  pub written : IsPairWritten old index content new.disk
  pub fits : FitsInPair old.disk.block_size old.disk.page content
  pub pairs : new.pairs ≡ remove (pairs_with_content old index content) (index + 1)
  pub thread : IsThread (content_at new.disk) (block_count new.disk) new.pairs
  pub map : new.map ≡ map_freeing old.map (thread_pair old (index + 1)).at
