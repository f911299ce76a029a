-- The commit of a writer's contents to its file.
use Rattle.std.specs.Prelude.{Contains, ℕ, ◌≡◌, ◌≢◌, ◌+◌, ◌≤◌, Bool, true, false, List, [], ◌<◌, length, None}
use Rattle.lfs_model.specs.session.TreeEdits.{tree_with_change}
use Rattle.lfs_model.specs.layers.BlockSets.{in_flight_count, used_count}
use Rattle.lfs_model.specs.crash.Frame.{HoldsSlotOfPath}
use Rattle.lfs_model.specs.format.Disk.{Disk, disk_block, inline_limit}
use Rattle.lfs_model.specs.session.Layout.{IsLayoutAfterOperation}
use Rattle.lfs_model.specs.session.Operations as ops
use Rattle.lfs_model.specs.session.Operations.{Operation}
use Rattle.lfs_model.specs.session.Session.{OpenFilesByNumber, FileWriter, file_block_count}
use Rattle.lfs_model.specs.format.Slots.{Struct, Inline, Ctz, Branch, zero_gstate}
use Rattle.lfs_model.specs.session.Effects.{node_with_bytes}
use Rattle.lfs_model.specs.format.Thread.{Pair, pairs_gstate}
use Rattle.lfs_model.specs.tree.Tree.{Path, struct_directory_address}
use Rattle.lfs_model.specs.tree.Profile.{IsWritable}
use Rattle.lfs_model.specs.tree.Shown.{disk_tree, used_blocks}
use Rattle.lfs_operations.specs.Ready.{KeepsRootPairIndex}
use Rattle.lfs_tree.specs.StructChanges.{IsNewContentsStruct}
use Rattle.lfs_tree.specs.ThreadContents.{AreContentsOnDisk}
use Rattle.lfs_operations.specs.Editing.{CanEditIn, editable_slot}
use Rattle.lfs_operations.specs.Making.{HasFreeBlocks}
use Rattle.lfs_operations.specs.Storing.{IsDirtyWriter}
use Rattle.lfs_thread.specs.Kept.{KeptThread}
use Rattle.lfs_tree.specs.SlotChanges.{IsSlotOfPath}
use Rattle.lfs_tree.specs.RootedThreads.{uncached_state}
use Rattle.lfs_tree.specs.KeptFiles.{KeepsOtherFiles}
use Rattle.lfs_tree.specs.OpenContents.{AreThreadContents, IsWriterLayoutAfterOperation, IsStoreApplied, writer_contents_bytes}
use Rattle.lfs_tree.specs.TreeState.{IsSoundState}
use Rattle.lfs_lookup.specs.declared.entry.FileStorage.{FileStorage}
use Rattle.lfs_lookup.specs.declared.entry.FileStorage.TheVariants as entry
use Rattle.lfs_lookup.specs.declared.paths.PathLookup.{PathLookup}
use Rattle.lfs_lookup.specs.declared.paths.PathLookup.TheVariants as found
use Rattle.lfs_lookup.specs.declared.search.SlotPosition.{SlotPosition}
use Rattle.lfs_tree.specs.declared.contents_at.FileSlot.{FileSlot}
use Rattle.lfs_file.specs.Contents.{contents_form, buffered_bytes}
use Rattle.lfs_file.specs.Form as form
use Rattle.lfs_file.specs.Form.{ContentsForm}
use Rattle.lfs_file.specs.declared.contents.WriterContents.{WriterContents}
use Rattle.lfs_file.specs.declared.contents.WriterContents.TheVariants.{InMemory, Finished, InHand}
use Rattle.lfs_file.specs.declared.stored_list.StoredList.{StoredList}

-- the empty list, which has no block
abbrev pub empty_list : StoredList
empty_list = record { head = 0; size = 0; in_flight = false }

-- the list that an entry names, or the empty one
abbrev pub list_in_storage : FileStorage → StoredList
list_in_storage (entry.Inline len) = empty_list
list_in_storage (entry.List head size) = record { head = head; size = size; in_flight = false }

abbrev pub list_in_struct : Struct → StoredList
list_in_struct (Inline bytes) = empty_list
list_in_struct (Ctz head size) = record { head = head; size = size; in_flight = false }
list_in_struct (Branch to) = empty_list

-- the look-up found a file
abbrev pub is_file_found : PathLookup → Bool
is_file_found (found.File parent slot contents) = true
is_file_found _ = false

-- the slot of a file, and its list
abbrev pub IsFoundFile : PathLookup → FileSlot → Type 0
IsFoundFile (found.File parent slot contents) file = (file.spot ≡ slot) × (file.list ≡ list_in_storage contents)
IsFoundFile _ file = ⊥

-- the slot of the file at a path, and its list
pub record IsPathFile (ps : List Pair) (path : Path) (file : FileSlot) : Type 0 where
  pub slot : IsSlotOfPath ps path file.spot
  pub leaf : struct_directory_address slot.stands.stands.stands.slot.struct ≡ None
  pub list : file.list ≡ list_in_struct slot.stands.stands.stands.slot.struct

-- the struct of finished contents: their bytes themselves, or their list
abbrev pub finished_struct : WriterContents → Struct
finished_struct (InMemory list) = Inline (buffered_bytes list)
finished_struct (Finished stored) = Ctz stored.head stored.size
finished_struct (InHand hand) = Inline []

abbrev pub finished_list : WriterContents → StoredList
finished_list (InMemory list) = empty_list
finished_list (Finished stored) = stored
finished_list (InHand hand) = empty_list

-- contents are finished, and in memory exactly if they are at most the limit
abbrev pub IsFinishedForm : ℕ → ContentsForm → Type 0
IsFinishedForm limit (form.InMemory size) = size ≤ limit
IsFinishedForm limit (form.Finished size flying) = limit < size
IsFinishedForm limit (form.InHand stop base flying) = ⊥

-- The contents are finished and may be committed to the file in the slot `spot`, and two blocks are free.
pub record CanPutContents (t : KeptThread) (spot : SlotPosition) (contents : WriterContents) : Type 0 where
  pub can : CanEditIn t spot.pair spot.id
  pub stands : AreContentsOnDisk t contents
  pub leaf : struct_directory_address (editable_slot can).struct ≡ None
  pub finished : IsFinishedForm (inline_limit t.disk.profile t.disk.block_size) (contents_form contents)
  pub come : IsNewContentsStruct t (writer_contents_bytes t contents) (editable_slot can).struct (finished_struct contents)
  pub room : HasFreeBlocks 2 t.map

-- The contents are finished and may be committed to the file at the path, and there is room for their list and two more blocks.
pub record CanCommitContents (t : KeptThread) (path : Path) (contents : WriterContents) : Type 0 where
  pub over : AreThreadContents t path contents
  pub finished : IsFinishedForm (inline_limit t.disk.profile t.disk.block_size) (contents_form contents)
  pub room : used_count t.map + file_block_count t.disk.profile t.disk.block_size (length (writer_contents_bytes t contents)) + 2 ≤ length t.map

-- the slots are in the pairs to which the operation on a writer with these unsynced bytes moves them
abbrev pub IsLayoutAfterStore : KeptThread → Path → List ℕ → (ℕ → Operation) → KeptThread → Type 0
IsLayoutAfterStore old path bytes op new = (files : OpenFilesByNumber) (fd : ℕ) (writer : FileWriter) → IsDirtyWriter (record { tree = disk_tree old.disk old.pairs; files = files }) fd path bytes writer
    → IsLayoutAfterOperation old.disk old.pairs (record { tree = disk_tree old.disk old.pairs; files = files }) (op fd) new.disk new.pairs

-- Of the used blocks only those of the pair with the path's slot have changed.
pub record ChangesPathPair (disk : Disk) (ps : List Pair) (path : Path) (new : Disk) : Type 0 where
  pub pair : Pair
  pub there : Contains ps pair
  pub holds : HoldsSlotOfPath ps pair path
  pub others : (b : ℕ) → Contains (used_blocks disk ps) b → b ≢ pair.at.0 → b ≢ pair.at.1 → disk_block new b ≡ disk_block disk b

-- the file at the path has these bytes, nothing is in flight, and the root directory begins with the same pair
pub record HasCommittedBytes (old : KeptThread) (path : Path) (bytes : List ℕ) (new : KeptThread) : Type 0 where
  pub sound : IsSoundState (uncached_state new true false)
  pub fits : IsWritable new.disk new.pairs
  pub settled : pairs_gstate new.pairs ≡ zero_gstate
  pub root : KeepsRootPairIndex old new
  pub shows : disk_tree new.disk new.pairs ≡ tree_with_change path (node_with_bytes bytes) (disk_tree old.disk old.pairs)
  pub others : KeepsOtherFiles (disk_tree old.disk old.pairs) old.pairs path new.pairs
  pub synced : IsLayoutAfterStore old path bytes ops.Sync new
  pub closed : IsLayoutAfterStore old path bytes ops.Close new
  pub alone : ChangesPathPair old.disk old.pairs path new.disk
  pub none_in_flight : in_flight_count new.map ≡ 0

-- the same of a tree, before a worn pair is relocated
pub record StoresBeforeRelocation (old : KeptThread) (path : Path) (bytes : List ℕ) (new : KeptThread) : Type 0 where
  pub stored : IsStoreApplied (uncached_state old true false) path bytes (uncached_state new true false)
  pub synced : IsWriterLayoutAfterOperation (uncached_state old true false) path bytes ops.Sync (uncached_state new true false)
  pub closed : IsWriterLayoutAfterOperation (uncached_state old true false) path bytes ops.Close (uncached_state new true false)
