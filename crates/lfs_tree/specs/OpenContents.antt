-- The contents of a file that is open for writing, whose blocks aren't yet part of the image.
use Rattle.std.specs.Prelude.{ℕ, ◌≡◌, ◌≢◌, ◌+◌, ◌^◌, ◌<◌, ◌≤◌, ◌⊎◌, true, false, max, List, [], ◌∷◌, ◌++◌, length, Contains, Result, IfErr, OnErr, OnOk}
use Rattle.lfs_device.specs.declared.error.Error.{Error}
use Rattle.lfs_model.specs.session.TreeEdits.{tree_with_change, is_file, same_path}
use Rattle.lfs_model.specs.layers.BlockSets.{in_flight_count}
use Rattle.lfs_model.specs.crash.Frame.{KeepsUnrelatedBlocks, changed_paths}
use Rattle.lfs_model.specs.declared.limits.Profile.{Profile}
use Rattle.lfs_model.specs.format.Disk.{SameGeometry, disk_block, block_count, inline_limit}
use Rattle.lfs_model.specs.session.History.{CallEvent, fault_count}
use Rattle.lfs_model.specs.session.Layout.{IsLayoutAfterRecovery}
use Rattle.lfs_model.specs.session.Moved.{IsLayoutAfterRelocation}
use Rattle.lfs_model.specs.session.Operations as ops
use Rattle.lfs_model.specs.session.Operations.{Operation}
use Rattle.lfs_model.specs.session.Recovery.{IsRecovered}
use Rattle.lfs_model.specs.session.Session.{OpenFilesByNumber, Session, FileWriter, file_block_count}
use Rattle.lfs_model.specs.format.Slots.{zero_gstate}
use Rattle.lfs_model.specs.session.Effects.{node_with_bytes}
use Rattle.lfs_model.specs.format.Thread.{pairs_gstate}
use Rattle.lfs_model.specs.tree.Tree.{Path}
use Rattle.lfs_model.specs.tree.Profile.{IsWritable}
use Rattle.lfs_model.specs.tree.Shown.{disk_tree, used_blocks}
use Rattle.lfs_tree.specs.ThreadContents.{AreContentsOnDisk, contents_list_blocks}
use Rattle.lfs_operations.specs.Storing.{IsDirtyWriter}
use Rattle.lfs_thread.specs.Kept.{KeptThread}
pub use Rattle.lfs_tree.specs.KeptFiles.{KeepsOtherFiles, slot_blocks, list_blocks_at}
pub use Rattle.lfs_tree.specs.TreeState.{kept_thread}
use Rattle.lfs_tree.specs.TreeState.{IsFailedTree, HasErrorCause, TreeState, IsSoundState, PowerLossesLeaveEither, tree_summary, without_cache, visible_tree}
use Rattle.lfs_file.specs.Contents.{FormFitsLimit, NeedsTruncateRoom, contents_bytes, finish_room, contents_form, truncation_room, write_room}
use Rattle.lfs_file.specs.Form as form
use Rattle.lfs_file.specs.Form.{ContentsForm, form_size}
use Rattle.lfs_file.specs.BlockOwners.{AreUsedAmong}
use Rattle.lfs_file.specs.declared.contents.WriterContents.{WriterContents}

-- the bytes of a writer's contents
abbrev pub writer_contents_bytes : KeptThread → WriterContents → List ℕ
writer_contents_bytes t contents = contents_bytes t.disk.blocks t.disk.block_size contents

-- a writer's contents have these bytes, in that form
pub record ContentsHaveBytesInForm (t : TreeState) (these : List ℕ) (shape : ContentsForm) (contents : WriterContents) : Type 0 where
  pub bytes : writer_contents_bytes (kept_thread t) contents ≡ these
  pub form : contents_form contents ≡ shape

-- The contents of a writer of the file at the path: they are on the disk, and those of their blocks that are used are the
-- file's.
pub record AreThreadContents (t : KeptThread) (path : Path) (contents : WriterContents) : Type 0 where
  pub file : is_file (disk_tree t.disk t.pairs path) ≡ true
  pub stands : AreContentsOnDisk t contents
  pub owned : AreUsedAmong t.map (list_blocks_at t path) (contents_list_blocks t contents)

abbrev pub AreTreeContents : TreeState → Path → WriterContents → Type 0
AreTreeContents t path contents = AreThreadContents (kept_thread t) path contents

-- ---- premises of calls

-- nothing is to recover or in flight, and the path has a file
pub record CanOpenWriterOf (t : TreeState) (path : Path) : Type 0 where
  pub works : t.failed ≡ false
  pub writable : t.writable ≡ true
  pub settled : pairs_gstate t.pairs ≡ zero_gstate
  pub idle : in_flight_count t.map ≡ 0
  pub file : is_file (visible_tree t path) ≡ true

-- `count` bytes, at least one, may be written at offset `place`. If the contents then exceed the inline limit, enough blocks
-- are free for them.
pub record CanWriteIn (t : TreeState) (contents : WriterContents) (place count : ℕ) : Type 0 where
  pub works : t.failed ≡ false
  pub stands : AreContentsOnDisk (kept_thread t) contents
  pub large : FormFitsLimit (inline_limit t.disk.profile t.disk.block_size) (contents_form contents)
  pub some : 1 ≤ count
  pub small : place + count < 2 ^ 31
  pub room : inline_limit t.disk.profile t.disk.block_size < max (form_size (contents_form contents)) (place + count)
      → length (tree_summary t).used + write_room t.disk.block_size place count (contents_form contents) ≤ block_count t.disk

-- The contents may be truncated or extended to `size` bytes. Enough blocks are free, if any are needed.
pub record CanTruncateIn (t : TreeState) (contents : WriterContents) (size : ℕ) : Type 0 where
  pub works : t.failed ≡ false
  pub stands : AreContentsOnDisk (kept_thread t) contents
  pub large : FormFitsLimit (inline_limit t.disk.profile t.disk.block_size) (contents_form contents)
  pub small : size < 2 ^ 31
  pub room : NeedsTruncateRoom (inline_limit t.disk.profile t.disk.block_size) size (contents_form contents)
      → length (tree_summary t).used + truncation_room t.disk.block_size size (contents_form contents) ≤ block_count t.disk

-- contents are in memory exactly if they are at most the limit
abbrev pub InlineWithinLimit : ℕ → ContentsForm → Type 0
InlineWithinLimit limit (form.InMemory size) = size ≤ limit
InlineWithinLimit limit (form.Finished size flying) = limit < size
InlineWithinLimit limit (form.InHand stop base flying) = limit < max stop base

-- The contents may be committed to the file at the path: enough blocks are free to finish their list, and two more for the
-- commit.
pub record CanStoreContentsIn (t : TreeState) (path : Path) (contents : WriterContents) : Type 0 where
  pub works : t.failed ≡ false
  pub writable : t.writable ≡ true
  pub settled : pairs_gstate t.pairs ≡ zero_gstate
  pub over : AreTreeContents t path contents
  pub form : InlineWithinLimit (inline_limit t.disk.profile t.disk.block_size) (contents_form contents)
  pub end : length (tree_summary t).used + finish_room t.disk.block_size (contents_form contents) ≤ block_count t.disk
  pub room : length (tree_summary t).used + file_block_count t.disk.profile t.disk.block_size (length (writer_contents_bytes (kept_thread t) contents)) + 2 ≤ block_count t.disk

abbrev pub CanStoreContents : TreeState → Path → WriterContents → Type 0
CanStoreContents t path contents = CanStoreContentsIn (without_cache t) path contents

-- ---- results of calls

-- the form of contents of `size` bytes when a writer opens them: in memory if the file is inline, otherwise its list
abbrev pub IsOpenedForm : Profile → ℕ → ℕ → ContentsForm → Type 0
IsOpenedForm profile block_size size shape = ((shape ≡ form.InMemory size) × (size ≤ inline_limit profile block_size)) ⊎ (shape ≡ form.Finished size false)

-- The call wrote only blocks that the image doesn't use, so the image has the same pairs, tree and lists as before.
pub record KeepsImage (old new : TreeState) : Type 0 where
  pub works : new.failed ≡ false
  pub sound : IsSoundState new
  pub writable : new.writable ≡ old.writable
  pub pairs : new.pairs ≡ old.pairs
  pub shows : visible_tree new ≡ visible_tree old
  pub around : tree_summary new ≡ tree_summary old
  pub stay : (b : ℕ) → Contains (used_blocks old.disk old.pairs) b → disk_block new.disk b ≡ disk_block old.disk b
  pub lists : (path : Path) → list_blocks_at (kept_thread new) path ≡ list_blocks_at (kept_thread old) path
  pub geometry : SameGeometry old.disk new.disk
  pub calls : List CallEvent
  pub called : new.history ≡ calls ++ old.history
  pub no_fault : fault_count new.history ≡ fault_count old.history

-- The promises of a call that changes a writer's contents, but not the image. A power loss during the call leaves the image as
-- it is, too.
pub record WritesUnusedOrFails {X : Type 0} (old : TreeState) (result : Result X Error) (new : TreeState) : Type 0 where
  pub beside : OnOk result (KeepsImage old new)
  pub broken : OnErr result (IsFailedTree old new)
  pub errors : IfErr result (HasErrorCause old new)
  pub survives : old.writable ≡ true → PowerLossesLeaveEither old new (visible_tree old)

-- The slots are in the pairs to which the operation on a writer with these bytes moves them.
abbrev pub IsWriterLayoutAfterOperation : TreeState → Path → List ℕ → (ℕ → Operation) → TreeState → Type 0
IsWriterLayoutAfterOperation old path bytes op new = (files : OpenFilesByNumber) (fd : ℕ) (writer : FileWriter) → IsDirtyWriter (record { tree = visible_tree old; files = files }) fd path bytes writer
    → IsLayoutAfterRecovery old.disk old.pairs (record { tree = visible_tree old; files = files }) (op fd) new.disk new.pairs

-- The same, and then a worn pair may have been relocated, by these device calls.
abbrev pub IsWriterLayoutAfterRelocation : TreeState → Path → List ℕ → (ℕ → Operation) → List CallEvent → TreeState → Type 0
IsWriterLayoutAfterRelocation old path bytes op calls new = old.history ≢ [] → (files : OpenFilesByNumber) (fd : ℕ) (writer : FileWriter) → IsDirtyWriter (record { tree = visible_tree old; files = files }) fd path bytes writer
    → IsLayoutAfterRelocation old.disk old.pairs (record { tree = visible_tree old; files = files }) (op fd) calls new.disk new.pairs

-- the operation concerns only that path, as a sync or a close of its writer does
abbrev pub ConcernsOnlyPath : Session → Operation → Path → Type 0
ConcernsOnlyPath s op path = changed_paths s op ≡ path ∷ []

-- The bytes were committed to the file at the path. No device call failed, and no block is in flight. Other pairs and all lists
-- keep their bytes.
pub record HasStoredBytes (old : TreeState) (path : Path) (bytes : List ℕ) (new : TreeState) : Type 0 where
  pub works : new.failed ≡ false
  pub sound : IsSoundState new
  pub writable : new.writable ≡ true
  pub geometry : SameGeometry old.disk new.disk
  pub calls : List CallEvent
  pub called : new.history ≡ calls ++ old.history
  pub no_fault : fault_count new.history ≡ fault_count old.history
  pub fits : IsWritable new.disk new.pairs
  pub recovered : IsRecovered new.pairs
  pub shows : visible_tree new ≡ tree_with_change path (node_with_bytes bytes) (visible_tree old)
  pub others : KeepsOtherFiles (visible_tree old) old.pairs path new.pairs
  pub lists : (q : Path) → is_file (visible_tree old q) ≡ true → same_path path q ≡ false → list_blocks_at (kept_thread new) q ≡ list_blocks_at (kept_thread old) q
  pub synced : IsWriterLayoutAfterRelocation old path bytes ops.Sync calls new
  pub closed : IsWriterLayoutAfterRelocation old path bytes ops.Close calls new
  pub alone : (files : OpenFilesByNumber) (op : Operation) → ConcernsOnlyPath (record { tree = visible_tree old; files = files }) op path → KeepsUnrelatedBlocks old.disk old.pairs (record { tree = visible_tree old; files = files }) op new.disk new.pairs
  pub none_in_flight : in_flight_count new.map ≡ 0

abbrev pub IsStoreApplied : TreeState → Path → List ℕ → TreeState → Type 0
IsStoreApplied old path bytes new = HasStoredBytes (without_cache old) path bytes (without_cache new)
