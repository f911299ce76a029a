-- What contracts see of a session, and what its calls return.
use Rattle.std.specs.Prelude.{ℕ, ◌+◌, ◌≤◌, nat_le, length, is_none, is_some, ◌≡◌, ◌≢◌, ◌<◌, ◌⊎◌, Bool, true, false, if◌then◌else◌, List, [], Option, Some, None, IfSome, IsSome, Result, Ok, Err}
use Rattle.lfs_device.specs.declared.error.Error.{Error}
use Rattle.lfs_device.specs.declared.error.Error.TheVariants.{Io, NoMemory, Corrupt}
use Rattle.lfs_model.specs.layers.BlockSets.{in_flight_count}
use Rattle.lfs_model.specs.crash.Frame.{refused_before_search}
use Rattle.lfs_model.specs.session.History.{CallEvent, OnlyReadsSince, fault_count}
use Rattle.lfs_model.specs.format.Disk.{Disk, block_count, inline_limit}
use Rattle.lfs_model.specs.tree.View.{IsAccepted}
use Rattle.lfs_model.specs.session.Operations as ops
use Rattle.lfs_model.specs.session.Operations.{FlagsOfOpen, Operation, Refusal, Reply, Failed, parse_path}
use Rattle.lfs_model.specs.format.Slots.{zero_gstate}
use Rattle.lfs_model.specs.format.Thread.{Pair, pairs_gstate}
use Rattle.lfs_model.specs.tree.Tree.{Path, Tree}
use Rattle.lfs_model.specs.session.Session.{OpenFilesByNumber, Session, all_readers, all_writers, flags_allowed, parents_refusal}
use Rattle.lfs_fs.specs.FileView.{RuntimeFiles, draft_or_stored_bytes, files_view, has_unsaved, draft_block_reserve, readers_among, writer_view, writers_among, writers_paths}
use Rattle.lfs_fs.specs.declared.files.Reader.{Reader}
use Rattle.lfs_fs.specs.declared.files.Writer.{Writer}
use Rattle.std.specs.List.{AllByRecursion, list_any}
use Rattle.lfs_model.specs.session.State.{HasFailed, Healthy, is_remount}
use Rattle.lfs_model.specs.session.Refusals.{path_or_root, operation_refusal}
use Rattle.lfs_model.specs.session.Effects.{node_file_size}
use Rattle.lfs_tree.specs.CreationPaths.{IsCreationResult}
use Rattle.lfs_tree.specs.OpenContents.{AreTreeContents, InlineWithinLimit}
use Rattle.lfs_file.specs.Contents.{contents_form}
use Rattle.lfs_file.specs.Form.{IsWriterForm}
use Rattle.lfs_fs.specs.declared.checks.WritableFile.{WritableFile}
use Rattle.lfs_fs.specs.declared.files.UnsavedContents.{UnsavedContents}
use Rattle.lfs_model.specs.session.TreeEdits.{is_file, same_path}
use Rattle.lfs_model.specs.session.Run.{SystemState, ShowsTree, IsStep}
use Rattle.lfs_model.specs.crash.Failure.{OperationFails}
use Rattle.lfs_model.specs.crash.Performed.{FailsDuringRun}
use Rattle.lfs_file.specs.Known.{AreKnownBlocks}
use Rattle.lfs_model.specs.tree.Shown.{struct_blocks}
use Rattle.lfs_lookup.specs.FileContents.{IsStorageAt, contents_struct}
use Rattle.lfs_lookup.specs.RefusalErrors.{is_refusal, error_refusal}
use Rattle.lfs_lookup.specs.declared.file_contents.FileContents.{FileContents}
use Rattle.lfs_tree.specs.TreeState.{TreeState, kept_thread, visible_tree, tree_summary, IsSoundState, OnlyReadsTree, FailedByReading, HasErrorCause}

-- The tree and the open files.
pub record SessionView : Type 0 where
  pub tree : TreeState
  pub files : OpenFilesByNumber

abbrev pub view_with_files : TreeState → OpenFilesByNumber → SessionView
view_with_files tree files = record { tree = tree; files = files }

abbrev pub session_view : TreeState → RuntimeFiles → SessionView
session_view tree files = view_with_files tree (files_view tree files)

-- Changed contents are those of the file's writer, in a form that fits the writer. They can be saved, and there is room for the
-- blocks that the writer holds.
pub record AreSoundUnsavedContents (t : TreeState) (w : Writer) (u : UnsavedContents) : Type 0 where
  pub over : AreTreeContents t w.path u.contents
  pub kept : IsWriterForm t.disk.profile t.disk.block_size (contents_form u.contents) (writer_view t w)
  pub form : InlineWithinLimit (inline_limit t.disk.profile t.disk.block_size) (contents_form u.contents)
  pub room : length (tree_summary t).used + draft_block_reserve t.disk.profile t.disk.block_size u.has_turned w.size ≤ block_count t.disk

abbrev pub AreSoundIfUnsaved : TreeState → Writer → Option UnsavedContents → Type 0
AreSoundIfUnsaved t w None = Unit {0}
AreSoundIfUnsaved t w (Some u) = AreSoundUnsavedContents t w u

-- The image under a file that is open for writing has nothing to recover, and the file is in the tree.
pub record IsWriterReady (t : TreeState) (w : Writer) : Type 0 where
  pub writable : t.writable ≡ true
  pub settled : pairs_gstate t.pairs ≡ zero_gstate
  pub there : is_file (visible_tree t w.path) ≡ true
  pub size : length (draft_or_stored_bytes t w.path w.unsaved) ≡ w.size
  pub changed : AreSoundIfUnsaved t w w.unsaved

-- A reader's contents are those of the entry at its path, and no writer is at that path.
pub record IsCurrentReader (ps : List Pair) (written : List Path) (r : Reader) : Type 0 where
  pub contents : IsStorageAt ps r.path r.contents
  pub apart : list_any (same_path r.path) written ≡ false

-- the readers among open files, over these pairs
abbrev pub AreCurrentReaders : List Pair → RuntimeFiles → Type 0
AreCurrentReaders ps files = AllByRecursion (IsCurrentReader ps (writers_paths files)) (readers_among files)

-- The blocks that a reader knows are its list's.
abbrev pub HasValidIndexCache : Disk → Reader → Type 0
HasValidIndexCache disk r = AreKnownBlocks (struct_blocks disk (contents_struct r.contents)) r.known

-- What a session keeps of a tree that works: the tree is the disk's, whose device has had a call. Blocks are in flight only where
-- a writer has changes.
pub record IsReady (t : TreeState) (files : RuntimeFiles) : Type 0 where
  pub sound : IsSoundState t
  pub called : t.history ≢ []
  pub one : length (writers_among files) ≤ 1
  pub idle : has_unsaved files ≡ false → in_flight_count t.map ≡ 0
  pub written : AllByRecursion (IsWriterReady t) (writers_among files)
  pub read : AreCurrentReaders t.pairs files
  pub known : AllByRecursion (HasValidIndexCache t.disk) (readers_among files)

abbrev pub viewed_session : SessionView → Session
viewed_session h = record { tree = visible_tree h.tree; files = h.files }

abbrev pub system_state : SessionView → SystemState
system_state h = record {
  disk = h.tree.disk;
  calls = h.tree.history;
  state = if h.tree.failed then HasFailed else Healthy (viewed_session h);
}

-- The session fails in an operation by that error. Only a remount fails with `Corrupt`, and then the disk isn't accepted,
-- in either order of names.
pub record SessionFails (e : Error) (from : SystemState) (op : Operation) (to : SystemState) : Type 0 where
  pub fails : OperationFails from op to
  pub errors : (e ≡ Io) ⊎ ((e ≡ NoMemory) ⊎ ((e ≡ Corrupt) × (is_remount op ≡ true) × ShowsTree from.disk None))
  pub fault : e ≡ Io → fault_count from.calls < fault_count to.calls
  pub no_fault : e ≢ Io → fault_count to.calls ≡ fault_count from.calls

-- an operation that ends in an error: a refusal, or the session failed by it
abbrev pub EndsInError : Bool → Error → SystemState → Operation → SystemState → Type 0
EndsInError true e from op to = IsStep from op (ops.Refused (error_refusal e)) to
EndsInError false e from op to = SessionFails e from op to

-- The call is a session step with that reply. Where an error takes the reply's place, the session has failed by it.
abbrev pub StepsOrFails : SessionView → Operation → Result Reply Error → SessionView → Type 0
StepsOrFails old op (Ok reply) new = IsStep (system_state old) op reply (system_state new)
StepsOrFails old op (Err e) new = SessionFails e (system_state old) op (system_state new)

-- Some operations were performed, without a fault of the device; in the next one the session failed by that error.
pub record FailsRun (e : Error) (from : SystemState) (operations : List Operation) (to : SystemState) : Type 0 where
  pub ended : FailsDuringRun from operations to
  pub no_fault : fault_count ended.at.calls ≡ fault_count from.calls
  pub by : SessionFails e ended.at ended.next to

-- the check that refuses an operation, that of a failed session first
abbrev pub refusal_by_checks : SessionView → Operation → Option Refusal
refusal_by_checks h op = if h.tree.failed then Some Failed else operation_refusal (tree_summary h.tree) (viewed_session h) op

-- no check refuses the operation, of those that make no call
abbrev pub PassesReadlessChecks : SessionView → Operation → Type 0
PassesReadlessChecks h op = (r : Refusal) → refusal_by_checks h op ≡ Some r → refused_before_search op r ≡ false

-- what the checks leave where they end in that error: a refusal, or a call that failed
abbrev pub FailsChecks : Bool → SessionView → Operation → Error → TreeState → Type 0
FailsChecks true h op e tree = OnlyReadsTree h.tree tree × (refusal_by_checks h op ≡ Some (error_refusal e)) × (refused_before_search op (error_refusal e) ≡ true → tree ≡ h.tree)
FailsChecks false h op e tree = FailedByReading h.tree tree × (h.tree.failed ≡ false) × HasErrorCause h.tree tree e × PassesReadlessChecks h op

-- An operation's checks by reads alone. The operation passes, and then the value has P; or it is refused; or a read failed.
abbrev pub IsChecksResult : {A : Type 0} → SessionView → Operation → (A → Type 0) → Result A Error → TreeState → Type 0
IsChecksResult h op P (Ok a) tree = OnlyReadsTree h.tree tree × (refusal_by_checks h op ≡ None) × P a
IsChecksResult h op P (Err e) tree = FailsChecks (is_refusal e) h op e tree

-- The same of checks that read nothing.
abbrev pub IsReadlessResult : {A : Type 0} → SessionView → Operation → (A → Type 0) → Result A Error → Type 0
IsReadlessResult h op P (Ok a) = (refusal_by_checks h op ≡ None) × P a
IsReadlessResult h op P (Err e) = (is_refusal e ≡ true) × (refusal_by_checks h op ≡ Some (error_refusal e))

-- a path that may be opened for reading
pub record CanOpenReader (t : Tree) (files : OpenFilesByNumber) (bytes : List ℕ) : Type 0 where
  pub given : is_some (parse_path bytes) ≡ true
  pub there : is_none (t (path_or_root bytes)) ≡ false
  pub few : nat_le 16 (length (all_readers files)) ≡ false
  pub apart : list_any (λ w. same_path (path_or_root bytes) w.path) (all_writers files) ≡ false

-- the same, with the contents of its file
pub record IsReadableFile (t : TreeState) (files : OpenFilesByNumber) (bytes : List ℕ) (kept : FileContents) : Type 0 where
  pub readable : CanOpenReader (visible_tree t) files bytes
  pub contents : IsStorageAt t.pairs (path_or_root bytes) kept

-- An open for writing that passes the checks before those of its entry.
pub record PassesChecksBeforeEntry (t : TreeState) (bytes : List ℕ) (flags : FlagsOfOpen) : Type 0 where
  pub works : t.failed ≡ false
  pub writable : t.writable ≡ true
  pub given : is_some (parse_path bytes) ≡ true
  pub write : flags.write ≡ true
  pub allowed : flags_allowed flags ≡ true
  pub parents : parents_refusal (visible_tree t) [] (path_or_root bytes) ≡ None

-- a file that may be opened for writing, and where its path leads to, if nothing is to recover
pub record IsCheckedWritableFile (t : Tree) (now : TreeState) (bytes : List ℕ) (found : WritableFile) : Type 0 where
  pub path : found.path ≡ path_or_root bytes
  pub size : node_file_size (t found.path) ≡ found.size
  pub target : IfSome found.target (IsCreationResult (kept_thread now) found.path)
  pub handed_on : pairs_gstate now.pairs ≡ zero_gstate → IsSome found.target

-- A session that a mount began: it works, has the tree of the disk, which was only read, and no open file.
pub record BeginsByMount (disk : Disk) (history : List CallEvent) (h : SessionView) : Type 0 where
  pub works : h.tree.failed ≡ false
  pub disk_is : h.tree.disk ≡ disk
  pub accepted : IsAccepted disk h.tree.pairs
  pub reads : OnlyReadsSince disk.blocks history h.tree.history
  pub no_fault : fault_count h.tree.history ≡ fault_count history
  pub no_files : h.files ≡ []
