-- The invariant of a volume, and the relation that each of its calls meets.
use Rattle.std.specs.Prelude.{ℕ, ◌≡◌, ◌+◌, ◌<◌, ◌≤◌, ◌⊎◌, IfSome, if◌then◌else◌, max, true, false, List, [], length, Option, Some, None, IsSome, Result, Ok, Err, slice_set}
use Rattle.std.specs.Option.{option_map}
use Rattle.lfs_device.specs.declared.error.Error.{Error}
use Rattle.lfs_device.specs.declared.error.Error.TheVariants.{BadFile, Failed, NoMemory}
use Rattle.lfs_lookup.specs.RefusalErrors as refusals
use Rattle.lfs_lookup.specs.RefusalErrors.{error_refusal}
use Rattle.lfs_model.specs.format.Disk.{profile_file_max}
use Rattle.lfs_model.specs.format.Thread.{Pair}
use Rattle.lfs_model.specs.tree.Tree.{Tree}
use Rattle.lfs_model.specs.tree.View.{IsAccepted}
use Rattle.lfs_model.specs.session.Operations as ops
use Rattle.lfs_model.specs.session.Operations.{Operation, Refusal, Reply}
use Rattle.lfs_model.specs.session.Refusals.{path_or_root}
use Rattle.lfs_model.specs.session.Session.{DiskSummary}
use Rattle.lfs_model.specs.session.State.{IsDiskSummary}
use Rattle.lfs_model.specs.session.Run.{ShowsTree}
use Rattle.lfs_tree.specs.TreeState.{visible_tree}
use Rattle.lfs_fs.specs.CallEffects.{IsCall}
use Rattle.lfs_fs.specs.SessionView.{SessionView}
use Rattle.lfs_volume.specs.declared.handles.Handle.{Handle}
use Rattle.lfs_volume.specs.Calls.{Call, Perform, call_result, may_need_memory, named, needs_sync, stored_node, sync_refusal, tree_after_sync}
use Rattle.lfs_volume.specs.DirtyRanges.{DiffersInDirtyRange}
use Rattle.lfs_volume.specs.Opened.{IsIdleSession, LeadsToFile}
use Rattle.lfs_volume.specs.SessionCalls.{AreTreePreservingCalls, MayChangeTreeOnce, EndsAtErrorOperation, FailsInCalls}
use Rattle.lfs_volume.specs.Volume.{NodeView, Volume, VolumeView, entry_at, loaded_node, node_bytes, stored_bytes, volume_of, write_offset}

-- ---- what is kept

-- A node's contents differ from the stored ones in its dirty range alone. If they aren't in memory, its size is that of the stored ones.
-- Its path leads to a file of the tree.
pub record IsSoundNode (h : SessionView) (n : NodeView) : Type 0 where
  pub sized : n.contents ≡ None → length (stored_bytes (visible_tree h.tree) n.path) ≡ n.size
  pub unchanged : n.contents ≡ None → n.dirty_range ≡ None
  pub long : (bytes : List ℕ) → n.contents ≡ Some bytes → length bytes ≡ n.size
  pub differs : (path bytes : List ℕ) → n.path ≡ Some path → n.contents ≡ Some bytes → DiffersInDirtyRange (stored_bytes (visible_tree h.tree) (Some path)) bytes n.dirty_range
  pub small : IsSome n.dirty_range → n.size ≤ profile_file_max h.tree.disk.profile
  pub leads : (path : List ℕ) → n.path ≡ Some path → LeadsToFile (visible_tree h.tree) path

-- No file is open in the session. Each handle names a node, and no two nodes have paths of one file.
pub record IsSoundVolume (v : VolumeView) : Type 0 where
  pub idle : IsIdleSession v.session (visible_tree v.session.tree)
  pub nodes : (i : ℕ) (n : NodeView) → entry_at v.nodes i ≡ Some n → IsSoundNode v.session n
  pub named : (i : ℕ) (h : Handle) → entry_at v.handles i ≡ Some h → IsSome (entry_at v.nodes h.node)
  pub apart : (i j : ℕ) (n m : NodeView) (path other : List ℕ) → entry_at v.nodes i ≡ Some n → entry_at v.nodes j ≡ Some m → n.path ≡ Some path → m.path ≡ Some other → path_or_root path ≡ path_or_root other → i ≡ j

-- the invariant of each volume, while it works
abbrev pub IsSoundIfWorking : VolumeView → Type 0
IsSoundIfWorking v = v.session.tree.failed ≡ false → IsSoundVolume v

-- no file is open in it, as after a mount
abbrev pub HasNoHandles : VolumeView → Type 0
HasNoHandles v = (v.nodes ≡ []) × (v.handles ≡ [])

-- the same open files and handles
abbrev pub HasSameOpenFiles : VolumeView → VolumeView → Type 0
HasSameOpenFiles old new = (new.nodes ≡ old.nodes) × (new.handles ≡ old.handles)

-- ---- how a call ends

-- the same node, whose bytes may have been loaded
abbrev pub IsNodeOrLoadedNode : Tree → NodeView → NodeView → Type 0
IsNodeOrLoadedNode tree n m = (m ≡ n) ⊎ (m ≡ loaded_node (node_bytes tree n) n)

-- The same volume, with more bytes in memory at most: no caller sees it.
pub record DiffersOnlyByLoads (v w : Volume) : Type 0 where
  pub tree : w.tree ≡ v.tree
  pub handles : w.handles ≡ v.handles
  pub count : length w.nodes ≡ length v.nodes
  pub none : (i : ℕ) → entry_at v.nodes i ≡ None → entry_at w.nodes i ≡ None
  pub some : (i : ℕ) (n : NodeView) → entry_at v.nodes i ≡ Some n → (m : NodeView) × ((entry_at w.nodes i ≡ Some m) × IsNodeOrLoadedNode v.tree n m)

-- the session's part: it accepted all of these operations, or refused one
abbrev pub IsSessionCallSequence : SessionView → List Operation → SessionView → Type 0
IsSessionCallSequence old operations new = MayChangeTreeOnce old operations new ⊎ ((e : Error) × ((refusals.is_refusal e ≡ true) × EndsAtErrorOperation e old operations new))

-- The reply and the next volume are those of the definitions, by the disk at the time when the session is asked: at first, or
-- after calls that kept the tree.
pub record IsVolumeReply (old : VolumeView) (call : Call) (reply : Reply) (new : VolumeView) : Type 0 where
  pub around : DiskSummary
  pub at : SessionView
  pub pairs : List Pair
  pub accepted : IsAccepted at.tree.disk pairs
  pub surrounds : IsDiskSummary at.tree.disk pairs around
  pub shows : visible_tree at.tree ≡ visible_tree old.session.tree
  pub before : List Operation
  pub reached : AreTreePreservingCalls old.session before at
  pub reply_is : (call_result around (volume_of old) call).0 ≡ reply
  pub next : DiffersOnlyByLoads (call_result around (volume_of old) call).1 (volume_of new)
  pub operations : List Operation
  pub session_part : IsSessionCallSequence old.session operations new.session

-- The volume needed memory of its own, in a call that may. It works as before, and the session's tree is unchanged.
pub record LacksMemory (old : VolumeView) (call : Call) (new : VolumeView) : Type 0 where
  pub may : may_need_memory (volume_of old) call ≡ true
  pub works : new.session.tree.failed ≡ false
  pub same : DiffersOnlyByLoads (volume_of old) (volume_of new)
  pub operations : List Operation
  pub calls : AreTreePreservingCalls old.session operations new.session

-- A reply; or the volume needed memory, and works as before; or the session failed in one of its operations.
abbrev pub IsHealthyVolumeCall : VolumeView → Call → Result Reply Error → VolumeView → Type 0
IsHealthyVolumeCall old call (Ok reply) new = IsVolumeReply old call reply new
IsHealthyVolumeCall old call (Err e) new =
    ((e ≡ NoMemory) × LacksMemory old call new)
    ⊎ FailsInCalls e old.session new.session

-- A call of a volume. One that has failed replies `Failed`, and nothing changes.
pub record IsVolumeCall (old : VolumeView) (call : Call) (result : Result Reply Error) (new : VolumeView) : Type 0 where
  pub failed : old.session.tree.failed ≡ true → (result ≡ Ok (ops.Refused ops.Failed)) × (new ≡ old)
  pub works : old.session.tree.failed ≡ false → IsHealthyVolumeCall old call result new

-- A call that is one operation of the session, not on an open file. Its effect on the disk is that of the session's own call.
pub record IsSessionCall (old : VolumeView) (op : Operation) (result : Result Reply Error) (new : VolumeView) : Type 0 where
  pub call : IsVolumeCall old (Perform op) result new
  pub session : IsCall old.session op result new.session

-- A remount closes all handles and remounts the session, whether the session had failed or not. If it succeeds, the volume works
-- and has the tree that the disk shows. After an error the volume has failed.
pub record IsVolumeRemount (old : VolumeView) (result : Result Reply Error) (new : VolumeView) : Type 0 where
  pub call : IsCall old.session ops.Remount result new.session
  pub closed : HasNoHandles new
  pub works : (reply : Reply) → result ≡ Ok reply → (new.session.tree.failed ≡ false) × ShowsTree new.session.tree.disk (Some (visible_tree new.session.tree))
  pub failed : (e : Error) → result ≡ Err e → new.session.tree.failed ≡ true

-- ---- the parts of a call of a session

-- the session works: it was asked for its used blocks, and returned them
abbrev pub IsWorkingSession : SessionView → Type 0
IsWorkingSession h = (h.tree.failed ≡ false) × ((n : ℕ) × IsCall h ops.UsedCount (Ok (ops.Count n)) h)

-- the handle of that number; or `Failed` if the session has failed, or `BadFile` if there is no such handle
abbrev pub IsHandleLookup : VolumeView → ℕ → Result Handle Error → Type 0
IsHandleLookup v handle (Ok h) = IsWorkingSession v.session × (entry_at v.handles handle ≡ Some h)
IsHandleLookup v handle (Err e) = ((e ≡ Failed) × (v.session.tree.failed ≡ true)) ⊎ ((e ≡ BadFile) × IsWorkingSession v.session × (entry_at v.handles handle ≡ None))

-- The refusal of a node's sync, if any, by the disk at the time when the session is asked.
pub record IsSyncRefusal (old : SessionView) (n : NodeView) (refusal : Option Refusal) : Type 0 where
  pub around : DiskSummary
  pub at : SessionView
  pub pairs : List Pair
  pub accepted : IsAccepted at.tree.disk pairs
  pub surrounds : IsDiskSummary at.tree.disk pairs around
  pub shows : visible_tree at.tree ≡ visible_tree old.tree
  pub before : List Operation
  pub reached : AreTreePreservingCalls old before at
  pub is : sync_refusal around (visible_tree old.tree) (Some n) ≡ refusal

-- A node was synced: stored, if it has a path and a dirty range.
pub record IsNodeSynced (old : SessionView) (n : NodeView) (new : SessionView) (m : NodeView) : Type 0 where
  pub node : m ≡ stored_node n
  pub idle : IsIdleSession new (tree_after_sync (visible_tree old.tree) (Some n))
  pub operations : List Operation
  pub steps : MayChangeTreeOnce old operations new
  pub passes : needs_sync n ≡ true → IsSyncRefusal old n None

-- The sync of a node was refused, and the tree is as it was.
pub record IsNodeSyncRefused (e : Error) (old : SessionView) (n : NodeView) (new : SessionView) : Type 0 where
  pub is_one : refusals.is_refusal e ≡ true
  pub refused : IsSyncRefusal old n (Some (error_refusal e))
  pub idle : IsIdleSession new (visible_tree old.tree)
  pub operations : List Operation
  pub part : IsSessionCallSequence old operations new

-- how a sync of a node ends in an error
abbrev pub FailsNodeSync : Error → SessionView → NodeView → SessionView → Type 0
FailsNodeSync e old n new = IsNodeSyncRefused e old n new ⊎ FailsInCalls e old new

-- The stored bytes of a node were read.
pub record AreStoredBytes (old : SessionView) (n : NodeView) (new : SessionView) (bytes : List ℕ) : Type 0 where
  pub are : bytes ≡ stored_bytes (visible_tree old.tree) n.path
  pub idle : IsIdleSession new (visible_tree old.tree)
  pub operations : List Operation
  pub calls : AreTreePreservingCalls old operations new

-- A node's bytes are in memory.
pub record IsNodeLoaded (old : SessionView) (n : NodeView) (new : SessionView) (m : NodeView) : Type 0 where
  pub node : m ≡ loaded_node (node_bytes (visible_tree old.tree) n) n
  pub idle : IsIdleSession new (visible_tree old.tree)
  pub operations : List Operation
  pub calls : AreTreePreservingCalls old operations new

-- ---- the same of a node by its number

-- the node of that index is sound, if there is one
abbrev pub IsSoundAt : SessionView → List (Option NodeView) → ℕ → Type 0
IsSoundAt h nodes i = (n : NodeView) → entry_at nodes i ≡ Some n → IsSoundNode h n

-- The bytes of the node of that index are in memory.
pub record IsLoadedAt (old : SessionView) (nodes : List (Option NodeView)) (i : ℕ) (new : SessionView) (loaded : List (Option NodeView)) : Type 0 where
  pub are : loaded ≡ slice_set nodes i (option_map (λ n. loaded_node (node_bytes (visible_tree old.tree) n) n) (entry_at nodes i))
  pub idle : IsIdleSession new (visible_tree old.tree)
  pub operations : List Operation
  pub calls : AreTreePreservingCalls old operations new

-- The node of that index was synced.
pub record IsSyncedAt (old : SessionView) (nodes : List (Option NodeView)) (i : ℕ) (new : SessionView) (synced : List (Option NodeView)) : Type 0 where
  pub are : synced ≡ slice_set nodes i (option_map stored_node (entry_at nodes i))
  pub node : (n : NodeView) → entry_at nodes i ≡ Some n → IsNodeSynced old n new (stored_node n)

-- The sync of the node of that index ended in an error.
pub record FailsSyncAt (e : Error) (old : SessionView) (nodes : List (Option NodeView)) (i : ℕ) (new : SessionView) : Type 0 where
  pub node : NodeView
  pub is : entry_at nodes i ≡ Some node
  pub ends : FailsNodeSync e old node new

-- ---- the parts of a call

-- a handle that may read, and the volume after its node was loaded
pub record IsReadyToRead (old : VolumeView) (handle : ℕ) (h : Handle) (new : VolumeView) : Type 0 where
  pub sound : IsSoundVolume old
  pub working : IsWorkingSession old.session
  pub at : entry_at old.handles handle ≡ Some h
  pub reads : h.reads ≡ true
  pub handles : new.handles ≡ old.handles
  pub loaded : IsLoadedAt old.session old.nodes h.node new.session new.nodes

-- the offset of a write, if the file may be as long as it is then
abbrev pub IsAllowedWriteOffset : VolumeView → Handle → ℕ → ℕ → Type 0
IsAllowedWriteOffset v h count at = IfSome (entry_at v.nodes h.node) (λ n. (at ≡ write_offset h n) × (max n.size (at + count) ≤ profile_file_max v.session.tree.disk.profile))

abbrev pub WriteExceedsFileMax : VolumeView → Handle → ℕ → Type 0
WriteExceedsFileMax v h count = IfSome (entry_at v.nodes h.node) (λ n. profile_file_max v.session.tree.disk.profile < max n.size (write_offset h n + count))

-- the handle is free, and a node without another handle is dropped
pub record IsHandleDropped (old : VolumeView) (handle : ℕ) (h : Handle) (new : VolumeView) : Type 0 where
  pub session : new.session ≡ old.session
  pub handles : new.handles ≡ slice_set old.handles handle None
  pub nodes : new.nodes ≡ (if named new.handles h.node then old.nodes else slice_set old.nodes h.node None)
