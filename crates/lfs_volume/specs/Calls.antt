-- Calls of a volume: the check that refuses each, and the reply and the effect if none does.
use Rattle.std.specs.Prelude.{ℕ, ◌+◌, ◌==◌, nat_lt, max, Bool, true, false, not, ◌&&◌, ◌||◌, if◌then◌else◌, List, [], ◌∷◌, ◌++◌, length, take, drop, map, slice_set, Option, Some, None, is_some, is_none, nat_eq, unwrap_or}
use Rattle.std.specs.List.{list_any, position_or_len, starts_with}
use Rattle.std.specs.Option.{option_map, option_and_then}
use Rattle.lfs_model.specs.format.Names.{same_name, slash_byte}
use Rattle.lfs_model.specs.format.Disk.{profile_file_max}
use Rattle.lfs_model.specs.tree.Tree.{Tree}
use Rattle.lfs_model.specs.session.Operations as ops
use Rattle.lfs_model.specs.session.Operations.{Refusal, BadFile, Invalid, TooBig, NoSpace, FlagsOfOpen, Operation, Reply}
use Rattle.lfs_model.specs.session.Session.{DiskSummary, refuse_if, first_refusal, file_block_count}
use Rattle.lfs_model.specs.session.Refusals.{path_or_root, operation_refusal}
use Rattle.lfs_model.specs.session.TreeEdits.{file_bytes, tree_with_change}
use Rattle.lfs_model.specs.session.Effects.{node_with_bytes, operation_effect}
use Rattle.lfs_volume.specs.declared.handles.Handle.{Handle}
use Rattle.lfs_volume.specs.Opened.{reading_flags, writing_flags}
use Rattle.lfs_volume.specs.Volume.{NodeView, Volume, entry_at, idle_session, loaded_node, node_bytes, opened_node, resized_node, synced_node, unlinked_node, with_position, write_offset, written_node}

pub data Call : Type 0 where
  Open : (path : List ℕ) (flags : FlagsOfOpen) → Call
  Read : (handle count : ℕ) → Call
  Write : (handle : ℕ) (bytes : List ℕ) → Call
  Seek : (handle position : ℕ) → Call
  Tell : (handle : ℕ) → Call
  Size : (handle : ℕ) → Call
  Truncate : (handle size : ℕ) → Call
  Sync : (handle : ℕ) → Call
  Close : (handle : ℕ) → Call
  -- an operation of the session on the tree or the device, not on an open file, and no remount
  Perform : (operation : Operation) → Call

-- ---- flags

-- reading, writing, or both; create, truncate and append only with writing, exclusive only with create
abbrev pub volume_flags_allowed : FlagsOfOpen → Bool
volume_flags_allowed f = not f.unknown && (f.read || f.write) && (f.write || not (f.create || f.truncate || f.append)) && (f.create || not f.exclusive)

-- the flags with which the session is asked whether the file may be opened; it creates the file then, if it is to be created
abbrev pub session_flags : FlagsOfOpen → FlagsOfOpen
session_flags f = if f.write then record writing_flags { create = f.create; exclusive = f.exclusive } else reading_flags

-- ---- nodes and handles

abbrev pub handle_node : Volume → ℕ → Option NodeView
handle_node v handle = option_and_then (λ h. entry_at v.nodes h.node) (entry_at v.handles handle)

abbrev pub may_read : Volume → ℕ → Bool
may_read v handle = unwrap_or (option_map (λ h. h.reads) (entry_at v.handles handle)) false

abbrev pub may_write : Volume → ℕ → Bool
may_write v handle = unwrap_or (option_map (λ h. h.writes) (entry_at v.handles handle)) false

abbrev pub has_path : List ℕ → Option NodeView → Bool
has_path path None = false
has_path path (Some n) = unwrap_or (option_map (λ p. same_name p path) n.path) false

-- the least free index of a table, or its length
abbrev pub free_entry_index : {A : Type 0} → List (Option A) → ℕ
free_entry_index entries = position_or_len is_none entries

abbrev pub with_entry : {A : Type 0} → List (Option A) → ℕ → Option A → List (Option A)
with_entry entries i entry = if nat_lt i (length entries) then slice_set entries i entry else entries ++ entry ∷ []

-- the index of the path's node: the one that is open, or the least free one
abbrev pub node_index_for_path : List (Option NodeView) → List ℕ → ℕ
node_index_for_path nodes path =
    if nat_lt (position_or_len (has_path path) nodes) (length nodes) then position_or_len (has_path path) nodes else free_entry_index nodes

abbrev pub refers_to_node : ℕ → Option Handle → Bool
refers_to_node node None = false
refers_to_node node (Some h) = h.node == node

abbrev pub named : List (Option Handle) → ℕ → Bool
named handles node = list_any (refers_to_node node) handles

-- ---- refusals

abbrev pub needs_sync : NodeView → Bool
needs_sync n = is_some n.dirty_range && is_some n.path

-- The session may refuse to open the file. Otherwise the blocks must be there that a writer needs, by `blocks_for_save`.
abbrev pub sync_refusal : DiskSummary → Tree → Option NodeView → Option Refusal
sync_refusal around tree None = None
sync_refusal around tree (Some n) =
    if needs_sync n
    then first_refusal (operation_refusal around (idle_session tree) (ops.Open (unwrap_or n.path []) writing_flags)
    ∷ refuse_if (nat_lt around.block_count (length around.used + (2 + file_block_count around.profile around.block_size n.size))) NoSpace
    ∷ [])
    else None

abbrev pub written_size : Handle → NodeView → List ℕ → ℕ
written_size h n bytes = max n.size (write_offset h n + length bytes)

abbrev pub write_too_big : DiskSummary → List ℕ → Option Handle → Option NodeView → Bool
write_too_big around bytes (Some h) (Some n) = nat_lt 0 (length bytes) && nat_lt (profile_file_max around.profile) (written_size h n bytes)
write_too_big around bytes h n = false

-- the first check that refuses a call of a volume that works, or None
abbrev pub call_refusal : DiskSummary → Volume → Call → Option Refusal
call_refusal around v (Open path flags) = first_refusal (
    refuse_if (not (volume_flags_allowed flags)) Invalid
    ∷ operation_refusal around (idle_session v.tree) (ops.Open path (session_flags flags))
    ∷ [])
call_refusal around v (Read handle count) = refuse_if (not (may_read v handle)) BadFile
call_refusal around v (Write handle bytes) = first_refusal (
    refuse_if (not (may_write v handle)) BadFile
    ∷ refuse_if (write_too_big around bytes (entry_at v.handles handle) (handle_node v handle)) TooBig
    ∷ [])
call_refusal around v (Seek handle position) = first_refusal (
    refuse_if (is_none (entry_at v.handles handle)) BadFile
    ∷ refuse_if (nat_lt (profile_file_max around.profile) position) Invalid
    ∷ [])
call_refusal around v (Tell handle) = refuse_if (is_none (entry_at v.handles handle)) BadFile
call_refusal around v (Size handle) = refuse_if (is_none (entry_at v.handles handle)) BadFile
call_refusal around v (Truncate handle size) = first_refusal (
    refuse_if (not (may_write v handle)) BadFile
    ∷ refuse_if (nat_lt (profile_file_max around.profile) size) TooBig
    ∷ [])
call_refusal around v (Sync handle) = first_refusal (
    refuse_if (is_none (entry_at v.handles handle)) BadFile
    ∷ sync_refusal around v.tree (handle_node v handle)
    ∷ [])
call_refusal around v (Close handle) = refuse_if (is_none (entry_at v.handles handle)) BadFile
call_refusal around v (Perform op) = operation_refusal around (idle_session v.tree) op

-- ---- memory

-- that size is more than the node's
abbrev pub would_extend_node : Option NodeView → ℕ → Bool
would_extend_node None size = false
would_extend_node (Some n) size = nat_lt n.size size

abbrev pub would_write_extend : Option Handle → Option NodeView → List ℕ → Bool
would_write_extend (Some h) (Some n) bytes = nat_lt n.size (write_offset h n + length bytes)
would_write_extend h n bytes = false

-- A call may need memory of the volume's own: for a handle and a node, for bytes that are returned, for a file that becomes
-- longer, and for paths that move.
abbrev pub may_need_memory : Volume → Call → Bool
may_need_memory v (Open path flags) = true
may_need_memory v (Read handle count) = true
may_need_memory v (Write handle bytes) = would_write_extend (entry_at v.handles handle) (handle_node v handle) bytes
may_need_memory v (Truncate handle size) = would_extend_node (handle_node v handle) size
may_need_memory v (Perform (ops.Rename old new)) = not (same_name old new)
may_need_memory v _ = false

-- ---- effects

abbrev pub change_node : ℕ → (NodeView → NodeView) → Volume → Volume
change_node i change v = record v { nodes = slice_set v.nodes i (option_map change (entry_at v.nodes i)) }

abbrev pub volume_after_seek : ℕ → ℕ → Volume → Volume
volume_after_seek handle position v = record v { handles = slice_set v.handles handle (option_map (with_position position) (entry_at v.handles handle)) }

-- the volume after all bytes of the node were loaded into memory
abbrev pub load_node : ℕ → Volume → Volume
load_node i v = change_node i (λ n. loaded_node (node_bytes v.tree n) n) v

abbrev pub tree_after_sync : Tree → Option NodeView → Tree
tree_after_sync tree None = tree
tree_after_sync tree (Some n) = if needs_sync n then tree_with_change (path_or_root (unwrap_or n.path [])) (node_with_bytes (node_bytes tree n)) tree else tree

-- a node without a path keeps its dirty range, as nothing of it is stored
abbrev pub stored_node : NodeView → NodeView
stored_node n = if needs_sync n then synced_node n else n

abbrev pub sync_node : ℕ → Volume → Volume
sync_node i v = record (change_node i stored_node v) { tree = tree_after_sync v.tree (entry_at v.nodes i) }

-- the nodes after a handle on the node `i` was closed: the node is dropped with the last handle on it
abbrev pub nodes_after_close : List (Option Handle) → List (Option NodeView) → Option ℕ → List (Option NodeView)
nodes_after_close handles nodes None = nodes
nodes_after_close handles nodes (Some i) = if named handles i then nodes else slice_set nodes i None

-- the handle is free, and a node that no handle names is dropped with its bytes
abbrev pub volume_after_close : ℕ → Volume → Volume
volume_after_close handle v = record v {
  handles = slice_set v.handles handle None;
  nodes = nodes_after_close (slice_set v.handles handle None) v.nodes (option_map (λ h. h.node) (entry_at v.handles handle));
}

abbrev pub new_handle : ℕ → FlagsOfOpen → Handle
new_handle node flags = record { node = node; position = 0; reads = flags.read; writes = flags.write; appends = flags.append }

-- the node of an opened file: the one that is open, or a new one of that size; no bytes if the flags truncate it
abbrev pub node_after_open : List ℕ → ℕ → Bool → Option NodeView → NodeView
node_after_open path size truncates found =
    if truncates then resized_node 0 [] (unwrap_or found (opened_node path size)) else unwrap_or found (opened_node path size)

-- the nodes after a file was opened
abbrev pub nodes_after_open : List ℕ → ℕ → Bool → List (Option NodeView) → List (Option NodeView)
nodes_after_open path size truncates nodes =
    with_entry nodes (node_index_for_path nodes path) (Some (node_after_open path size truncates (entry_at nodes (node_index_for_path nodes path))))

-- a new node has the size of the tree's file
abbrev pub open_volume : Tree → List ℕ → FlagsOfOpen → Volume → Reply × Volume
open_volume tree path flags v = (
  ops.Opened (free_entry_index v.handles),
  record {
    tree = tree;
    nodes = nodes_after_open path (length (file_bytes (tree (path_or_root path)))) flags.truncate v.nodes;
    handles = with_entry v.handles (free_entry_index v.handles) (Some (new_handle (node_index_for_path v.nodes path) flags));
  },
)

-- ---- paths that go or move

abbrev pub is_at_or_beneath : List ℕ → List ℕ → Bool
is_at_or_beneath old path = starts_with nat_eq path old && ((length path == length old) || starts_with nat_eq (drop (length old) path) (slash_byte ∷ []))

-- a node of that path loses it, and keeps its bytes in memory
abbrev pub unlink_path : Tree → List ℕ → NodeView → NodeView
unlink_path tree path n = if has_path path (Some n) then unlinked_node (loaded_node (node_bytes tree n) n) else n

-- the path of a node after a rename, if it moves: the new path, followed by the part behind the old one
abbrev pub renamed_path : List ℕ → List ℕ → NodeView → Option (List ℕ)
renamed_path old new n = option_and_then (λ p. if is_at_or_beneath old p then Some (new ++ drop (length old) p) else None) n.path

abbrev pub with_path : Option (List ℕ) → NodeView → NodeView
with_path None n = n
with_path (Some path) n = record n { path = Some path }

-- a node at or beneath the old path moves
abbrev pub node_after_rename : List ℕ → List ℕ → NodeView → NodeView
node_after_rename old new n = with_path (renamed_path old new n) n

-- the node of that index is changed
abbrev pub nodes_with_change_at : ℕ → (NodeView → NodeView) → List (Option NodeView) → List (Option NodeView)
nodes_with_change_at i change nodes = slice_set nodes i (option_map change (entry_at nodes i))

-- the first node with that path loses it
abbrev pub nodes_without_path : List ℕ → List (Option NodeView) → List (Option NodeView)
nodes_without_path path nodes = nodes_with_change_at (position_or_len (has_path path) nodes) unlinked_node nodes

-- each node is set to the path of its index, if there is one
abbrev pub nodes_with_paths : List (Option (List ℕ)) → List (Option NodeView) → List (Option NodeView)
nodes_with_paths [] nodes = nodes
nodes_with_paths (path ∷ paths) [] = []
nodes_with_paths (path ∷ paths) (node ∷ nodes) = option_map (with_path path) node ∷ nodes_with_paths paths nodes

-- the open files after an operation of the session
abbrev pub nodes_after_operation : Tree → Operation → List (Option NodeView) → List (Option NodeView)
nodes_after_operation tree (ops.Remove path) nodes = map (option_map (unlink_path tree path)) nodes
nodes_after_operation tree (ops.Rename old new) nodes = map (option_map (λ n. node_after_rename old new (if same_name old new then n else unlink_path tree new n))) nodes
nodes_after_operation tree _ nodes = nodes

-- ---- a call that no check refuses

abbrev pub read_effect : Volume → ℕ → ℕ → Option Handle → Reply × Volume
read_effect v handle count None = (ops.Done, v)
read_effect v handle count (Some h) = (ops.Bytes found, volume_after_seek handle (h.position + length found) (load_node h.node v))
  where
    found : List ℕ
    found = take count (drop h.position (unwrap_or (option_map (node_bytes v.tree) (entry_at v.nodes h.node)) []))

abbrev pub write_effect : Volume → ℕ → List ℕ → Option Handle → Option NodeView → Reply × Volume
write_effect v handle [] h n = (ops.Count 0, v)
write_effect v handle (b ∷ bytes) (Some h) (Some n) = (
  ops.Count (length (b ∷ bytes)),
  volume_after_seek handle (write_offset h n + length (b ∷ bytes)) (change_node h.node (written_node (write_offset h n) (b ∷ bytes) (node_bytes v.tree n)) v),
)
write_effect v handle bytes h n = (ops.Count 0, v)

abbrev pub handle_node_index : Volume → ℕ → ℕ
handle_node_index v handle = unwrap_or (option_map (λ h. h.node) (entry_at v.handles handle)) (length v.nodes)

-- the handle is free even if the sync is refused
abbrev pub close_effect : Volume → ℕ → Option Refusal → Reply × Volume
close_effect v handle None = (ops.Done, volume_after_close handle (sync_node (handle_node_index v handle) v))
close_effect v handle (Some error) = (ops.Refused error, volume_after_close handle v)

abbrev pub call_effect : DiskSummary → Volume → Call → Reply × Volume
call_effect around v (Open path flags) = open_volume (operation_effect around (idle_session v.tree) (ops.Open path (session_flags flags))).1.tree path flags v
call_effect around v (Read handle count) = read_effect v handle count (entry_at v.handles handle)
call_effect around v (Write handle bytes) = write_effect v handle bytes (entry_at v.handles handle) (handle_node v handle)
call_effect around v (Seek handle position) = (ops.Done, volume_after_seek handle position v)
call_effect around v (Tell handle) = (ops.Count (unwrap_or (option_map (λ h. h.position) (entry_at v.handles handle)) 0), v)
call_effect around v (Size handle) = (ops.Count (unwrap_or (option_map (λ n. n.size) (handle_node v handle)) 0), v)
call_effect around v (Truncate handle size) = (
  ops.Done,
  change_node (handle_node_index v handle) (λ n. resized_node size (node_bytes v.tree n) n) v,
)
call_effect around v (Sync handle) = (ops.Done, sync_node (handle_node_index v handle) v)
call_effect around v (Close handle) = close_effect v handle (sync_refusal around v.tree (handle_node v handle))
call_effect around v (Perform op) = (
  (operation_effect around (idle_session v.tree) op).0,
  record {
    tree = (operation_effect around (idle_session v.tree) op).1.tree;
    nodes = nodes_after_operation v.tree op v.nodes;
    handles = v.handles;
  },
)

abbrev pub unless_refused : Option Refusal → Volume → Reply × Volume → Reply × Volume
unless_refused (Some error) v accepted = (ops.Refused error, v)
unless_refused None v accepted = accepted

abbrev pub call_result : DiskSummary → Volume → Call → Reply × Volume
call_result around v call = unless_refused (call_refusal around v call) v (call_effect around v call)
