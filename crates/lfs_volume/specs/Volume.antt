-- A volume as programs see it: the tree, the open files, and the handles that name them.
use Rattle.std.specs.Prelude.{ℕ, ◌+◌, ◌==◌, min, max, if◌then◌else◌, List, [], ◌∷◌, length, take, Option, Some, None, slice_get, unwrap_or}
use Rattle.std.specs.Option.{option_flatten}
use Rattle.lfs_model.specs.tree.Tree.{Tree}
use Rattle.lfs_model.specs.session.TreeEdits.{file_bytes}
use Rattle.lfs_model.specs.session.Refusals.{path_or_root}
use Rattle.lfs_model.specs.session.Session.{Session}
use Rattle.lfs_model.specs.session.Writers.{written_contents, zero_padded}
use Rattle.lfs_tree.specs.TreeState.{visible_tree}
use Rattle.lfs_fs.specs.SessionView.{SessionView}
use Rattle.lfs_volume.specs.declared.dirty_range.DirtyRange.{DirtyRange}
use Rattle.lfs_volume.specs.declared.handles.Handle.{Handle}
use Rattle.lfs_volume.specs.DirtyRanges.{extend_dirty_range, resize_dirty_range}

-- An open file. All handles on it see the same bytes.
pub record NodeView : Type 0 where
  -- None once the file was removed or replaced
  pub path : Option (List ℕ)
  -- its length in bytes, with what isn't synced yet
  pub size : ℕ
  -- None until bytes are read or written; the bytes are those of the tree then
  pub contents : Option (List ℕ)
  -- the range in which the contents may differ from the stored ones, if any
  pub dirty_range : Option DirtyRange

-- what contracts see of a volume
pub record VolumeView : Type 0 where
  pub session : SessionView
  pub nodes : List (Option NodeView)
  pub handles : List (Option Handle)

-- the volume of the definitions, while the session works
pub record Volume : Type 0 where
  pub tree : Tree
  pub nodes : List (Option NodeView)
  pub handles : List (Option Handle)

abbrev pub volume_of : VolumeView → Volume
volume_of v = record { tree = visible_tree v.session.tree; nodes = v.nodes; handles = v.handles }

-- the session at the beginning of each call of a volume: no file is open in it
abbrev pub idle_session : Tree → Session
idle_session tree = record { tree = tree; files = [] }

-- the entry of that index, if there is one
abbrev pub entry_at : {A : Type 0} → List (Option A) → ℕ → Option A
entry_at entries i = option_flatten (slice_get entries i)

-- ---- a node

abbrev pub stored_bytes : Tree → Option (List ℕ) → List ℕ
stored_bytes tree None = []
stored_bytes tree (Some path) = file_bytes (tree (path_or_root path))

abbrev pub node_bytes : Tree → NodeView → List ℕ
node_bytes tree n = unwrap_or n.contents (stored_bytes tree n.path)

-- a node that was opened just now
abbrev pub opened_node : List ℕ → ℕ → NodeView
opened_node path size = record { path = Some path; size = size; contents = None; dirty_range = None }

abbrev pub loaded_node : List ℕ → NodeView → NodeView
loaded_node bytes n = record n { contents = Some bytes }

-- the node after a write of bytes at the offset `at`
abbrev pub written_node : ℕ → List ℕ → List ℕ → NodeView → NodeView
written_node at [] old n = n
written_node at (b ∷ bytes) old n = record n {
  size = max n.size (at + length (b ∷ bytes));
  contents = Some (written_contents old at (b ∷ bytes));
  dirty_range = Some (extend_dirty_range n.dirty_range (min at n.size) (at + length (b ∷ bytes)));
}

-- the node after its file was resized
abbrev pub resized_node : ℕ → List ℕ → NodeView → NodeView
resized_node size old n =
    if size == n.size then n
    else record n { size = size; contents = Some (take size (zero_padded size old)); dirty_range = Some (resize_dirty_range n.dirty_range n.size size) }

-- the node after its contents were stored
abbrev pub synced_node : NodeView → NodeView
synced_node n = record n { dirty_range = None }

-- the node after its file was removed or replaced
abbrev pub unlinked_node : NodeView → NodeView
unlinked_node n = record n { path = None; dirty_range = None }

-- ---- a handle

abbrev pub with_position : ℕ → Handle → Handle
with_position position h = record h { position = position }

abbrev pub write_offset : Handle → NodeView → ℕ
write_offset h n = if h.appends then n.size else h.position
