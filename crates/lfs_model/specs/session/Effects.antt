-- The reply to an operation that no check refuses, and the session after it.
use Rattle.std.specs.Prelude.{ℕ, ◌+◌, ◌==◌, if◌then◌else◌, List, [], ◌∷◌, ◌++◌, length, take, drop, map, Option, Some, None, is_none, unwrap_or}
use Rattle.std.specs.List.{list_any}
use Rattle.std.specs.Option.{option_map}
use Rattle.lfs_model.specs.format.Content.{attribute_bytes, attributes_without, attributes_with}
use Rattle.lfs_model.specs.tree.Tree.{Path, Node, FileNode, DirectoryNode, Tree}
use Rattle.lfs_model.specs.session.Operations as ops
use Rattle.lfs_model.specs.session.Operations.{Refusal, FlagsOfOpen, Operation, ListedEntry, Reply}
use Rattle.lfs_model.specs.session.TreeEdits.{node_attributes_of, file_bytes, directory_names, with_attributes, tree_creating, tree_removing, tree_renaming, tree_with_change}
use Rattle.lfs_model.specs.session.Session.{Session, DiskSummary, OpenFile, Reading, Writing, FileReader, file_numbered, file_reader, file_writer, free_number_of, files_with_file}
use Rattle.lfs_model.specs.session.Writers.{writer_after_write, truncated_writer, synced_writer, opened_writer}
use Rattle.lfs_model.specs.session.Refusals.{path_or_root, operation_refusal}
use Rattle.lfs_model.specs.format.Slots.{set_move_kind}

-- The size of a file, or None for anything else.
abbrev pub node_file_size : Option Node → Option ℕ
node_file_size None = None
node_file_size (Some (FileNode attributes bytes)) = Some (length bytes)
node_file_size (Some (DirectoryNode attributes names)) = None

abbrev pub unchanged_session : Reply → Session → Reply × Session
unchanged_session reply s = (reply, s)

-- The node with these contents, if it is a file, otherwise the node unchanged.
abbrev pub node_with_bytes : List ℕ → Node → Node
node_with_bytes bytes (FileNode attributes old) = FileNode attributes bytes
node_with_bytes bytes (DirectoryNode attributes names) = DirectoryNode attributes names

-- The tree after the contents of a dirty writer are committed.
abbrev pub tree_after_storing : Option OpenFile → Tree → Tree
tree_after_storing None t = t
tree_after_storing (Some (Reading r)) t = t
tree_after_storing (Some (Writing w)) t = if w.dirty then tree_with_change w.path (node_with_bytes w.contents) t else t

abbrev pub synced_file : Option OpenFile → Option OpenFile
synced_file None = None
synced_file (Some (Reading r)) = Some (Reading r)
synced_file (Some (Writing w)) = Some (Writing (synced_writer w))

-- The open file at another position.
abbrev pub repositioned_file : ℕ → OpenFile → OpenFile
repositioned_file position (Reading r) = Reading (record r { position = position })
repositioned_file position (Writing w) = Writing (record w { position = position })

-- The reply and the session after a file at path `p` is opened, and created if it doesn't exist.
abbrev pub open_effect : Session → Path → FlagsOfOpen → Reply × Session
open_effect s p flags = (
  ops.Opened (free_number_of s.files),
  record {
    tree = if is_none (s.tree p) then tree_creating p (FileNode [] []) s.tree else s.tree;
    files = files_with_file s.files (free_number_of s.files)
        (Some (if flags.write then Writing (opened_writer p flags (file_bytes (s.tree p))) else Reading (record { path = p; position = 0 })));
  },
)

-- The reply and the session after up to `count` bytes are read from an open reader.
abbrev pub read_effect : Session → ℕ → ℕ → Option FileReader → Reply × Session
read_effect s fd count None = (ops.Done, s)
read_effect s fd count (Some r) = (
  ops.Bytes found,
  record s {
    files = files_with_file s.files fd (Some (Reading (record r { position = r.position + length found })));
  },
)
  where
    found : List ℕ
    found = take count (drop r.position (file_bytes (s.tree r.path)))

-- The entries of the directory at `path`, in the order of names.
abbrev pub listed_entries_at : Tree → Path → List ListedEntry
listed_entries_at t path = map (λ name. record { name = name; size = node_file_size (t (path ++ name ∷ [])) }) (directory_names (t path))

-- The reply to an operation that no check refuses, and the session after it.
abbrev pub operation_effect : DiskSummary → Session → Operation → Reply × Session
operation_effect around s (ops.Open path flags) = open_effect s (path_or_root path) flags
operation_effect around s (ops.Read fd count) = read_effect s fd count (file_reader (file_numbered s.files fd))
operation_effect around s (ops.Write fd bytes) = (
  ops.Count (length bytes),
  record s {
    files = files_with_file s.files fd (option_map (λ w. Writing (writer_after_write w bytes)) (file_writer (file_numbered s.files fd)));
  },
)
operation_effect around s (ops.Seek fd position) = (
  ops.Done,
  record s {
    files = files_with_file s.files fd (option_map (repositioned_file position) (file_numbered s.files fd));
  },
)
operation_effect around s (ops.Truncate fd size) = (
  ops.Done,
  record s {
    files = files_with_file s.files fd (option_map (λ w. Writing (truncated_writer w size)) (file_writer (file_numbered s.files fd)));
  },
)
operation_effect around s (ops.Sync fd) = (
  ops.Done,
  record {
    tree = tree_after_storing (file_numbered s.files fd) s.tree;
    files = files_with_file s.files fd (synced_file (file_numbered s.files fd));
  },
)
operation_effect around s (ops.Close fd) = (
  ops.Done,
  record {
    tree = tree_after_storing (file_numbered s.files fd) s.tree;
    files = files_with_file s.files fd None;
  },
)
operation_effect around s (ops.Mkdir path) = (ops.Done, record s { tree = tree_creating (path_or_root path) (DirectoryNode [] []) s.tree })
operation_effect around s (ops.Remove path) = (ops.Done, record s { tree = tree_removing (path_or_root path) s.tree })
operation_effect around s (ops.Rename old new) = (ops.Done, record s { tree = tree_renaming (path_or_root old) (path_or_root new) s.tree })
operation_effect around s (ops.ListAll path) = (ops.Items (listed_entries_at s.tree (path_or_root path)), s)
operation_effect around s (ops.Stat path) = (ops.StatIs (node_file_size (s.tree (path_or_root path))), s)
operation_effect around s (ops.GetAttr path kind) = (ops.Bytes (unwrap_or (attribute_bytes kind (node_attributes_of (s.tree (path_or_root path)))) []), s)
operation_effect around s (ops.SetAttr path kind bytes) = (
  ops.Done,
  record s {
    tree = tree_with_change (path_or_root path) (λ n. with_attributes (attributes_with kind bytes (node_attributes_of (Some n))) n) s.tree;
  },
)
operation_effect around s (ops.RemoveAttr path kind) = (
  ops.Done,
  record s {
    tree = tree_with_change (path_or_root path) (λ n. with_attributes (attributes_without kind (node_attributes_of (Some n))) n) s.tree;
  },
)
operation_effect around s ops.AskGstate = (
  ops.GstateIs around.gstate.sync
      (if around.gstate.kind == set_move_kind then Some (around.gstate.pair, around.gstate.id) else None),
  s,
)
operation_effect around s (ops.IsUsed block) = (ops.Yes (list_any (λ b. b == block) around.used), s)
operation_effect around s ops.UsedCount = (ops.Count (length around.used), s)
-- A recovery doesn't change the tree. The result of a remount depends on the disk alone (State).
operation_effect around s _ = (ops.Done, s)

-- The refusal and the unchanged session `s`, or `accepted` if nothing refuses.
abbrev pub unless_refused : Option Refusal → Session → Reply × Session → Reply × Session
unless_refused (Some error) s accepted = (ops.Refused error, s)
unless_refused None s accepted = accepted

-- The reply to any operation, and the session after it, refused or not.
abbrev pub operation_result : DiskSummary → Session → Operation → Reply × Session
operation_result around s op = unless_refused (operation_refusal around s op) s (operation_effect around s op)
