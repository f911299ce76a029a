-- The results of look-ups and listings.
use Rattle.std.specs.Prelude.{ℕ, ◌≡◌, [], nat_lt, Bool, true, false, length, Option, Some, None, is_none}
use Rattle.lfs_model.specs.session.TreeEdits.{is_directory, is_file, directory_names}
use Rattle.lfs_model.specs.session.Operations as ops
use Rattle.lfs_model.specs.session.Session.{parents_refusal}
use Rattle.lfs_model.specs.session.Effects.{node_file_size}
use Rattle.lfs_model.specs.tree.Tree.{Path, Tree}
use Rattle.lfs_lookup.specs.declared.found_entries.FoundNode.{FoundNode}
use Rattle.lfs_lookup.specs.declared.kinds.Kind.{Kind}
use Rattle.lfs_lookup.specs.declared.kinds.Kind.TheVariants as kind
use Rattle.lfs_lookup.specs.declared.kinds.ListItem.{ListItem}
use Rattle.lfs_lookup.specs.declared.found_entries.Node.{Node}
use Rattle.lfs_lookup.specs.declared.found_entries.Node.TheVariants as node
use Rattle.lfs_lookup.specs.declared.kinds.Stat.{Stat}

abbrev pub is_absent : Node → Bool
is_absent node.Nothing = true
is_absent (node.File size) = false
is_absent node.Directory = false

abbrev pub is_file_node : Node → Bool
is_file_node node.Nothing = false
is_file_node (node.File size) = true
is_file_node node.Directory = false

abbrev pub is_directory_node : Node → Bool
is_directory_node node.Nothing = false
is_directory_node (node.File size) = false
is_directory_node node.Directory = true

abbrev pub node_size_if_file : Node → Option ℕ
node_size_if_file node.Nothing = None
node_size_if_file (node.File size) = Some size
node_size_if_file node.Directory = None

-- `found` is the node at the path, or nothing, with the refusal, if a parent refuses the path
pub record IsFoundNode (t : Tree) (p : Path) (found : FoundNode) : Type 0 where
  pub parents : parents_refusal t [] p ≡ found.fault
  pub nothing : is_none (t p) ≡ is_absent found.node
  pub directories : is_directory (t p) ≡ is_directory_node found.node
  pub files : is_file (t p) ≡ is_file_node found.node
  pub sizes : node_file_size (t p) ≡ node_size_if_file found.node

-- whether there is an entry beneath a path
abbrev pub has_entry_beneath : Tree → Path → Bool
has_entry_beneath t p = nat_lt 0 (length (directory_names (t p)))

-- a file's size; a directory has none
abbrev pub size_if_file : Kind → ℕ → Option ℕ
size_if_file kind.File size = Some size
size_if_file kind.Dir size = None

abbrev pub stat_view : Stat → Option ℕ
stat_view stat = size_if_file stat.kind stat.size

abbrev pub listed_item_view : ListItem → ops.ListedEntry
listed_item_view item = record { name = item.name.items; size = size_if_file item.kind item.size }
