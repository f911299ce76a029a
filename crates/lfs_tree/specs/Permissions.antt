-- The premises of an operation, which its checks have shown.
use Rattle.std.specs.Prelude.{ℕ, ◌≡◌, ◌+◌, ◌≤◌, true, false, not, ◌&&◌, List, [], length, nat_lt, None, is_none, is_some}
use Rattle.lfs_model.specs.session.TreeEdits.{node_attributes_of, is_beneath, is_directory, is_file, last_name, directory_names, same_path}
use Rattle.lfs_model.specs.layers.BlockSets.{in_flight_count}
use Rattle.lfs_model.specs.format.Content.{attribute_bytes, attributes_with}
use Rattle.lfs_model.specs.format.Disk.{block_count}
use Rattle.lfs_model.specs.session.Session.{parents_refusal, has_long_name, exceeds_half_pair}
use Rattle.lfs_model.specs.session.Refusals.{is_root_path}
use Rattle.lfs_model.specs.tree.Tree.{Path}
use Rattle.lfs_tree.specs.TreeState.{TreeState, tree_summary, without_cache, visible_tree}

-- `need` blocks are free: neither used by the image nor in flight
abbrev pub HasNeededBlocks : TreeState → ℕ → Type 0
HasNeededBlocks t need = length (tree_summary t).used + in_flight_count t.map + need ≤ block_count t.disk

-- the path has no entry, and one may be made there that needs `need` free blocks
pub record CanAddEntryIn (t : TreeState) (path : Path) (need : ℕ) : Type 0 where
  pub works : t.failed ≡ false
  pub writable : t.writable ≡ true
  pub parents : parents_refusal (visible_tree t) [] path ≡ None
  pub name : has_long_name (tree_summary t) path ≡ false
  pub nothing : is_some (visible_tree t path) ≡ false
  pub fits : exceeds_half_pair (tree_summary t) (last_name path) [] ≡ false
  pub room : HasNeededBlocks t need

abbrev pub CanAddEntry : TreeState → Path → ℕ → Type 0
CanAddEntry t path need = CanAddEntryIn (without_cache t) path need

-- a directory may be made at the path
abbrev pub CanMakeDirectory : TreeState → Path → Type 0
CanMakeDirectory t path = CanAddEntry t path 4

-- a file may be created at the path
abbrev pub CanCreateFile : TreeState → Path → Type 0
CanCreateFile t path = CanAddEntry t path 2

-- the path has a file, or a directory without entries
pub record CanRemoveEntryIn (t : TreeState) (path : Path) : Type 0 where
  pub works : t.failed ≡ false
  pub writable : t.writable ≡ true
  pub entry : is_root_path path ≡ false
  pub parents : parents_refusal (visible_tree t) [] path ≡ None
  pub something : is_none (visible_tree t path) ≡ false
  pub empty : nat_lt 0 (length (directory_names (visible_tree t path))) ≡ false

abbrev pub CanRemoveEntry : TreeState → Path → Type 0
CanRemoveEntry t path = CanRemoveEntryIn (without_cache t) path

-- the path has an entry, to which the attribute may be added
pub record CanSetAttrIn (t : TreeState) (path : Path) (kind : ℕ) (bytes : List ℕ) : Type 0 where
  pub works : t.failed ≡ false
  pub writable : t.writable ≡ true
  pub entry : is_root_path path ≡ false
  pub parents : parents_refusal (visible_tree t) [] path ≡ None
  pub something : is_none (visible_tree t path) ≡ false
  pub len : length bytes ≤ 1022
  pub fits : exceeds_half_pair (tree_summary t) (last_name path) (attributes_with kind bytes (node_attributes_of (visible_tree t path))) ≡ false
  pub room : HasNeededBlocks t 2

abbrev pub CanSetAttr : TreeState → Path → ℕ → List ℕ → Type 0
CanSetAttr t path kind bytes = CanSetAttrIn (without_cache t) path kind bytes

-- the path has an entry with the attribute
pub record CanRemoveAttrIn (t : TreeState) (path : Path) (kind : ℕ) : Type 0 where
  pub works : t.failed ≡ false
  pub writable : t.writable ≡ true
  pub entry : is_root_path path ≡ false
  pub parents : parents_refusal (visible_tree t) [] path ≡ None
  pub something : is_none (visible_tree t path) ≡ false
  pub there : is_none (attribute_bytes kind (node_attributes_of (visible_tree t path))) ≡ false

abbrev pub CanRemoveAttr : TreeState → Path → ℕ → Type 0
CanRemoveAttr t path kind = CanRemoveAttrIn (without_cache t) path kind

-- the entry at `from` may be renamed to `to`, and replaces the entry at `to`, if there is one
pub record CanRenameIn (t : TreeState) (from to : Path) : Type 0 where
  pub works : t.failed ≡ false
  pub writable : t.writable ≡ true
  pub entry : is_root_path from ≡ false
  pub target : is_root_path to ≡ false
  pub apart : is_beneath from to ≡ false
  pub parents : parents_refusal (visible_tree t) [] from ≡ None
  pub target_parents : parents_refusal (visible_tree t) [] to ≡ None
  pub name : has_long_name (tree_summary t) to ≡ false
  pub something : is_none (visible_tree t from) ≡ false
  pub directory : (not (same_path from to) && is_directory (visible_tree t from) && is_file (visible_tree t to)) ≡ false
  pub file : (not (same_path from to) && is_file (visible_tree t from) && is_directory (visible_tree t to)) ≡ false
  pub empty : (not (same_path from to) && nat_lt 0 (length (directory_names (visible_tree t to)))) ≡ false
  pub fits : (not (same_path from to) && exceeds_half_pair (tree_summary t) (last_name to) (node_attributes_of (visible_tree t from))) ≡ false
  pub room : HasNeededBlocks t 2

abbrev pub CanRenamePath : TreeState → Path → Path → Type 0
CanRenamePath t from to = CanRenameIn (without_cache t) from to
