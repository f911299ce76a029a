-- Changes of an entry's attributes.
use Rattle.std.specs.Prelude.{ℕ, ◌≡◌, ◌≤◌, length, List, [], ◌∷◌, ◌++◌, Some}
use Rattle.lfs_model.specs.session.TreeEdits.{node_attributes_of, tree_with_change, with_attributes}
use Rattle.lfs_model.specs.format.Content.{attributes_with, attributes_without}
use Rattle.lfs_model.specs.session.InDirectory.{IsPairAt, IsPositionOfName}
use Rattle.lfs_model.specs.format.Names.{Name}
use Rattle.lfs_model.specs.session.Operations as ops
use Rattle.lfs_model.specs.session.Operations.{Operation}
use Rattle.lfs_model.specs.session.Session.{Session}
use Rattle.lfs_model.specs.format.Slots.{Attributes, Slot}
use Rattle.lfs_model.specs.session.Refusals.{path_or_root}
use Rattle.lfs_model.specs.tree.Tree.{Path, Tree}
use Rattle.lfs_model.specs.tree.Profile.{IsWritableEntry}
use Rattle.lfs_model.specs.tree.Shown.{IsDirectoryAtPath, disk_tree}
use Rattle.lfs_model.specs.layers.Steps.{CompletesOperation}
use Rattle.lfs_thread.specs.Kept.{KeptThread}
use Rattle.lfs_thread.specs.ThreadSteps.{thread_pair}
use Rattle.lfs_operations.specs.Ready.{IsRecoveredWithTree, IsLogContentDecodable, IsRecoveredWritableImage}

-- The image may be changed, and the pair has an entry with the id: the one of that name in the directory at a path.
pub record CanEditIn (t : KeptThread) (pair id : ℕ) : Type 0 where
  pub ready : IsRecoveredWritableImage t
  pub path : Path
  pub at : ℕ × ℕ
  pub leads : IsDirectoryAtPath t.pairs path at
  pub first : ℕ
  pub begins : IsPairAt t.pairs at first
  pub name : Name
  pub stands : IsPositionOfName t.pairs first name pair id
  pub logged : IsLogContentDecodable t.disk (thread_pair t pair).at

abbrev pub editable_slot : {t : KeptThread} {pair id : ℕ} → CanEditIn t pair id → Slot
editable_slot can = can.stands.stands.slot

-- the attribute has at most 1,022 bytes, and the entry has room for it besides its other ones
pub record CanSetAttribute (t : KeptThread) (pair id kind : ℕ) (bytes : List ℕ) : Type 0 where
  pub can : CanEditIn t pair id
  pub short : length bytes ≤ 1022
  pub fits : IsWritableEntry t.disk.profile t.disk.block_size t.disk.page (record (editable_slot can) { attributes = attributes_with kind bytes (editable_slot can).attributes })

-- the tree with changed attributes of the entry
abbrev pub tree_setting_attributes : KeptThread → Path → Name → (Attributes → Attributes) → Tree
tree_setting_attributes t path name f = tree_with_change (path ++ name ∷ []) (λ n. with_attributes (f (node_attributes_of (Some n))) n) (disk_tree t.disk t.pairs)

-- The tree has the entry with those attributes, and its slot is in the right pair. So that operation on its path is complete.
pub record HasAttributesChanged (old new : KeptThread) (path : Path) (name : Name) (f : Attributes → Attributes) (op : List ℕ → Operation) : Type 0 where
  pub now : IsRecoveredWithTree old new (tree_setting_attributes old path name f)
  pub completed : (s : Session) (given : List ℕ) → s.tree ≡ disk_tree old.disk old.pairs → path_or_root given ≡ path ++ name ∷ []
      → CompletesOperation old.disk old.pairs s (op given) new.disk new.pairs

abbrev pub HasSetAttribute : KeptThread → KeptThread → Path → Name → ℕ → List ℕ → Type 0
HasSetAttribute old new path name kind bytes = HasAttributesChanged old new path name (attributes_with kind bytes) (λ given. ops.SetAttr given kind bytes)

abbrev pub HasRemovedAttribute : KeptThread → KeptThread → Path → Name → ℕ → Type 0
HasRemovedAttribute old new path name kind = HasAttributesChanged old new path name (attributes_without kind) (λ given. ops.RemoveAttr given kind)
