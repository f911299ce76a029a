-- The calls of a tree that change its image, and their promises.
use Rattle.std.specs.Prelude.{ℕ, ◌≡◌, List, [], Result, IfErr, OnErr, OnOk}
use Rattle.lfs_device.specs.declared.error.Error.{Error}
use Rattle.lfs_model.specs.format.Content.{attributes_with, attributes_without}
use Rattle.lfs_model.specs.session.Operations as ops
use Rattle.lfs_model.specs.session.Operations.{FlagsOfOpen, Operation}
use Rattle.lfs_model.specs.session.Refusals.{path_or_root}
use Rattle.lfs_model.specs.tree.Tree.{DirectoryNode, FileNode, Path, Tree}
use Rattle.lfs_model.specs.session.TreeEdits.{tree_creating, tree_removing, tree_renaming}
use Rattle.lfs_tree.specs.SlotChanges.{tree_with_attributes}
use Rattle.lfs_tree.specs.TreeState.{IsFailedTree, IsOperationApplied, HasErrorCause, KeepsOthersIfRecovered, TreeState, PowerLossesLeaveEither, visible_tree}

pub data TreeCall : Type 0 where
  Mkdir : (path : Path) → TreeCall
  Create : (path : Path) → TreeCall
  Remove : (path : Path) → TreeCall
  Rename : (from to : Path) → TreeCall
  SetAttr : (path : Path) (kind : ℕ) (bytes : List ℕ) → TreeCall
  RemoveAttr : (path : Path) (kind : ℕ) → TreeCall
  Recover : TreeCall

-- the call performs the operation, whose paths are still bytes
abbrev pub IsOperationCall : TreeCall → Operation → Type 0
IsOperationCall (Mkdir path) op = (given : List ℕ) × ((op ≡ ops.Mkdir given) × (path_or_root given ≡ path))
IsOperationCall (Create path) op = (given : List ℕ) × ((flags : FlagsOfOpen) × ((op ≡ ops.Open given flags) × (path_or_root given ≡ path)))
IsOperationCall (Remove path) op = (given : List ℕ) × ((op ≡ ops.Remove given) × (path_or_root given ≡ path))
IsOperationCall (Rename from to) op = (given : List ℕ) × ((to_given : List ℕ) × ((op ≡ ops.Rename given to_given) × ((path_or_root given ≡ from) × (path_or_root to_given ≡ to))))
IsOperationCall (SetAttr path kind bytes) op = (given : List ℕ) × ((op ≡ ops.SetAttr given kind bytes) × (path_or_root given ≡ path))
IsOperationCall (RemoveAttr path kind) op = (given : List ℕ) × ((op ≡ ops.RemoveAttr given kind) × (path_or_root given ≡ path))
IsOperationCall Recover op = op ≡ ops.Recover

-- the tree after the call
abbrev pub tree_after_call : TreeCall → Tree → Tree
tree_after_call (Mkdir path) t = tree_creating path (DirectoryNode [] []) t
tree_after_call (Create path) t = tree_creating path (FileNode [] []) t
tree_after_call (Remove path) t = tree_removing path t
tree_after_call (Rename from to) t = tree_renaming from to t
tree_after_call (SetAttr path kind bytes) t = tree_with_attributes path (attributes_with kind bytes) t
tree_after_call (RemoveAttr path kind) t = tree_with_attributes path (attributes_without kind) t
tree_after_call Recover t = t

-- Either the call's operation was applied, and left alone what it doesn't concern, or the tree has failed. A power loss during
-- the call leaves the tree from before or from after it.
pub record AppliesCallOrFails {X : Type 0} (old : TreeState) (call : TreeCall) (result : Result X Error) (new : TreeState) : Type 0 where
  pub done : OnOk result ((op : Operation) → IsOperationCall call op → IsOperationApplied old op new)
  pub alone : OnOk result ((op : Operation) → IsOperationCall call op → KeepsOthersIfRecovered old op new)
  pub broken : OnErr result (IsFailedTree old new)
  pub errors : IfErr result (HasErrorCause old new)
  pub survives : PowerLossesLeaveEither old new (tree_after_call call (visible_tree old))
