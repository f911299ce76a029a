-- What is done of an image that is unpacked.
use Rattle.std.proofs.Common.{ℕ, ◌≡◌, ◌⊎◌, ◌∙◌, inl, inr, List, [], ◌∷◌, Option, Some, None, ap, ap₂, map, refl, subst, sym, take}
use Rattle.std.specs.Prelude.{◌≢◌, IfSome, Bool}
use Rattle.lfs_tool.specs.declared.image_layout.ImageLayout.{ImageLayout}
use Rattle.lfs_tool.proofs.Common.{Disk, IsWholeImage, disk_of_image, disk_with_order, UnpackingAction, PathNode, Branch, Ctz, Inline, Struct, Pair, Node, HasDiskView, IsAccepted, IsWellFormedList, disk_view, AreTreeItems, AreWalkItems, PathStruct, IsTreeItem, IsStructNode, RefusesToList, HaveWellFormedLists, HasDoneActionsPrefix, HasDoneActions, path_struct_action, path_struct_actions}
use Rattle.lfs_model.specs.layers.Listing.{node_action, entry_action}
use Rattle.lfs_model.specs.declared.order.NameOrder.{NameOrder}
use Rattle.lfs_model.specs.declared.order.NameOrder.TheVariants.{LongerFirst}
use Rattle.lfs_device.specs.declared.error.Error.TheVariants.{Corrupt, Invalid, NoMemory}
use Rattle.lfs_device.specs.declared.error.Error.{Error}
use Rattle.lfs_tool.specs.declared.errors.ToolError.{ToolError}
use Rattle.lfs_tool.specs.declared.errors.ToolError.TheVariants.{Fs, Output}
use Rattle.lfs_tool.specs.Unpackings.{FailsUnpackingDisk, FailsUnpackingImage, DiskPartlyUnpacked, ImagePartlyUnpacked, HasUnpackedDisk, HasUnpackedImage, AreDiskUnpackingActions, IsTargetError, AreImageUnpackingActions, struct_action}

-- ---- what was found of a tree unpacks it

list_node : (disk : Disk) (struct : Struct) (node : Node) → IsStructNode disk struct node → IsWellFormedList disk struct
list_node disk (Inline bytes) node h = tt
list_node disk (Ctz head size) node (attributes, (is, list)) = list
list_node disk (Branch to) node h = tt

lists_shown : (disk : Disk) (ps : List PathStruct) (es : List PathNode) → AreTreeItems disk ps es → HaveWellFormedLists disk ps
lists_shown disk [] es s = tt
lists_shown disk (p ∷ ps) [] s = absurd s
lists_shown disk (p ∷ ps) (e ∷ es) s = (list_node disk p.struct e.node s.0.node, lists_shown disk ps es s.1)

pub lists_walked : (disk now : Disk) (ps : List Pair) (places : List PathStruct) → now ≡ disk → AreWalkItems disk ps places → HaveWellFormedLists now places
lists_walked disk now ps places same (entries, (walk, shows)) = subst (λ d. HaveWellFormedLists d places) (sym same) (lists_shown disk places entries shows)

action_node : (disk : Disk) (path : List ℕ) (struct : Struct) (node : Node) → IsStructNode disk struct node → struct_action disk path struct ≡ node_action path node
action_node disk path (Inline bytes) node (attributes, is) = ap (node_action path) (sym is)
action_node disk path (Ctz head size) node (attributes, (is, list)) = ap (node_action path) (sym is)
action_node disk path (Branch to) node (attributes, (names, is)) = ap (node_action path) (sym is)

action_shown : (disk : Disk) (p : PathStruct) (e : PathNode) → IsTreeItem disk p e → path_struct_action disk p ≡ entry_action e
action_shown disk p e s = action_node disk p.path p.struct e.node s.node ∙ ap (λ path. node_action path e.node) s.path

actions_shown : (disk : Disk) (ps : List PathStruct) (es : List PathNode) → AreTreeItems disk ps es → path_struct_actions disk ps ≡ map entry_action es
actions_shown disk [] [] s = refl
actions_shown disk [] (e ∷ es) s = absurd s
actions_shown disk (p ∷ ps) [] s = absurd s
actions_shown disk (p ∷ ps) (e ∷ es) s = ap₂ (λ a more. a ∷ more) (action_shown disk p e s.0) (actions_shown disk ps es s.1)

-- ---- of a disk

module _ (disk now : Disk) (order : NameOrder) (ps : List Pair) (places : List PathStruct) (same : now ≡ disk_with_order order disk) (accepted : IsAccepted (disk_with_order order disk) ps) (walked : AreWalkItems (disk_with_order order disk) ps places) where
  unpacks : AreDiskUnpackingActions disk (path_struct_actions (disk_with_order order disk) places)
  unpacks =
      let (entries, (walk, shows)) = walked in
      (disk_view (disk_with_order order disk) ps, ((order, (ps, (accepted, refl))), (entries, (walk, actions_shown (disk_with_order order disk) places entries shows))))

  pub done_of : (old new : Option (List UnpackingAction)) → HasDoneActions old new (path_struct_actions now places) → HasUnpackedDisk disk old new
  done_of old new h = (path_struct_actions (disk_with_order order disk) places, (unpacks, subst (λ d. HasDoneActions old new (path_struct_actions d places)) same h))

  pub begun_of : (old new : Option (List UnpackingAction)) → HasDoneActionsPrefix old new (path_struct_actions now places) → DiskPartlyUnpacked disk old new
  begun_of old new h = (path_struct_actions (disk_with_order order disk) places, (unpacks, subst (λ d. HasDoneActionsPrefix old new (path_struct_actions d places)) same h))

pub fails_begun : (disk : Disk) (old new : Option (List UnpackingAction)) (was now : Bool) (e : ToolError) → DiskPartlyUnpacked disk old new → IsTargetError was now e → FailsUnpackingDisk disk old new e
fails_begun disk old new was now Output begun reports = begun
fails_begun disk old new was now (Fs NoMemory) begun reports = inr begun
fails_begun disk old new was now e begun reports = absurd reports

-- ---- of an image

-- the disk is that of the bytes
abbrev IsDiskOf : ImageLayout → List ℕ → Disk → Type 0
IsDiskOf layout image disk = disk ≡ disk_of_image layout.block_size layout.page layout.profile LongerFirst image

unpacks_image : (layout : ImageLayout) (image : List ℕ) (disk : Disk) (actions : List UnpackingAction) → IsWholeImage layout.block_size layout.page image → IsDiskOf layout image disk → AreDiskUnpackingActions disk actions → AreImageUnpackingActions layout image actions
unpacks_image layout image disk actions is same (view, ((order, shows), unpacking)) = (is, (view, ((order, subst (λ d. HasDiskView (disk_with_order order d) view) same shows), unpacking)))

pub done_image : (layout : ImageLayout) (image : List ℕ) (disk : Disk) (old new : Option (List UnpackingAction)) → IsWholeImage layout.block_size layout.page image → IsDiskOf layout image disk
    → HasUnpackedDisk disk old new → HasUnpackedImage layout image old new
done_image layout image disk old new is same (actions, (unpacked, h)) = (actions, (unpacks_image layout image disk actions is same unpacked, h))

begun_image : (layout : ImageLayout) (image : List ℕ) (disk : Disk) (old new : Option (List UnpackingAction)) → IsWholeImage layout.block_size layout.page image → IsDiskOf layout image disk
    → DiskPartlyUnpacked disk old new → ImagePartlyUnpacked layout image old new
begun_image layout image disk old new is same (actions, (unpacked, h)) = (actions, (unpacks_image layout image disk actions is same unpacked, h))

pub fails_image : (layout : ImageLayout) (image : List ℕ) (disk : Disk) (old new : Option (List UnpackingAction)) (e : ToolError) → IsWholeImage layout.block_size layout.page image → IsDiskOf layout image disk
    → FailsUnpackingDisk disk old new e → FailsUnpackingImage layout image old new e
fails_image layout image disk old new (Fs Corrupt) is same (wrong, undone) =
    ((is, λ view (order, (ps, (accepted, shows))). wrong order ps (subst (λ d. IsAccepted (disk_with_order order d) ps) (sym same) accepted)), undone)
fails_image layout image disk old new (Fs NoMemory) is same (inl undone) = inl undone
fails_image layout image disk old new (Fs NoMemory) is same (inr begun) = inr (begun_image layout image disk old new is same begun)
fails_image layout image disk old new Output is same begun = begun_image layout image disk old new is same begun
fails_image layout image disk old new e is same h = absurd h
