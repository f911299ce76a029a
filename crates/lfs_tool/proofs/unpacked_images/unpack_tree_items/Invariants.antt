use Rattle.std.proofs.Common.{◌≡◌, false, take}
use Rattle.lfs_tool.proofs.Common.{OnlyReadsThread, HasDoneActions, path_struct_actions, tree_items_view}
use Rattle.lfs_tool.proofs.unpacked_images.unpack_tree_items.Given as goal

abbrev pub invariant-loop-item : goal.invariant-loop-item
invariant-loop-item g l =
    (l.thread.failed ≡ false) × (OnlyReadsThread l.initial.thread.kept l.thread.kept)
    × (HasDoneActions (g.T.Target.done l.initial.target) (g.T.Target.done l.target) (path_struct_actions l.initial.thread.kept.disk (tree_items_view (take l.item-index l.items))))
    × (g.T.Target.has_failed l.target ≡ g.T.Target.has_failed l.initial.target)
