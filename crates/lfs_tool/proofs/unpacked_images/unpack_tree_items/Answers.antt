use Rattle.std.proofs.Common.{◌∙◌}
use Rattle.lfs_tool.proofs.ActionsDone.{at_error, begun_item, done_item, list_at, only_trans}
use Rattle.lfs_tool.proofs.unpacked_images.unpack_tree_items.Goals as goal

pub unpack_tree_item-requires-clause-list : goal.unpack_tree_item-requires-clause-list
unpack_tree_item-requires-clause-list g c =
    list_at c.args.thread.now.kept.disk c.loop-item.thread.kept.disk c.args.items.now c.loop-item.item-index c.item-item.result c.loop-item.invariant.1.disk c.requires.lists c.loop-item-test.true c.item-item.is

pub returns-in_err-unpack_tree_item-clause-begun : goal.returns-in_err-unpack_tree_item-clause-begun
returns-in_err-unpack_tree_item-clause-begun g c =
    at_error c.from_residual.result _
    (begun_item c.args.thread.now.kept.disk c.args.items.now c.loop-item.item-index _ (g.T.Target.done c.loop-item.target) _ c.loop-item.invariant.2 c.in_err-unpack_tree_item.ensures.undone)

pub loop-item-preserved : goal.loop-item-preserved
loop-item-preserved g c =
    let before = c.loop-item.invariant in
    let e = c.in_ok-unpack_tree_item.ensures in (
      e.only.1,
      only_trans before.1 e.only.0,
      done_item c.args.thread.now.kept.disk c.loop-item.thread.kept.disk c.args.items.now c.loop-item.item-index c.item-item.result _ (g.T.Target.done c.loop-item.target) _
          before.1.disk c.loop-item-test.true c.item-item.is before.2 e.done,
      e.reports ∙ before.3,
    )
