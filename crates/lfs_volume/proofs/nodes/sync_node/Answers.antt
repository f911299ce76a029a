use Rattle.lfs_volume.proofs.Steps.{passed_err}
use Rattle.lfs_volume.proofs.NodeCalls.{can_sync, node_synced, sync_ends}
use Rattle.lfs_volume.proofs.nodes.sync_node.Goals as goal

pub returns-in_err-save-clause-ended : goal.returns-in_err-save-clause-ended
returns-in_err-save-clause-ended g c =
    passed_err c.from_residual.result _ _ c.from_residual.ensures.1 (λ idle sound.
    let can = can_sync c.args.session.now c.args.node.now c.in-Some-path.path.now c.in-Some-contents.contents.now c.in-Some.dirty_range c.in-Some-path.ensures c.in-Some-contents.ensures.is c.in-Some.ensures.is idle sound c.in-Some-contents.ensures.size in
    sync_ends c.args.session.now c.args.node.now c.in-Some-path.path.now c.in-Some-contents.contents.now c.in-Some.dirty_range c.in-Some-path.ensures c.in-Some-contents.ensures.is c.in-Some.ensures.is _ c.save.new.session idle c.in-Some-contents.ensures.size
    (c.in_err-save.ensures.ended can) (c.in_err-save.ensures.refused can))

pub returns-clause-synced : goal.returns-clause-synced
returns-clause-synced g c idle sound =
    node_synced c.args.session.now c.args.node.now c.in-Some-path.path.now c.in-Some-contents.contents.now c.in-Some.dirty_range c.in-Some-path.ensures c.in-Some-contents.ensures.is c.in-Some.ensures.is c.save.new.session c.mark_synced.new.self idle c.in-Some-contents.ensures.size c.mark_synced.ensures
    (c.in_ok-save.ensures.saved (can_sync c.args.session.now c.args.node.now c.in-Some-path.path.now c.in-Some-contents.contents.now c.in-Some.dirty_range c.in-Some-path.ensures c.in-Some-contents.ensures.is c.in-Some.ensures.is idle sound c.in-Some-contents.ensures.size))
