use Rattle.std.proofs.Common.{◌≤◌, length, arith}
use Rattle.lfs_volume.proofs.Steps.{passed_err}
use Rattle.lfs_volume.proofs.NodesByNumber.{ended_at, no_node_synced, none_synced, synced_at}
use Rattle.lfs_volume.proofs.nodes.sync_node_at.Goals as goal

pub returns-then-number-len-clause-synced : goal.returns-then-number-len-clause-synced
returns-then-number-len-clause-synced g c =
    let l = c.len.ensures in
    let k = c.args.nodes.now.ok.0 in
    let outside : length c.args.nodes.now.items ≤ c.args.number = omega arith in
    no_node_synced c.args.session.now c.args.nodes.now.items c.args.number outside

pub returns-in_err-sync_node-in-Some-clause-ended : goal.returns-in_err-sync_node-in-Some-clause-ended
returns-in_err-sync_node-in-Some-clause-ended g c =
    passed_err c.from_residual.result _ _ c.from_residual.ensures.1
    (ended_at c.args.session.now c.args.nodes.now.items c.args.number c.index_mut.result.now c.in-Some.node (omega arith) c.index_mut.ensures.value c.in-Some.is _ c.sync_node.new.session c.in_err-sync_node-in-Some.ensures.ended)

pub returns-in_ok-sync_node-in-Some-clause-synced : goal.returns-in_ok-sync_node-in-Some-clause-synced
returns-in_ok-sync_node-in-Some-clause-synced g c =
    synced_at c.args.session.now c.args.nodes.now.items c.args.number c.index_mut.result.now c.in-Some.node (omega arith) c.index_mut.ensures.value c.in-Some.is c.sync_node.new.session c.sync_node.new.node c.in_ok-sync_node-in-Some.ensures.synced

pub returns-in-None-clause-synced : goal.returns-in-None-clause-synced
returns-in-None-clause-synced g c = none_synced c.args.session.now c.args.nodes.now.items c.args.number c.index_mut.result.now (omega arith) c.index_mut.ensures.value c.in-None.is
