use Rattle.std.proofs.Common.{arith}
use Rattle.lfs_volume.proofs.Steps.{passed_err}
use Rattle.lfs_volume.proofs.NodesByNumber.{loaded_at, failed_at, none_loaded}
use Rattle.lfs_volume.proofs.nodes.load_node_at.Goals as goal

pub returns-in_err-load_node-in-Some-clause-failed : goal.returns-in_err-load_node-in-Some-clause-failed
returns-in_err-load_node-in-Some-clause-failed g c =
    passed_err c.from_residual.result _ _ c.from_residual.ensures.1
    (failed_at c.args.session.now c.args.nodes.now.items c.args.number c.index_mut.result.now c.in-Some.node (omega arith) c.index_mut.ensures.value c.in-Some.is _ c.load_node.new.session c.in_err-load_node-in-Some.ensures.failed)

pub returns-in_ok-load_node-in-Some-clause-loaded : goal.returns-in_ok-load_node-in-Some-clause-loaded
returns-in_ok-load_node-in-Some-clause-loaded g c =
    loaded_at c.args.session.now c.args.nodes.now.items c.args.number c.index_mut.result.now c.in-Some.node (omega arith) c.index_mut.ensures.value c.in-Some.is c.load_node.new.session c.load_node.new.node c.in_ok-load_node-in-Some.ensures.loaded

pub returns-in-None-clause-loaded : goal.returns-in-None-clause-loaded
returns-in-None-clause-loaded g c = none_loaded c.args.session.now c.args.nodes.now.items c.args.number c.index_mut.result.now (omega arith) c.index_mut.ensures.value c.in-None.is
