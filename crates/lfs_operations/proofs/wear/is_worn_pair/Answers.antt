use Rattle.lfs_operations.proofs.Common.{current_block, thread_pair}
use Rattle.lfs_model.proofs.WornRevisions.{worn_at}
use Rattle.lfs_operations.proofs.wear.is_worn_pair.Goals as goal

pub returns-then-cycles-ne0 : goal.returns-then-cycles-ne0
returns-then-cycles-ne0 g c =
    let t = c.args.thread.now.kept in
    worn_at c.geometry-cycles.result.profile t.disk.profile c.revision.result (current_block t.disk (thread_pair t c.args.index).at) c.geometry-cycles.ensures.profile c.revision.ensures c.if-cycles-ne0.true
