use Rattle.lfs_model.proofs.Common.{block_count, content_at}
use Rattle.lfs_model.proofs.Uniqueness.{one_thread}
use Rattle.lfs_model.proofs.OneView.{one_view}
use Rattle.lfs_model.proofs.thread.thread_is_unique.Goals as goal

pub returns-clause-thread : goal.returns-clause-thread
returns-clause-thread c = one_thread

pub returns-clause-image : goal.returns-clause-image
returns-clause-image c = λ disk ps qs a b. one_thread (content_at disk) (block_count disk) ps qs a.thread b.thread

pub returns-clause-view : goal.returns-clause-view
returns-clause-view c = one_view
