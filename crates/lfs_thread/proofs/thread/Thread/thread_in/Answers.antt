use Rattle.lfs_thread.proofs.Common.{address_of_array, changes_view}
use Rattle.lfs_thread.proofs.InOrder.{stops_in}
use Rattle.lfs_thread.proofs.Moving.{left_threaded_from, threaded_from}
use Rattle.lfs_thread.proofs.thread.Thread.thread_in.Goals as goal

pub returns-clause-done : goal.returns-clause-done
returns-clause-done g c done = threaded_from c.args.self.now.kept c.args.index (address_of_array c.args.fresh) (changes_view c.args.changes.now) (c.join.ensures.done done)

pub returns-clause-stops : goal.returns-clause-stops
returns-clause-stops g c = stops_in (left_threaded_from c.args.self.now.kept c.args.index (address_of_array c.args.fresh) (changes_view c.args.changes.now)) c.join.ensures.stops
