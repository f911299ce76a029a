use Rattle.lfs_fs.proofs.ReadOnly.{failed_answer, writable_answer}
use Rattle.lfs_fs.proofs.session.Session.is_writable.Goals as goal

pub returns-then-has_failed : goal.returns-then-has_failed
returns-then-has_failed g c = failed_answer c.self.inside.tree c.self.inside.files c.args.self.now c.self.view_is c.self.invariant.ready c.if-has_failed.ensures

pub returns : goal.returns
returns g c = writable_answer c.self.inside.tree c.self.inside.files c.args.self.now c.self.view_is c.self.invariant.ready c.is_writable.result c.if-has_failed.ensures c.is_writable.ensures
