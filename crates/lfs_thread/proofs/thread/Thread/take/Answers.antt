use Rattle.lfs_thread.proofs.Coming.{kept_taken}
use Rattle.lfs_thread.proofs.thread.Thread.take.Goals as goal

pub invariant_of-self : goal.invariant_of-self
invariant_of-self g c works =
    let was = c.self.invariant works in
    let e = c.take.ensures in
    (kept_taken _ _ _ c.self.inside.parts.map _ c.take.result e.was_free e.taken e.same was.0, was.1)
