use Rattle.lfs_tree.proofs.Mounting.{fresh_rooted, fresh_sound}
use Rattle.lfs_tree.proofs.tree.Tree.format.Goals as goal

pub invariant_of-result : goal.invariant_of-result
invariant_of-result g c = λ e. fresh_rooted c.in-Ok.thread c.in-Ok.ensures.works c.in-Ok.ensures.formatted c.in-Ok.ensures.shows

pub returns-in-Ok-clause-sound : goal.returns-in-Ok-clause-sound
returns-in-Ok-clause-sound g c =
    let s = fresh_sound c.in-Ok.thread c.in-Ok.ensures.works c.in-Ok.ensures.formatted c.in-Ok.ensures.shows in
    record { accepted = s.accepted; fits = s.fits; is_kept = s.is_kept; used = s.used; size = s.size }

pub returns-in-Ok-clause-formatted : goal.returns-in-Ok-clause-formatted
returns-in-Ok-clause-formatted g c = c.in-Ok.ensures.formatted

pub returns-in-Ok-clause-geometry : goal.returns-in-Ok-clause-geometry
returns-in-Ok-clause-geometry g c =
    let s = c.in-Ok.ensures.writes.shape in
    record { block_size = s.block_size; page = s.page; order = s.order; profile = s.profile; count = s.count }

pub returns-in-Ok-clause-calls : goal.returns-in-Ok-clause-calls
returns-in-Ok-clause-calls g c = record { calls = c.in-Ok.ensures.calls; writes = c.in-Ok.ensures.writes }
