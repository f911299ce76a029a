use Rattle.std.proofs.Common.{ap, sym, subst, ◌∙◌, ◌<◌, length}
use Rattle.lfs_thread.proofs.Common.{ThreadView, disk_of_device, thread_pair}
use Rattle.lfs_thread.proofs.Changing.{at_there}
use Rattle.lfs_thread.proofs.CachedPair.{move_there}
use Rattle.lfs_thread.proofs.thread.Thread.delta.Goals as goal

pub returns : goal.returns
returns g c =
    let works = ap (λ (v : ThreadView). v.failed) c.self.view_is ∙ c.requires.works in
    let below = subst (λ (v : ThreadView). c.args.index < length v.kept.pairs) (sym c.self.view_is) c.requires.below in
    let disk = disk_of_device g.D.BlockDevice c.self.inside.parts.device in
    let a = at_there disk c.self.inside.parts.pairs.items c.args.index c.index.result.now below c.index.ensures in
    move_there disk (g.D.BlockDevice.history c.self.inside.parts.device) c.self.inside.parts.pairs.items c.self.inside.parts.map c.args.index c.index.result.now a (c.self.invariant works).0
    ∙ ap (λ (v : ThreadView). (thread_pair v.kept c.args.index).content.move) c.self.view_is
