use Rattle.std.proofs.Common.{ap, sym, subst, ◌≡◌, ◌∙◌, ◌<◌, Some, length}
use Rattle.lfs_thread.proofs.Common.{ThreadView, disk_of_device, pair_revision, thread_pair}
use Rattle.lfs_thread.proofs.Changing.{at_there}
use Rattle.lfs_thread.proofs.WrittenBehind.{revision_there}
use Rattle.lfs_thread.proofs.thread.Thread.revision.Goals as goal

pub returns : goal.returns
returns g c =
    let works = ap (λ (v : ThreadView). v.failed) c.self.view_is ∙ c.requires.works in
    let below = subst (λ (v : ThreadView). c.args.index < length v.kept.pairs) (sym c.self.view_is) c.requires.below in
    let disk = disk_of_device g.D.BlockDevice c.self.inside.parts.device in
    let a = at_there disk c.self.inside.parts.pairs.items c.args.index c.index.result.now below c.index.ensures in
    subst (λ (v : ThreadView). pair_revision v.kept.disk (thread_pair v.kept c.args.index).at ≡ Some c.index.result.now.revision) c.self.view_is
    (revision_there disk (g.D.BlockDevice.history c.self.inside.parts.device) c.self.inside.parts.pairs.items c.self.inside.parts.map c.args.index c.index.result.now a (c.self.invariant works).0)
