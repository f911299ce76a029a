use Rattle.std.proofs.Common.{ap, sym, subst, ◌∙◌, ◌<◌, length}
use Rattle.lfs_thread.proofs.Common.{Pair, ThreadView, disk_of_device, thread_pair}
use Rattle.lfs_thread.proofs.Changing.{at_there, pair_at_index}
use Rattle.lfs_thread.proofs.thread.Thread.blocks_of_pair.Goals as goal

pub returns : goal.returns
returns g c =
    let disk = disk_of_device g.D.BlockDevice c.self.inside.parts.device in
    let below = subst (λ (v : ThreadView). c.args.index < length v.kept.pairs) (sym c.self.view_is) c.requires in
    sym (ap (λ (v : ThreadView). (thread_pair v.kept c.args.index).at) (sym c.self.view_is)
    ∙ ap (λ (p : Pair). p.at) (pair_at_index disk (g.D.BlockDevice.history c.self.inside.parts.device) c.self.inside.parts.pairs.items c.self.inside.parts.map c.args.index c.index.result.now
    (at_there disk c.self.inside.parts.pairs.items c.args.index c.index.result.now below c.index.ensures)))
