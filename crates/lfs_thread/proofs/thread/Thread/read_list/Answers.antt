use Rattle.std.proofs.Common.{ap₂, sym, subst}
use Rattle.lfs_thread.proofs.Common.{disk_of_blocks, IsCacheCurrent, IsKeptOnDisk}
use Rattle.lfs_thread.proofs.Changing.{kept_read}
use Rattle.lfs_thread.proofs.thread.Thread.read_list.Goals as goal

pub invariant_of-self : goal.invariant_of-self
invariant_of-self g c works =
    let e = c.read_at.ensures.reading in (
      subst (λ d. IsKeptOnDisk d (g.D.BlockDevice.history c.read_at.new.dev) c.self.inside.parts.pairs.items c.self.inside.parts.map) (sym (ap₂ disk_of_blocks e.device.geometry e.device.same))
          (kept_read _ _ _ _ c.self.inside.parts.pairs.items c.self.inside.parts.map e.device.reads (c.self.invariant works).0),
      subst (λ bs. IsCacheCurrent bs c.self.inside.parts.cache) (sym e.device.same) (c.self.invariant works).1,
    )
