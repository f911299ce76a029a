use Rattle.std.proofs.Common.{subst, sym}
use Rattle.littlefs_c.specs.Mounts.{MountsWithImageLimits}
use Rattle.littlefs_c.proofs.starts.mount_limited_handle.Goals as goal

pub returns : goal.returns
returns c = (
  sym c.in_default.ensures.taken,
  (c.in_ok-b.b.value, (c.put_volume-2.ensures, subst (MountsWithImageLimits c.args.config.now c.args.image.now) (sym c.in_ok-b.ensures.ok) c.in_ok-inner.ensures.ok)),
)
