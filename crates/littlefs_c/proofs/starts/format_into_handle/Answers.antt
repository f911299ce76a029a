use Rattle.std.proofs.Common.{subst, sym}
use Rattle.littlefs_c.specs.Mounts.{FormatsImage}
use Rattle.littlefs_c.proofs.starts.format_into_handle.Goals as goal

pub returns : goal.returns
returns c = (
  sym c.in_default.ensures.taken,
  (c.in_ok-b.b.value, (c.put_volume-2.ensures, subst (FormatsImage c.args.config.now c.args.block_count) (sym c.in_ok-b.ensures.ok) c.in_ok-inner.ensures.ok)),
)
