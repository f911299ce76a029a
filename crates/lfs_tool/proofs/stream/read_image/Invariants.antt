use Rattle.std.proofs.Common.{◌≡◌, ◌-◌, ◌≤◌, false, vec_len}
use Rattle.lfs_tool.proofs.Common.{Consumes}
use Rattle.lfs_tool.specs.Streams.{has_failed}
use Rattle.lfs_tool.proofs.stream.read_image.Given as goal

abbrev pub invariant-loop-buffer : goal.invariant-loop-buffer
invariant-loop-buffer g l = record {
  within : vec_len l.bytes ≤ 268435457;
  same : has_failed l.image ≡ false;
  read : Consumes (g.R.Read.remaining l.initial.image.inner) (g.R.Read.remaining l.image.inner) l.bytes.items;
}

abbrev pub decreases-loop-buffer : goal.decreases-loop-buffer
decreases-loop-buffer g l = 268435457 - vec_len l.bytes
