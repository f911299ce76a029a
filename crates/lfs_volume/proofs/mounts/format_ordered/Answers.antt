use Rattle.std.proofs.Common.{refl}
use Rattle.lfs_model.specs.session.State.{mounted_session}
use Rattle.lfs_model.specs.tree.Fresh.{empty_tree}
use Rattle.lfs_volume.proofs.Soundness.{begun_state}
use Rattle.lfs_volume.proofs.mounts.format_ordered.Goals as goal

pub begin-requires : goal.begin-requires
begin-requires g c = (begun_state c.in-Ok.session (mounted_session empty_tree) refl c.in-Ok.ensures.state).1
