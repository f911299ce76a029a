use Rattle.lfs_volume.proofs.VolumeLives.{stop_in_reply, stop_leaves}
use Rattle.lfs_volume.proofs.laws.power_loss_leaves_old_or_new_tree.Goals as goal

pub returns : goal.returns
returns c = record { call = stop_in_reply; steps = stop_leaves }
