use Rattle.lfs_fs.proofs.SessionTurns.{stopped_mount, writable_may}
use Rattle.lfs_fs.proofs.lives.power_loss_in_mount_changes_nothing.Goals as goal

pub returns-clause-writable : goal.returns-clause-writable
returns-clause-writable c = writable_may

pub returns-clause-stopped : goal.returns-clause-stopped
returns-clause-stopped c = stopped_mount
