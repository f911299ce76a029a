use Rattle.lfs_model.proofs.Kept.{fresh_begins, mount_begins, remount_mounts, session_shows}
use Rattle.lfs_model.proofs.runs.session_agrees_with_its_disk.Goals as goal

pub returns-clause-shown : goal.returns-clause-shown
returns-clause-shown c = session_shows

pub returns-clause-fresh : goal.returns-clause-fresh
returns-clause-fresh c = fresh_begins

pub returns-clause-mounted : goal.returns-clause-mounted
returns-clause-mounted c = mount_begins

pub returns-clause-remounted : goal.returns-clause-remounted
returns-clause-remounted c = remount_mounts
