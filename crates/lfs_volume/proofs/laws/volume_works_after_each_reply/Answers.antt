use Rattle.lfs_volume.proofs.Working.{replied_works}
use Rattle.lfs_volume.proofs.laws.volume_works_after_each_reply.Goals as goal

pub returns : goal.returns
returns c = replied_works
