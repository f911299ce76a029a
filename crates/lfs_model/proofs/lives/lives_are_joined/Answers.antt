use Rattle.lfs_model.proofs.JoinedLives.{lives_joined, lives_parted, one_turn}
use Rattle.lfs_model.proofs.lives.lives_are_joined.Goals as goal

pub returns-clause-joined : goal.returns-clause-joined
returns-clause-joined c = lives_joined

pub returns-clause-parted : goal.returns-clause-parted
returns-clause-parted c = lives_parted

pub returns-clause-one : goal.returns-clause-one
returns-clause-one c = one_turn
