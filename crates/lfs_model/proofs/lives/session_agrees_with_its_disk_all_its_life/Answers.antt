use Rattle.lfs_model.proofs.LivedOn.{life_matches}
use Rattle.lfs_model.proofs.lives.session_agrees_with_its_disk_all_its_life.Goals as goal

pub returns : goal.returns
returns c = life_matches
