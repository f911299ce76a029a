use Rattle.lfs_file.proofs.Settlement.{settled_exactly}
use Rattle.lfs_file.proofs.laws.lemma_settled_map.Goals as goal

pub returns : goal.returns
returns c = settled_exactly
