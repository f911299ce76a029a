use Rattle.lfs_blocks.proofs.EntryLemmas.{CachesAtMostEight-none}
use Rattle.lfs_blocks.proofs.cache.Cache.clear.Goals as goal

pub invariant_of-self : goal.invariant_of-self
invariant_of-self c = rw c.clear.ensures (CachesAtMostEight-none c.self.inside.recent c.self.invariant)
