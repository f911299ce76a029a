use Rattle.std.proofs.Common.{◌≡◌, Some, subst}
use Rattle.lfs_model.specs.layers.Cache.{cached_bytes}
use Rattle.lfs_blocks.proofs.UsedLemmas.{cached_before}
use Rattle.lfs_blocks.proofs.cache.Cache.forget_unused.Goals as goal

pub loop-preserved : goal.loop-preserved
loop-preserved c b bytes has = c.loop.invariant b bytes (cached_before c.loop.self c.in-Some.block b bytes (subst (λ cache. cached_bytes cache b ≡ Some bytes) c.forget.ensures has))
