use Rattle.std.proofs.Common.{ap, ◌∙◌, ◌≡◌}
use Rattle.lru.specs.LruCache.{lru_cache}
use Rattle.lfs_model.specs.layers.Cache.{cache_without}
use Rattle.lfs_blocks.specs.CacheView.{cached_view}
use Rattle.lfs_blocks.proofs.EntryLemmas.{CachesAtMostEight-rest, remove_entry-distinct, rest, shown-rest}
use Rattle.lfs_blocks.proofs.cache.Cache.forget.Goals as goal
use Rattle.lfs_blocks.proofs.cache.Cache.forget.Goals.{Joined-pop}

left : (c : Joined-pop) → c.pop.new.self ≡ lru_cache (rest c.args.block c.self.inside.recent.entries) c.self.inside.recent.cap
left c = c.pop.ensures.entries ∙ ap (λ es. lru_cache es c.self.inside.recent.cap) (remove_entry-distinct c.args.block c.self.inside.recent.entries c.self.invariant.distinct)

pub invariant_of-self : goal.invariant_of-self
invariant_of-self c = rw (left c) (CachesAtMostEight-rest c.self.inside.recent c.args.block c.self.invariant)

pub returns : goal.returns
returns c =
    ap (λ recent. cached_view recent.entries) (left c)
    ∙ shown-rest c.self.inside.recent.entries c.args.block
    ∙ ap (λ cache. cache_without cache c.args.block) c.self.view_is
