use Rattle.std.proofs.Common.{ap, ◌∙◌, ◌≡◌, None}
use Rattle.lfs_model.specs.layers.Cache.{cached_bytes, cache_with}
use Rattle.lfs_blocks.specs.CacheView.{CachesAtMostEight, cached_view}
use Rattle.lfs_blocks.proofs.EntryLemmas.{IsCache-put, few-shown, shown-put}
use Rattle.lfs_blocks.proofs.cache.Cache.add_uncached_block.Goals as goal
use Rattle.lfs_blocks.proofs.cache.Cache.add_uncached_block.Goals.{Joined-branch-2}

none : (c : Joined-branch-2) → cached_bytes (cached_view c.self.inside.recent.entries) c.args.block ≡ None
none c = ap (λ cache. cached_bytes cache c.args.block) c.self.view_is ∙ c.requires

kept : (c : Joined-branch-2) → CachesAtMostEight c.put.new.self
kept c = rw c.in_ok-put.ensures.entries (IsCache-put c.self.inside.recent c.args.block c.self.invariant (none c) c.args.bytes)

pub invariant_of-self-2 : goal.invariant_of-self-2
invariant_of-self-2 c = kept c

pub returns-clause-first : goal.returns-clause-first
returns-clause-first c =
    ap (λ recent. cached_view recent.entries) c.in_ok-put.ensures.entries
    ∙ shown-put c.self.inside.recent c.args.block c.self.invariant (none c) c.args.bytes
    ∙ ap (λ cache. cache_with cache c.args.block c.args.bytes.items) c.self.view_is

pub returns-clause-few : goal.returns-clause-few
returns-clause-few c = few-shown c.put.new.self (kept c)
