use Rattle.std.proofs.Common.{ap, sym, ◌∙◌, is_some}
use Rattle.lfs_model.specs.layers.Cache.{cached_bytes}
use Rattle.lfs_blocks.proofs.EntryLemmas.{IsCache-promoted, few-shown, is_some-cached, shown-not_promoted, shown-promoted}
use Rattle.lfs_blocks.proofs.cache.Cache.promote.Goals as goal

pub invariant_of-self : goal.invariant_of-self
invariant_of-self c = rw c.promote.ensures.entries (IsCache-promoted c.self.inside.recent c.args.block c.self.invariant)

pub returns-clause-cached_log : goal.returns-clause-cached_log
returns-clause-cached_log c =
    c.promote.ensures.value
    ∙ sym (is_some-cached c.self.inside.recent c.args.block c.self.invariant)
    ∙ ap (λ cache. is_some (cached_bytes cache c.args.block)) c.self.view_is

pub returns-clause-first : goal.returns-clause-first
returns-clause-first c =
    rw (c.promote.ensures.entries, ← c.self.view_is) (shown-promoted c.self.inside.recent c.args.block c.self.invariant c.promote.result c.promote.ensures.value)

pub returns-clause-same : goal.returns-clause-same
returns-clause-same c =
    rw (c.promote.ensures.entries, ← c.self.view_is) (shown-not_promoted c.self.inside.recent c.args.block c.self.invariant c.promote.result c.promote.ensures.value)

pub returns-clause-few : goal.returns-clause-few
returns-clause-few c = few-shown c.promote.new.self (rw c.promote.ensures.entries (IsCache-promoted c.self.inside.recent c.args.block c.self.invariant))
