use borrow.Follows.Closed.{read_of}
use Rattle.std.proofs.Common.{ap, sym, ◌∙◌}
use Rattle.std.specs.Option.{ghost_name_of, option_map}
use Rattle.lfs_blocks.specs.CacheView.{cached_view}
use Rattle.lfs_blocks.proofs.EntryLemmas.{CachesAtMostEight-set, cached_bytes-shown, shown-set_value}
use Rattle.lfs_blocks.proofs.cache.Cache.lend_mut.Goals as goal

pub invariant_of-self-lent : goal.invariant_of-self-lent
invariant_of-self-lent c _ = ((λ w. CachesAtMostEight-set c.self.inside.recent c.args.block w c.self.invariant), c.self.invariant)

pub returns : goal.returns
returns c =
    rw (← c.self.view_is) (
      (λ i. read_of (ghost_name_of c.peek_mut.result) (λ w. shown-set_value c.self.inside.recent.entries c.args.block w i) (cached_view c.self.inside.recent.entries)),
      record {
        lends = tt;
        bytes =
            ap (option_map (λ v. v.items)) c.peek_mut.ensures.value
            ∙ sym (cached_bytes-shown c.self.inside.recent.entries c.args.block);
      },
    )
