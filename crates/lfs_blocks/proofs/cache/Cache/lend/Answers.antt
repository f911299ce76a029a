use Rattle.std.proofs.Common.{ap, sym, ◌∙◌, Some}
use Rattle.std.specs.Option.{option_map}
use Rattle.lfs_model.specs.layers.Cache.{cached_bytes}
use Rattle.lfs_blocks.proofs.EntryLemmas.{cached_bytes-shown}
use Rattle.lfs_blocks.proofs.cache.Cache.lend.Goals as goal

pub returns-in-Some : goal.returns-in-Some
returns-in-Some c =
    ap Some c.as_slice.ensures.value
    ∙ ap (option_map (λ v. v.items)) c.in-Some.ensures
    ∙ sym (cached_bytes-shown c.self.inside.recent.entries c.args.block)
    ∙ ap (λ cache. cached_bytes cache c.args.block) c.self.view_is

pub returns-in-None : goal.returns-in-None
returns-in-None c =
    ap (option_map (λ v. v.items)) c.in-None.ensures
    ∙ sym (cached_bytes-shown c.self.inside.recent.entries c.args.block)
    ∙ ap (λ cache. cached_bytes cache c.args.block) c.self.view_is
