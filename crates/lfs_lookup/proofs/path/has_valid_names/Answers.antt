use Rattle.std.proofs.Common.{rules, tests, ◌==◌}
use Rattle.std.proofs.lemmas.Iterator.Search.{all_from_yields_List}
use Rattle.lfs_lookup.proofs.Common.{YieldsList-from_slice_split, is_component, slash_byte}
use Rattle.lfs_lookup.proofs.path.has_valid_names.Goals as goal

pub returns : goal.returns
returns c =
    all_from_yields_List is_component _ _ _ c.all.ensures.ran
    (YieldsList-from_slice_split _ (λ b. b == slash_byte) c.args.bytes.now c.split.ensures.rest c.split.ensures.done c.split.ensures.closure (λ x b q k. search (rules, tests)))
    (λ x b q k. search (rules, tests))
