use Rattle.std.proofs.Common.{rules}
use Rattle.std.proofs.lemmas.Cmp.{nat_list_cmp_total}
use Rattle.std.proofs.lemmas.List.Sorted.{answers_always, ranks_by}
use Rattle.lfs_lookup.specs.declared.items.NameAndOwnedStruct.{NameAndOwnedStruct}
use Rattle.lfs_lookup.proofs.ByName.{is_named_before, seen_by_name}
use Rattle.lfs_lookup.proofs.items.sort_shorter_first.Goals as goal

pub returns : goal.returns
returns c =
    seen_by_name c.args.items.now.items c.sort_unstable_by.new.self.items c.sort_unstable_by.ensures.permutation
    (c.sort_unstable_by.ensures.sorted is_named_before (ranks_by nat_list_cmp_total (λ (i : NameAndOwnedStruct). i.name.items)) (answers_always _ _ _ (λ f a r g h. search rules)))
