-- Entries sorted by name, a shorter name before a longer one that begins with it.
use Rattle.std.specs.Prelude.{Bool, List}
use Rattle.std.specs.List.Sorted.{IsPermutation, IsSortedBy}
use Rattle.lfs_model.specs.declared.order.NameOrder.TheVariants.{ShorterFirst}
use Rattle.lfs_model.specs.format.Names.{name_cmp, is_less}
use Rattle.lfs_lookup.specs.Items.{NamedStruct}

abbrev pub precedes_shorter : NamedStruct → NamedStruct → Bool
precedes_shorter a b = is_less (name_cmp ShorterFirst a.name b.name)

-- the same entries, sorted by name
pub record AreSortedShorterFirst (shapes others : List NamedStruct) : Type 0 where
  pub permutation : IsPermutation shapes others
  pub sorted : IsSortedBy precedes_shorter others
