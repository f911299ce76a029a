-- The effect of an entry as the definitions see it, without addresses in memory.
use Rattle.std.specs.Option.{option_map}
use Rattle.lfs_tag.specs.ContentView.{part_view}
use Rattle.lfs_tag.specs.EntrySearch.{SlotEffect, Holds, Was}
use Rattle.lfs_tag.specs.declared.search.EntryEffect as code
use Rattle.lfs_tag.specs.declared.search.EntryEffect.TheVariants as variants

abbrev pub entry_effect_view : code.EntryEffect → SlotEffect
entry_effect_view (variants.Holds part) = Holds (option_map part_view part)
entry_effect_view (variants.Was id) = Was id
