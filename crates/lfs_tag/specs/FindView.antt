-- The result of a search for a name.
use Rattle.std.specs.Prelude.{ℕ, nat_lt, if◌then◌else◌, true, false, List, length, Option}
use Rattle.lfs_model.specs.declared.order.NameOrder.{NameOrder}
use Rattle.lfs_model.specs.format.Content.{RawSlot}
use Rattle.lfs_model.specs.layers.Lookup.{IsNameId, IsInsertionId}
use Rattle.lfs_tag.specs.declared.lookup.Lookup.{Lookup}
use Rattle.lfs_tag.specs.declared.lookup.Lookup.TheVariants.{Found, Place}
use Rattle.lfs_tag.specs.declared.lookup.NameComparison.{NameComparison}
use Rattle.lfs_tag.specs.Find.{first_wanted_slot}

-- The slot `id` has the name, or no slot has it, and it belongs at `id`.
abbrev pub IsNameLookup : NameOrder → List ℕ → Option ℕ → List RawSlot → Lookup → Type 0
IsNameLookup order name skip slots (Found id) = IsNameId name skip slots id
IsNameLookup order name skip slots (Place id) = IsInsertionId order name skip slots id

-- The result of a search, computed from the comparisons of the slots.
abbrev pub lookup_of_comparisons : Option ℕ → List NameComparison → Lookup
lookup_of_comparisons skip ranks =
    if nat_lt (first_wanted_slot true skip 0 ranks) (length ranks)
    then Found (first_wanted_slot true skip 0 ranks)
    else Place (first_wanted_slot false skip 0 ranks)
