-- The comparison of each slot's name with a name that is searched for, computed by applying a log's
-- entries in order.
use Rattle.std.specs.Prelude.{ℕ, ◌+◌, ◌-◌, ◌==◌, ◌&&◌, not, nat_lt, nat_le, if◌then◌else◌, Bool, false, List, [], ◌∷◌, ◌++◌, length, replicate, slice_set, Option}
use Rattle.std.specs.Option.{option_map_or}
use Rattle.std.specs.List.{insert, remove}
use Rattle.std.specs.declared.cmp.Ordering.{Ordering}
use Rattle.std.specs.declared.cmp.Ordering.TheVariants.{Less, Equal, Greater}
use Rattle.lfs_model.specs.declared.order.NameOrder.{NameOrder}
use Rattle.lfs_model.specs.format.Tag.{tag_type, tag_id, tag_class}
use Rattle.lfs_model.specs.format.Log.{LogEntry}
use Rattle.lfs_model.specs.format.Names.{Name, name_cmp}
use Rattle.lfs_model.specs.format.Content.{RawSlot}
use Rattle.lfs_model.specs.format.EntryTypes.{create_tag_type, superblock_name_type}
use Rattle.lfs_model.specs.layers.Lookup.{entry_name}
use Rattle.lfs_tag.specs.declared.lookup.NameComparison.{NameComparison}
use Rattle.lfs_tag.specs.declared.lookup.NameComparison.TheVariants as slot

-- The comparison for an ordering of the name searched for and a slot's name.
abbrev pub ordering_comparison : Ordering → NameComparison
ordering_comparison Less = slot.Greater
ordering_comparison Equal = slot.Same
ordering_comparison Greater = slot.NoneOrLess

-- The comparison of a slot's name. A slot without a file's or a directory's name counts as less.
abbrev pub comparison_with_slot : NameOrder → Name → RawSlot → NameComparison
comparison_with_slot order name s = option_map_or (λ other. ordering_comparison (name_cmp order name other)) (entry_name s) slot.NoneOrLess

-- The comparison of the name that an entry sets.
abbrev pub comparison_with_entry : NameOrder → Name → LogEntry → NameComparison
comparison_with_entry order name e = if tag_type e.tag == superblock_name_type then slot.NoneOrLess else ordering_comparison (name_cmp order name e.bytes)

-- The comparisons, extended to include the slot `id`.
abbrev pub padded_comparisons : List NameComparison → ℕ → List NameComparison
padded_comparisons ranks id = ranks ++ replicate (id + 1 - length ranks) slot.NoneOrLess

-- The comparisons after a create or a delete.
abbrev pub comparisons_after_splice : List NameComparison → LogEntry → List NameComparison
comparisons_after_splice ranks e =
    if tag_type e.tag == create_tag_type
    then (if nat_le (tag_id e.tag) (length ranks) then insert ranks (tag_id e.tag) slot.NoneOrLess else ranks)
    else (if nat_lt (tag_id e.tag) (length ranks) then remove ranks (tag_id e.tag) else ranks)

-- The comparisons after one entry.
abbrev pub comparisons_after_entry : NameOrder → Name → List NameComparison → LogEntry → List NameComparison
comparisons_after_entry order name ranks e =
    if tag_class e.tag == 0 then slice_set (padded_comparisons ranks (tag_id e.tag)) (tag_id e.tag) (comparison_with_entry order name e)
    else (if tag_class e.tag == 4 then comparisons_after_splice ranks e else ranks)

-- The comparisons after several entries.
abbrev pub comparisons_after : NameOrder → Name → List NameComparison → List LogEntry → List NameComparison
comparisons_after order name ranks [] = ranks
comparisons_after order name ranks (e ∷ es) = comparisons_after order name (comparisons_after_entry order name ranks e) es

-- ---- the first slot

-- Whether a slot with this comparison is searched for: one with the name itself if `same` is true,
-- otherwise one with a greater name.
abbrev pub is_wanted : Bool → NameComparison → Bool
is_wanted same slot.NoneOrLess = false
is_wanted same slot.Same = same
is_wanted same slot.Greater = not same

-- Whether the slot `id` is the one to skip.
abbrev pub is_skipped : Option ℕ → ℕ → Bool
is_skipped skip id = option_map_or (λ k. k == id) skip false

-- Whether the slot `id`, with the comparison `rank`, is searched for and isn't skipped.
abbrev pub is_wanted_slot : Bool → Option ℕ → ℕ → NameComparison → Bool
is_wanted_slot same skip id rank = is_wanted same rank && not (is_skipped skip id)

-- The first slot from `id` on that is searched for, or the number of slots if there is none. The
-- slot `skip` doesn't count.
abbrev pub first_wanted_slot : Bool → Option ℕ → ℕ → List NameComparison → ℕ
first_wanted_slot same skip id [] = id
first_wanted_slot same skip id (rank ∷ ranks) = if is_wanted_slot same skip id rank then id else first_wanted_slot same skip (id + 1) ranks
