-- The entries of directories, as a listing returns them.
use Rattle.std.specs.Prelude.{ℕ, ◌≡◌, ◌&&◌, ◌==◌, if◌then◌else◌, List, [], ◌∷◌, map, drop, Option, Some, None}
use Rattle.std.specs.List.{flat_map}
use Rattle.lfs_model.specs.format.Disk.{Disk}
use Rattle.lfs_model.specs.format.Slots.{Gstate, same_pair}
use Rattle.lfs_model.specs.format.Thread.{Pair, pairs_gstate, is_hard_tail, unmoved_entries}
use Rattle.lfs_model.specs.tree.Tree.{Path}
use Rattle.lfs_model.specs.tree.View.{IsAccepted}
use Rattle.lfs_model.specs.tree.Shown.{IsDirectoryAtPath, all_entries}
use Rattle.lfs_model.specs.format.Slots.{set_move_kind}
use Rattle.lfs_model.specs.session.InDirectory.{IsPairAt, joined_pair_count}
use Rattle.lfs_lookup.specs.Items.{NamedStruct, named_struct}

-- the id of the slot that a pending move names in the pair at an address
abbrev pub moved_slot_id : Gstate → ℕ × ℕ → Option ℕ
moved_slot_id g at = if g.kind == set_move_kind && same_pair g.pair at then Some g.id else None

-- the first of these pairs, and those behind it along hard tails
abbrev pub joined_pairs : List Pair → List Pair
joined_pairs [] = []
joined_pairs (p ∷ ps) = p ∷ (if is_hard_tail p.content.tail then joined_pairs ps else [])

-- the pair of an index, and those behind it along hard tails
abbrev pub hard_tail_chain_from : List Pair → Option ℕ → List Pair
hard_tail_chain_from ps None = []
hard_tail_chain_from ps (Some first) = joined_pairs (drop first ps)

-- their number
abbrev pub hard_tail_count_from : List Pair → Option ℕ → ℕ
hard_tail_count_from ps None = 0
hard_tail_count_from ps (Some first) = joined_pair_count (drop first ps)

-- the entries of these pairs
abbrev pub directory_entries_from : List Pair → Option ℕ → List NamedStruct
directory_entries_from ps from = map named_struct (flat_map (unmoved_entries (pairs_gstate ps)) (hard_tail_chain_from ps from))

-- the list has the entries of the directory that begins with the pair of index `first`, if a path leads to it
abbrev pub AreDirectoryEntries : Disk → List Pair → ℕ → List NamedStruct → Type 0
AreDirectoryEntries disk ps first shapes =
    IsAccepted disk ps → (path : Path) (at : ℕ × ℕ) → IsDirectoryAtPath ps path at → IsPairAt ps at first → shapes ≡ map named_struct (all_entries ps at)
