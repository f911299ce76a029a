-- A rename from one pair into another, to a new name or over an entry.
use Rattle.std.specs.Prelude.{ℕ, ◌≡◌, ◌≢◌, ◌++◌, ◌≤◌, ◌<◌, ◌+◌, None, Bool, true, false, if◌then◌else◌, List, [], ◌∷◌, length}
use Rattle.lfs_model.specs.tree.Tree.{Path, Tree}
use Rattle.lfs_model.specs.session.TreeEdits.{tree_renaming, without_prefix}
use Rattle.lfs_model.specs.session.Operations as ops
use Rattle.lfs_model.specs.session.Session.{Session}
use Rattle.lfs_model.specs.session.Refusals.{path_or_root}
use Rattle.lfs_model.specs.layers.Steps.{CompletesOperation, occurrence_count}
use Rattle.lfs_model.specs.layers.Changes.{ContentChange, Delete, PutMove}
use Rattle.lfs_model.specs.layers.LoggedContent.{AreU32Addresses}
use Rattle.lfs_model.specs.session.InDirectory.{IsPairAt}
use Rattle.lfs_model.specs.format.Names.{Name}
use Rattle.lfs_model.specs.format.Slots.{Branch, gstate_xor, same_pair}
use Rattle.lfs_model.specs.format.Thread.{address_blocks, addresses_blocks, is_hard_tail}
use Rattle.lfs_model.specs.tree.Profile.{IsWritableEntry}
use Rattle.lfs_model.specs.tree.Shown.{IsDirectoryAtPath, disk_tree, used_blocks}
use Rattle.lfs_thread.specs.Kept.{KeptThread}
use Rattle.lfs_thread.specs.ThreadSteps.{thread_pair}
use Rattle.lfs_operations.specs.declared.moves.Route.{Route}
use Rattle.lfs_operations.specs.Editing.{CanEditIn, editable_slot}
use Rattle.lfs_operations.specs.Dropping.{HasTreeAfterDrops}
use Rattle.lfs_operations.specs.Ready.{IsLogContentDecodable}
use Rattle.lfs_operations.specs.Removing.{drops_pair_after_removal}
use Rattle.lfs_operations.specs.MovingSteps.{IsMoveCopiedAndEnded}
use Rattle.lfs_operations.specs.RenamingSlots.{IsRenameTargetPosition, slot_without_name_at}
use Rattle.lfs_model.specs.layers.SlotChanges.{slot_creation_changes}
use Rattle.lfs_model.specs.layers.StepResults.{gstate_with_move}

-- the slot with the id is deleted first, if it is replaced
abbrev pub removal_changes : Bool → ℕ → List ContentChange
removal_changes replaces id = if replaces then Delete id ∷ [] else []

-- the changes to the new pair: a move that names the old slot, with the sync bit or without, and a copy of that slot at an id
abbrev pub move_start_changes : (replaces sync : Bool) → KeptThread → Route → Name → List ContentChange
move_start_changes replaces sync t route name =
    PutMove (gstate_xor (gstate_with_move sync (thread_pair t route.old_pair).at route.old_id) (thread_pair t route.new_pair).content.move) ∷ (removal_changes replaces route.new_id ++ slot_creation_changes route.new_id name (slot_without_name_at t route.old_pair route.old_id))

-- The image may be changed. The route leads from an entry to the slot at which the name belongs, in the directory at a path
-- that isn't beneath the entry. The entry may have the name.
pub record CanMoveBetweenPairs (replaces sync : Bool) (t : KeptThread) (route : Route) (name : Name) : Type 0 where
  pub old : CanEditIn t route.old_pair route.old_id
  pub begins_old : old.first ≡ route.first
  pub path : Path
  pub at : ℕ × ℕ
  pub leads : IsDirectoryAtPath t.pairs path at
  pub to_first : ℕ
  pub begins : IsPairAt t.pairs at to_first
  pub gone : List ℕ
  pub target : IsRenameTargetPosition replaces sync t to_first name route.new_pair route.new_id gone
  pub logged : IsLogContentDecodable t.disk (thread_pair t route.new_pair).at
  pub apart : route.old_pair ≢ route.new_pair
  pub not_beneath : without_prefix (old.path ++ old.name ∷ []) (path ++ name ∷ []) ≡ None
  pub fits : IsWritableEntry t.disk.profile t.disk.block_size t.disk.page (record (editable_slot old) { name = name })

-- A copy of the slot was created, and then the move was ended.
pub record IsMovedBetweenPairs (replaces sync : Bool) (old : KeptThread) (route : Route) (name : Name) (new : KeptThread) : Type 0 where
  pub address : AreU32Addresses (thread_pair old route.old_pair).at
  pub done : IsMoveCopiedAndEnded old route.old_pair route.old_id (drops_pair_after_removal old route.old_pair route.first) route.new_pair (move_start_changes replaces sync old route name) new

-- the tree in which the entry of the one path is at the other
abbrev pub tree_with_entry_moved : KeptThread → Path → Name → Path → Name → Tree
tree_with_entry_moved t from from_name to to_name = tree_renaming (from ++ from_name ∷ []) (to ++ to_name ∷ []) (disk_tree t.disk t.pairs)

-- The tree has the entry at the other path, and its slot is in the right pair. So a rename of its path is complete. The blocks
-- of a replaced file's list are `gone`, each once, and none of them is the image's.
pub record IsRenamedBetweenPairs (old new : KeptThread) (from : Path) (from_name : Name) (to : Path) (to_name : Name) (gone : List ℕ) : Type 0 where
  pub now : HasTreeAfterDrops old new (tree_with_entry_moved old from from_name to to_name) gone
  pub once : (b : ℕ) → occurrence_count b (used_blocks new.disk new.pairs) + occurrence_count b gone ≤ 1
  pub completed : (s : Session) (given to_given : List ℕ) → s.tree ≡ disk_tree old.disk old.pairs → path_or_root given ≡ from ++ from_name ∷ [] → path_or_root to_given ≡ to ++ to_name ∷ []
      → CompletesOperation old.disk old.pairs s (ops.Rename given to_given) new.disk new.pairs

-- the blocks of the old pair, and of the new one, if an entry of it is replaced
abbrev pub route_blocks : (replaces : Bool) → KeptThread → Route → List ℕ
route_blocks false t route = address_blocks (thread_pair t route.old_pair).at
route_blocks true t route = addresses_blocks (thread_pair t route.old_pair).at (thread_pair t route.new_pair).at

-- The entry that is replaced is a directory. The pair of index `gone` is its only one, and has no slots.
pub record CanReplaceDirectoryBetweenPairs (t : KeptThread) (route : Route) (name : Name) (gone : ℕ) : Type 0 where
  pub onto : CanMoveBetweenPairs true true t route name
  pub to : ℕ × ℕ
  pub branch : onto.target.there.stands.slot.struct ≡ Branch to
  pub below : gone < length t.pairs
  pub alike : same_pair (thread_pair t gone).at to ≡ true
  pub empty : (thread_pair t gone).content.slots ≡ []
  pub alone : is_hard_tail (thread_pair t gone).content.tail ≡ false
