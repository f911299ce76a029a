-- The end of a pending move: the slot that it names is deleted from its pair, or dropped with the pair.
use Rattle.std.specs.Prelude.{ℕ, ◌≡◌, ◌≤◌, ◌<◌, ◌-◌, ◌+◌, if◌then◌else◌, Bool, true, false, List, [], ◌∷◌, length, take}
use Rattle.std.specs.List.{remove}
use Rattle.lfs_model.specs.layers.BlockSets.{BlockStates}
use Rattle.lfs_model.specs.layers.Changes.{ContentChange, Delete, PutMove}
use Rattle.lfs_model.specs.session.InDirectory.{HasName}
use Rattle.lfs_model.specs.format.Names.{Name}
use Rattle.lfs_model.specs.format.Slots.{PairContent, Gstate, gstate_xor, same_pair}
use Rattle.lfs_model.specs.format.Thread.{Pair, pairs_from_root, pairs_gstate, is_hard_tail, count_before_root, address_blocks}
use Rattle.lfs_model.specs.tree.Profile.{IsWritable}
use Rattle.lfs_model.specs.tree.Shown.{all_directories, used_blocks}
use Rattle.lfs_model.specs.tree.View.{IsAccepted}
use Rattle.lfs_model.specs.format.Slots.{set_move_kind}
use Rattle.lfs_model.specs.layers.Steps.{SameSlots, occurrence_count, directory_addresses, HoldsForSome, IsWritableChange, last_tail_is_hard}
use Rattle.lfs_thread.specs.Kept.{KeptThread}
use Rattle.lfs_thread.specs.ThreadSteps.{SameGeometryAs, thread_pair, pairs_with_content, map_freeing}
use Rattle.lfs_operations.specs.Ready.{IsLogContentDecodable, KeepsRootPairIndex}
use Rattle.lfs_operations.specs.EndingMove.{KeepsRecoveryLayouts}
use Rattle.lfs_model.specs.layers.StepResults.{gstate_without_move, gstate_without_sync}

-- whether the pair is behind a hard tail, and so continues a directory
abbrev pub continues_directory : List Pair → ℕ → Bool
continues_directory ps pair = last_tail_is_hard false (take (pair - count_before_root ps) (pairs_from_root ps))

-- the pair's delta without the pending move
abbrev pub delta_without_move : KeptThread → ℕ → Gstate
delta_without_move t pair = gstate_xor (gstate_without_sync (pairs_gstate t.pairs)) (thread_pair t pair).content.move

abbrev pub move_ending_changes : KeptThread → ℕ → ℕ → List ContentChange
move_ending_changes t pair id = Delete id ∷ PutMove (delta_without_move t pair) ∷ []

-- The image is accepted and in the writing profile, and a pending move names the slot with the id of the pair. `goes` says
-- whether the pair is dropped with it: it has no other slot, and is behind a hard tail. The sync bit may be set.
pub record CanEndMoveAt (t : KeptThread) (pair id : ℕ) (goes : Bool) : Type 0 where
  pub accepted : IsAccepted t.disk t.pairs
  pub writable : IsWritable t.disk t.pairs
  pub begins : count_before_root t.pairs ≤ pair
  pub below : pair < length t.pairs
  pub logged : IsLogContentDecodable t.disk (thread_pair t pair).at
  pub kind : (pairs_gstate t.pairs).kind ≡ set_move_kind
  pub named : same_pair (pairs_gstate t.pairs).pair (thread_pair t pair).at ≡ true
  pub id_is : (pairs_gstate t.pairs).id ≡ id
  pub name : Name
  pub stands : HasName (thread_pair t pair).content.slots name id
  pub stays : goes ≡ false → continues_directory t.pairs pair ≡ true → 1 < length (thread_pair t pair).content.slots
  pub alone : goes ≡ true → (continues_directory t.pairs pair ≡ true) × (length (thread_pair t pair).content.slots ≡ 1)

-- the content of the pair afterwards, if it isn't dropped
abbrev pub content_after_move_ended : KeptThread → ℕ → ℕ → PairContent
content_after_move_ended t pair id = record {
  slots = remove (thread_pair t pair).content.slots id;
  tail = (thread_pair t pair).content.tail;
  move = delta_without_move t pair;
}

-- the pair that is written: the slot's, or the one before it if that is dropped
abbrev pub move_ending_written_pair : ℕ → Bool → ℕ
move_ending_written_pair pair goes = if goes then pair - 1 else pair

abbrev pub pairs_after_move_ended : KeptThread → ℕ → ℕ → Bool → List Pair
pairs_after_move_ended t pair id goes = if goes then remove t.pairs pair else pairs_with_content t pair (content_after_move_ended t pair id)

abbrev pub move_ending_dropped_blocks : KeptThread → ℕ → Bool → List ℕ
move_ending_dropped_blocks t pair goes = if goes then address_blocks (thread_pair t pair).at else []

abbrev pub map_after_move_ended : KeptThread → ℕ → Bool → BlockStates
map_after_move_ended t pair goes = if goes then map_freeing t.map (thread_pair t pair).at else t.map

-- The slot is deleted, or the pair is dropped with it, and no move is pending. The tree, the sync bit, the used blocks except
-- the pair's, and the slots of every other pair are as they were. The image is accepted and in the writing profile.
pub record HasEndedMoveAt (old : KeptThread) (pair id : ℕ) (goes : Bool) (new : KeptThread) : Type 0 where
  pub taken : IsWritableChange old.disk old.pairs new.disk new.pairs (λ t. t) (λ d. d)
  pub state : pairs_gstate new.pairs ≡ gstate_without_move (pairs_gstate old.pairs)
  pub alike : SameSlots (pairs_after_move_ended old pair id goes) new.pairs
  pub map : new.map ≡ map_after_move_ended old pair goes
  pub blocks : (b : ℕ) → occurrence_count b (used_blocks new.disk new.pairs) + occurrence_count b (move_ending_dropped_blocks old pair goes) ≡ occurrence_count b (used_blocks old.disk old.pairs)
  pub shape : SameGeometryAs old.disk new.disk
  -- The directories begin with the same pairs. A pair without slots that ends its directory stays as it is. A recovery may go
  -- on.
  pub begins : directory_addresses (all_directories new.pairs) ≡ directory_addresses (all_directories old.pairs)
  pub root : KeepsRootPairIndex old new
  pub leads_on : KeepsRecoveryLayouts old new
  pub kept : (z : Pair) → z.content.slots ≡ [] → is_hard_tail z.content.tail ≡ false → HoldsForSome (λ x. x ≡ z) old.pairs → HoldsForSome (λ x. x ≡ z) new.pairs
