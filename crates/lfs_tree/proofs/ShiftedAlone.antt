-- A rename leaves alone what it doesn't concern.
use Rattle.std.proofs.Common.{ℕ, Bool, true, false, ◌≡◌, ◌≤◌, ◌<◌, ◌⊎◌, inl, inr, ◌∙◌, List, [], ◌∷◌, length, refl, sym, subst, arith}
use Rattle.std.specs.Prelude.{Any, Contains}
use Rattle.lfs_tree.proofs.Common.{cases_lt, IsFree, HoldsSlotOfPath, KeepsUnrelatedBlocks, IsPositionOfName, IsRenameTargetPosition, route_blocks, Name, path_or_root, Session, Pair, address_blocks, addresses_blocks, Path, Contains-occurrence_count, occurrence_count-Contains, occurrence_count, count_append, each_weaker, here, WritesChangedPairsOrFree, WritesPairAndTwoFree, KeptThread, thread_pair, CanMoveEntry}
use Rattle.lfs_model.specs.session.Operations as ops
use Rattle.lfs_operations.specs.Altering.{IsBlockOfChangedPair}
use Rattle.lfs_operations.specs.declared.moves.Route.{Route}
use Rattle.lfs_tree.specs.MovedEntries.{RenameKeepsUnrelatedBlocks}
use Rattle.lfs_tree.specs.declared.renames_at.RenameSource.{RenameSource}
use Rattle.lfs_lookup.specs.declared.search.SlotPosition.{SlotPosition}
use Rattle.lfs_tree.proofs.Carried.{behind_below}
use Rattle.lfs_tree.proofs.LeftAlone.{IsConcerned, IsConcernedOrFree, concerned_alone, first_owned, holds_slot, pair_there, second_owned}

-- a block is one of two pairs'
one_of_four : (a c : ℕ × ℕ) (b : ℕ) → Contains (addresses_blocks a c) b → Contains (address_blocks a) b ⊎ Contains (address_blocks c) b
one_of_four a c b h = go (cases_lt 0 (occurrence_count b (address_blocks a)))
  where
    go : (0 < occurrence_count b (address_blocks a)) ⊎ (occurrence_count b (address_blocks a) ≤ 0) → Contains (address_blocks a) b ⊎ Contains (address_blocks c) b
    go (inl l) = inl (Contains-occurrence_count (address_blocks a) b l)
    go (inr l) = inr (Contains-occurrence_count (address_blocks c) b (let k = occurrence_count-Contains (addresses_blocks a c) b h in let e = count_append b (address_blocks a) (address_blocks c) in omega (arith, l, k, e)))

module _ (t new : KeptThread) (from to : Path) (source : RenameSource) (name : Name) (can : CanMoveEntry t from to source name) (s : Session) (given to_given : List ℕ) (e : path_or_root given ≡ from) (f : path_or_root to_given ≡ to) where
  abbrev Concerned : ℕ → Type 0
  Concerned b = IsConcerned t.pairs (path_or_root given ∷ path_or_root to_given ∷ []) new.pairs b

  -- the pairs of the two slots

  abbrev Holds : Pair → Type 0
  Holds p = Any (HoldsSlotOfPath t.pairs p) (path_or_root given ∷ path_or_root to_given ∷ [])

  source_holds : Holds (thread_pair t source.slot.pair)
  source_holds =
      let there = can.old.stands in
      subst Holds (sym (here t can.old.ready can.old.first source.slot.pair there.pair there.rest there.place)) (
        0,
        path_or_root given,
        omega arith,
        refl,
        subst (HoldsSlotOfPath t.pairs there.pair) (sym (e ∙ can.old_is))
            (holds_slot t.pairs can.old.path can.old.at can.old.first can.old.name source.slot.pair source.slot.id can.old.ready.accepted.thread.distinct can.old.leads can.old.begins there),
      )

  target_holds : (slot : SlotPosition) → IsPositionOfName t.pairs can.first name slot.pair slot.id → Holds (thread_pair t slot.pair)
  target_holds slot there =
      subst Holds (sym (here t can.old.ready can.first slot.pair there.pair there.rest there.place)) (
        1,
        path_or_root to_given,
        omega arith,
        refl,
        subst (HoldsSlotOfPath t.pairs there.pair) (sym (f ∙ can.is))
            (holds_slot t.pairs can.above can.on.at can.first name slot.pair slot.id can.old.ready.accepted.thread.distinct can.on.leads can.on.begins there),
      )

  concerned : (index : ℕ) → index < length t.pairs → Holds (thread_pair t index) → (b : ℕ) → Contains (address_blocks (thread_pair t index).at) b → Concerned b
  concerned index low holds b own = record { pair = thread_pair t index; there = pair_there t.pairs index low; own = occurrence_count-Contains (address_blocks (thread_pair t index).at) b own; why = inl holds }

  source_concerned : (b : ℕ) → Contains (address_blocks (thread_pair t source.slot.pair).at) b → Concerned b
  source_concerned = concerned source.slot.pair (behind_below t.pairs can.old.first source.slot.pair can.old.stands.pair can.old.stands.rest can.old.stands.place) source_holds

  target_concerned : (slot : SlotPosition) → IsPositionOfName t.pairs can.first name slot.pair slot.id → (b : ℕ) → Contains (address_blocks (thread_pair t slot.pair).at) b → Concerned b
  target_concerned slot there = concerned slot.pair (behind_below t.pairs can.first slot.pair there.pair there.rest there.place) (target_holds slot there)

  -- the source's pair alone is written
  within_alone : WritesPairAndTwoFree t source.slot.pair new → KeepsUnrelatedBlocks t.disk t.pairs s (ops.Rename given to_given) new.disk new.pairs
  within_alone w =
      let p = thread_pair t source.slot.pair in
      concerned_alone t new s (ops.Rename given to_given) (p.at.0 ∷ p.at.1 ∷ w.fresh) can.old.ready.accepted can.old.ready.used (
        inl (source_concerned p.at.0 (Contains-occurrence_count (address_blocks p.at) p.at.0 (first_owned p))),
        (inl (source_concerned p.at.1 (Contains-occurrence_count (address_blocks p.at) p.at.1 (second_owned p))), each_weaker (IsFree t.map) (IsConcernedOrFree t (path_or_root given ∷ path_or_root to_given ∷ []) new.pairs) (λ b free. inr free) w.fresh w.free),
      )
      w.writes

  -- the written blocks are ones that the rename concerns, or were free
  rest_alone : (bs : List ℕ) → ((b : ℕ) → Contains bs b → Concerned b) → WritesChangedPairsOrFree t bs new → KeepsUnrelatedBlocks t.disk t.pairs s (ops.Rename given to_given) new.disk new.pairs
  rest_alone bs known w = concerned_alone t new s (ops.Rename given to_given) w.blocks can.old.ready.accepted can.old.ready.used
      (each_weaker (λ b. Contains bs b ⊎ (IsBlockOfChangedPair t new b ⊎ IsFree t.map b)) (IsConcernedOrFree t (path_or_root given ∷ path_or_root to_given ∷ []) new.pairs) each w.blocks w.each) w.writes
    where
      each : (b : ℕ) → Contains bs b ⊎ (IsBlockOfChangedPair t new b ⊎ IsFree t.map b) → IsConcernedOrFree t (path_or_root given ∷ path_or_root to_given ∷ []) new.pairs b
      each b (inl has) = inl (known b has)
      each b (inr (inl k)) = inl (record { pair = thread_pair t k.index; there = pair_there t.pairs k.index k.below; own = occurrence_count-Contains (address_blocks (thread_pair t k.index).at) b k.own; why = inr k.alters })
      each b (inr (inr free)) = inr free

  both_concerned : (slot : SlotPosition) → IsPositionOfName t.pairs can.first name slot.pair slot.id → (b : ℕ) → Contains (addresses_blocks (thread_pair t source.slot.pair).at (thread_pair t slot.pair).at) b → Concerned b
  both_concerned slot there b h = go (one_of_four (thread_pair t source.slot.pair).at (thread_pair t slot.pair).at b h)
    where
      go : Contains (address_blocks (thread_pair t source.slot.pair).at) b ⊎ Contains (address_blocks (thread_pair t slot.pair).at) b → Concerned b
      go (inl own) = source_concerned b own
      go (inr own) = target_concerned slot there b own

-- ---- a rename

abbrev pub route_to : RenameSource → SlotPosition → Route
route_to source slot = record { old_pair = source.slot.pair; old_id = source.slot.id; first = source.first; new_pair = slot.pair; new_id = slot.id }

module _ (t new : KeptThread) (from to : Path) (source : RenameSource) (name : Name) (can : CanMoveEntry t from to source name) where
  pub spares_within : WritesPairAndTwoFree t source.slot.pair new → RenameKeepsUnrelatedBlocks t from to new
  spares_within w s given to_given e f = within_alone t new from to source name can s given to_given e f w

  pub spares_one : WritesChangedPairsOrFree t (address_blocks (thread_pair t source.slot.pair).at) new → RenameKeepsUnrelatedBlocks t from to new
  spares_one w s given to_given e f = rest_alone t new from to source name can s given to_given e f (address_blocks (thread_pair t source.slot.pair).at) (source_concerned t new from to source name can s given to_given e f) w

  pub spares_two : (slot : SlotPosition) → IsPositionOfName t.pairs can.first name slot.pair slot.id → WritesChangedPairsOrFree t (addresses_blocks (thread_pair t source.slot.pair).at (thread_pair t slot.pair).at) new → RenameKeepsUnrelatedBlocks t from to new
  spares_two slot there w s given to_given e f =
      rest_alone t new from to source name can s given to_given e f (addresses_blocks (thread_pair t source.slot.pair).at (thread_pair t slot.pair).at) (both_concerned t new from to source name can s given to_given e f slot there) w

  pub spares_apart : (replaces : Bool) (slot : SlotPosition) (gone : List ℕ) → IsRenameTargetPosition replaces false t can.first name slot.pair slot.id gone → WritesChangedPairsOrFree t (route_blocks replaces t (route_to source slot)) new → RenameKeepsUnrelatedBlocks t from to new
  spares_apart false slot gone target w = spares_one w
  spares_apart true slot gone target w = spares_two slot target.there w
