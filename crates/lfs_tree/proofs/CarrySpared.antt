-- A removal leaves the blocks of files and of pairs alone that it doesn't concern.
use Rattle.std.proofs.Common.{ℕ, ◌≡◌, ◌∙◌, ◌-◌, ◌<◌, ◌++◌, Bool, cond, true, false, List, [], ◌∷◌, length, inl, inr, refl, sym, subst, arith}
use Rattle.std.specs.Prelude.{Any, Contains}
use Rattle.lfs_tree.proofs.Common.{ChangesOnlyMap, HoldsSlotOfPath, path_or_root, Pair, address_blocks, addresses_blocks, Path, here, IsPairChangedOrDropped, CanEditIn, drops_pair_after_removal, removal_written_address, ArePredecessorsChangedOrDropped, CanRemoveDirectory, KeptThread, ChangesThreadBlocks, thread_pair, RemovalKeepsUnrelatedBlocks}
use Rattle.lfs_model.specs.session.Operations as ops
use Rattle.lfs_operations.specs.Removing.{CanRemoveIn}
use Rattle.lfs_tree.proofs.Carried.{behind_below}
use Rattle.lfs_tree.proofs.CarryFreed.{writes_then}
use Rattle.lfs_tree.proofs.LeftAlone.{IsConcernedOrFree, about_one, concerned_alone, concerned_pair, holds_slot}

module _ (old : KeptThread) (path : Path) (pair id first : ℕ) (can : CanEditIn old pair id) (is : path ≡ can.path ++ can.name ∷ []) (given : List ℕ) (e : path_or_root given ≡ path) (now : List Pair) where
  below : pair < length old.pairs
  below = behind_below old.pairs can.first pair can.stands.pair can.stands.rest can.stands.place

  abbrev AreConcerned : ℕ × ℕ → Type 0
  AreConcerned at = IsConcernedOrFree old (path_or_root given ∷ []) now at.0 × IsConcernedOrFree old (path_or_root given ∷ []) now at.1

  -- the entry's pair holds its slot
  holds : Any (HoldsSlotOfPath old.pairs (thread_pair old pair)) (path_or_root given ∷ [])
  holds =
      subst (λ (z : Pair). Any (HoldsSlotOfPath old.pairs z) (path_or_root given ∷ [])) (sym (here old can.ready can.first pair can.stands.pair can.stands.rest can.stands.place))
      (about_one (HoldsSlotOfPath old.pairs can.stands.pair) (path_or_root given) (can.path ++ can.name ∷ []) (e ∙ is)
      (holds_slot old.pairs can.path can.at can.first can.name pair id can.ready.accepted.thread.distinct can.leads can.begins can.stands))

  -- or is dropped with it: then the one before it is changed
  written : (drops_pair_after_removal old pair first ≡ true → Contains now (thread_pair old (pair - 1)) → ⊥) → AreConcerned (removal_written_address old pair first)
  written alters = go (drops_pair_after_removal old pair first) refl
    where
      go : (b : Bool) → drops_pair_after_removal old pair first ≡ b → AreConcerned (removal_written_address old pair first)
      go true whole =
          subst (λ b. AreConcerned (cond b (thread_pair old (pair - 1)).at (thread_pair old pair).at)) (sym whole)
          (concerned_pair old (path_or_root given ∷ []) now (pair - 1) (omega (arith, below)) (inr (alters whole)))
      go false whole =
          subst (λ b. AreConcerned (cond b (thread_pair old (pair - 1)).at (thread_pair old pair).at)) (sym whole)
          (concerned_pair old (path_or_root given ∷ []) now pair below (inl holds))

-- a file, whose list is freed afterwards
pub file_spares : (old mid new : KeptThread) (path : Path) (pair id first : ℕ) (take : CanRemoveIn old pair id first) → path ≡ take.can.path ++ take.can.name ∷ [] → (drops_pair_after_removal old pair first ≡ true → IsPairChangedOrDropped old (pair - 1) mid)
    → ChangesThreadBlocks (address_blocks (removal_written_address old pair first)) old mid → ChangesOnlyMap mid new → RemovalKeepsUnrelatedBlocks old path new
file_spares old mid new path pair id first take is alters w only s given e =
    let k = written old path pair id first take.can is given e new.pairs (λ whole. subst (λ (ps : List Pair). Contains ps (thread_pair old (pair - 1)) → ⊥) (sym only.pairs) (alters whole)) in
    concerned_alone old new s (ops.Remove given) (address_blocks (removal_written_address old pair first)) take.can.ready.accepted take.can.ready.used (k.0, (k.1, tt)) (writes_then old mid new (address_blocks (removal_written_address old pair first)) w only)

-- a directory without entries, with its pair
pub directory_spares : (old new : KeptThread) (path : Path) (pair id first gone : ℕ) (take : CanRemoveDirectory old pair id first gone) → path ≡ take.can.path ++ take.can.name ∷ [] → ArePredecessorsChangedOrDropped old pair first gone new
    → ChangesThreadBlocks (addresses_blocks (removal_written_address old pair first) (thread_pair old (gone - 1)).at) old new → RemovalKeepsUnrelatedBlocks old path new
directory_spares old new path pair id first gone take is alters w s given e =
    let low = take.below in
    let k = written old path pair id first take.can is given e new.pairs alters.entry in
    let f = concerned_pair old (path_or_root given ∷ []) new.pairs (gone - 1) (omega (arith, low)) (inr alters.front) in
    concerned_alone old new s (ops.Remove given) (addresses_blocks (removal_written_address old pair first) (thread_pair old (gone - 1)).at) take.can.ready.accepted take.can.ready.used (k.0, (k.1, (f.0, (f.1, tt)))) w
