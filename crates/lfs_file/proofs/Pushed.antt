-- A list that is extended in blocks allocated for it.
use Rattle.std.proofs.Common.{ℕ, ◌≡◌, ◌≢◌, ◌+◌, inl, inr, ⊎_elim, get_or, List, ◌++◌, length, take, drop, Some, refl, sym, ap, ◌∙◌, subst, arith, length-append}
use Rattle.std.specs.Prelude.{All, Contains}
use Rattle.lfs_file.proofs.Common.{take_at, drop-append-add, All-append, Contains-append_right, Blocks, SameExceptBlocks, BlockStates, IsFree, IsInFlight, in_flight_count, Free, InFlight, CallEvent, LossLeavesAtWorst, HoldsAtLosses, OthersStayUnprogrammed, blocks_to_head, AllCallsSince-weaker, length_back, ChangesTheseBlocks, KeepsTakenBlocks, GrowingList, lasting_blocks, unwritten_block, GrowsInFree, IsTakenNotPending, HasBlocksTaken, KeepsTakenBytes, TakenStayUnprogrammed, TakesFreeBlocks}
use Rattle.lfs_device.specs.declared.device.BlockDevice.{Ghosts}
use Rattle.lfs_file.proofs.Growth.{cases_in_flight}
use Rattle.lfs_file.proofs.Takings.{came, others_stay}

pub length-kept : (d : Blocks) (g : GrowingList) → length (lasting_blocks d g) ≡ g.full + length (unwritten_block g)
length-kept d g = omega (arith, length-append (blocks_to_head d g.full g.head) (unwritten_block g), length_back d g.full g.head)

-- what stands apart isn't among the blocks that are written
apart_these : (map later : BlockStates) (pending blocks : List ℕ) → TakesFreeBlocks map later blocks → (b : ℕ) → IsTakenNotPending map pending b → All (λ x. x ≢ b) (pending ++ blocks)
apart_these map later pending blocks takes b apart = All-append (λ x. x ≢ b) pending blocks apart.1 (λ k x l e. apart.0 (subst (IsFree map) e (takes.free k x l)))

pub spares_by : (map later : BlockStates) (pending blocks : List ℕ) (d e : Blocks) → TakesFreeBlocks map later blocks → SameExceptBlocks (pending ++ blocks) d e → KeepsTakenBytes map pending d e
spares_by map later pending blocks d e takes same = record {
  count = same.count;
  sizes = same.sizes;
  same = λ b apart. same.others b (apart_these map later pending blocks takes b apart);
}

pub pages_by : (map later : BlockStates) (pending blocks : List ℕ) (a b : List CallEvent) → TakesFreeBlocks map later blocks → OthersStayUnprogrammed (pending ++ blocks) a b → TakenStayUnprogrammed map pending a b
pages_by map later pending blocks a b takes stay = record { stays = λ k i apart was. stay.stays k i (apart_these map later pending blocks takes k apart) was }

pub stops_by : (map later : BlockStates) (pending blocks : List ℕ) (d : Blocks) (a b : List CallEvent) → TakesFreeBlocks map later blocks → HoldsAtLosses LossLeavesAtWorst a b (SameExceptBlocks (pending ++ blocks) d) → HoldsAtLosses LossLeavesAtWorst a b (KeepsTakenBytes map pending d)
stops_by map later pending blocks d a b takes leaves = AllCallsSince-weaker (λ e all left stop. spares_by map later pending blocks d left takes (all left stop)) leaves

module _ (map later : BlockStates) (d e : Blocks) (g h : GrowingList) (blocks : List ℕ) (takes : TakesFreeBlocks map later blocks) (marked : HasBlocksTaken map d g)
    (pending : (other : ℕ) → All (λ b. b ≢ other) (unwritten_block g ++ blocks) → All (λ b. b ≢ other) (unwritten_block h)) (kept : lasting_blocks e h ≡ lasting_blocks d g ++ blocks) where
  not_free : (b : ℕ) → ¬ (IsFree map b) → ¬ (IsFree later b)
  not_free b nf free = nf (sym (others_stay map later blocks takes b nf) ∙ free)

  pub grows : in_flight_count later ≡ in_flight_count map + length blocks → GrowsInFree map d g later e h
  grows flying = record {
    apart = λ b here. (not_free b here.0, pending b (apart_these map later (unwritten_block g) blocks takes b here));
    flying = λ b is. ⊎_elim (λ was. inl was) (λ has. inr (subst (λ (l : List ℕ). Contains l b) (sym kept) (Contains-append_right (lasting_blocks d g) blocks b has))) (came map later blocks takes b is);
    front = ap (take (length (lasting_blocks d g))) kept ∙ take_at (lasting_blocks d g) blocks (length (lasting_blocks d g)) refl;
    fresh = subst (All (IsFree map)) (sym (ap (drop (length (lasting_blocks d g))) kept ∙ ap (λ n. drop n (lasting_blocks d g ++ blocks)) (let z : length (lasting_blocks d g) ≡ length (lasting_blocks d g) + 0 = omega arith in z) ∙ drop-append-add (lasting_blocks d g) blocks 0)) takes.free;
    count = omega (arith, flying, ap length kept, length-append (lasting_blocks d g) blocks);
  }

  flies : (b : ℕ) → IsInFlight map b → IsInFlight later b
  flies b is = others_stay map later blocks takes b (λ free. let both : Some Free ≡ Some InFlight = sym free ∙ is in cc) ∙ is

  pub marks : length e ≡ length d → HasBlocksTaken later e h
  marks count = record {
    count = takes.count ∙ marked.count ∙ sym count;
    kept = subst (All (λ b. ¬ (IsFree later b))) (sym kept)
        (All-append (λ b. ¬ (IsFree later b)) (lasting_blocks d g) blocks
        (λ k x l. not_free (get_or (lasting_blocks d g) k x) (marked.kept k x l))
        (λ k x l free. let both : Some Free ≡ Some InFlight = sym free ∙ takes.taken k x l in cc));
    pending = λ k x l. ⊎_elim
        (λ is. is)
        (λ nf.
        let p : ℕ = get_or (unwritten_block h) k x in
        absurd (pending p (All-append (λ b. b ≢ p) (unwritten_block g) blocks
        (λ i y m same. nf (subst (IsInFlight later) same (flies (get_or (unwritten_block g) i y) (marked.pending i y m))))
        (λ i y m same. nf (subst (IsInFlight later) same (takes.taken i y m)))) k x l refl))
        (cases_in_flight later (get_or (unwritten_block h) k x));
  }

-- what a push leaves alone
pub leaves_apart : {D : Type 0} (g : Ghosts D) (map later : BlockStates) (pending blocks : List ℕ) {old new : D} → TakesFreeBlocks map later blocks → ChangesTheseBlocks g (pending ++ blocks) old new → KeepsTakenBlocks g map pending old new
leaves_apart g map later pending blocks {old} {new} takes changes = record {
  spared = spares_by map later pending blocks (g.blocks old) (g.blocks new) takes changes.others;
  pages = pages_by map later pending blocks (g.history old) (g.history new) takes changes.elsewhere;
  geometry = changes.geometry;
  at_worst = stops_by map later pending blocks (g.blocks old) (g.history old) (g.history new) takes changes.at_worst;
}
