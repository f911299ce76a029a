-- Used blocks aren't written by a draft.
use Rattle.std.proofs.Common.{ℕ, ◌≡◌, List, Some, refl, sym, ◌∙◌, subst}
use Rattle.lfs_file.proofs.Common.{Blocks, SameExceptBlocks, BlockStates, IsInFlight, IsUsedBlock, Free, InFlight, Used, CallEvent, LossLeavesAtWorst, HoldsAtLosses, OthersStayUnprogrammed, AllCallsSince-weaker, goes_on_by, GrowingList, unwritten_block, IsTakenNotPending, HasBlocksTaken, KeepsTakenBytes, TakenStayUnprogrammed, KeepsUsedBlocks, KeepsUsedBytes, ReleasesInFlight, ChangesOnlyFree}
use Rattle.lfs_file.specs.Hand.{UsedStayUnprogrammed}

module _ (map : BlockStates) (at : Blocks) (g : GrowingList) (marked : HasBlocksTaken map at g) where
  used_apart : (b : ℕ) → IsUsedBlock map b → IsTakenNotPending map (unwritten_block g) b
  used_apart b used = (
    λ free. let both : Some Free ≡ Some Used = sym free ∙ used in cc,
    λ k x l same. let both : Some InFlight ≡ Some Used = sym (subst (IsInFlight map) same (marked.pending k x l)) ∙ used in cc,
  )

  pub to_used : (d e : Blocks) → KeepsTakenBytes map (unwritten_block g) d e → KeepsUsedBytes map d e
  to_used d e spares = record { count = spares.count; sizes = spares.sizes; same = λ b used. spares.same b (used_apart b used) }

  pub to_used_pages : (a b : List CallEvent) → TakenStayUnprogrammed map (unwritten_block g) a b → UsedStayUnprogrammed map a b
  to_used_pages a b spares = record { stays = λ k i used was. spares.stays k i (used_apart k used) was }

  pub to_used_stops : (d : Blocks) (a b : List CallEvent) → HoldsAtLosses LossLeavesAtWorst a b (KeepsTakenBytes map (unwritten_block g) d) → HoldsAtLosses LossLeavesAtWorst a b (KeepsUsedBytes map d)
  to_used_stops d a b leaves = AllCallsSince-weaker (λ e all left stop. to_used d left (all left stop)) leaves

-- ---- the end writes the block that waited

pub spares_end : (map : BlockStates) (pending : List ℕ) (e f : Blocks) → SameExceptBlocks pending e f → KeepsTakenBytes map pending e f
spares_end map pending e f same = record { count = same.count; sizes = same.sizes; same = λ b apart. same.others b apart.1 }

pub pages_end : (map : BlockStates) (pending : List ℕ) (a b : List CallEvent) → OthersStayUnprogrammed pending a b → TakenStayUnprogrammed map pending a b
pages_end map pending a b stay = record { stays = λ k i apart was. stay.stays k i apart.1 was }

pub stops_end : (map : BlockStates) (pending : List ℕ) (e : Blocks) (a b : List CallEvent) → HoldsAtLosses LossLeavesAtWorst a b (SameExceptBlocks pending e) → HoldsAtLosses LossLeavesAtWorst a b (KeepsTakenBytes map pending e)
stops_end map pending e a b leaves = AllCallsSince-weaker (λ v all left stop. spares_end map pending e left (all left stop)) leaves

-- ---- one stretch after another

pub KeepsUsedBlocks-refl : (map : BlockStates) → KeepsUsedBlocks map map
KeepsUsedBlocks-refl map = record { count = refl; used = refl; stays = λ b used. used }

pub KeepsUsedBlocks-trans : {a b c : BlockStates} → KeepsUsedBlocks a b → KeepsUsedBlocks b c → KeepsUsedBlocks a c
KeepsUsedBlocks-trans first second = record { count = second.count ∙ first.count; used = second.used ∙ first.used; stays = λ k used. second.stays k (first.stays k used) }

pub KeepsUsedBytes-refl : (map : BlockStates) (d : Blocks) → KeepsUsedBytes map d d
KeepsUsedBytes-refl map d = record { count = refl; sizes = λ b. refl; same = λ b used. refl }

pub KeepsUsedBytes-trans : (map later : BlockStates) (d e f : Blocks) → KeepsUsedBlocks map later → KeepsUsedBytes map d e → KeepsUsedBytes later e f → KeepsUsedBytes map d f
KeepsUsedBytes-trans map later d e f keeps first second = record {
  count = second.count ∙ first.count;
  sizes = λ k. second.sizes k ∙ first.sizes k;
  same = λ k used. second.same k (keeps.stays k used) ∙ first.same k used;
}

pub UsedStayUnprogrammed-trans : (map later : BlockStates) (a b c : List CallEvent) → KeepsUsedBlocks map later → UsedStayUnprogrammed map a b → UsedStayUnprogrammed later b c → UsedStayUnprogrammed map a c
UsedStayUnprogrammed-trans map later a b c keeps first second = record { stays = λ k i used was. second.stays k i (keeps.stays k used) (first.stays k i used was) }

pub used_stops_trans : (map later : BlockStates) (d e : Blocks) (a b c : List CallEvent) → KeepsUsedBlocks map later → HoldsAtLosses LossLeavesAtWorst a b (KeepsUsedBytes map d) → KeepsUsedBytes map d e → HoldsAtLosses LossLeavesAtWorst b c (KeepsUsedBytes later e) → HoldsAtLosses LossLeavesAtWorst a c (KeepsUsedBytes map d)
used_stops_trans map later d e a b c keeps first between second = goes_on_by first (AllCallsSince-weaker (λ v all left stop. KeepsUsedBytes-trans map later d e left keeps between (all left stop)) second)

-- where only free blocks change their state
pub keeps_used : {old new : BlockStates} → ChangesOnlyFree old new → KeepsUsedBlocks old new
keeps_used keeps = record {
  count = keeps.count;
  used = keeps.used;
  stays = λ k used. keeps.states k (λ free. let both : Some Free ≡ Some Used = sym free ∙ used in cc) ∙ used;
}

-- where blocks are taken out of flight
pub after_release : {old new : BlockStates} {bs : List ℕ} → ReleasesInFlight old new bs → KeepsUsedBlocks old new
after_release released = record { count = released.count; used = released.used; stays = released.stays }
