-- The effect of calls of a device in a row.
use Rattle.std.proofs.Common.{arith, ap, inl, inr, Err, ℕ, ◌≡◌, ◌≤◌, ◌+◌, ◌⊎◌, Bool, List, [], ◌∷◌, refl, sym, ◌∙◌, subst}
use Rattle.lfs_device.specs.declared.device.BlockDevice.{Ghosts}
use Rattle.lfs_pair.proofs.Common.{ReadsOnly, ChangesTheseBlocks, Blocks, SameExcept, SameExceptBlocks, CallEvent, Erase, call_event, read_count, began, goes_on, goes_on_by, HoldsAtLosses-read_count, HoldsAtLosses-weaker, OthersStayUnprogrammed-wider, SameExcept-refl, SameExcept-trans, SameExceptBlocks-refl, SameExceptBlocks-trans, SameExceptBlocks-wider, ChangesReadingFew, address_blocks}
use Rattle.lfs_device.specs.DeviceCalls.{ChangesOneBlock}
use Rattle.std.specs.Prelude.{All, ◌≢◌, IsErrOf}
use Rattle.lfs_device.specs.declared.error.Error.{Error}
use Rattle.lfs_device.specs.declared.error.Error.TheVariants.{Io, NoMemory}
use Rattle.lfs_model.specs.session.History.{Read, Program}
use Rattle.lfs_model.proofs.Histories.{LossLeavesAtWorst-read, OnlyReadsSince-read, OnlyReadsSince-trans, OthersStayUnprogrammed-erase, OthersStayUnprogrammed-program, OthersStayUnprogrammed-read_count, OthersStayUnprogrammed-trans}
use Rattle.lfs_pair.proofs.Changed.{stays_outside}
use Rattle.lfs_pair.proofs.TwoBlocks.{outside_one}

-- ---- reads

pub reads_one : {D : Type 0} {g : Ghosts D} {old new : D} {block off len : ℕ} {failed : Bool} → g.blocks new ≡ g.blocks old → g.geometry new ≡ g.geometry old
    → g.history new ≡ call_event (Read block off len) (g.blocks old) (g.blocks new) failed ∷ g.history old → ReadsOnly g old new
reads_one same geometry is = record { same = same; geometry = geometry; reads = OnlyReadsSince-read began is refl same }

pub reads_trans : {D : Type 0} {g : Ghosts D} {old mid new : D} → ReadsOnly g old mid → ReadsOnly g mid new → ReadsOnly g old new
reads_trans first second = record {
  same = second.same ∙ first.same;
  geometry = second.geometry ∙ first.geometry;
  reads = OnlyReadsSince-trans first.reads second.reads first.same;
}

-- ---- one block

pub block_by_reads : {D : Type 0} {g : Ghosts D} {b : ℕ} {old new : D} → ReadsOnly g old new → ChangesOneBlock g b old new
block_by_reads {g = g} {b = b} {old = old} read_count = record {
  others = subst (SameExcept b (g.blocks old)) (sym read_count.same) (SameExcept-refl b (g.blocks old));
  elsewhere = OthersStayUnprogrammed-read_count (b ∷ []) read_count.reads;
  geometry = read_count.geometry;
  at_worst = HoldsAtLosses-read_count LossLeavesAtWorst-read read_count.reads (SameExcept-refl b (g.blocks old));
}

pub block_by_erase : {D : Type 0} {g : Ghosts D} {b : ℕ} {old new : D} {failed : Bool} → SameExcept b (g.blocks old) (g.blocks new) → g.geometry new ≡ g.geometry old
    → g.history new ≡ call_event (Erase b) (g.blocks old) (g.blocks new) failed ∷ g.history old → ChangesOneBlock g b old new
block_by_erase same geometry is = record {
  others = same;
  elsewhere = OthersStayUnprogrammed-erase is;
  geometry = geometry;
  at_worst = goes_on began is (λ disk left. left);
}

pub block_by_program : {D : Type 0} {g : Ghosts D} {b off : ℕ} {bytes : List ℕ} {old new : D} {failed : Bool} → SameExcept b (g.blocks old) (g.blocks new) → g.geometry new ≡ g.geometry old
    → g.history new ≡ call_event (Program b off bytes) (g.blocks old) (g.blocks new) failed ∷ g.history old → ChangesOneBlock g b old new
block_by_program same geometry is = record {
  others = same;
  elsewhere = OthersStayUnprogrammed-program is;
  geometry = geometry;
  at_worst = goes_on began is (λ disk left. left);
}

pub block_trans : {D : Type 0} {g : Ghosts D} {b : ℕ} {old mid new : D} → ChangesOneBlock g b old mid → ChangesOneBlock g b mid new → ChangesOneBlock g b old new
block_trans first second = record {
  others = SameExcept-trans first.others second.others;
  elsewhere = OthersStayUnprogrammed-trans first.elsewhere second.elsewhere;
  geometry = second.geometry ∙ first.geometry;
  at_worst = goes_on_by first.at_worst (HoldsAtLosses-weaker (λ disk left. SameExcept-trans first.others left) second.at_worst);
}

-- ---- several blocks

pub only_by_reads : {D : Type 0} {g : Ghosts D} {bs : List ℕ} {old new : D} → ReadsOnly g old new → ChangesTheseBlocks g bs old new
only_by_reads {g = g} {bs = bs} {old = old} read_count = record {
  others = subst (SameExceptBlocks bs (g.blocks old)) (sym read_count.same) (SameExceptBlocks-refl bs (g.blocks old));
  elsewhere = OthersStayUnprogrammed-read_count bs read_count.reads;
  geometry = read_count.geometry;
  at_worst = HoldsAtLosses-read_count LossLeavesAtWorst-read read_count.reads (SameExceptBlocks-refl bs (g.blocks old));
}

pub only_trans : {D : Type 0} {g : Ghosts D} {bs : List ℕ} {old mid new : D} → ChangesTheseBlocks g bs old mid → ChangesTheseBlocks g bs mid new → ChangesTheseBlocks g bs old new
only_trans first second = record {
  others = SameExceptBlocks-trans first.others second.others;
  elsewhere = OthersStayUnprogrammed-trans first.elsewhere second.elsewhere;
  geometry = second.geometry ∙ first.geometry;
  at_worst = goes_on_by first.at_worst (HoldsAtLosses-weaker (λ disk left. SameExceptBlocks-trans first.others left) second.at_worst);
}

pub only_wider : {D : Type 0} {g : Ghosts D} {bs : List ℕ} (cs : List ℕ) {old new : D} → ((other : ℕ) → All (λ c. c ≢ other) cs → All (λ c. c ≢ other) bs) → ChangesTheseBlocks g bs old new → ChangesTheseBlocks g cs old new
only_wider cs among only = record {
  others = SameExceptBlocks-wider cs among only.others;
  elsewhere = OthersStayUnprogrammed-wider cs among only.elsewhere;
  geometry = only.geometry;
  at_worst = HoldsAtLosses-weaker (λ disk left. SameExceptBlocks-wider cs among left) only.at_worst;
}

-- one block of a pair
pub only_block : {D : Type 0} {g : Ghosts D} {b : ℕ} {old new : D} (at : ℕ × ℕ) → (b ≡ at.0) ⊎ (b ≡ at.1) → ChangesOneBlock g b old new → ChangesTheseBlocks g (address_blocks at) old new
only_block {b = b} at is block = record {
  others = outside_one at b _ _ is block.others;
  elsewhere = stays_outside at b _ _ is block.elsewhere;
  geometry = block.geometry;
  at_worst = HoldsAtLosses-weaker (λ disk left. outside_one at b _ disk is left) block.at_worst;
}

-- ---- with how often the device is read

pub reading_trans : {D : Type 0} {g : Ghosts D} {n m : ℕ} {bs : List ℕ} {old mid new : D} → ChangesReadingFew g n bs old mid → ChangesReadingFew g m bs mid new → ChangesReadingFew g (n + m) bs old new
reading_trans first second = record {
  only = only_trans first.only second.only;
  few = let a = first.few in let b = second.few in omega (arith, a, b);
}

-- one read, if more are allowed
pub reading_by_read : {D : Type 0} {g : Ghosts D} {n : ℕ} {bs : List ℕ} {old new : D} → ReadsOnly g old new → read_count (g.history new) ≤ read_count (g.history old) + 1 → 1 ≤ n → ChangesReadingFew g n bs old new
reading_by_read read few some = record { only = only_by_reads read; few = omega (arith, few, some) }

-- one read
pub few_by_read : {old new : List CallEvent} {before after : Blocks} {b off len : ℕ} {failed : Bool} → new ≡ call_event (Read b off len) before after failed ∷ old → read_count new ≤ read_count old + 1
few_by_read is = let read = ap read_count is in omega (arith, read)

-- one read that failed, or none for want of memory
pub few_at_error : {X : Type 0} {e : Error} {old new : List CallEvent} {before after : Blocks} {b off len : ℕ} {failed : Bool} → (e ≡ Io) ⊎ (e ≡ NoMemory)
    → (IsErrOf {T = X} (Err e) Io → new ≡ call_event (Read b off len) before after failed ∷ old) → (IsErrOf {T = X} (Err e) NoMemory → new ≡ old) → read_count new ≤ read_count old + 1
few_at_error (inl is) io memory = few_by_read (io (ap Err is))
few_at_error (inr is) io memory = let same = ap read_count (memory (ap Err is)) in omega (arith, same)
