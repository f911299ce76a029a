-- Asking whether bytes are blank changes nothing.
use Rattle.std.proofs.Common.{ℕ, ◌≡◌, ◌≤◌, ◌+◌, List, true, inl, inr, refl, sym, ap, subst, arith}
use Rattle.lfs_device.specs.declared.device.BlockDevice.{Ghosts}
use Rattle.lfs_pair.proofs.Common.{ChangesTheseBlocks, Blocks, SameExceptBlocks, block_bytes, CallEvent, OthersStayUnprogrammed, HoldsAtLosses, blank_answer_count, erase_count, program_count, read_count, LeftByLoss, began, goes_on, goes_on_by, SameExcept-refl, SameExceptBlocks-refl, ContentChange, RawContent, Disk, address_blocks, AppendFits, IsEndUnprogrammed, LossLeavesNew, OnlyAsksBlank, DiffersInBlock}
use Rattle.lfs_model.specs.session.History.{LossLeavesAtWorst}
use Rattle.lfs_model.proofs.Histories.{OthersStayUnprogrammed-blank, OthersStayUnprogrammed-refl}
use Rattle.lfs_pair.specs.declared.pair.Pair.{Pair}

-- if the device wasn't asked, the same can be appended for any history
pub appends_until : {disk : Disk} {before after some more : List CallEvent} {pair : Pair} {changes : List ContentChange} → blank_answer_count after ≡ blank_answer_count before → AppendFits disk before after pair changes → AppendFits disk some more pair changes
appends_until {before = before} {after = after} {some = some} {more = more} {pair = pair} words can = record { known = known can.known; room = can.room }
  where
    known : IsEndUnprogrammed before after pair → IsEndUnprogrammed some more pair
    known (inl written) = inl written
    known (inr blank) = absurd (omega (arith, words, blank))

-- a fetched pair for which the device wasn't asked
pub unknown : {before after : List CallEvent} (pair : Pair) → pair.is_fetched ≡ true → after ≡ before → IsEndUnprogrammed before after pair → ⊥
unknown pair fetched same (inl written) = absurd (cc)
unknown pair fetched same (inr blank) = let is = ap blank_answer_count same in absurd (omega (arith, is, blank))

-- a disk that nothing was written to
pub left_alone : (old : Disk) (at : ℕ × ℕ) (new : RawContent) → LossLeavesNew old at new old.blocks
left_alone old at new = record {
  others = SameExceptBlocks-refl (address_blocks at) old.blocks;
  content = inl (record { content = refl; first = λ e begins. begins });
}

module _ {D : Type 0} (g : Ghosts D) where
  -- what was known before a program is known after it
  pub known_after : {old mid : D} (after : List CallEvent) (pair : Pair) → OnlyAsksBlank g old mid → blank_answer_count after ≡ blank_answer_count (g.history mid) → IsEndUnprogrammed (g.history old) (g.history mid) pair → IsEndUnprogrammed (g.history old) after pair
  known_after after pair asks same (inl written) = inl written
  known_after after pair asks same (inr blank) = inr (omega (arith, same, blank))

  pub asks_reads : {old new : D} → OnlyAsksBlank g old new → read_count (g.history new) ≡ read_count (g.history old)
  asks_reads asks = elim asks.asked [
    | inl same ↦ ap read_count same
    | inr says ↦ let here = ap read_count says.word in omega arith
  ]

  pub asks_erases : {old new : D} → OnlyAsksBlank g old new → erase_count (g.history new) ≡ erase_count (g.history old)
  asks_erases asks = elim asks.asked [
    | inl same ↦ ap erase_count same
    | inr says ↦ let here = ap erase_count says.word in omega arith
  ]

  pub asks_programs : {old new : D} → OnlyAsksBlank g old new → program_count (g.history new) ≡ program_count (g.history old)
  asks_programs asks = elim asks.asked [
    | inl same ↦ ap program_count same
    | inr says ↦ let here = ap program_count says.word in omega arith
  ]

  pub asks_stops : {old new : D} (P : Blocks → Type 0) → OnlyAsksBlank g old new → P (g.blocks old) → HoldsAtLosses LeftByLoss (g.history old) (g.history new) P
  asks_stops {old} P asks here = elim asks.asked [
    | inl same ↦ subst (λ h. HoldsAtLosses LeftByLoss (g.history old) h P) (sym same) began
    | inr says ↦ goes_on began says.word (λ disk left. subst P (sym left) here)
  ]

  asks_at_worst : {old new : D} (P : Blocks → Type 0) → OnlyAsksBlank g old new → P (g.blocks old) → HoldsAtLosses LossLeavesAtWorst (g.history old) (g.history new) P
  asks_at_worst {old} P asks here = elim asks.asked [
    | inl same ↦ subst (λ h. HoldsAtLosses LossLeavesAtWorst (g.history old) h P) (sym same) began
    | inr says ↦ goes_on began says.word (λ disk left. subst P (sym left) here)
  ]

  asks_elsewhere : {old new : D} (bs : List ℕ) → OnlyAsksBlank g old new → OthersStayUnprogrammed bs (g.history old) (g.history new)
  asks_elsewhere {old} bs asks = elim asks.asked [
    | inl same ↦ subst (OthersStayUnprogrammed bs (g.history old)) (sym same) (OthersStayUnprogrammed-refl bs (g.history old))
    | inr says ↦ OthersStayUnprogrammed-blank bs says.word
  ]

  pub asks_only : {old new : D} (bs : List ℕ) → OnlyAsksBlank g old new → ChangesTheseBlocks g bs old new
  asks_only {old} bs asks = record {
    others = subst (SameExceptBlocks bs (g.blocks old)) (sym asks.same) (SameExceptBlocks-refl bs (g.blocks old));
    elsewhere = asks_elsewhere bs asks;
    geometry = asks.geometry;
    at_worst = asks_at_worst (SameExceptBlocks bs (g.blocks old)) asks (SameExceptBlocks-refl bs (g.blocks old));
  }

  -- a program behind a question

  pub asks_then_stops : {old mid new : D} (block : ℕ) (P : List ℕ → List ℕ → Type 0) → ((bytes : List ℕ) → P bytes bytes) → OnlyAsksBlank g old mid
      → HoldsAtLosses LeftByLoss (g.history mid) (g.history new) (DiffersInBlock block P (g.blocks mid))
      → HoldsAtLosses LeftByLoss (g.history old) (g.history new) (DiffersInBlock block P (g.blocks old))
  asks_then_stops {old} {mid} {new} block P same asks stops =
      goes_on_by (asks_stops (DiffersInBlock block P (g.blocks old)) asks (SameExcept-refl block (g.blocks old), same (block_bytes (g.blocks old) block)))
      (subst (λ b. HoldsAtLosses LeftByLoss (g.history mid) (g.history new) (DiffersInBlock block P b)) asks.same stops)

  pub asks_then_few : {old mid : D} (n m : ℕ) → OnlyAsksBlank g old mid → n ≤ read_count (g.history mid) + m → n ≤ read_count (g.history old) + m
  asks_then_few n m asks few = let same = asks_reads asks in omega (arith, same, few)
