-- What successful calls of a device do.
use Rattle.std.specs.Prelude.{ℕ, ◌≡◌, false, List, All}
use Rattle.lfs_model.specs.format.Blocks.{SameExcept, programmed}
use Rattle.lfs_model.specs.session.History.{Read, Program, Erase, Blank, CallEvent}

-- The call failed, or it conforms. A read or a blank check leaves all blocks as they were. A
-- program writes its bytes at its offset. Neither a program nor an erase changes another block.
pub record CallConforms (e : CallEvent) : Type 0 where
  pub reads : (block off len : ℕ) → e.call ≡ Read block off len → e.failed ≡ false → e.after ≡ e.before
  pub programs : (block off : ℕ) (bytes : List ℕ) → e.call ≡ Program block off bytes → e.failed ≡ false → e.after ≡ programmed e.before block off bytes
  pub others : (block off : ℕ) (bytes : List ℕ) → e.call ≡ Program block off bytes → e.failed ≡ false → SameExcept block e.before e.after
  pub erases : (block : ℕ) → e.call ≡ Erase block → e.failed ≡ false → SameExcept block e.before e.after
  pub blanks : (block off len : ℕ) → e.call ≡ Blank block off len → e.failed ≡ false → e.after ≡ e.before

-- All calls of the history conform.
abbrev pub CallsConform : List CallEvent → Type 0
CallsConform history = All CallConforms history
