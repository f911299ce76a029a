-- What a stop leaves: the disk before the call always, and what a whole call makes.
use Rattle.std.specs.Prelude.{ℕ, ◌≡◌, ◌+◌, ◌≤◌, ◌<◌, take, drop}
use Rattle.std.proofs.Common.{List, [], ◌++◌, length, inl, inr, refl, ap, ◌∙◌, arith, length-append}
use Rattle.lfs_model.proofs.Common.{length-set, length-take-le, length-drop, get_or-set_same, get_or-set_other, Blocks, block_bytes, overwritten_at, programmed, SameExcept, block_log, DeviceCall, Read, Program, Erase, Blank, power_loss_may_leave}

same_but_nothing : (b : ℕ) (blocks : Blocks) → SameExcept b blocks blocks
same_but_nothing b blocks = record { count = refl; size = refl; others = λ other d. refl }

pub stops_before : (call : DeviceCall) (before : Blocks) → power_loss_may_leave call before before
stops_before (Read block off len) before = refl
stops_before (Program block off bytes) before = (same_but_nothing block before, inl refl)
stops_before (Erase block) before = (same_but_nothing block before, inl refl)
stops_before (Blank block off len) before = refl

length_overwritten : (block : List ℕ) (off : ℕ) (bytes : List ℕ) → off + length bytes ≤ length block → length (overwritten_at block off bytes) ≡ length block
length_overwritten block off bytes fits =
    omega (arith, length-append (take off block ++ bytes) (drop (off + length bytes) block), length-append (take off block) bytes, length-take-le off block (omega arith), length-drop (off + length bytes) block)

pub stops_whole : (b off : ℕ) (bytes : List ℕ) (before : Blocks) → b < length before → off + length bytes ≤ length (block_bytes before b) →
    power_loss_may_leave (Program b off bytes) before (programmed before b off bytes)
stops_whole b off bytes before below fits = (
  record {
    count = length-set before b written;
    size = ap length is ∙ length_overwritten (block_bytes before b) off bytes fits;
    others = λ other d. get_or-set_other before b other written [] d;
  },
  inr (inl (ap block_log is)),
)
  where
    written : List ℕ
    written = overwritten_at (block_bytes before b) off bytes

    is : block_bytes (programmed before b off bytes) b ≡ written
    is = get_or-set_same before b written [] below
