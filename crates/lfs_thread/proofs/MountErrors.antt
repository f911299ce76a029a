-- The rule that a thread breaks.
use Rattle.std.proofs.Common.{ℕ, ◌≡◌, ◌≢◌, ◌⊎◌, inl, inr, ◌<◌, List, length, refl, sym, subst, ◌∙◌, set}
use Rattle.lfs_device.specs.declared.error.Error.{Error}
use Rattle.lfs_device.specs.declared.error.Error.TheVariants as error
use Rattle.lfs_thread.proofs.Common.{BlockStates, IsFree, IsUsedBlock, Used, Disk, Pair, slice_get-set_other, ThreadBeginsWith, IsThreadViolation}
use Rattle.lfs_model.specs.layers.Violations.{BreaksThread, HasBlock, InTwoPairs}
use Rattle.lfs_model.specs.declared.violations.Violation.{Violation}
use Rattle.lfs_thread.specs.MountErrors.{mount_error_for}

-- ---- an error below

abbrev pub IsReadingError : Error → Type 0
IsReadingError e = (e ≡ error.Corrupt) ⊎ (e ≡ error.NoMemory) ⊎ (e ≡ error.Io)

-- a violation is true if each `Corrupt` below means it
pub true_of : (disk : Disk) (e : Error) (v : Violation) → IsReadingError e → (e ≡ error.Corrupt → BreaksThread disk v) → IsThreadViolation disk (mount_error_for e v)
true_of disk e v (inl is) breaks = subst (λ x. IsThreadViolation disk (mount_error_for x v)) (sym is) (breaks is)
true_of disk e v (inr (inl is)) breaks = subst (λ x. IsThreadViolation disk (mount_error_for x v)) (sym is) tt
true_of disk e v (inr (inr is)) breaks = subst (λ x. IsThreadViolation disk (mount_error_for x v)) (sym is) tt

-- ---- a block of the pair isn't free

in_two : (disk : Disk) (sets : BlockStates) (before : List Pair) (at : ℕ × ℕ) (block : ℕ) → ThreadBeginsWith disk sets before at → HasBlock at block → block < length sets → ¬ IsFree sets block → InTwoPairs disk at block
in_two disk sets before at block is own below taken = record {
  before = before;
  begins = is.begins;
  own = own;
  earlier = (is.marked block).0 (side (is.others block below));
}
  where
    side : IsUsedBlock sets block ⊎ IsFree sets block → IsUsedBlock sets block
    side (inl used) = used
    side (inr free) = absurd (taken free)

-- the second block isn't free once the first one is marked
pub second_in_two : (disk : Disk) (sets : BlockStates) (before : List Pair) (at : ℕ × ℕ) → ThreadBeginsWith disk sets before at → at.0 ≢ at.1 → at.1 < length sets → ¬ IsFree (set sets at.0 Used) at.1 → InTwoPairs disk at at.1
second_in_two disk sets before at is apart below taken =
    in_two disk sets before at at.1 is (inr refl) below (λ free. taken (slice_get-set_other sets at.0 at.1 Used (λ e. apart (sym e)) ∙ free))
