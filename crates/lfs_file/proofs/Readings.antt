-- Reads in a row.
use Rattle.std.proofs.Common.{◌≡◌, ℕ, List, refl, sym, subst}
use Rattle.lfs_file.proofs.Common.{Blocks, SameExcept, CallEvent, LossLeavesAtWorst, HoldsAtLosses, HoldsAtLosses-read_count, LossLeavesAtWorst-read, SameExcept-refl, goes_on_by, AllCallsSince-weaker}
use Rattle.lfs_model.specs.session.History.{OnlyReadsSince}

pub reads_on : (disk same : Blocks) (old mid new : List CallEvent) → same ≡ disk → OnlyReadsSince disk old mid → OnlyReadsSince same mid new → OnlyReadsSince disk old new
reads_on disk same old mid new e first second = goes_on_by first (subst (λ d. OnlyReadsSince d mid new) e second)

-- a stop among reads leaves a block's disk as it is
pub reads_stop : (disk : Blocks) (block : ℕ) (old mid : List CallEvent) → OnlyReadsSince disk old mid → HoldsAtLosses LossLeavesAtWorst old mid (SameExcept block disk)
reads_stop disk block old mid since = AllCallsSince-weaker (λ e from left stop. subst (SameExcept block disk) (sym (from left stop)) (SameExcept-refl block disk)) (HoldsAtLosses-read_count {P = λ left. left ≡ disk} LossLeavesAtWorst-read since refl)
