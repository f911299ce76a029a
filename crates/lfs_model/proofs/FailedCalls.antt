-- After a failed call the device holds what a stop leaves.
use Rattle.std.proofs.Common.{◌≡◌, ◌<◌, List, [], ◌∷◌, ◌++◌, sym, ap, subst, arith}
use Rattle.lfs_model.proofs.Common.{Blocks, CallEvent, AllCalls, HoldsAtLosses, fault_count, LeftByLoss, FailsLikeLoss, FailLikeLossSince}
use Rattle.lfs_model.specs.crash.FailedCalls.{LeftByLatestLoss, LeftByFailure}

-- Where a call failed since, and the device holds what a stop in its newest call may leave, that is one of the disks which
-- a stop leaves.
pub left_now : {stops : CallEvent → Blocks → Type 0} {P : Blocks → Type 0} {old new : List CallEvent} (disk : Blocks) → HoldsAtLosses stops old new P → fault_count old < fault_count new → LeftByLatestLoss stops new disk → P disk
left_now {stops} {P} {old} {new} disk since failed left = go since.events since.extends since.each
  where
    go : (events : List CallEvent) → new ≡ events ++ old → AllCalls (λ e. (d : Blocks) → stops e d → P d) events → P disk
    go [] same each = absurd (let k = ap fault_count same in omega arith)
    go (x ∷ events) same each = each.0 disk (subst (λ (l : List CallEvent). LeftByLatestLoss stops l disk) same left)

-- a device whose newest call failed holds what that call left
pub left_by_newest : {old new : List CallEvent} (disk : Blocks) → FailLikeLossSince old new → fault_count old < fault_count new → LeftByFailure new disk → LeftByLatestLoss LeftByLoss new disk
left_by_newest {old} {new} disk since failed has = go since.events since.extends since.each
  where
    go : (events : List CallEvent) → new ≡ events ++ old → AllCalls FailsLikeLoss events → LeftByLatestLoss LeftByLoss new disk
    go [] same each = absurd (let k = ap fault_count same in omega arith)
    go (x ∷ events) same each =
        let here : LeftByFailure (x ∷ (events ++ old)) disk = subst (λ (l : List CallEvent). LeftByFailure l disk) same has in
        subst (λ (l : List CallEvent). LeftByLatestLoss LeftByLoss l disk) (sym same) (subst (LeftByLoss x) here.1 (each.0 here.0))

-- so it holds one of the disks that a stop leaves, where failed calls leave what stops in them may
pub left_by_failure : {P : Blocks → Type 0} {old new : List CallEvent} (disk : Blocks) → HoldsAtLosses LeftByLoss old new P → FailLikeLossSince old new → fault_count old < fault_count new → LeftByFailure new disk → P disk
left_by_failure disk since fails failed has = left_now disk since failed (left_by_newest disk fails failed has)
