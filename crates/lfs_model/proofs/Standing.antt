-- What is on a device's disk after its last call, also after one that failed.
use Rattle.std.proofs.Common.{◌≡◌, ◌≢◌, Bool, true, false, List, [], ◌∷◌, ◌++◌, refl, sym, ap, subst, ◌∙◌}
use Rattle.lfs_model.proofs.Common.{append_cancel_right, All-head, Blocks, Disk, CallEvent, AllCalls, AllCallsSince, LeftByLatestCall, HoldsAtLosses, CallConforms, CallsConform, LeftByLoss, ErasesCleanly, FailLikeLossSince, Operation, FailsLikeLoss, IsHealthySession, HasEitherTree, SurvivesStoppedCalls, SurvivesPowerLoss, with_blocks, HealthyHasDiskTree, SystemState, Session, DiskSummary, operation_result, disk_tree, Pair, Tree}
use Rattle.lfs_model.specs.crash.Standing.{SameConformingDevice}
use Rattle.lfs_model.proofs.AfterStops.{left_before}
use Rattle.lfs_model.proofs.Kept.{one_tree}
use Rattle.lfs_model.proofs.Conformance.{conforming_stops}

-- ---- the newest call

-- where there was a call, the newest shows the blocks
pub same_blocks : (history : List CallEvent) (one other : Blocks) → history ≢ [] → LeftByLatestCall history one → LeftByLatestCall history other → one ≡ other
same_blocks [] one other called first second = absurd (called refl)
same_blocks (e ∷ older) one other called first second = sym (first e older refl) ∙ second e older refl

-- what all calls since have, the newest has
newest_has : {P : CallEvent → Type 0} {old new : List CallEvent} (e : CallEvent) (events : List CallEvent) → AllCallsSince P old new → new ≡ (e ∷ events) ++ old → P e
newest_has {P} {old} e events all is = (subst (AllCalls P) (append_cancel_right all.events (e ∷ events) old (sym all.extends ∙ is)) all.each).0

-- what a call left is among what a stop in it may leave, whether it failed or not
left_as_stopped : (e : CallEvent) → CallConforms e → ErasesCleanly e → FailsLikeLoss e → LeftByLoss e e.after
left_as_stopped e conforms clean fails = go e.failed refl
  where
    go : (failed : Bool) → e.failed ≡ failed → LeftByLoss e e.after
    go true is = fails is
    go false is = conforming_stops e conforms is clean

-- ---- what stands

-- What stops leave has P, and so has what stands where there was no call: what is after the last call has it, too.
pub stands : {P : Blocks → Type 0} {old new : List CallEvent} (last : Blocks) → (new ≡ old → P last) → LeftByLatestCall new last → CallsConform new
    → HoldsAtLosses LeftByLoss old new P → AllCallsSince ErasesCleanly old new → FailLikeLossSince old new → P last
stands {P} {old} {new} last untouched newest conforms since cleanly fails = go since.events since.extends since.each
  where
    go : (events : List CallEvent) → new ≡ events ++ old → AllCalls (λ e. (disk : Blocks) → LeftByLoss e disk → P disk) events → P last
    go [] same each = untouched same
    go (e ∷ events) same each =
        let done = All-head CallConforms e (events ++ old) (subst CallsConform same conforms) in
        let left = left_as_stopped e done (newest_has e events cleanly same) (newest_has e events fails same) in
        subst P (newest e (events ++ old) same) (each.0 e.after left)

-- the same of a device that had been called before, from what stood then
pub stands_since : {P : Blocks → Type 0} {old new : List CallEvent} (first last : Blocks) → old ≢ [] → LeftByLatestCall old first → LeftByLatestCall new last → CallsConform new
    → HoldsAtLosses LeftByLoss old new P → AllCallsSince ErasesCleanly old new → FailLikeLossSince old new → P first → P last
stands_since {P} {old} {new} first last called then now conforms since cleanly fails here =
    stands {P = P} {old = old} {new = new} last (λ same. subst P (same_blocks old first last called then (subst (λ (history : List CallEvent). LeftByLatestCall history last) same now)) here) now conforms since cleanly fails

-- ---- an operation

-- two states of a device that had been called before
pub one_device : (from to : SystemState) → from.calls ≢ [] → LeftByLatestCall from.calls from.disk.blocks → LeftByLatestCall to.calls to.disk.blocks → CallsConform to.calls
    → to.disk ≡ with_blocks to.disk.blocks from.disk → SameConformingDevice from to
one_device from to called then now conforms same = record {
  stays = λ silent. same ∙ ap (λ (blocks : Blocks). with_blocks blocks from.disk)
      (sym (same_blocks from.calls from.disk.blocks to.disk.blocks called then (subst (λ (history : List CallEvent). LeftByLatestCall history to.disk.blocks) silent now)));
  same = same;
  newest = now;
  conforms = conforms;
}

pub device_survives_loss : (from to : SystemState) (op : Operation) → HealthyHasDiskTree from.disk from.state → SameConformingDevice from to → SurvivesStoppedCalls from op to → SurvivesPowerLoss from op to
device_survives_loss from to op agrees device survives = record { stops = survives; stands = behind }
  where
    behind : (s : Session) (ps : List Pair) (around : DiskSummary) → IsHealthySession from s ps around
        → AllCallsSince ErasesCleanly from.calls to.calls → AllCallsSince FailsLikeLoss from.calls to.calls → HasEitherTree to.disk s.tree (operation_result around s op).1.tree
    behind s ps around work cleanly fails =
        let after : Tree = (operation_result around s op).1.tree in
        let tree = one_tree from.disk (disk_tree from.disk ps) s.tree (ps, (work.accepted, refl)) (subst (HealthyHasDiskTree from.disk) work.healthy agrees) in
        let here = left_before from.disk ps s.tree after work.accepted work.writable tree in
        subst (λ (disk : Disk). HasEitherTree disk s.tree after) (sym device.same)
        (stands {P = λ blocks. HasEitherTree (with_blocks blocks from.disk) s.tree after} to.disk.blocks
        (λ silent. subst (λ (disk : Disk). HasEitherTree disk s.tree after) (sym (device.stays silent) ∙ device.same) here)
        device.newest device.conforms (survives s ps around work cleanly) cleanly fails)
