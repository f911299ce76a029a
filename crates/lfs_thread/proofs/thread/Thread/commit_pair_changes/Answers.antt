use Rattle.std.proofs.Common.{◌≡◌, false, Result, Ok, Err, ◌+◌, refl, sym, ap, ap₂, subst, ◌∙◌, inl, inr, set}
use Rattle.lfs_thread.proofs.Common.{disk_of_blocks, changes_view, HoldsAtLosses-weaker, CleanLossLeaves, ThreadView, disk_of_device, kept_in_order, kept_of_device, cached_log, reads_unless_cached, CanChangePair, ThreadReportsErrors, IsPairCommitted, LossLeavesPair, RefusesChanges, ChangesWithinReads, thread_pair, address_blocks}
use Rattle.lfs_thread.proofs.Changing.{at_there, can_commit, device_kept, device_changed, ok_outcome, full_kept, refused, left_in_thread}
use Rattle.lfs_thread.proofs.CachedPair.{reading_there}
use Rattle.lfs_thread.proofs.InOrder.{can_change, changed_in, left_changed_in, refused_in}
use Rattle.lfs_thread.proofs.Reported.{reported_from, reading_from, reports_of}
use Rattle.lfs_thread.proofs.thread.Thread.commit_pair_changes.Goals as goal
use Rattle.std.specs.Prelude.{OnOk, is_err}
use Rattle.lfs_device.specs.declared.error.Error.{Error}

pub commit_cached-outcome-requires : goal.commit_cached-outcome-requires
commit_cached-outcome-requires g c = record {
  can =
      let works = ap (λ (v : ThreadView). v.failed) c.self.view_is ∙ c.requires.works in
      let can = can_change c.self.inside.parts.order (kept_of_device g.D.BlockDevice c.self.inside.parts.device c.self.inside.parts.pairs.items c.self.inside.parts.map) c.args.index (changes_view c.args.changes.now) (subst (λ (v : ThreadView). CanChangePair v.kept c.args.index (changes_view c.args.changes.now)) (sym c.self.view_is) c.requires.can) in
      let a = at_there (disk_of_device g.D.BlockDevice c.self.inside.parts.device) c.self.inside.parts.pairs.items c.args.index c.index_mut-pair.result.now can.below c.index_mut-pair.ensures.value in
      can_commit _ _ c.self.inside.parts.pairs.items c.self.inside.parts.map c.args.index c.index_mut-pair.result.now _ a (c.self.invariant works).0 can.content can.made;
  current = let works = ap (λ (v : ThreadView). v.failed) c.self.view_is ∙ c.requires.works in (c.self.invariant works).1;
}

held_at_ok : {X : Type 0} (r : Result X Error) {P : Type 0} → is_err r ≡ false → OnOk r P → P
held_at_ok (Ok x) none holds = holds
held_at_ok (Err e) none holds = absurd (cc)

pub invariant_of-self : goal.invariant_of-self
invariant_of-self g c ok =
    let works = ap (λ (v : ThreadView). v.failed) c.self.view_is ∙ c.requires.works in
    let can = can_change c.self.inside.parts.order (kept_of_device g.D.BlockDevice c.self.inside.parts.device c.self.inside.parts.pairs.items c.self.inside.parts.map) c.args.index (changes_view c.args.changes.now) (subst (λ (v : ThreadView). CanChangePair v.kept c.args.index (changes_view c.args.changes.now)) (sym c.self.view_is) c.requires.can) in
    let a = at_there (disk_of_device g.D.BlockDevice c.self.inside.parts.device) c.self.inside.parts.pairs.items c.args.index c.index_mut-pair.result.now can.below c.index_mut-pair.ensures.value in
    let e = c.commit_cached-outcome.ensures in (
      elim (ok_outcome c.commit_cached-outcome.result (sym c.is_err-self-inside.ensures.value ∙ ok)) [
        | inl done ↦ device_kept _ _ _ _ _ _ _ _ _ _ _ _ e.device.only.geometry a (c.self.invariant works).0 can (e.ends.done done) e.device.only.others e.device.only.elsewhere
        | inr full ↦ full_kept _ _ _ _ _ _ _ _ _ a (c.self.invariant works).0 (ap₂ disk_of_blocks (e.ends.full full).device.geometry (e.ends.full full).device.same) (e.ends.full full).pair (e.ends.full full).device.reads
      ],
      held_at_ok _ (sym c.is_err-self-inside.ensures.value ∙ ok) e.ends.current,
    )

pub returns-clause-done : goal.returns-clause-done
returns-clause-done g c done =
    let works = ap (λ (v : ThreadView). v.failed) c.self.view_is ∙ c.requires.works in
    let can = can_change c.self.inside.parts.order (kept_of_device g.D.BlockDevice c.self.inside.parts.device c.self.inside.parts.pairs.items c.self.inside.parts.map) c.args.index (changes_view c.args.changes.now) (subst (λ (v : ThreadView). CanChangePair v.kept c.args.index (changes_view c.args.changes.now)) (sym c.self.view_is) c.requires.can) in
    let a = at_there (disk_of_device g.D.BlockDevice c.self.inside.parts.device) c.self.inside.parts.pairs.items c.args.index c.index_mut-pair.result.now can.below c.index_mut-pair.ensures.value in
    let e = c.commit_cached-outcome.ensures in
    subst (λ (v : ThreadView). IsPairCommitted v.kept c.args.index (changes_view c.args.changes.now) (kept_in_order g.D.BlockDevice c.self.inside.parts.order c.commit_cached-outcome.new.dev (set c.self.inside.parts.pairs.items c.args.index c.commit_cached-outcome.new.pair) c.self.inside.parts.map)) c.self.view_is
    (changed_in c.self.inside.parts.order (kept_of_device g.D.BlockDevice c.self.inside.parts.device c.self.inside.parts.pairs.items c.self.inside.parts.map)
    (kept_of_device g.D.BlockDevice c.commit_cached-outcome.new.dev (set c.self.inside.parts.pairs.items c.args.index c.commit_cached-outcome.new.pair) c.self.inside.parts.map) c.args.index (changes_view c.args.changes.now)
    (device_changed _ _ _ _ _ _ c.self.inside.parts.pairs.items _ c.args.index _ _ _ e.device.only.geometry a (c.self.invariant works).0 can (e.ends.done done) e.device.only.others e.device.only.elsewhere))

pub returns-clause-full : goal.returns-clause-full
returns-clause-full g c full =
    let can = can_change c.self.inside.parts.order (kept_of_device g.D.BlockDevice c.self.inside.parts.device c.self.inside.parts.pairs.items c.self.inside.parts.map) c.args.index (changes_view c.args.changes.now) (subst (λ (v : ThreadView). CanChangePair v.kept c.args.index (changes_view c.args.changes.now)) (sym c.self.view_is) c.requires.can) in
    let a = at_there (disk_of_device g.D.BlockDevice c.self.inside.parts.device) c.self.inside.parts.pairs.items c.args.index c.index_mut-pair.result.now can.below c.index_mut-pair.ensures.value in
    let e = c.commit_cached-outcome.ensures in
    subst (λ (v : ThreadView). RefusesChanges v.kept c.args.index (changes_view c.args.changes.now) (kept_in_order g.D.BlockDevice c.self.inside.parts.order c.commit_cached-outcome.new.dev (set c.self.inside.parts.pairs.items c.args.index c.commit_cached-outcome.new.pair) c.self.inside.parts.map)) c.self.view_is
    (refused_in c.self.inside.parts.order (kept_of_device g.D.BlockDevice c.self.inside.parts.device c.self.inside.parts.pairs.items c.self.inside.parts.map)
    (kept_of_device g.D.BlockDevice c.commit_cached-outcome.new.dev (set c.self.inside.parts.pairs.items c.args.index c.commit_cached-outcome.new.pair) c.self.inside.parts.map) c.args.index (changes_view c.args.changes.now)
    (refused _ _ _ _ c.self.inside.parts.pairs.items _ c.args.index _ _ _ can.content a can.made (e.ends.full full).completed (ap₂ disk_of_blocks (e.ends.full full).device.geometry (e.ends.full full).device.same) (e.ends.full full).pair (e.ends.full full).device.reads))

pub returns-clause-errors : goal.returns-clause-errors
returns-clause-errors g c =
    subst (λ (v : ThreadView). ThreadReportsErrors v.kept (kept_in_order g.D.BlockDevice c.self.inside.parts.order c.commit_cached-outcome.new.dev (set c.self.inside.parts.pairs.items c.args.index c.commit_cached-outcome.new.pair) c.self.inside.parts.map) c.commit_cached-outcome.result) c.self.view_is
    (reported_from g.D.BlockDevice c.self.inside.parts.order c.self.inside.parts.device c.commit_cached-outcome.new.dev c.self.inside.parts.pairs.items (set c.self.inside.parts.pairs.items c.args.index c.commit_cached-outcome.new.pair) c.self.inside.parts.map c.self.inside.parts.map c.commit_cached-outcome.result
    (reports_of c.index_mut-pair.result.now c.commit_cached-outcome.new.pair c.commit_cached-outcome.ensures.error c.commit_cached-outcome.ensures.faults))

pub returns-clause-device : goal.returns-clause-device
returns-clause-device g c =
    let works = ap (λ (v : ThreadView). v.failed) c.self.view_is ∙ c.requires.works in
    let can = can_change c.self.inside.parts.order (kept_of_device g.D.BlockDevice c.self.inside.parts.device c.self.inside.parts.pairs.items c.self.inside.parts.map) c.args.index (changes_view c.args.changes.now) (subst (λ (v : ThreadView). CanChangePair v.kept c.args.index (changes_view c.args.changes.now)) (sym c.self.view_is) c.requires.can) in
    let disk = disk_of_device g.D.BlockDevice c.self.inside.parts.device in
    let a = at_there disk c.self.inside.parts.pairs.items c.args.index c.index_mut-pair.result.now can.below c.index_mut-pair.ensures.value in
    let new = c.commit_cached-outcome.new in
    let reading = reading_there disk (g.D.BlockDevice.history c.self.inside.parts.device) c.self.inside.parts.pairs.items c.self.inside.parts.map c.args.index c.index_mut-pair.result.now a (c.self.invariant works).0
    g.D.BlockDevice c.self.inside.parts.device new.dev address_blocks 1 c.self.inside.parts.cache refl c.commit_cached-outcome.ensures.device in
    subst (λ (v : ThreadView). ChangesWithinReads (1 + reads_unless_cached (cached_log v c.args.index)) (address_blocks (thread_pair v.kept c.args.index).at) v.kept (kept_in_order g.D.BlockDevice c.self.inside.parts.order new.dev (set c.self.inside.parts.pairs.items c.args.index new.pair) c.self.inside.parts.map)) c.self.view_is
    (reading_from g.D.BlockDevice c.self.inside.parts.order c.self.inside.parts.device new.dev c.self.inside.parts.pairs.items (set c.self.inside.parts.pairs.items c.args.index new.pair) c.self.inside.parts.map c.self.inside.parts.map _ reading)

pub returns-clause-stops : goal.returns-clause-stops
returns-clause-stops g c cleanly =
    let works = ap (λ (v : ThreadView). v.failed) c.self.view_is ∙ c.requires.works in
    let can = can_change c.self.inside.parts.order (kept_of_device g.D.BlockDevice c.self.inside.parts.device c.self.inside.parts.pairs.items c.self.inside.parts.map) c.args.index (changes_view c.args.changes.now) (subst (λ (v : ThreadView). CanChangePair v.kept c.args.index (changes_view c.args.changes.now)) (sym c.self.view_is) c.requires.can) in
    let a = at_there (disk_of_device g.D.BlockDevice c.self.inside.parts.device) c.self.inside.parts.pairs.items c.args.index c.index_mut-pair.result.now can.below c.index_mut-pair.ensures.value in
    subst (λ (v : ThreadView). CleanLossLeaves v.kept.history (g.D.BlockDevice.history c.commit_cached-outcome.new.dev) (LossLeavesPair v.kept c.args.index (changes_view c.args.changes.now))) c.self.view_is
    (λ clean. HoldsAtLosses-weaker (λ left l. left_changed_in c.self.inside.parts.order (kept_of_device g.D.BlockDevice c.self.inside.parts.device c.self.inside.parts.pairs.items c.self.inside.parts.map) c.args.index (changes_view c.args.changes.now) left
    (left_in_thread _ _ c.self.inside.parts.pairs.items c.self.inside.parts.map c.args.index _ _ left a (c.self.invariant works).0 can.content can.made l)) (c.commit_cached-outcome.ensures.stops clean))
    cleanly
