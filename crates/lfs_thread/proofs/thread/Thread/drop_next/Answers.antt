use Rattle.std.proofs.Common.{subst₂, ◌+◌, ◌∙◌, subst, sym}
use Rattle.lfs_model.specs.declared.order.NameOrder.{NameOrder}
use Rattle.lfs_thread.proofs.Common.{changes_view, CleanLossLeaves, ThreadView, kept_in_order, kept_of_device, cached_log, reads_unless_cached, ThreadReportsErrors, LossLeavesPair, ChangesWithinReads, thread_pair, CanDropNext, IsNextDropped, RefusesChanges, address_blocks}
use Rattle.lfs_thread.proofs.InOrder.{at_ok, can_drop, dropped_in, left_changed_in, refused_in, stops_in}
use Rattle.lfs_thread.proofs.Reported.{reported_from, reading_from}
use Rattle.lfs_thread.proofs.thread.Thread.drop_next.Goals as goal

pub drop_next_pair-outcome-requires-clause-can : goal.drop_next_pair-outcome-requires-clause-can
drop_next_pair-outcome-requires-clause-can g c =
    can_drop c.self.inside.parts.order (kept_of_device g.D.BlockDevice c.self.inside.parts.device c.self.inside.parts.pairs.items c.self.inside.parts.map) c.args.index (changes_view c.args.changes.now)
    (subst (λ (v : ThreadView). CanDropNext v.kept c.args.index (changes_view c.args.changes.now)) (sym c.self.view_is) c.requires.can)

pub invariant_of-self : goal.invariant_of-self
invariant_of-self g c ok =
    let e = c.drop_next_pair-outcome.ensures in
    (at_ok c.drop_next_pair-outcome.result e.parts.kept (sym c.is_err-self-inside.ensures.value ∙ ok), at_ok c.drop_next_pair-outcome.result e.parts.current (sym c.is_err-self-inside.ensures.value ∙ ok))

pub returns-clause-done : goal.returns-clause-done
returns-clause-done g c done =
    subst₂ (λ (v : ThreadView) (order : NameOrder). IsNextDropped v.kept c.args.index (changes_view c.args.changes.now) (kept_in_order g.D.BlockDevice order c.drop_next_pair-outcome.new.parts.device c.drop_next_pair-outcome.new.parts.pairs.items c.drop_next_pair-outcome.new.parts.map)) c.self.view_is (sym c.drop_next_pair-outcome.ensures.parts.order)
    (dropped_in c.self.inside.parts.order (kept_of_device g.D.BlockDevice c.self.inside.parts.device c.self.inside.parts.pairs.items c.self.inside.parts.map) (kept_of_device g.D.BlockDevice c.drop_next_pair-outcome.new.parts.device c.drop_next_pair-outcome.new.parts.pairs.items c.drop_next_pair-outcome.new.parts.map) c.args.index (changes_view c.args.changes.now) (c.drop_next_pair-outcome.ensures.ends.done done))

pub returns-clause-full : goal.returns-clause-full
returns-clause-full g c full =
    subst₂ (λ (v : ThreadView) (order : NameOrder). RefusesChanges v.kept c.args.index (changes_view c.args.changes.now) (kept_in_order g.D.BlockDevice order c.drop_next_pair-outcome.new.parts.device c.drop_next_pair-outcome.new.parts.pairs.items c.drop_next_pair-outcome.new.parts.map)) c.self.view_is (sym c.drop_next_pair-outcome.ensures.parts.order)
    (refused_in c.self.inside.parts.order (kept_of_device g.D.BlockDevice c.self.inside.parts.device c.self.inside.parts.pairs.items c.self.inside.parts.map) (kept_of_device g.D.BlockDevice c.drop_next_pair-outcome.new.parts.device c.drop_next_pair-outcome.new.parts.pairs.items c.drop_next_pair-outcome.new.parts.map) c.args.index (changes_view c.args.changes.now) (c.drop_next_pair-outcome.ensures.ends.full full))

pub returns-clause-errors : goal.returns-clause-errors
returns-clause-errors g c =
    let new = c.drop_next_pair-outcome.new.parts in
    subst₂ (λ (v : ThreadView) (order : NameOrder). ThreadReportsErrors v.kept (kept_in_order g.D.BlockDevice order new.device new.pairs.items new.map) c.drop_next_pair-outcome.result) c.self.view_is (sym c.drop_next_pair-outcome.ensures.parts.order)
    (reported_from g.D.BlockDevice c.self.inside.parts.order c.self.inside.parts.device new.device c.self.inside.parts.pairs.items new.pairs.items c.self.inside.parts.map new.map c.drop_next_pair-outcome.result c.drop_next_pair-outcome.ensures.errors)

pub returns-clause-device : goal.returns-clause-device
returns-clause-device g c =
    let new = c.drop_next_pair-outcome.new.parts in
    subst₂ (λ (v : ThreadView) (order : NameOrder). ChangesWithinReads (1 + reads_unless_cached (cached_log v c.args.index)) (address_blocks (thread_pair v.kept c.args.index).at) v.kept (kept_in_order g.D.BlockDevice order new.device new.pairs.items new.map)) c.self.view_is (sym c.drop_next_pair-outcome.ensures.parts.order)
    (reading_from g.D.BlockDevice c.self.inside.parts.order c.self.inside.parts.device new.device c.self.inside.parts.pairs.items new.pairs.items c.self.inside.parts.map new.map _ c.drop_next_pair-outcome.ensures.parts.device)

pub returns-clause-stops : goal.returns-clause-stops
returns-clause-stops g c =
    subst (λ (v : ThreadView). CleanLossLeaves v.kept.history (g.D.BlockDevice.history c.drop_next_pair-outcome.new.parts.device) (LossLeavesPair v.kept c.args.index (changes_view c.args.changes.now))) c.self.view_is
    (stops_in (λ left l. left_changed_in c.self.inside.parts.order (kept_of_device g.D.BlockDevice c.self.inside.parts.device c.self.inside.parts.pairs.items c.self.inside.parts.map) c.args.index (changes_view c.args.changes.now) left l) c.drop_next_pair-outcome.ensures.stops)
