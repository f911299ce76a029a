use Rattle.std.proofs.Common.{subst₂, ◌+◌, ◌∙◌, subst, sym}
use Rattle.lfs_model.specs.declared.order.NameOrder.{NameOrder}
use Rattle.lfs_thread.proofs.Common.{address_of_array, ThreadView, kept_in_order, kept_of_device, cached_log, reads_unless_cached, ThreadReportsKeepingOthers, ChangesWithinReads, thread_pair, CanThreadIn, RefusesThreading, changes_view, CleanLossLeaves, address_blocks, addresses_blocks}
use Rattle.lfs_thread.proofs.InOrder.{at_ok, can_hold, can_thread_in, joined_in, left_joined_in, stops_in, threading_refused_in}
use Rattle.lfs_thread.specs.Joins.{CanHold, IsJoined, LossLeavesJoined, reads_behind}
use Rattle.lfs_thread.proofs.Reported.{reported_beside_from, reading_from}
use Rattle.lfs_thread.proofs.thread.Thread.join.Goals as goal

pub join_pair-outcome-requires-clause-can : goal.join_pair-outcome-requires-clause-can
join_pair-outcome-requires-clause-can g c =
    can_thread_in c.self.inside.parts.order (kept_of_device g.D.BlockDevice c.self.inside.parts.device c.self.inside.parts.pairs.items c.self.inside.parts.map) c.args.index (address_of_array c.args.fresh) (changes_view c.args.changes.now)
    (subst (λ (v : ThreadView). CanThreadIn v.kept c.args.index (address_of_array c.args.fresh) (changes_view c.args.changes.now)) (sym c.self.view_is) c.requires.can)

pub join_pair-outcome-requires-clause-holds : goal.join_pair-outcome-requires-clause-holds
join_pair-outcome-requires-clause-holds g c =
    can_hold c.self.inside.parts.order c.args.behind (kept_of_device g.D.BlockDevice c.self.inside.parts.device c.self.inside.parts.pairs.items c.self.inside.parts.map) c.args.index
    (subst (λ (v : ThreadView). CanHold v.kept c.args.index c.args.behind) (sym c.self.view_is) c.requires.holds)

pub invariant_of-self : goal.invariant_of-self
invariant_of-self g c ok =
    let e = c.join_pair-outcome.ensures in
    (at_ok c.join_pair-outcome.result e.parts.kept (sym c.is_err-self-inside.ensures.value ∙ ok), at_ok c.join_pair-outcome.result e.parts.current (sym c.is_err-self-inside.ensures.value ∙ ok))

pub returns-clause-done : goal.returns-clause-done
returns-clause-done g c done =
    subst₂ (λ (v : ThreadView) (order : NameOrder). IsJoined v.kept c.args.index c.args.behind (address_of_array c.args.fresh) (changes_view c.args.changes.now) (kept_in_order g.D.BlockDevice order c.join_pair-outcome.new.parts.device c.join_pair-outcome.new.parts.pairs.items c.join_pair-outcome.new.parts.map)) c.self.view_is (sym c.join_pair-outcome.ensures.parts.order)
    (joined_in c.self.inside.parts.order (kept_of_device g.D.BlockDevice c.self.inside.parts.device c.self.inside.parts.pairs.items c.self.inside.parts.map) (kept_of_device g.D.BlockDevice c.join_pair-outcome.new.parts.device c.join_pair-outcome.new.parts.pairs.items c.join_pair-outcome.new.parts.map) c.args.index c.args.behind (address_of_array c.args.fresh) (changes_view c.args.changes.now) (c.join_pair-outcome.ensures.ends.done done))

pub returns-clause-full : goal.returns-clause-full
returns-clause-full g c full =
    subst₂ (λ (v : ThreadView) (order : NameOrder). RefusesThreading v.kept c.args.index (address_of_array c.args.fresh) (changes_view c.args.changes.now) (kept_in_order g.D.BlockDevice order c.join_pair-outcome.new.parts.device c.join_pair-outcome.new.parts.pairs.items c.join_pair-outcome.new.parts.map)) c.self.view_is (sym c.join_pair-outcome.ensures.parts.order)
    (threading_refused_in c.self.inside.parts.order (kept_of_device g.D.BlockDevice c.self.inside.parts.device c.self.inside.parts.pairs.items c.self.inside.parts.map) (kept_of_device g.D.BlockDevice c.join_pair-outcome.new.parts.device c.join_pair-outcome.new.parts.pairs.items c.join_pair-outcome.new.parts.map) c.args.index (address_of_array c.args.fresh) (changes_view c.args.changes.now) (c.join_pair-outcome.ensures.ends.full full))

pub returns-clause-errors : goal.returns-clause-errors
returns-clause-errors g c =
    let new = c.join_pair-outcome.new.parts in
    subst₂ (λ (v : ThreadView) (order : NameOrder). ThreadReportsKeepingOthers (address_blocks (address_of_array c.args.fresh)) v.kept (kept_in_order g.D.BlockDevice order new.device new.pairs.items new.map) c.join_pair-outcome.result) c.self.view_is (sym c.join_pair-outcome.ensures.parts.order)
    (reported_beside_from g.D.BlockDevice c.self.inside.parts.order c.self.inside.parts.device new.device c.self.inside.parts.pairs.items new.pairs.items c.self.inside.parts.map new.map (address_blocks (address_of_array c.args.fresh)) c.join_pair-outcome.result c.join_pair-outcome.ensures.errors)

pub returns-clause-device : goal.returns-clause-device
returns-clause-device g c =
    let new = c.join_pair-outcome.new.parts in
    subst₂ (λ (v : ThreadView) (order : NameOrder). ChangesWithinReads (reads_behind c.args.behind + 1 + reads_unless_cached (cached_log v c.args.index)) (addresses_blocks (thread_pair v.kept c.args.index).at (address_of_array c.args.fresh)) v.kept (kept_in_order g.D.BlockDevice order new.device new.pairs.items new.map)) c.self.view_is (sym c.join_pair-outcome.ensures.parts.order)
    (reading_from g.D.BlockDevice c.self.inside.parts.order c.self.inside.parts.device new.device c.self.inside.parts.pairs.items new.pairs.items c.self.inside.parts.map new.map _ c.join_pair-outcome.ensures.parts.device)

pub returns-clause-stops : goal.returns-clause-stops
returns-clause-stops g c =
    subst (λ (v : ThreadView). CleanLossLeaves v.kept.history (g.D.BlockDevice.history c.join_pair-outcome.new.parts.device) (LossLeavesJoined v.kept c.args.index c.args.behind (address_of_array c.args.fresh) (changes_view c.args.changes.now))) c.self.view_is
    (stops_in (λ left l. left_joined_in c.self.inside.parts.order (kept_of_device g.D.BlockDevice c.self.inside.parts.device c.self.inside.parts.pairs.items c.self.inside.parts.map) c.args.index c.args.behind (address_of_array c.args.fresh) (changes_view c.args.changes.now) left l) c.join_pair-outcome.ensures.stops)
