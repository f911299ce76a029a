use Rattle.std.proofs.Common.{subst₂, ◌+◌, ◌∙◌, subst, sym}
use Rattle.lfs_model.specs.declared.order.NameOrder.{NameOrder}
use Rattle.lfs_thread.proofs.Common.{address_of_array, ThreadView, kept_in_order, kept_of_device, cached_log, reads_unless_cached, ThreadReportsErrors, ChangesWithinReads, thread_pair, CanSplitAt, HasSplit, LossLeavesThreadSplit, changes_view, CleanLossLeaves, addresses_blocks}
use Rattle.std.specs.Prelude.{OnOk}
use Rattle.lfs_thread.proofs.InOrder.{at_ok, can_split, left_split_in, on_ok, split_in, stops_in}
use Rattle.lfs_thread.proofs.Reported.{reported_from, reading_from}
use Rattle.lfs_thread.proofs.thread.Thread.split.Goals as goal

pub split_pair-result-requires-clause-can : goal.split_pair-result-requires-clause-can
split_pair-result-requires-clause-can g c =
    can_split c.self.inside.parts.order (kept_of_device g.D.BlockDevice c.self.inside.parts.device c.self.inside.parts.pairs.items c.self.inside.parts.map) c.args.index (address_of_array c.args.fresh) (changes_view c.args.changes.now)
    (subst (λ (v : ThreadView). CanSplitAt v.kept c.args.index (address_of_array c.args.fresh) (changes_view c.args.changes.now)) (sym c.self.view_is) c.requires.can)

pub invariant_of-self : goal.invariant_of-self
invariant_of-self g c ok =
    let e = c.split_pair-result.ensures in
    (at_ok c.split_pair-result.result e.parts.kept (sym c.is_err-self-inside.ensures.value ∙ ok), at_ok c.split_pair-result.result e.parts.current (sym c.is_err-self-inside.ensures.value ∙ ok))

pub returns-clause-done : goal.returns-clause-done
returns-clause-done g c =
    subst₂ (λ (v : ThreadView) (order : NameOrder). OnOk c.split_pair-result.result (HasSplit v.kept c.args.index (address_of_array c.args.fresh) (changes_view c.args.changes.now) (kept_in_order g.D.BlockDevice order c.split_pair-result.new.parts.device c.split_pair-result.new.parts.pairs.items c.split_pair-result.new.parts.map))) c.self.view_is (sym c.split_pair-result.ensures.parts.order)
    (on_ok c.split_pair-result.result (split_in c.self.inside.parts.order (kept_of_device g.D.BlockDevice c.self.inside.parts.device c.self.inside.parts.pairs.items c.self.inside.parts.map) (kept_of_device g.D.BlockDevice c.split_pair-result.new.parts.device c.split_pair-result.new.parts.pairs.items c.split_pair-result.new.parts.map) c.args.index (address_of_array c.args.fresh) (changes_view c.args.changes.now)) c.split_pair-result.ensures.is_split)

pub returns-clause-errors : goal.returns-clause-errors
returns-clause-errors g c =
    let new = c.split_pair-result.new.parts in
    subst₂ (λ (v : ThreadView) (order : NameOrder). ThreadReportsErrors v.kept (kept_in_order g.D.BlockDevice order new.device new.pairs.items new.map) c.split_pair-result.result) c.self.view_is (sym c.split_pair-result.ensures.parts.order)
    (reported_from g.D.BlockDevice c.self.inside.parts.order c.self.inside.parts.device new.device c.self.inside.parts.pairs.items new.pairs.items c.self.inside.parts.map new.map c.split_pair-result.result c.split_pair-result.ensures.errors)

pub returns-clause-device : goal.returns-clause-device
returns-clause-device g c =
    let new = c.split_pair-result.new.parts in
    subst₂ (λ (v : ThreadView) (order : NameOrder). ChangesWithinReads (3 + reads_unless_cached (cached_log v c.args.index)) (addresses_blocks (thread_pair v.kept c.args.index).at (address_of_array c.args.fresh)) v.kept (kept_in_order g.D.BlockDevice order new.device new.pairs.items new.map)) c.self.view_is (sym c.split_pair-result.ensures.parts.order)
    (reading_from g.D.BlockDevice c.self.inside.parts.order c.self.inside.parts.device new.device c.self.inside.parts.pairs.items new.pairs.items c.self.inside.parts.map new.map _ c.split_pair-result.ensures.parts.device)

pub returns-clause-stops : goal.returns-clause-stops
returns-clause-stops g c =
    subst (λ (v : ThreadView). CleanLossLeaves v.kept.history (g.D.BlockDevice.history c.split_pair-result.new.parts.device) (LossLeavesThreadSplit v.kept c.args.index (address_of_array c.args.fresh) (changes_view c.args.changes.now))) c.self.view_is
    (stops_in (λ left l. left_split_in c.self.inside.parts.order (kept_of_device g.D.BlockDevice c.self.inside.parts.device c.self.inside.parts.pairs.items c.self.inside.parts.map) c.args.index (address_of_array c.args.fresh) (changes_view c.args.changes.now) left l) c.split_pair-result.ensures.stops)
