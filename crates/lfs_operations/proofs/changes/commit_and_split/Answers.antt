use Rattle.lfs_operations.proofs.Common.{sym, subst, on_ok_weaker, address_of_array, CleanLossLeaves, ThreadView, CanSplitAt, LossLeavesThreadSplit, HasSplit, ChangesThreadBlocks, thread_pair, changes_view, addresses_blocks, WritesPairAndTwoFree}
use Rattle.lfs_operations.proofs.Putting.{can_split, cut_in, stops_by_cut, writes_in, writes_none}
use Rattle.lfs_operations.proofs.changes.commit_and_split.Goals as goal

pub returns-in_default-clause-device : goal.returns-in_default-clause-device
returns-in_default-clause-device g c =
    subst (λ (t : ThreadView). WritesPairAndTwoFree c.args.thread.now.kept c.args.index t.kept) (sym c.in_default.ensures.same) (writes_none c.args.thread.now.kept c.args.index)

pub split-requires-clause-can : goal.split-requires-clause-can
split-requires-clause-can g c =
    subst (λ (t : ThreadView). CanSplitAt t.kept c.args.index (address_of_array c.in-Some.fresh) (changes_view c.args.changes.now)) (sym c.in-Some.ensures.taken)
    (can_split c.args.thread.now.kept c.args.index (address_of_array c.in-Some.fresh) (changes_view c.args.changes.now) c.requires.can c.in-Some.ensures.were_free)

pub returns-clause-stops : goal.returns-clause-stops
returns-clause-stops g c =
    stops_by_cut c.args.thread.now.kept c.args.index (address_of_array c.in-Some.fresh) (changes_view c.args.changes.now) c.in-Some.ensures.were_free c.split.new.self.kept.history
    (subst (λ (t : ThreadView). CleanLossLeaves t.kept.history c.split.new.self.kept.history (LossLeavesThreadSplit t.kept c.args.index (address_of_array c.in-Some.fresh) (changes_view c.args.changes.now))) c.in-Some.ensures.taken c.split.ensures.stops)

pub returns-clause-device : goal.returns-clause-device
returns-clause-device g c =
    writes_in c.args.thread.now.kept c.args.index (address_of_array c.in-Some.fresh) (changes_view c.args.changes.now) c.in-Some.ensures.were_free c.split.new.self.kept
    (subst (λ (t : ThreadView). ChangesThreadBlocks (addresses_blocks (thread_pair t.kept c.args.index).at (address_of_array c.in-Some.fresh)) t.kept c.split.new.self.kept) c.in-Some.ensures.taken c.split.ensures.device.only)

pub returns-clause-is_cut : goal.returns-clause-is_cut
returns-clause-is_cut g c = on_ok_weaker c.split.result (λ is. (
  address_of_array c.in-Some.fresh,
  cut_in c.args.thread.now.kept c.args.index (address_of_array c.in-Some.fresh) (changes_view c.args.changes.now) c.in-Some.ensures.were_free c.split.new.self.kept
      (subst (λ (t : ThreadView). HasSplit t.kept c.args.index (address_of_array c.in-Some.fresh) (changes_view c.args.changes.now) c.split.new.self.kept) c.in-Some.ensures.taken is)
      (subst (λ (t : ThreadView). ChangesThreadBlocks (addresses_blocks (thread_pair t.kept c.args.index).at (address_of_array c.in-Some.fresh)) t.kept c.split.new.self.kept) c.in-Some.ensures.taken c.split.ensures.device.only),
)) c.split.ensures.done
