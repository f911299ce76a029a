use Rattle.std.proofs.Common.{rules, arith, ◌∙◌, sym, subst, ◌+◌, ◌%◌, ◌^◌, Some, ap}
use Rattle.lfs_pair.proofs.Common.{disk_of_blocks, address_of_array, goes_on_by, AllCallsSince-behind, HoldsAtLosses-weaker, header_address, changes_view, block_bytes, RawContent, has_commit, HasOneCommit, content_view, HeaderSaysActive, KeepsFirstEntry, LossLeavesNew, HasWrittenContent}
use Rattle.lfs_pair.proofs.Erring.{reports_ok}
use Rattle.lfs_pair.proofs.Calls.{only_trans, only_wider}
use Rattle.lfs_pair.proofs.Changed.{content_made_here, is_active}
use Rattle.lfs_pair.proofs.Parted.{among_first, among_second, clears_more, cut_inside, is_splitting, first_while_fresh, pair_elsewhere, fresh_elsewhere, left_while_fresh, left_while_old}
use Rattle.lfs_pair.proofs.splits.split.Goals as goal
use Rattle.lfs_device.specs.declared.geometry.Geometry.{Geometry}
use Rattle.lfs_pair.specs.HalfCut.{AreSplittable}
use Rattle.lfs_model.proofs.Histories.{HoldsAtLosses-worst}
use Rattle.lfs_pair.proofs.Stay.{HeaderSaysActive-stays, NowHolds-stays, active_elsewhere}

-- what the calls ask

pub split_off_back-requires : goal.split_off_back-requires
split_off_back-requires g c =
    let old = disk_of_blocks (g.D.BlockDevice.geometry c.args.dev.now) (g.D.BlockDevice.blocks c.args.dev.now) in
    let can = c.requires.can.commit in
    let same = content_made_here old _ c.args.pair.now can.held can.new _ (changes_view c.args.changes.now) (content_view c.in_ok-front.front) can.is_pair c.requires.holds can.changed c.in_ok-front.ensures.content in
    subst (λ (k : Geometry). AreSplittable k.block_size k.page (content_view c.in_ok-front.front).slots) (sym c.geometry-geometry.ensures)
    (subst (λ (new : RawContent). AreSplittable old.block_size old.page new.slots) same c.requires.can.cut)

pub write_fresh_pair-requires : goal.write_fresh_pair-requires
write_fresh_pair-requires g c =
    let ready = is_splitting c.geometry-geometry.ensures (g.met.D.BlockDevice.shape c.args.dev.now).count c.requires.can c.requires.holds c.in_ok-front.ensures.content c.in_ok-front.ensures.logged c.in_ok-back.ensures.parts in
    record { address = c.requires.can.fresh_is; buf = search rules; logged = ready.back_ready.logged; names = ready.back_ready.names; fits = ready.back_ready.fits }

pub compact-requires : goal.compact-requires
compact-requires g c =
    let ready = is_splitting c.geometry-geometry.ensures (g.met.D.BlockDevice.shape c.args.dev.now).count c.requires.can c.requires.holds c.in_ok-front.ensures.content c.in_ok-front.ensures.logged c.in_ok-back.ensures.parts in
    let fresh = c.in_ok-fresh_pair.ensures in
    let only = fresh.writes.device in
    let at = c.requires.can.commit.address in
    record {
      address = record { apart = at.apart; first = rw only.others.count at.first; second = rw only.others.count at.second };
      active =
          subst (λ k. HeaderSaysActive (disk_of_blocks k (g.D.BlockDevice.blocks c.write_fresh_pair.new.dev)) c.args.pair.now) (sym only.geometry)
          (HeaderSaysActive-stays (pair_elsewhere c.requires.can.apart) only.others (is_active _ _ c.args.pair.now _ c.requires.can.commit.is_pair));
      buf = search rules;
      logged = ready.front_ready.logged;
      names = ready.front_ready.names;
      fits = rw only.geometry ready.front_ready.fits;
    }

-- if the fresh pair can't be written

pub returns-in_err-fresh_pair-clause-device : goal.returns-in_err-fresh_pair-clause-device
returns-in_err-fresh_pair-clause-device g c =
    record {
      only = only_wider _ (among_second (header_address c.args.pair.now) (address_of_array c.args.fresh)) c.in_err-fresh_pair.ensures.writes.device;
      few = let first = c.in_err-fresh_pair.ensures.writes.few in omega (arith, first);
    }

pub returns-in_err-fresh_pair-clause-stops : goal.returns-in_err-fresh_pair-clause-stops
returns-in_err-fresh_pair-clause-stops g c cleanly =
    HoldsAtLosses-weaker (λ disk left. left_while_fresh _ _ _ (changes_view c.args.changes.now) disk c.requires.can.apart left) (HoldsAtLosses-worst c.in_err-fresh_pair.ensures.writes.device.at_worst)

-- behind the fresh pair

pub returns-in_err-compact-clause-device : goal.returns-in_err-compact-clause-device
returns-in_err-compact-clause-device g c =
    let fresh = c.in_ok-fresh_pair.ensures in
    record {
      only = only_trans (only_wider _ (among_second (header_address c.args.pair.now) (address_of_array c.args.fresh)) fresh.writes.device)
          (only_wider _ (among_first (header_address c.args.pair.now) (address_of_array c.args.fresh)) c.in_err-compact.ensures.writes.device);
      few = let first = fresh.writes.few in let second = c.in_err-compact.ensures.writes.few in omega (arith, first, second);
    }

pub returns-in_err-compact-clause-stops : goal.returns-in_err-compact-clause-stops
returns-in_err-compact-clause-stops g c cleanly =
    let ready = is_splitting c.geometry-geometry.ensures (g.met.D.BlockDevice.shape c.args.dev.now).count c.requires.can c.requires.holds c.in_ok-front.ensures.content c.in_ok-front.ensures.logged c.in_ok-back.ensures.parts in
    let fresh = c.in_ok-fresh_pair.ensures in
    let only = fresh.writes.device in
    goes_on_by (HoldsAtLosses-weaker (λ disk left. left_while_fresh _ _ _ (changes_view c.args.changes.now) disk ready.apart left) (HoldsAtLosses-worst only.at_worst))
    (HoldsAtLosses-weaker (λ disk left. left_while_old _ _ _ (changes_view c.args.changes.now) (g.D.BlockDevice.blocks c.write_fresh_pair.new.dev) disk ready.apart only.others ready.made ready.logged ready.parts fresh.holds.content
    (subst (λ k. LossLeavesNew (disk_of_blocks k (g.D.BlockDevice.blocks c.write_fresh_pair.new.dev)) (header_address c.args.pair.now) (content_view c.split_off_back.new.content) disk) only.geometry left))
    (c.in_err-compact.ensures.stops (AllCallsSince-behind cleanly only.at_worst c.in_err-compact.ensures.writes.device.at_worst)))

pub returns-clause-device : goal.returns-clause-device
returns-clause-device g c =
    let fresh = c.in_ok-fresh_pair.ensures in
    record {
      only = only_trans (only_wider _ (among_second (header_address c.args.pair.now) (address_of_array c.args.fresh)) fresh.writes.device)
          (only_wider _ (among_first (header_address c.args.pair.now) (address_of_array c.args.fresh)) c.in_ok-compact.ensures.writes.device);
      few = let first = fresh.writes.few in let second = c.in_ok-compact.ensures.writes.few in omega (arith, first, second);
    }

pub returns-clause-stops : goal.returns-clause-stops
returns-clause-stops g c cleanly =
    let ready = is_splitting c.geometry-geometry.ensures (g.met.D.BlockDevice.shape c.args.dev.now).count c.requires.can c.requires.holds c.in_ok-front.ensures.content c.in_ok-front.ensures.logged c.in_ok-back.ensures.parts in
    let fresh = c.in_ok-fresh_pair.ensures in
    let only = fresh.writes.device in
    goes_on_by (HoldsAtLosses-weaker (λ disk left. left_while_fresh _ _ _ (changes_view c.args.changes.now) disk ready.apart left) (HoldsAtLosses-worst only.at_worst))
    (HoldsAtLosses-weaker (λ disk left. left_while_old _ _ _ (changes_view c.args.changes.now) (g.D.BlockDevice.blocks c.write_fresh_pair.new.dev) disk ready.apart only.others ready.made ready.logged ready.parts fresh.holds.content
    (subst (λ k. LossLeavesNew (disk_of_blocks k (g.D.BlockDevice.blocks c.write_fresh_pair.new.dev)) (header_address c.args.pair.now) (content_view c.split_off_back.new.content) disk) only.geometry left))
    (c.in_ok-compact.ensures.stops (AllCallsSince-behind cleanly only.at_worst c.in_ok-compact.ensures.writes.device.at_worst)))

pub returns-clause-faults : goal.returns-clause-faults
returns-clause-faults g c =
    reports_ok (c.in_ok-compact.ensures.writes.faults.no_fault (λ gives. absurd (cc)) ∙ c.in_ok-fresh_pair.ensures.writes.faults.no_fault (λ gives. absurd (cc)))

pub returns-clause-splits : goal.returns-clause-splits
returns-clause-splits g c =
    let ready = is_splitting c.geometry-geometry.ensures (g.met.D.BlockDevice.shape c.args.dev.now).count c.requires.can c.requires.holds c.in_ok-front.ensures.content c.in_ok-front.ensures.logged c.in_ok-back.ensures.parts in
    let fresh = c.in_ok-fresh_pair.ensures in
    let only = fresh.writes.device in
    record {
      new = ready.whole;
      made = ready.made;
      logged = ready.logged;
      cut = ready.parts.cut;
      is_cut = ready.parts.is_cut;
      front = subst (HasWrittenContent _ _ (header_address c.args.pair.now) c.compact.new.pair) ready.parts.front_is c.in_ok-compact.ensures.done.holds;
      back = subst (HasWrittenContent _ _ (address_of_array c.args.fresh) c.in_ok-fresh_pair.fresh_pair) ready.parts.back_is
          (subst (λ k. HasWrittenContent (disk_of_blocks k (g.D.BlockDevice.blocks c.compact.new.dev)) (g.D.BlockDevice.history c.compact.new.dev) (address_of_array c.args.fresh) c.in_ok-fresh_pair.fresh_pair (content_view c.in_ok-back.back)) (sym c.in_ok-compact.ensures.writes.device.geometry)
          (NowHolds-stays {disk = disk_of_blocks (g.D.BlockDevice.geometry c.write_fresh_pair.new.dev) (g.D.BlockDevice.blocks c.write_fresh_pair.new.dev)} (fresh_elsewhere ready.apart) c.in_ok-compact.ensures.writes.device.others c.in_ok-compact.ensures.writes.device.elsewhere fresh.holds));
      first = subst (λ k. KeepsFirstEntry (disk_of_blocks (g.D.BlockDevice.geometry c.args.dev.now) (g.D.BlockDevice.blocks c.args.dev.now)) (header_address c.args.pair.now) (Some k) (disk_of_blocks (g.D.BlockDevice.geometry c.compact.new.dev) (g.D.BlockDevice.blocks c.compact.new.dev))) ready.parts.front_is
          (λ e h anew. c.in_ok-compact.ensures.done.first e (first_while_fresh (disk_of_blocks (g.D.BlockDevice.geometry c.args.dev.now) (g.D.BlockDevice.blocks c.args.dev.now)) (header_address c.args.pair.now) (address_of_array c.args.fresh) (g.D.BlockDevice.blocks c.write_fresh_pair.new.dev) ready.apart only.others e h) anew);
      moved = c.in_ok-compact.ensures.done.compacted.active;
      kept = c.in_ok-compact.ensures.done.compacted.kept ∙ only.others.others c.args.pair.now.active (active_elsewhere (disk_of_blocks (g.D.BlockDevice.geometry c.args.dev.now) (g.D.BlockDevice.blocks c.args.dev.now)) c.args.pair.now.active (pair_elsewhere ready.apart) c.requires.can.commit.is_pair.active);
      front_anew = subst (λ (k : RawContent). HasOneCommit ((c.args.pair.now.revision + 1) % 2 ^ 32) k (block_bytes (g.D.BlockDevice.blocks c.compact.new.dev) c.compact.new.pair.active)) ready.parts.front_is c.in_ok-compact.ensures.done.compacted.anew.holds;
      back_fresh = record {
        active = fresh.fresh.active;
        revision_is = fresh.fresh.revision_is;
        anew = subst (λ (k : RawContent). HasOneCommit 1 k (block_bytes (g.D.BlockDevice.blocks c.compact.new.dev) (address_of_array c.args.fresh).0)) ready.parts.back_is
            (subst (HasOneCommit 1 (content_view c.in_ok-back.back)) (sym (c.in_ok-compact.ensures.writes.device.others.others (address_of_array c.args.fresh).0 (fresh_elsewhere ready.apart).first)) fresh.fresh.anew);
        cleared = ap has_commit (c.in_ok-compact.ensures.writes.device.others.others (address_of_array c.args.fresh).1 (fresh_elsewhere ready.apart).second) ∙ fresh.fresh.cleared;
      };
      inside = cut_inside ready.parts.is_cut;
      clears = clears_more (HoldsAtLosses-worst only.at_worst) (HoldsAtLosses-worst c.in_ok-compact.ensures.writes.device.at_worst) fresh.clears c.in_ok-compact.ensures.done.compacted.anew;
    }
