use Rattle.lfs_pair.proofs.Common.{SameExcept, block_bytes, AreUnprogrammed, address_blocks, encoded_size, aligned_commit_end, IsCommitOffset, padded_commit_end, LogGetsCommit, LossLeavesCommit, disk_of_blocks, entries_of_changes, HoldsAtLosses-weaker, PartialCommit, header_address, commit_with_entries, KeepsFirstEntry, LossLeavesNew, changes_view, err_from_is_err_and}
use Rattle.lfs_pair.specs.Writing.{BlockGetsCommit}
use Rattle.lfs_pair.proofs.Anew.{nothing_more}
use Rattle.std.proofs.Common.{rules, ◌≡◌, ◌+◌, ◌%◌, ◌<◌, inl, Ok, refl, sym, ap, ap₂, ◌∙◌, subst, subst₂, arith, Some}
use Rattle.lfs_device.specs.declared.geometry.Geometry.{Geometry}
use Rattle.lfs_pair.proofs.Asking.{asks_erases, asks_only, asks_programs, asks_reads, asks_stops, asks_then_few, asks_then_stops, known_after, left_alone, unknown}
use Rattle.lfs_pair.proofs.Calls.{only_block, only_trans}
use Rattle.lfs_pair.proofs.Changed.{IsIn, is_appending, appended, appended_first, active_among, active_below, now_holds, left_by_append, ends_in_block, made_is, some_same, gets_revision}
use Rattle.lfs_pair.proofs.Erring.{reports_ok, reports_on}
use Rattle.lfs_pair.proofs.commits.append_changes.Goals as goal

pub overflow_cast-room : goal.overflow_cast-room
overflow_cast-room g c =
    let shape = g.met.D.BlockDevice.shape c.args.dev.now in
    let below = active_below _ _ c.args.pair.now c.requires.can.held _ c.requires.can.address c.requires.can.is_pair shape.count in
    let size = shape.sizes c.args.pair.now.active below ∙ sym (ap (λ (k : Geometry). k.block_size) c.geometry-geometry.ensures) in
    let ends = ends_in_block _ _ c.args.pair.now c.requires.can.held _ c.requires.can.is_pair size c.geometry-geometry.result.valid.no_smaller in
    let small = c.geometry-geometry.result.valid.no_larger in
    omega (arith, ends, small)

pub overflow_sub-room : goal.overflow_sub-room
overflow_sub-room g c =
    let shape = g.met.D.BlockDevice.shape c.args.dev.now in
    let below = active_below _ _ c.args.pair.now c.requires.can.held _ c.requires.can.address c.requires.can.is_pair shape.count in
    let size = shape.sizes c.args.pair.now.active below ∙ sym (ap (λ (k : Geometry). k.block_size) c.geometry-geometry.ensures) in
    let ends = ends_in_block _ _ c.args.pair.now c.requires.can.held _ c.requires.can.is_pair size c.geometry-geometry.result.valid.no_smaller in
    ends

pub append_commit-requires : goal.append_commit-requires
append_commit-requires g c = record {
  can = record {
    in_device =
        let shape = g.met.D.BlockDevice.shape c.args.dev.now in
        let below = active_below _ _ c.args.pair.now c.requires.can.held _ c.requires.can.address c.requires.can.is_pair shape.count in
        subst (λ (k : Geometry). c.args.pair.now.active < k.block_count) (sym c.in_ok-is_blank.ensures.asks.geometry) below;
    begins =
        subst (λ (k : Geometry). c.args.pair.now.end % k.page ≡ 0) (sym c.in_ok-is_blank.ensures.asks.geometry) (c.in_ok-is_blank.ensures.yes (ap Ok c.if-not-is_blank.false)).whole_pages;
    page =
        let built = c.push_changes.ensures ∙ ap (commit_with_entries (entries_of_changes (changes_view c.args.changes.now))) c.new-builder.ensures in
        ap (λ (b : PartialCommit). b.page) built ∙ ap (λ (k : Geometry). k.page) (c.geometry-geometry.ensures ∙ sym c.in_ok-is_blank.ensures.asks.geometry);
    room = search rules;
    ends = search rules;
    goes =
        let can = c.requires.can in
        let built = c.push_changes.ensures ∙ ap (commit_with_entries (entries_of_changes (changes_view c.args.changes.now))) c.new-builder.ensures in
        subst (λ b. IsCommitOffset c.push_changes.new.builder.revision c.push_changes.new.builder.previous (block_bytes b c.args.pair.now.active) c.args.pair.now.end) (sym c.in_ok-is_blank.ensures.asks.same)
        (search rules);
    unprogrammed =
        subst (λ (k : Geometry). AreUnprogrammed (g.D.BlockDevice.history c.is_end_blank.new.dev) c.args.pair.now.active c.args.pair.now.end k.block_size) (sym c.in_ok-is_blank.ensures.asks.geometry)
        (c.in_ok-is_blank.ensures.yes (ap Ok c.if-not-is_blank.false)).unprogrammed;
  };
  holds = c.requires.holds ∙ sym (ap (λ d. block_bytes d c.args.pair.now.active) c.in_ok-is_blank.ensures.asks.same);
}

pub returns-in_err-written-clause-stops : goal.returns-in_err-written-clause-stops
returns-in_err-written-clause-stops g c content made =
    let can = c.requires.can in
    let built = c.push_changes.ensures ∙ ap (commit_with_entries (entries_of_changes (changes_view c.args.changes.now))) c.new-builder.ensures in
    let ready = is_appending _ _ c.args.pair.now can.held can.new (changes_view c.args.changes.now) c.push_changes.new.builder can.address can.is_pair can.changed (ap (λ (b : PartialCommit). b.entries) built) (ap (λ (b : PartialCommit). b.revision) built) in
    let new : Some can.new ≡ Some content = sym (made_is _ _ c.args.pair.now can.held (changes_view c.args.changes.now) can.is_pair ∙ can.changed) ∙ made in
    HoldsAtLosses-weaker (λ disk left. subst (λ n. LossLeavesNew (disk_of_blocks (g.D.BlockDevice.geometry c.args.dev.now) (g.D.BlockDevice.blocks c.args.dev.now)) (header_address c.args.pair.now) n disk) (some_same new)
    (left_by_append _ _ _ _ _ _ _ c.args.pair.now.end disk ready can.is_pair.describes.end left)) (asks_then_stops g.D.BlockDevice c.args.pair.now.active (LossLeavesCommit c.push_changes.new.builder c.args.pair.now.end) (λ bytes. inl refl) c.in_ok-is_blank.ensures.asks c.in_err-written.ensures.stops)

pub returns-clause-appends : goal.returns-clause-appends
returns-clause-appends g c content pair made logged header =
    let can = c.requires.can in
    let asks = c.in_ok-is_blank.ensures.asks in
    let others = subst (λ b. SameExcept c.args.pair.now.active b (g.D.BlockDevice.blocks c.append_commit.new.dev)) asks.same c.in_ok-written.ensures.writes.device.others in
    let geometry = c.in_ok-written.ensures.writes.device.geometry ∙ asks.geometry in
    let adds = subst₂ (BlockGetsCommit c.push_changes.new.builder c.args.pair.now.end c.in_ok-written.written.end) (c.requires.holds) c.in_ok-written.ensures.adds.same c.in_ok-written.ensures.adds.gets in
    let built = c.push_changes.ensures ∙ ap (commit_with_entries (entries_of_changes (changes_view c.args.changes.now))) c.new-builder.ensures in
    let ready = is_appending _ _ c.args.pair.now can.held can.new (changes_view c.args.changes.now) c.push_changes.new.builder can.address can.is_pair can.changed (ap (λ (b : PartialCommit). b.entries) built) (ap (λ (b : PartialCommit). b.revision) built) in
    let new : Some can.new ≡ Some content = sym (made_is _ _ c.args.pair.now can.held (changes_view c.args.changes.now) can.is_pair ∙ can.changed) ∙ made in
    let holds = subst (λ k. IsIn (disk_of_blocks k (g.D.BlockDevice.blocks c.append_commit.new.dev)) (header_address c.args.pair.now) c.args.pair.now.active content) (sym geometry)
    (subst (IsIn (disk_of_blocks (g.D.BlockDevice.geometry c.args.dev.now) (g.D.BlockDevice.blocks c.append_commit.new.dev)) (header_address c.args.pair.now) c.args.pair.now.active) (some_same new)
    (appended _ _ _ _ _ _ _ (g.D.BlockDevice.blocks c.append_commit.new.dev) ready others adds.commit)) in
    let gets = subst (λ (b : PartialCommit). LogGetsCommit b (block_bytes (g.D.BlockDevice.blocks c.args.dev.now) c.args.pair.now.active) (block_bytes (g.D.BlockDevice.blocks c.append_commit.new.dev) c.args.pair.now.active)) built adds.commit in
    let ends = ap padded_commit_end built ∙ ap (aligned_commit_end c.geometry-geometry.result.page) (nothing_more (encoded_size (entries_of_changes (changes_view c.args.changes.now)))) ∙ ap (λ (k : Geometry). aligned_commit_end k.page (encoded_size (entries_of_changes (changes_view c.args.changes.now)))) c.geometry-geometry.ensures in
    record {
      holds = now_holds _ _ _ pair c.args.pair.now.active _ holds
          header.blocks header.active header.fetched
          (header.revision ∙ can.is_pair.describes.revision ∙ sym (gets_revision c.push_changes.new.builder _ _ ready.no_revision adds.commit))
          header.ends c.in_ok-written.ensures.written header.sums logged;
      first = subst (λ k. KeepsFirstEntry (disk_of_blocks (g.D.BlockDevice.geometry c.args.dev.now) (g.D.BlockDevice.blocks c.args.dev.now)) (header_address c.args.pair.now) (Some content) (disk_of_blocks k (g.D.BlockDevice.blocks c.append_commit.new.dev)))
          (sym geometry)
          (appended_first _ _ _ _ _ _ _ (Some content) (g.D.BlockDevice.blocks c.append_commit.new.dev) ready others adds.commit);
      appends = record { known = known_after g.D.BlockDevice (g.D.BlockDevice.history c.append_commit.new.dev) c.args.pair.now asks c.in_ok-written.ensures.programs.blanks (c.in_ok-is_blank.ensures.yes (ap Ok c.if-not-is_blank.false)).known; room = search rules };
      appended = record {
        active = header.active;
        log = record {
          checksum = gets.checksum;
          class = gets.class;
          commits = gets.commits;
          end = sym c.in_ok-written.ensures.written.end_is ∙ adds.end_is ∙ ap₂ (λ m n. m + n) can.is_pair.describes.end ends;
        };
        others = others;
        erases = c.in_ok-written.ensures.programs.erases ∙ asks_erases g.D.BlockDevice asks;
        programs = c.in_ok-written.ensures.programs.programs ∙ ap (λ n. n + 1) (asks_programs g.D.BlockDevice asks);
        kept = adds.kept;
      };
    }

pub returns-clause-stops : goal.returns-clause-stops
returns-clause-stops g c content made =
    let can = c.requires.can in
    let built = c.push_changes.ensures ∙ ap (commit_with_entries (entries_of_changes (changes_view c.args.changes.now))) c.new-builder.ensures in
    let ready = is_appending _ _ c.args.pair.now can.held can.new (changes_view c.args.changes.now) c.push_changes.new.builder can.address can.is_pair can.changed (ap (λ (b : PartialCommit). b.entries) built) (ap (λ (b : PartialCommit). b.revision) built) in
    let new : Some can.new ≡ Some content = sym (made_is _ _ c.args.pair.now can.held (changes_view c.args.changes.now) can.is_pair ∙ can.changed) ∙ made in
    HoldsAtLosses-weaker (λ disk left. subst (λ n. LossLeavesNew (disk_of_blocks (g.D.BlockDevice.geometry c.args.dev.now) (g.D.BlockDevice.blocks c.args.dev.now)) (header_address c.args.pair.now) n disk) (some_same new)
    (left_by_append _ _ _ _ _ _ _ c.args.pair.now.end disk ready can.is_pair.describes.end left)) (asks_then_stops g.D.BlockDevice c.args.pair.now.active (LossLeavesCommit c.push_changes.new.builder c.args.pair.now.end) (λ bytes. inl refl) c.in_ok-is_blank.ensures.asks c.in_ok-written.ensures.stops)

pub returns-in_err-written-clause-writes : goal.returns-in_err-written-clause-writes
returns-in_err-written-clause-writes g c =
    let p = err_from_is_err_and c.from_residual-in_err-written.result c.from_residual-in_err-written.ensures.1 in
    record {
      device = only_trans (asks_only g.D.BlockDevice (address_blocks (header_address c.args.pair.now)) c.in_ok-is_blank.ensures.asks) (only_block (header_address c.args.pair.now) (active_among _ _ c.args.pair.now c.requires.can.held c.requires.can.address c.requires.can.is_pair) c.in_err-written.ensures.writes.device);
      few = asks_then_few g.D.BlockDevice _ 0 c.in_ok-is_blank.ensures.asks c.in_err-written.ensures.writes.few;
      errors = search rules;
      faults = reports_on p.1 p.2 (c.in_ok-is_blank.ensures.reports.faults.no_fault (λ gives. absurd (cc))) c.in_err-written.ensures.writes.faults;
    }

pub returns-clause-writes : goal.returns-clause-writes
returns-clause-writes g c = record {
  device = only_trans (asks_only g.D.BlockDevice (address_blocks (header_address c.args.pair.now)) c.in_ok-is_blank.ensures.asks) (only_block (header_address c.args.pair.now) (active_among _ _ c.args.pair.now c.requires.can.held c.requires.can.address c.requires.can.is_pair) c.in_ok-written.ensures.writes.device);
  few = asks_then_few g.D.BlockDevice _ 0 c.in_ok-is_blank.ensures.asks c.in_ok-written.ensures.writes.few;
  errors = search rules;
  faults = reports_ok (c.in_ok-written.ensures.writes.faults.no_fault (λ gives. absurd (cc)) ∙ c.in_ok-is_blank.ensures.reports.faults.no_fault (λ gives. absurd (cc)));
}

-- if nothing is appended

pub returns-in_err-is_blank-clause-writes : goal.returns-in_err-is_blank-clause-writes
returns-in_err-is_blank-clause-writes g c = record {
  device = asks_only g.D.BlockDevice (address_blocks (header_address c.args.pair.now)) c.in_err-is_blank.ensures.asks;
  few = let same = asks_reads g.D.BlockDevice c.in_err-is_blank.ensures.asks in omega (arith, same);
  errors = search rules;
  faults = search rules;
}

pub returns-in_err-is_blank-clause-stops : goal.returns-in_err-is_blank-clause-stops
returns-in_err-is_blank-clause-stops g c content made = asks_stops g.D.BlockDevice (LossLeavesNew (disk_of_blocks (g.D.BlockDevice.geometry c.args.dev.now) (g.D.BlockDevice.blocks c.args.dev.now)) (header_address c.args.pair.now) content) c.in_err-is_blank.ensures.asks
    (left_alone _ _ _)

pub returns-then-not-is_blank-clause-no_room : goal.returns-then-not-is_blank-clause-no_room
returns-then-not-is_blank-clause-no_room g c =
    let no = c.in_ok-is_blank.ensures.no (ap Ok c.if-not-is_blank.true) in
    record {
      no_room = λ can. unknown c.args.pair.now no.0 no.1 can.known;
      blocks = c.in_ok-is_blank.ensures.asks.same;
      geometry = c.in_ok-is_blank.ensures.asks.geometry;
      history = no.1;
      pair = refl;
    }

pub returns-then-not-is_blank-clause-writes : goal.returns-then-not-is_blank-clause-writes
returns-then-not-is_blank-clause-writes g c = record {
  device = asks_only g.D.BlockDevice (address_blocks (header_address c.args.pair.now)) c.in_ok-is_blank.ensures.asks;
  few = let same = asks_reads g.D.BlockDevice c.in_ok-is_blank.ensures.asks in omega (arith, same);
  errors = search rules;
  faults = search rules;
}

pub returns-then-not-is_blank-clause-stops : goal.returns-then-not-is_blank-clause-stops
returns-then-not-is_blank-clause-stops g c content made = asks_stops g.D.BlockDevice (LossLeavesNew (disk_of_blocks (g.D.BlockDevice.geometry c.args.dev.now) (g.D.BlockDevice.blocks c.args.dev.now)) (header_address c.args.pair.now) content) c.in_ok-is_blank.ensures.asks
    (left_alone _ _ _)

pub returns-clause-block : goal.returns-clause-block
returns-clause-block g c = c.in_ok-written.ensures.adds.same
