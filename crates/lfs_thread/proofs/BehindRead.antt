-- A step of a pair after its block was read.
use Rattle.std.proofs.Common.{ℕ, ◌≡◌, ◌≤◌, ◌+◌, List, Result, inl, inr, refl, sym, ap, ap₂, subst, ◌∙◌, arith}
use Rattle.lfs_device.specs.declared.device.BlockDevice.{Ghosts}
use Rattle.lfs_device.specs.declared.error.Error.{Error}
use Rattle.lfs_device.specs.declared.geometry.Geometry.{Geometry}
use Rattle.lfs_device.specs.DeviceCalls.{ChangesTheseBlocks, ReportsFaults}
use Rattle.lfs_thread.proofs.Common.{AllCallsSince-behind, Blocks, CallEvent, CanCommit, ChangesReadingFew, CleanLossLeaves, CommitsChanges, ContentChange, Disk, HoldsAtLosses, HoldsAtLosses-weaker, LeftByLoss, LossLeavesChanged, OnlyReadsSince, RawContent, ReadsOnly, SameExceptBlocks, addresses_blocks, address_blocks, changed_pair_content, disk_of_blocks, goes_on_by, header_address, read_count}
use Rattle.lfs_model.proofs.Overwrites.{SameExceptBlocks-refl}
use Rattle.lfs_model.proofs.Histories.{AreUnprogrammed-read_count, HoldsAtLosses-read_count, LeftByLoss-read, LossLeavesAtWorst-read, OnlyReadsSince-trans, OthersStayUnprogrammed-read_count, OthersStayUnprogrammed-trans, blank_answer_count-read_count, erase_count-read_count, program_count-read_count}
use Rattle.lfs_model.specs.session.History.{fault_count}
use Rattle.lfs_model.specs.layers.WrittenContent.{RawContentFitsInPair}
use Rattle.lfs_model.specs.format.Slots.{FitsInPair}
use Rattle.lfs_pair.specs.declared.pair.Pair.{Pair}
use Rattle.lfs_pair.specs.Commits.{AppendFits, CommitFails, IsEndUnprogrammed, RefusesCommit}
use Rattle.lfs_pair.specs.Pair.{IsTrueHeader}
use Rattle.lfs_pair.specs.Split.{CanSplitPair, LossLeavesSplit, SplitsPair}

-- what a header says is true after reads
header_behind : {blocks : Blocks} {disk : Disk} {before after : List CallEvent} {pair : Pair} {held : RawContent} → OnlyReadsSince blocks before after → IsTrueHeader disk before pair held → IsTrueHeader disk after pair held
header_behind {pair = pair} reads is = record {
  active = is.active;
  holds = is.holds;
  describes = is.describes;
  whole_pages = is.whole_pages;
  unprogrammed = λ written. AreUnprogrammed-read_count pair.active reads (is.unprogrammed written);
}

-- what could be appended after reads could be before them
appends_ahead : {blocks : Blocks} {disk : Disk} {before mid after : List CallEvent} {pair : Pair} {changes : List ContentChange} → OnlyReadsSince blocks before mid → AppendFits disk before after pair changes → AppendFits disk mid after pair changes
appends_ahead {before = before} {mid} {after} {pair} reads can = record { known = known can.known; room = can.room }
  where
    known : IsEndUnprogrammed before after pair → IsEndUnprogrammed mid after pair
    known (inl written) = inl written
    known (inr blank) = let same = blank_answer_count-read_count reads in inr (omega (arith, same, blank))

appends_behind : {blocks : Blocks} {disk : Disk} {before mid after : List CallEvent} {pair : Pair} {changes : List ContentChange} → OnlyReadsSince blocks before mid → AppendFits disk mid after pair changes → AppendFits disk before after pair changes
appends_behind {before = before} {mid} {after} {pair} reads can = record { known = known can.known; room = can.room }
  where
    known : IsEndUnprogrammed mid after pair → IsEndUnprogrammed before after pair
    known (inl written) = inl written
    known (inr blank) = let same = blank_answer_count-read_count reads in inr (omega (arith, same, blank))

module _ {D : Type 0} {g : Ghosts D} {old mid : D} (read : ReadsOnly g old mid) where
  -- the disk is the same
  pub same_disk : disk_of_blocks (g.geometry mid) (g.blocks mid) ≡ disk_of_blocks (g.geometry old) (g.blocks old)
  same_disk = ap₂ disk_of_blocks read.geometry read.same

  pub can_commit_behind : {pair : Pair} {changes : List ContentChange} → CanCommit (disk_of_blocks (g.geometry old) (g.blocks old)) (g.history old) pair changes → CanCommit (disk_of_blocks (g.geometry mid) (g.blocks mid)) (g.history mid) pair changes
  can_commit_behind {pair} {changes} can =
      subst (λ d. CanCommit d (g.history mid) pair changes) (sym same_disk)
      (record { address = can.address; held = can.held; is_pair = header_behind read.reads can.is_pair; new = can.new; changed = can.changed; names = can.names })

  pub can_split_behind : {pair : Pair} {fresh : ℕ × ℕ} {changes : List ContentChange} → CanSplitPair (disk_of_blocks (g.geometry old) (g.blocks old)) (g.history old) pair fresh changes → CanSplitPair (disk_of_blocks (g.geometry mid) (g.blocks mid)) (g.history mid) pair fresh changes
  can_split_behind {pair} {fresh} {changes} can =
      let commit = can.commit in
      subst (λ d. CanSplitPair d (g.history mid) pair fresh changes) (sym same_disk)
      (record {
        commit = record { address = commit.address; held = commit.held; is_pair = header_behind read.reads commit.is_pair; new = commit.new; changed = commit.changed; names = commit.names };
        fresh_is = can.fresh_is;
        apart = can.apart;
        cut = can.cut;
      })

  -- nothing changes
  pub only_read : {bs : List ℕ} → ChangesTheseBlocks g bs old mid
  only_read {bs} = record {
    others = subst (SameExceptBlocks bs (g.blocks old)) (sym read.same) (SameExceptBlocks-refl bs (g.blocks old));
    elsewhere = OthersStayUnprogrammed-read_count bs read.reads;
    geometry = read.geometry;
    at_worst = HoldsAtLosses-read_count LossLeavesAtWorst-read read.reads (SameExceptBlocks-refl bs (g.blocks old));
  }

  pub commit_left : {at : ℕ × ℕ} {changes : List ContentChange} → HoldsAtLosses LeftByLoss (g.history old) (g.history mid) (LossLeavesChanged (disk_of_blocks (g.geometry old) (g.blocks old)) at changes)
  commit_left {at} = HoldsAtLosses-read_count LeftByLoss-read read.reads (record { others = SameExceptBlocks-refl (address_blocks at) (g.blocks old); content = inl (record { content = refl; first = λ e h. h }) })

  pub split_left : {at fresh : ℕ × ℕ} {changes : List ContentChange} → HoldsAtLosses LeftByLoss (g.history old) (g.history mid) (LossLeavesSplit (disk_of_blocks (g.geometry old) (g.blocks old)) at fresh changes)
  split_left {at} {fresh} = HoldsAtLosses-read_count LeftByLoss-read read.reads (record { others = SameExceptBlocks-refl (addresses_blocks at fresh) (g.blocks old); content = inl (record { content = refl; first = λ e h. h }) })

  module _ {new : D} where
    -- reads come before what changes blocks
    pub only_behind : {bs : List ℕ} → ChangesTheseBlocks g bs mid new → ChangesTheseBlocks g bs old new
    only_behind {bs} only = record {
      others = subst (λ b. SameExceptBlocks bs b (g.blocks new)) read.same only.others;
      elsewhere = OthersStayUnprogrammed-trans (OthersStayUnprogrammed-read_count bs read.reads) only.elsewhere;
      geometry = only.geometry ∙ read.geometry;
      at_worst = goes_on_by only_read.at_worst (HoldsAtLosses-weaker (λ disk left. subst (λ b. SameExceptBlocks bs b disk) read.same left) only.at_worst);
    }

    pub reading_behind : (n m : ℕ) {bs : List ℕ} → read_count (g.history mid) ≤ read_count (g.history old) + n → ChangesReadingFew g m bs mid new → ChangesReadingFew g (m + n) bs old new
    reading_behind n m few w = record { only = only_behind w.only; few = let more = w.few in omega (arith, few, more) }

    pub faults_behind : {X : Type 0} {result : Result X Error} → fault_count (g.history mid) ≡ fault_count (g.history old) → ReportsFaults g mid new result → ReportsFaults g old new result
    faults_behind same faults = record {
      fault = λ io. let rose = faults.fault io in omega (arith, same, rose);
      no_fault = λ other. faults.no_fault other ∙ same;
    }

    pub fails_behind : {was now : Pair} {e : Error} → CommitFails g mid new was now e → CommitFails g old new was now e
    fails_behind fails = record {
      errors = fails.errors;
      pair = fails.pair;
      no_memory = λ is.
          let then = fails.no_memory is in
          record { same = then.same ∙ read.same; geometry = then.geometry ∙ read.geometry; reads = OnlyReadsSince-trans read.reads then.reads read.same };
    }

    pub refuses_behind : {was now : Pair} {changes : List ContentChange} → RefusesCommit g changes mid new was now → RefusesCommit g changes old new was now
    refuses_behind {was} {now} {changes} refuses = record {
      full = λ c made fits.
          refuses.full c (ap (λ d. changed_pair_content d (header_address was) changes) same_disk ∙ made) (subst (λ (k : Geometry). RawContentFitsInPair k.block_size k.page c) (sym read.geometry) fits);
      completed = λ c d made whole fits.
          refuses.completed c d (ap (λ d. changed_pair_content d (header_address was) changes) same_disk ∙ made) whole (subst (λ (k : Geometry). FitsInPair k.block_size k.page d) (sym read.geometry) fits);
      pair = refuses.pair;
      device = let then = refuses.device in record { same = then.same ∙ read.same; geometry = then.geometry ∙ read.geometry; reads = OnlyReadsSince-trans read.reads then.reads read.same };
    }

    pub commits_behind : {was now : Pair} {changes : List ContentChange} → CommitsChanges (disk_of_blocks (g.geometry mid) (g.blocks mid)) (g.history mid) changes was (disk_of_blocks (g.geometry new) (g.blocks new)) (g.history new) now
        → CommitsChanges (disk_of_blocks (g.geometry old) (g.blocks old)) (g.history old) changes was (disk_of_blocks (g.geometry new) (g.blocks new)) (g.history new) now
    commits_behind {was} {now} {changes} commits =
        let is = subst (λ d. CommitsChanges d (g.history mid) changes was (disk_of_blocks (g.geometry new) (g.blocks new)) (g.history new) now) same_disk commits in
        record {
          new = is.new;
          made = is.made;
          fits = is.fits;
          logged = is.logged;
          holds = is.holds;
          first = is.first;
          appended = λ appends.
              let by = is.appended (appends_ahead read.reads appends) in
              record {
                active = by.active;
                log = by.log;
                others = by.others;
                erases = by.erases ∙ erase_count-read_count read.reads;
                programs = by.programs ∙ ap (λ n. n + 1) (program_count-read_count read.reads);
                kept = by.kept;
              };
          compacted = λ full.
              let by = is.compacted (λ appends. full (appends_behind read.reads appends)) in
              record {
                active = by.active;
                anew = record {
                  holds = by.anew.holds;
                  erases = by.anew.erases ∙ ap (λ n. n + 1) (erase_count-read_count read.reads);
                  programs = by.anew.programs ∙ ap (λ n. n + 1) (program_count-read_count read.reads);
                  blanks = by.anew.blanks ∙ blank_answer_count-read_count read.reads;
                };
                end = by.end;
                kept = by.kept;
              };
        }

    pub splits_behind : {was now fresh_pair : Pair} {fresh : ℕ × ℕ} {changes : List ContentChange} {bs : List ℕ} → ChangesTheseBlocks g bs mid new
        → SplitsPair (disk_of_blocks (g.geometry mid) (g.blocks mid)) (g.history mid) changes was fresh (disk_of_blocks (g.geometry new) (g.blocks new)) (g.history new) now fresh_pair
        → SplitsPair (disk_of_blocks (g.geometry old) (g.blocks old)) (g.history old) changes was fresh (disk_of_blocks (g.geometry new) (g.blocks new)) (g.history new) now fresh_pair
    splits_behind {was} {now} {fresh_pair} {fresh} {changes} only splits =
        let is = subst (λ d. SplitsPair d (g.history mid) changes was fresh (disk_of_blocks (g.geometry new) (g.blocks new)) (g.history new) now fresh_pair) same_disk splits in
        let programs = program_count-read_count read.reads in
        record {
          new = is.new;
          made = is.made;
          logged = is.logged;
          cut = is.cut;
          is_cut = is.is_cut;
          inside = is.inside;
          front = is.front;
          back = is.back;
          first = is.first;
          moved = is.moved;
          kept = is.kept;
          front_anew = is.front_anew;
          back_fresh = is.back_fresh;
          clears = record {
            erases = is.clears.erases ∙ ap (λ n. n + 3) (erase_count-read_count read.reads);
            programs = λ logs. is.clears.programs (AllCallsSince-behind logs read.reads only.at_worst) ∙ ap (λ n. n + 2) programs;
            at_most = let most = is.clears.at_most in omega (arith, programs, most);
          };
        }

    -- what a stop leaves
    pub commit_stops_behind : {at : ℕ × ℕ} {changes : List ContentChange} {bs : List ℕ} → ChangesTheseBlocks g bs mid new
        → CleanLossLeaves (g.history mid) (g.history new) (LossLeavesChanged (disk_of_blocks (g.geometry mid) (g.blocks mid)) at changes)
        → CleanLossLeaves (g.history old) (g.history new) (LossLeavesChanged (disk_of_blocks (g.geometry old) (g.blocks old)) at changes)
    commit_stops_behind {at} {changes} only stops cleanly =
        goes_on_by commit_left
        (HoldsAtLosses-weaker (λ blocks left. subst (λ d. LossLeavesChanged d at changes blocks) same_disk left) (stops (AllCallsSince-behind cleanly read.reads only.at_worst)))

    pub split_stops_behind : {at fresh : ℕ × ℕ} {changes : List ContentChange} {bs : List ℕ} → ChangesTheseBlocks g bs mid new
        → CleanLossLeaves (g.history mid) (g.history new) (LossLeavesSplit (disk_of_blocks (g.geometry mid) (g.blocks mid)) at fresh changes)
        → CleanLossLeaves (g.history old) (g.history new) (LossLeavesSplit (disk_of_blocks (g.geometry old) (g.blocks old)) at fresh changes)
    split_stops_behind {at} {fresh} {changes} only stops cleanly =
        goes_on_by split_left
        (HoldsAtLosses-weaker (λ blocks left. subst (λ d. LossLeavesSplit d at fresh changes blocks) same_disk left) (stops (AllCallsSince-behind cleanly read.reads only.at_worst)))
