-- A commit or a split after reads.
use Rattle.std.proofs.Common.{ℕ, ◌≡◌, ◌+◌, inl, inr, refl, sym, ap, ap₂, ◌∙◌, subst, List, Some, None, arith, ◌≤◌, Option}
use Rattle.lfs_device.specs.declared.device.BlockDevice.{Ghosts}
use Rattle.lfs_device.specs.declared.geometry.Geometry.{Geometry}
use Rattle.lfs_pair.proofs.Common.{ReadsOnly, disk_of_blocks, Blocks, Disk, RawContentFitsInPair, CallEvent, AllCallsSince, OnlyReadsSince, ContentChange, AllCallsSince-behind, blank_answer_count-read_count, erase_count-read_count, program_count-read_count, header_address, AppendFits, IsEndUnprogrammed, changed_pair_content, ErasedOneMore, IsWellFormed, RawContent, ChangesTheseBlocks, ChangesReadingFew, block_bytes, HoldsAtLosses, HoldsAtLosses-read_count, HoldsAtLosses-weaker, LeftByLoss, LeftByLoss-read, ErasesCleanly, goes_on_by, fault_count, read_count, AreNamed, LossLeavesChanged, LossLeavesNew, changed_log_content}
use Rattle.lfs_pair.specs.declared.pair.Pair.{Pair}
use Rattle.lfs_pair.specs.Commits.{CommitsChanges, RefusesCommit, AppendsChanges, AppendsByHeader, CanCommit, CompactsContent, RefusesAppend}
use Rattle.lfs_pair.proofs.Calls.{only_by_reads, only_trans}
use Rattle.lfs_pair.proofs.Changed.{some_same, content_made_here, left_alone, left_by_change, made_here}
use Rattle.lfs_model.proofs.Completed.{fits_raw}
use Rattle.lfs_model.proofs.Histories.{began}
use Rattle.lfs_model.specs.format.Content.{decoded_content}
use Rattle.std.specs.Prelude.{IfSome, IfNone}
use Rattle.lfs_pair.specs.declared.programs.WrittenCommit.{WrittenCommit}
use Rattle.lfs_pair.specs.Pair.{IsHeaderWith, IsWrittenHeader}
use Rattle.lfs_pair.proofs.Asking.{appends_until}

-- ---- reads

-- a device that was only read, at most `most` times and without a fault
pub record IsRead {D : Type 0} (g : Ghosts D) (most : ℕ) (old mid : D) : Type 0 where
  pub device : ReadsOnly g old mid
  pub few : read_count (g.history mid) ≤ read_count (g.history old) + most
  pub faultless : fault_count (g.history mid) ≡ fault_count (g.history old)

-- a device that wasn't called
pub unread : {D : Type 0} (g : Ghosts D) (old : D) → IsRead g 0 old old
unread g old = record { device = record { same = refl; geometry = refl; reads = began }; few = omega arith; faultless = refl }

-- the same if nothing was appended then
pub is_read_on : {D : Type 0} {g : Ghosts D} {most : ℕ} {changes : List ContentChange} {old mid new : D} {was now : Pair} → IsRead g most old mid → RefusesAppend g changes mid new was now → IsRead g most old new
is_read_on {g = g} {old = old} r refused = record {
  device = record {
    same = refused.blocks ∙ r.device.same;
    geometry = refused.geometry ∙ r.device.geometry;
    reads = subst (OnlyReadsSince (g.blocks old) (g.history old)) (sym refused.history) r.device.reads;
  };
  few = let same = ap read_count refused.history in let few = r.few in omega (arith, same, few);
  faultless = ap fault_count refused.history ∙ r.faultless;
}

pub same_disk : {D : Type 0} {g : Ghosts D} {old mid : D} → ReadsOnly g old mid → disk_of_blocks (g.geometry mid) (g.blocks mid) ≡ disk_of_blocks (g.geometry old) (g.blocks old)
same_disk reads = ap₂ disk_of_blocks reads.geometry reads.same

pub only_behind : {D : Type 0} {g : Ghosts D} {most : ℕ} {bs : List ℕ} {old mid new : D} → IsRead g most old mid → ChangesTheseBlocks g bs mid new → ChangesTheseBlocks g bs old new
only_behind r only = only_trans (only_by_reads r.device) only

pub reading_behind : {D : Type 0} {g : Ghosts D} {n : ℕ} (m : ℕ) {bs : List ℕ} {old mid new : D} → IsRead g n old mid → ChangesTheseBlocks g bs mid new → read_count (g.history new) ≤ read_count (g.history mid) + m → ChangesReadingFew g (m + n) bs old new
reading_behind m r only more = record { only = only_behind r only; few = let few = r.few in omega (arith, few, more) }

-- the same if more reads are allowed
pub reading_more : {D : Type 0} {g : Ghosts D} (n : ℕ) {bs : List ℕ} {old new : D} → ChangesReadingFew g (0 + n) bs old new → ChangesReadingFew g (1 + n) bs old new
reading_more n reads = record { only = reads.only; few = let few = reads.few in omega (arith, few) }

-- ---- the content that is to be written

-- what changes make of a pair, which can be written
pub record IsToWrite (disk : Disk) (at : ℕ × ℕ) (changes : List ContentChange) (c : RawContent) : Type 0 where
  pub made : changed_pair_content disk at changes ≡ Some c
  pub logged : IsWellFormed c
  pub fits : RawContentFitsInPair disk.block_size disk.page c
  pub names : AreNamed c.slots

pub is_to_write : {geometry here : Geometry} {blocks : Blocks} {history : List CallEvent} {pair : Pair} {block : List ℕ} {changes : List ContentChange} {c : RawContent} → CanCommit (disk_of_blocks geometry blocks) history pair changes
    → block ≡ block_bytes blocks pair.active → changed_log_content block changes ≡ Some c → IsWellFormed c → here ≡ geometry → RawContentFitsInPair here.block_size here.page c → IsToWrite (disk_of_blocks geometry blocks) (header_address pair) changes c
is_to_write {geometry} {here} {blocks} {history} {pair} {block} {changes} {c} can is log logged same fits =
    let disk = disk_of_blocks geometry blocks in
    record {
      made = made_here disk history pair can.held block changes (Some c) can.is_pair is log;
      logged = logged;
      fits = subst (λ (k : Geometry). RawContentFitsInPair k.block_size k.page c) same fits;
      names = subst (λ (new : RawContent). AreNamed new.slots) (content_made_here disk history pair can.held can.new block changes c can.is_pair is can.changed log) can.names;
    }

-- ---- a commit

pub made_behind : {D : Type 0} {g : Ghosts D} {most : ℕ} {at : ℕ × ℕ} {changes : List ContentChange} {c : RawContent} {old mid : D} → IsRead g most old mid → IsToWrite (disk_of_blocks (g.geometry old) (g.blocks old)) at changes c
    → changed_pair_content (disk_of_blocks (g.geometry mid) (g.blocks mid)) at changes ≡ Some c
made_behind {at = at} {changes = changes} r to = ap (λ d. changed_pair_content d at changes) (same_disk r.device) ∙ to.made

-- what changes make is made of the same content again
pub write_again : {disk : Disk} {at : ℕ × ℕ} {changes : List ContentChange} {c again : RawContent} → IsToWrite disk at changes c → changed_pair_content disk at changes ≡ Some again → IsToWrite disk at changes again
write_again {disk} {at} {changes} to made = subst (IsToWrite disk at changes) (some_same (sym to.made ∙ made)) to

pub appends_some : {old disk : Disk} {before history : List CallEvent} {was : Pair} {changes : List ContentChange} {written : WrittenCommit} {o : Option WrittenCommit} → o ≡ Some written
    → IfSome o (λ w. AppendsByHeader old before was changes disk history w.end w.last) → AppendsByHeader old before was changes disk history written.end written.last
appends_some {old} {disk} {before} {history} {was} {changes} is appends = subst (λ x. IfSome x (λ w. AppendsByHeader old before was changes disk history w.end w.last)) is appends

pub refuses_none : {D : Type 0} {g : Ghosts D} {changes : List ContentChange} {old new : D} {was : Pair} {o : Option WrittenCommit} → o ≡ None → IfNone o (RefusesAppend g changes old new was was) → RefusesAppend g changes old new was was
refuses_none {g = g} {changes} {old} {new} {was} is refuses = subst (λ x. IfNone x (RefusesAppend g changes old new was was)) is refuses

-- the header after an append has the same address
pub same_header : {c : RawContent} {was with pair : Pair} {end last : ℕ} → IsHeaderWith c was with → IsWrittenHeader (header_address with) with.active with.revision end last c pair
    → IsWrittenHeader (header_address was) was.active was.revision end last c pair
same_header with now = record { blocks = now.blocks ∙ with.blocks; active = now.active ∙ with.active; revision = now.revision ∙ with.revision; ends = now.ends; sums = now.sums; fetched = now.fetched }

-- what could be appended could be by the history before the reads
appends_ahead : {disk : Disk} {blocks : Blocks} {before mid after : List CallEvent} {pair : Pair} {changes : List ContentChange} → OnlyReadsSince blocks before mid → AppendFits disk mid after pair changes → AppendFits disk before after pair changes
appends_ahead {before = before} {mid = mid} {after = after} {pair = pair} reads can = record { known = known can.known; room = can.room }
  where
    known : IsEndUnprogrammed mid after pair → IsEndUnprogrammed before after pair
    known (inl written) = inl written
    known (inr blank) = let same = blank_answer_count-read_count reads in inr (omega (arith, same, blank))

pub commits_appended : {D : Type 0} {g : Ghosts D} {most : ℕ} {changes : List ContentChange} {c : RawContent} {old mid new : D} {was pair : Pair} → IsRead g most old mid → IsToWrite (disk_of_blocks (g.geometry old) (g.blocks old)) (header_address was) changes c
    → AppendsChanges (disk_of_blocks (g.geometry mid) (g.blocks mid)) (g.history mid) was changes c (disk_of_blocks (g.geometry new) (g.blocks new)) (g.history new) pair
    → CommitsChanges (disk_of_blocks (g.geometry old) (g.blocks old)) (g.history old) changes was (disk_of_blocks (g.geometry new) (g.blocks new)) (g.history new) pair
commits_appended {g = g} {changes = changes} {c = c} {mid = mid} {new = new} {was = was} {pair = pair} r to now =
    let reads = r.device.reads in
    let is = subst (λ d. AppendsChanges d (g.history mid) was changes c (disk_of_blocks (g.geometry new) (g.blocks new)) (g.history new) pair) (same_disk r.device) now in
    record {
      new = c;
      made = to.made;
      fits = to.fits;
      logged = to.logged;
      holds = is.holds;
      first = is.first;
      appended = λ appends. record {
        active = is.appended.active;
        log = is.appended.log;
        others = is.appended.others;
        erases = is.appended.erases ∙ erase_count-read_count reads;
        programs = is.appended.programs ∙ ap (λ n. n + 1) (program_count-read_count reads);
        kept = is.appended.kept;
      };
      compacted = λ full. absurd (full (appends_ahead reads is.appends));
    }

pub commits_compacted : {D : Type 0} {g : Ghosts D} {most : ℕ} {changes : List ContentChange} {c : RawContent} {old mid kept new : D} {was same pair : Pair} → IsRead g most old mid → IsToWrite (disk_of_blocks (g.geometry old) (g.blocks old)) (header_address was) changes c
    → RefusesAppend g changes mid kept was same
    → CompactsContent (disk_of_blocks (g.geometry kept) (g.blocks kept)) (g.history kept) same c (disk_of_blocks (g.geometry new) (g.blocks new)) (g.history new) pair
    → CommitsChanges (disk_of_blocks (g.geometry old) (g.blocks old)) (g.history old) changes was (disk_of_blocks (g.geometry new) (g.blocks new)) (g.history new) pair
commits_compacted {g = g} {changes = changes} {c = c} {mid = mid} {kept = kept} {new = new} {was = was} {pair = pair} r to refused now =
    let reads = (is_read_on r refused).device in
    let moved = subst (λ p. CompactsContent (disk_of_blocks (g.geometry kept) (g.blocks kept)) (g.history kept) p c (disk_of_blocks (g.geometry new) (g.blocks new)) (g.history new) pair) refused.pair now in
    let is = subst (λ d. CompactsContent d (g.history kept) was c (disk_of_blocks (g.geometry new) (g.blocks new)) (g.history new) pair) (same_disk reads) moved in
    let blanks = is.compacted.anew.blanks ∙ blank_answer_count-read_count reads.reads in
    record {
      new = c;
      made = to.made;
      fits = to.fits;
      logged = to.logged;
      holds = is.holds;
      first = is.first;
      appended = λ appends. absurd (refused.no_room (subst (λ d. AppendFits d (g.history mid) (g.history kept) was changes) (sym (same_disk r.device)) (appends_until blanks appends)));
      compacted = λ full. record {
        active = is.compacted.active;
        anew = record {
          holds = is.compacted.anew.holds;
          erases = is.compacted.anew.erases ∙ ap (λ n. n + 1) (erase_count-read_count reads.reads);
          programs = is.compacted.anew.programs ∙ ap (λ n. n + 1) (program_count-read_count reads.reads);
          blanks = blanks;
        };
        end = is.compacted.end;
        kept = is.compacted.kept;
      };
    }

-- what a stop leaves
pub stops_behind : {D : Type 0} {g : Ghosts D} {most : ℕ} {bs : List ℕ} {at now : ℕ × ℕ} {changes : List ContentChange} {c : RawContent} {old mid new : D} → IsRead g most old mid → IsToWrite (disk_of_blocks (g.geometry old) (g.blocks old)) at changes c → now ≡ at → ChangesTheseBlocks g bs mid new
    → (AllCallsSince ErasesCleanly (g.history mid) (g.history new) → HoldsAtLosses LeftByLoss (g.history mid) (g.history new) (LossLeavesNew (disk_of_blocks (g.geometry mid) (g.blocks mid)) now c))
    → AllCallsSince ErasesCleanly (g.history old) (g.history new) → HoldsAtLosses LeftByLoss (g.history old) (g.history new) (LossLeavesChanged (disk_of_blocks (g.geometry old) (g.blocks old)) at changes)
stops_behind {g = g} {at = at} {now = now} {changes = changes} {c = c} {old = old} r to same only stops cleanly =
    let disk = disk_of_blocks (g.geometry old) (g.blocks old) in
    goes_on_by (HoldsAtLosses-read_count LeftByLoss-read r.device.reads (left_alone disk at changes))
    (HoldsAtLosses-weaker (λ blocks left. left_by_change disk at changes c blocks to.made to.fits to.logged
    (subst (λ a. LossLeavesNew disk a c blocks) same (subst (λ d. LossLeavesNew d now c blocks) (same_disk r.device) left)))
    (stops (AllCallsSince-behind cleanly r.device.reads only.at_worst)))

-- what the changes make doesn't fit, and nothing was written
pub is_full : {D : Type 0} {g : Ghosts D} {changes : List ContentChange} {old mid : D} {was : Pair} {c : RawContent} → ReadsOnly g old mid → changed_pair_content (disk_of_blocks (g.geometry old) (g.blocks old)) (header_address was) changes ≡ Some c → IsWellFormed c
    → (RawContentFitsInPair (g.geometry old).block_size (g.geometry old).page c → ⊥) → RefusesCommit g changes old mid was was
is_full {g = g} {old = old} {c = c} reads made logged full = record {
  full = λ n is fits. full (subst (RawContentFitsInPair (g.geometry old).block_size (g.geometry old).page) (sym (some_same (sym made ∙ is))) fits);
  completed = λ n e is whole fits. full (fits_raw (g.geometry old).block_size (g.geometry old).page c e logged (ap decoded_content (some_same (sym made ∙ is)) ∙ whole) fits);
  pair = refl;
  device = reads;
}

-- ---- a copy or a split

pub clears_behind : {count : ℕ} {blocks : Blocks} {before mid history : List CallEvent} {P : CallEvent → Type 0} → OnlyReadsSince blocks before mid → AllCallsSince P mid history → ErasedOneMore count mid history → ErasedOneMore count before history
clears_behind {count} reads since clears =
    let same = program_count-read_count reads in
    record {
      erases = clears.erases ∙ ap (λ n. n + (count + 1)) (erase_count-read_count reads);
      programs = λ logs. clears.programs (AllCallsSince-behind logs reads since) ∙ ap (λ n. n + count) same;
      at_most = let most = clears.at_most in omega (arith, same, most);
    }
