-- A pair that is changed after it was read.
use Rattle.lfs_operations.proofs.Common.{ℕ, ◌≡◌, ◌⊎◌, inl, inr, false, Some, List, Result, Err, refl, sym, ap, subst, ◌∙◌, arith, Blocks, ContentChange, CallEvent, OnlyReadsSince, fault_count, with_blocks, Pair, LossLeavesAtWorst-read, AllCallsSince-behind, HoldsAtLosses-read_count, HoldsAtLosses-trans, HoldsAtLosses-weaker, OnlyReadsSince-trans, OthersStayUnprogrammed-read_count, OthersStayUnprogrammed-trans, LeftByLoss-read, CleanLossLeaves, KeptThread, ThreadView, CanChangePair, ThreadReportsErrors, IsPairCommitted, LossLeavesPair, OnlyReadsThread, RefusesChanges, ChangesThreadBlocks, thread_pair, IfErr, Error, Io, NoMemory, ReportsReadCommit, ReportsCommit, CanEditIn, Disk, IsPairWritten, PairContent}
use Rattle.lfs_operations.proofs.Held.{here, holds}
use Rattle.lfs_operations.proofs.Putting.{read_is, with_history, same_err}

pub written_earlier : (t : KeptThread) (h : List CallEvent) (index : ℕ) (content : PairContent) (disk : Disk) → IsPairWritten (with_history t h) index content disk → IsPairWritten t index content disk
written_earlier t h index content disk w = record { holds = w.holds; others = w.others; shape = w.shape; first = w.first }

pub changed_earlier : (t : KeptThread) (h : List CallEvent) (index : ℕ) (changes : List ContentChange) (new : KeptThread) → IsPairCommitted (with_history t h) index changes new → IsPairCommitted t index changes new
changed_earlier t h index changes new is = record {
  content = is.content;
  made = is.made;
  written = written_earlier t h index is.content new.disk is.written;
  fits = is.fits;
  pairs = is.pairs;
  thread = is.thread;
  map = is.map;
}

pub changed_after_read : (t mid new : KeptThread) (index : ℕ) (changes : List ContentChange) → OnlyReadsThread t mid → IsPairCommitted mid index changes new → IsPairCommitted t index changes new
changed_after_read t mid new index changes only is = changed_earlier t mid.history index changes new (subst (λ (k : KeptThread). IsPairCommitted k index changes new) (read_is t mid only) is)

pub can_change_after_read : (t mid : KeptThread) (index : ℕ) (changes : List ContentChange) → OnlyReadsThread t mid → CanChangePair t index changes → CanChangePair mid index changes
can_change_after_read t mid index changes only can = subst (λ (k : KeptThread). CanChangePair k index changes) (sym (read_is t mid only)) (record { below = can.below; content = can.content; made = can.made; next = can.next })

refused_earlier : (t : KeptThread) (h : List CallEvent) (new : KeptThread) (index : ℕ) (changes : List ContentChange) → OnlyReadsSince t.disk.blocks t.history h → RefusesChanges (with_history t h) index changes new → RefusesChanges t index changes new
refused_earlier t h new index changes reads is = record {
  content = is.content;
  made = is.made;
  too_large = is.too_large;
  only = record { disk = is.only.disk; reads = OnlyReadsSince-trans reads is.only.reads refl; pairs = is.only.pairs; map = is.only.map };
}

pub refused_after_read : (t mid new : KeptThread) (index : ℕ) (changes : List ContentChange) → OnlyReadsThread t mid → RefusesChanges mid index changes new → RefusesChanges t index changes new
refused_after_read t mid new index changes only is = refused_earlier t mid.history new index changes only.reads (subst (λ (k : KeptThread). RefusesChanges k index changes new) (read_is t mid only) is)

pub writes_earlier : (t : KeptThread) (h : List CallEvent) (new : KeptThread) (bs : List ℕ) → OnlyReadsSince t.disk.blocks t.history h → ChangesThreadBlocks bs (with_history t h) new → ChangesThreadBlocks bs t new
writes_earlier t h new bs reads w = record {
  others = w.others;
  elsewhere = OthersStayUnprogrammed-trans (OthersStayUnprogrammed-read_count bs reads) w.elsewhere;
  shape = w.shape;
  at_worst = HoldsAtLosses-trans (HoldsAtLosses-read_count LossLeavesAtWorst-read reads (record { count = refl; sizes = λ b. refl; others = λ b apart. refl })) w.at_worst;
}

pub blocks_after_read : (t mid new : KeptThread) (bs : List ℕ) → OnlyReadsThread t mid → ChangesThreadBlocks bs mid new → ChangesThreadBlocks bs t new
blocks_after_read t mid new bs only w = writes_earlier t mid.history new bs only.reads (subst (λ (k : KeptThread). ChangesThreadBlocks bs k new) (read_is t mid only) w)

pub only_read_writes : (t mid : KeptThread) (bs : List ℕ) → OnlyReadsThread t mid → ChangesThreadBlocks bs t mid
only_read_writes t mid bs only = subst (λ (k : KeptThread). ChangesThreadBlocks bs t k) (sym (read_is t mid only)) (record {
  others = record { count = refl; sizes = λ b. refl; others = λ b apart. refl };
  elsewhere = OthersStayUnprogrammed-read_count bs only.reads;
  shape = record { block_size = refl; page = refl; order = refl; profile = refl; count = refl };
  at_worst = HoldsAtLosses-read_count LossLeavesAtWorst-read only.reads (record { count = refl; sizes = λ b. refl; others = λ b apart. refl });
})

-- ---- at a power loss

-- the pair as it was, at a power loss in a read
pub old_there : {t : KeptThread} {index id : ℕ} → CanEditIn t index id → (changes : List ContentChange) → LossLeavesPair t index changes t.disk.blocks
old_there {t = t} {index = index} can changes = record {
  content = (thread_pair t index).content;
  is = inl refl;
  written = record {
    holds = holds t can.ready can.first index can.stands.pair can.stands.rest can.stands.place ∙ ap (λ (z : Pair). Some z.content) (sym (here t can.ready can.first index can.stands.pair can.stands.rest can.stands.place));
    others = record { count = refl; sizes = λ b. refl; others = λ b apart. refl };
    shape = record { block_size = refl; page = refl; order = refl; profile = refl; count = refl };
    first = λ b k. b;
  };
}

pub left_pair_earlier : (t : KeptThread) (h : List CallEvent) (index : ℕ) (changes : List ContentChange) (left : Blocks) → LossLeavesPair (with_history t h) index changes left → LossLeavesPair t index changes left
left_pair_earlier t h index changes left is = record { content = is.content; is = is.is; written = written_earlier t h index is.content (with_blocks left t.disk) is.written }

-- A power loss in the read leaves the old disk, and one after it what the step leaves.
pub step_stops_after_read : {P : Blocks → Type 0} (Q : KeptThread → Blocks → Type 0) {bs : List ℕ} (t mid new : KeptThread) → OnlyReadsThread t mid → P t.disk.blocks → ((left : Blocks) → Q (with_history t mid.history) left → P left)
    → ChangesThreadBlocks bs mid new → CleanLossLeaves mid.history new.history (Q mid) → CleanLossLeaves t.history new.history P
step_stops_after_read Q t mid new only old earlier writes stops clean = HoldsAtLosses-trans (HoldsAtLosses-read_count LeftByLoss-read only.reads old)
    (HoldsAtLosses-weaker (λ left l. earlier left (subst (λ (k : KeptThread). Q k left) (read_is t mid only) l)) (stops (AllCallsSince-behind clean only.reads writes.at_worst)))

pub change_stops_after_read : (t mid new : KeptThread) {index id : ℕ} (can : CanEditIn t index id) (changes : List ContentChange) {bs : List ℕ} → OnlyReadsThread t mid → ChangesThreadBlocks bs mid new
    → CleanLossLeaves mid.history new.history (LossLeavesPair mid index changes) → CleanLossLeaves t.history new.history (LossLeavesPair t index changes)
change_stops_after_read t mid new {index = index} can changes only writes stops =
    step_stops_after_read (λ k. LossLeavesPair k index changes) t mid new only (old_there can changes) (left_pair_earlier t mid.history index changes) writes stops

-- ---- errors

-- an error passed on
pub reported_again : {X Y : Type 0} (t new : KeptThread) (e : Error) (result : Result X Error) (given : Result Y Error) → result ≡ Err e → given ≡ Err e → ThreadReportsErrors t new result → ThreadReportsErrors t new given
reported_again t new e result given is same reported = record {
  errors = subst (λ r. IfErr r (λ x. (x ≡ Io) ⊎ (x ≡ NoMemory))) (sym same) (subst (λ r. IfErr r (λ x. (x ≡ Io) ⊎ (x ≡ NoMemory))) is reported.errors);
  fault = λ io. reported.fault (is ∙ ap Err (same_err e Io given same io));
  no_fault = λ other. reported.no_fault (λ io. other (same ∙ ap Err (same_err e Io result is io)));
  unwritten = λ none. reported.unwritten (is ∙ ap Err (same_err e NoMemory given same none));
}

pub over_unread : {X Y : Type 0} (old new : ThreadView) (e : Error) (result : Result X Error) (given : Result Y Error) → result ≡ Err e → given ≡ Err e → new.failed ≡ false → OnlyReadsThread old.kept new.kept
    → ThreadReportsErrors old.kept new.kept result → ReportsReadCommit old new given
over_unread old new e result given is same works only reported = record { failed = inr (works, only); reported = reported_again old.kept new.kept e result given is same reported }

later : {X : Type 0} (t : KeptThread) (h : List CallEvent) (new : KeptThread) (result : Result X Error) → OnlyReadsSince t.disk.blocks t.history h → fault_count h ≡ fault_count t.history → ThreadReportsErrors (with_history t h) new result → ThreadReportsErrors t new result
later t h new result reads same reported = record {
  errors = reported.errors;
  fault = λ io. (let k = reported.fault io in omega (arith, k, same));
  no_fault = λ other. reported.no_fault other ∙ same;
  unwritten = λ none. (let u = reported.unwritten none in record { disk = u.disk; reads = OnlyReadsSince-trans reads u.reads refl });
}

reported_later : {X : Type 0} (t mid new : KeptThread) (result : Result X Error) → OnlyReadsThread t mid → fault_count mid.history ≡ fault_count t.history → ThreadReportsErrors mid new result → ThreadReportsErrors t new result
reported_later t mid new result only same reported = later t mid.history new result only.reads same (subst (λ (k : KeptThread). ThreadReportsErrors k new result) (read_is t mid only) reported)

pub over_later : {X : Type 0} (old mid new : ThreadView) (result : Result X Error) → OnlyReadsThread old.kept mid.kept → fault_count mid.kept.history ≡ fault_count old.kept.history → ReportsCommit mid new result → ReportsReadCommit old new result
over_later old mid new result only faultless h = record { failed = inl h.failed; reported = reported_later old.kept mid.kept new.kept result only faultless h.reported }
