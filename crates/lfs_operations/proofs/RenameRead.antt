-- A pair that is changed or split after it was read.
use Rattle.lfs_operations.proofs.Common.{ℕ, ◌≡◌, ◌⊎◌, inl, inr, false, List, [], Result, Err, refl, sym, subst, Blocks, ContentChange, CallEvent, OnlyReadsSince, fault_count, SurvivesLossSince, Tree, disk_tree, HoldsAtLosses-read_count, LeftByLoss-read, CleanLossLeaves, KeptThread, ThreadView, ThreadReportsErrors, OnlyReadsThread, thread_pair, IfErr, Error, Io, NoMemory, NoSpace, CanCommitOrSplit, LeftByCommitOrSplit, AreCommittedOrSplit, OverfillsPair, ReportsCommitOrSplit, ReportsSpaceErrors, WritesPairAndTwoFree, IsRecoveredWritableImage, ReportsReadCommitOrSplit, arith, Ok, ◌∷◌, CanEditIn}
use Rattle.lfs_operations.proofs.Putting.{cut_later, left_later, read_is, reports_later, with_history, writes_later}
use Rattle.lfs_operations.proofs.RenameReadOver.{changed_earlier, left_pair_earlier, old_there, only_read_writes, reported_again, step_stops_after_read}

-- ---- only read

pub read_survives : (t : KeptThread) (h : List CallEvent) → OnlyReadsSince t.disk.blocks t.history h → IsRecoveredWritableImage t → (tree : Tree) → SurvivesLossSince t.disk t.history h (disk_tree t.disk t.pairs) tree
read_survives t h reads ready tree clean = HoldsAtLosses-read_count LeftByLoss-read reads (record { pairs = t.pairs; accepted = ready.accepted; writable = ready.writable; tree = inl refl })

pub read_writes : (t mid : KeptThread) → OnlyReadsThread t mid → (index : ℕ) → WritesPairAndTwoFree t index mid
read_writes t mid only index = record { fresh = []; few = omega arith; free = tt; writes = only_read_writes t mid ((thread_pair t index).at.0 ∷ (thread_pair t index).at.1 ∷ []) only }

never_space : {X : Type 0} (r : Result X Error) → IfErr r (λ x. (x ≡ Io) ⊎ (x ≡ NoMemory)) → r ≡ Err NoSpace → ⊥
never_space r h e = go (subst (λ r. IfErr r (λ x. (x ≡ Io) ⊎ (x ≡ NoMemory))) e h)
  where
    go : (NoSpace ≡ Io) ⊎ (NoSpace ≡ NoMemory) → ⊥
    go (inl a) = absurd (cc)
    go (inr b) = absurd (cc)

space_errors : {X : Type 0} (t mid : KeptThread) (result : Result X Error) → ThreadReportsErrors t mid result → ReportsSpaceErrors t mid result
space_errors t mid result reported = record {
  errors = widen result reported.errors;
  fault = reported.fault;
  no_fault = reported.no_fault;
  unwritten = reported.unwritten;
  unchanged = λ none. absurd (never_space result reported.errors none);
  no_space = λ none. absurd (never_space result reported.errors none);
}
  where
    widen : {X : Type 0} (r : Result X Error) → IfErr r (λ x. (x ≡ Io) ⊎ (x ≡ NoMemory)) → IfErr r (λ x. (x ≡ Io) ⊎ ((x ≡ NoMemory) ⊎ (x ≡ NoSpace)))
    widen (Ok x) h = h
    widen (Err e) (inl a) = inl a
    widen (Err e) (inr b) = inr (inl b)

-- it couldn't be read
pub moves_unread : {X Y : Type 0} (old new : ThreadView) (index : ℕ) (changes : List ContentChange) (e : Error) (result : Result X Error) (given : Result Y Error) → result ≡ Err e → given ≡ Err e
    → new.failed ≡ false → OnlyReadsThread old.kept new.kept → ThreadReportsErrors old.kept new.kept result → ReportsReadCommitOrSplit old new index changes given
moves_unread old new index changes e result given is same works only reported =
    let again = reported_again old.kept new.kept e result given is same reported in
    record { failed = inr (works, only); reports = space_errors old.kept new.kept given again; too_large = λ none. absurd (never_space given again.errors none) }

-- ---- changed or split then

module _ (t : KeptThread) (h : List CallEvent) (reads : OnlyReadsSince t.disk.blocks t.history h) (index : ℕ) (changes : List ContentChange) where
  pub put_earlier : (new : KeptThread) → AreCommittedOrSplit (with_history t h) index changes new → AreCommittedOrSplit t index changes new
  put_earlier new (inl is) = inl (changed_earlier t h index changes new is)
  put_earlier new (inr (large, is)) = inr (large, cut_later t h reads index changes new is)

  pub left_earlier : (left : Blocks) → LeftByCommitOrSplit (with_history t h) index changes left → LeftByCommitOrSplit t index changes left
  left_earlier left (inl is) = inl (left_pair_earlier t h index changes left is)
  left_earlier left (inr (large, is)) = inr (large, left_later t h reads index changes left is)

pub read_stops : (t mid : KeptThread) {index id : ℕ} (can : CanEditIn t index id) (changes : List ContentChange) → OnlyReadsThread t mid → CleanLossLeaves t.history mid.history (LeftByCommitOrSplit t index changes)
read_stops t mid can changes only clean = HoldsAtLosses-read_count LeftByLoss-read only.reads (inl (old_there can changes))

pub stops_after_read : (t mid new : KeptThread) {index id : ℕ} (can : CanEditIn t index id) (changes : List ContentChange) → OnlyReadsThread t mid → WritesPairAndTwoFree mid index new → CleanLossLeaves mid.history new.history (LeftByCommitOrSplit mid index changes)
    → CleanLossLeaves t.history new.history (LeftByCommitOrSplit t index changes)
stops_after_read t mid new {index = index} can changes only writes stops =
    step_stops_after_read (λ k. LeftByCommitOrSplit k index changes) t mid new only (inl (old_there can changes)) (left_earlier t mid.history only.reads index changes) writes.writes stops

pub put_after_read : (t mid new : KeptThread) (index : ℕ) (changes : List ContentChange) → OnlyReadsThread t mid → AreCommittedOrSplit mid index changes new → AreCommittedOrSplit t index changes new
put_after_read t mid new index changes only is = put_earlier t mid.history only.reads index changes new (subst (λ (k : KeptThread). AreCommittedOrSplit k index changes new) (read_is t mid only) is)

pub writes_after_read : (t mid new : KeptThread) (index : ℕ) → OnlyReadsThread t mid → WritesPairAndTwoFree mid index new → WritesPairAndTwoFree t index new
writes_after_read t mid new index only w = writes_later t mid.history only.reads index [] new (subst (λ (k : KeptThread). WritesPairAndTwoFree k index new) (read_is t mid only) w)

pub can_after_read : (t mid : KeptThread) (index : ℕ) (changes : List ContentChange) → OnlyReadsThread t mid → CanCommitOrSplit t index changes → CanCommitOrSplit mid index changes
can_after_read t mid index changes only can = subst (λ (k : KeptThread). CanCommitOrSplit k index changes) (sym (read_is t mid only)) (record {
  can = record { below = can.can.below; content = can.can.content; made = can.can.made; next = can.can.next };
  raw = can.raw;
  made = can.made;
  cut = can.cut;
})

pub moves_after_read : {X : Type 0} (old mid new : ThreadView) (index : ℕ) (changes : List ContentChange) (result : Result X Error) → OnlyReadsThread old.kept mid.kept → fault_count mid.kept.history ≡ fault_count old.kept.history
    → ReportsCommitOrSplit mid new index changes result → ReportsReadCommitOrSplit old new index changes result
moves_after_read old mid new index changes result only same reported = record {
  failed = inl reported.reports.failed;
  reports = reports_later old.kept mid.kept.history only.reads index changes new.kept result same (subst (λ (k : KeptThread). ReportsSpaceErrors k new.kept result) (read_is old.kept mid.kept only) reported.reports.reports);
  too_large = λ none. subst (λ (k : KeptThread). OverfillsPair k index changes) (read_is old.kept mid.kept only) (reported.too_large none);
}
