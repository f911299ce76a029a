-- A recovery over a thread, step by step.
use Rattle.std.proofs.Common.{ℕ, zero, suc, ◌≡◌, ◌≢◌, ◌+◌, ◌≤◌, ◌<◌, ◌⊎◌, ◌∙◌, ◌==◌, inl, inr, Bool, true, false, not, eqb-true, List, [], ◌∷◌, ◌++◌, length, take, get_or, Option, None, Result, Err, refl, sym, ap, ap₂, subst, subst₂, arith, append_assoc, flat_map, length-append}
use Rattle.std.specs.Prelude.{All, IfErr}
use Rattle.lfs_tree.proofs.Common.{All-from_recursion, same_Some, ChangesOnlyMap, ThreadReportsFaults, AreUsed, IsInFlight, IsUsedBlock, InFlight, Used, Disk, AllCalls, AllCallsSince, CallEvent, OnlyReadsSince, fault_count, struct_at, continued_directory_address, IsLayoutAfterRecovery, HasEitherTree, SurvivesLossSince, with_blocks, OpenFilesByNumber, Session, Gstate, zero_gstate, is_zero, Pair, pairs_blocks, pairs_from_root, pairs_gstate, count_before_root, Tree, IsAccepted, IsReachedDirectory, all_unmoved_slots, struct_blocks, disk_tree, used_blocks, IsWritable, survives_then, arranged_after, arranged_settled, recovered_stays, Contains-occurrence_count, CompletesOperation, no_move_from, recovered_from, occurrence_count, count_append, chain_of_thread, HasNoMove, HoldsAtLosses-read_count, HoldsAtLosses-weaker, LeftByLoss-read, is_unprogrammed_byte-read_count, HasSameBlocksInFlight, IsRecoveredWritableImage, AreUnreachedNumbers, AreUnreachedFrom, CanDropPairs, HasCompletedRecovery, HasEndedMove, KeptThread, ThreadView, ThreadReportsErrors, OnlyReadsThread, ChangesThreadBlocks, AppliesOperation, IsLaterOnSameDevice, PowerLossLeavesEither, HasThreadCause, IsSoundUnlessFailed, IsSoundWithRoot, uncached_state, thread_state, HasDroppedUnreached, IsOperationApplied, IsSoundState, KeepsInFlight, TreeState, kept_thread, visible_tree}
use Rattle.lfs_device.specs.declared.error.Error.{Error}
use Rattle.lfs_device.specs.declared.error.Error.TheVariants.{Io, NoMemory}
use Rattle.lfs_model.specs.session.Operations as ops
use Rattle.std.proofs.lemmas.Bool.{and_parts}
use Rattle.lfs_model.proofs.KeptStructs.{struct_stays}
use Rattle.lfs_model.proofs.LeftFiles.{same_leaves}
use Rattle.lfs_model.proofs.Unmoved.{nothing_moves}
use Rattle.lfs_operations.specs.Recovering.{ReportsRecovery}
use Rattle.lfs_operations.specs.EndingMove.{CanEndMove}
use Rattle.lfs_operations.proofs.RecoverMap.{count_used}
use Rattle.lfs_tree.specs.Recoveries.{CanDropUnreached}
use Rattle.lfs_tree.proofs.Carried.{all_pairs, keeps_writing, lists_from, read_is, with_history}
use Rattle.lfs_tree.proofs.CarryFreed.{none_there, writes_then}
use Rattle.lfs_tree.proofs.SameErrors.{same_error}
use Rattle.lfs_tree.proofs.TakenEdits.{room_taken}
use Rattle.lfs_tree.proofs.KeptFiles.{keeps_same, keeps_then}

-- ---- numbers of pairs

numbers_from : (R : ℕ × ℕ → Type 0) (n : ℕ) (from : Option (ℕ × ℕ)) (xs : List Pair) (numbers : List ℕ) → AreUnreachedFrom R n from xs numbers → (j : ℕ) → j < length numbers → get_or numbers j 0 < n + length xs
numbers_from R n from [] numbers h j low = absurd (let l = ap length h in omega arith)
numbers_from R n from (x ∷ xs) numbers (inl h) j low = let k = numbers_from R (suc n) (continued_directory_address from x) xs numbers h.1 j low in omega arith
numbers_from R n from (x ∷ xs) numbers (inr h) j low =
    subst (λ z. get_or z j 0 < n + length (x ∷ xs)) (sym h.1.0) (go j (subst (λ z. j < length z) h.1.0 low) (λ i l. numbers_from R (suc n) (continued_directory_address from x) xs h.0 h.1.1.1 i l))
  where
    go : (j : ℕ) → j < length (n ∷ h.0) → ((i : ℕ) → i < length h.0 → get_or h.0 i 0 < suc n + length xs) → get_or (n ∷ h.0) j 0 < n + length (x ∷ xs)
    go zero l next = omega arith
    go (suc j) l next = let k = next j (omega arith) in omega arith

pub numbers_below : (ps : List Pair) (numbers : List ℕ) → AreUnreachedNumbers ps numbers → (j : ℕ) → j < length numbers → get_or numbers j 0 < length ps
numbers_below ps numbers h j low =
    let k = numbers_from (IsReachedDirectory ps) (count_before_root ps) None (pairs_from_root ps) numbers h j low in
    let c = chain_of_thread ps in
    let a = ap count_before_root c.0 ∙ c.1 in
    let b = ap length c.0 ∙ length-append (take (count_before_root ps) ps) (pairs_from_root ps) in
    omega arith

-- ---- blocks in flight

apart_pairs : (t : KeptThread) → AreUsed t.map (used_blocks t.disk t.pairs) → (b : ℕ) → IsInFlight t.map b → All (λ c. c ≢ b) (pairs_blocks t.pairs)
apart_pairs t used b flies = All-from_recursion (λ c. c ≢ b) (pairs_blocks t.pairs) (none_there b (pairs_blocks t.pairs) (let none = go (occurrence_count b (pairs_blocks t.pairs)) refl in omega arith))
  where
    go : (n : ℕ) → occurrence_count b (pairs_blocks t.pairs) ≡ n → n ≡ 0
    go zero e = refl
    go (suc n) e =
        let k = count_append b (pairs_blocks t.pairs) (flat_map (λ s. struct_blocks t.disk s.struct) (all_unmoved_slots t.pairs)) in
        let here : IsUsedBlock t.map b = (used b).1 (Contains-occurrence_count (used_blocks t.disk t.pairs) b (omega arith)) in
        let wrong : InFlight ≡ Used = same_Some InFlight Used (sym flies ∙ here) in
        absurd (cc)

leaves_same : (a c : KeptThread) → AreUsed a.map (used_blocks a.disk a.pairs) → HasSameBlocksInFlight a.map c.map → ChangesThreadBlocks (pairs_blocks a.pairs) a c → KeepsInFlight (uncached_state a true false) (uncached_state c true false)
leaves_same a c used same w = record {
  stay = λ b flies. (same b).1 flies;
  none_comes = λ b flies. (same b).0 flies;
  bytes = λ b flies. w.others.others b (apart_pairs a used b flies);
  unprogrammed_still = λ b k flies was. w.elsewhere.stays b k (apart_pairs a used b flies) was;
}

pub leaves_then : (a b c : TreeState) → KeepsInFlight a b → KeepsInFlight b c → KeepsInFlight a c
leaves_then a b c f g = record {
  stay = λ x flies. g.stay x (f.stay x flies);
  none_comes = λ x flies. f.none_comes x (g.none_comes x flies);
  bytes = λ x flies. g.bytes x (f.stay x flies) ∙ f.bytes x flies;
  unprogrammed_still = λ x k flies was. g.unprogrammed_still x k (f.stay x flies) (f.unprogrammed_still x k flies was);
}

leaves_reading : (t : KeptThread) (h : List CallEvent) → OnlyReadsSince t.disk.blocks t.history h → KeepsInFlight (uncached_state t true false) (uncached_state (with_history t h) true false)
leaves_reading t h reads = record {
  stay = λ b flies. flies;
  none_comes = λ b flies. flies;
  bytes = λ b flies. refl;
  unprogrammed_still = λ b k flies was. is_unprogrammed_byte-read_count b k reads ∙ was;
}

-- ---- directories are dropped

pub can_drop : (t m : KeptThread) (numbers : List ℕ) → CanDropUnreached t → 1024 ≤ t.disk.block_size → OnlyReadsThread t m → AreUnreachedNumbers t.pairs numbers → CanDropPairs m numbers
can_drop t m numbers can large r reported = subst (λ z. CanDropPairs z numbers) (sym (read_is t m r)) (record {
  accepted = can.accepted;
  writable = can.writable;
  used = can.used;
  size = can.size;
  large = large;
  none = can.none;
  reported = reported;
})

-- the lists are freed after the drop
pub freed : (old mid new : KeptThread) (numbers : List ℕ) → IsAccepted old.disk old.pairs → AreUsed old.map (used_blocks old.disk old.pairs) → HasNoMove (pairs_gstate old.pairs) → HasCompletedRecovery old numbers mid → ChangesThreadBlocks (pairs_blocks old.pairs) old mid → ChangesOnlyMap mid new → IsRecoveredWritableImage new → HasSameBlocksInFlight mid.map new.map
    → HasDroppedUnreached old new
freed old mid new numbers accepted used none r w only ready flying = record {
  ready = ready;
  root = ap count_before_root only.pairs ∙ r.root;
  shows = ap₂ (λ (disk : Disk) (ps : List Pair). disk_tree disk ps) only.disk only.pairs ∙ r.shows;
  completed = λ s tree. subst₂ (λ (disk : Disk) (ps : List Pair). CompletesOperation old.disk old.pairs s ops.Recover disk ps) (sym only.disk) (sym only.pairs) (r.completed s tree);
  fewer = λ b.
      let e = ap₂ (λ (disk : Disk) (ps : List Pair). occurrence_count b (used_blocks disk ps)) only.disk only.pairs in
      let u = count_used b mid.disk mid.pairs (no_move_from mid.pairs r.ready.settled) in
      let v = count_used b old.disk old.pairs none in
      let k = r.fewer b in let l = r.lost b in
      omega arith;
  keeps = λ path file. keeps_writing old new (pairs_blocks old.pairs) accepted used (all_pairs old) (writes_then old mid new (pairs_blocks old.pairs) w only) path file
      (ap (λ (ps : List Pair). struct_at ps path) only.pairs ∙ (r.completed (record { tree = disk_tree old.disk old.pairs; files = [] }) refl).structs path file refl refl);
  flight = leaves_same old new used (λ b. ((λ flies. (r.flying b).0 ((flying b).0 flies)), (λ flies. (flying b).1 ((r.flying b).1 flies)))) (writes_then old mid new (pairs_blocks old.pairs) w only);
}

dropped_behind : (t : KeptThread) (h : List CallEvent) (d : KeptThread) → OnlyReadsSince t.disk.blocks t.history h → HasDroppedUnreached (with_history t h) d → HasDroppedUnreached t d
dropped_behind t h d reads k = record {
  ready = k.ready;
  root = k.root;
  shows = k.shows;
  completed = k.completed;
  fewer = k.fewer;
  keeps = λ path file. let keeps = k.keeps path file in record { file = keeps.file; struct = keeps.struct; list = keeps.list; bytes = keeps.bytes };
  flight = leaves_then (uncached_state t true false) (uncached_state (with_history t h) true false) (uncached_state d true false) (leaves_reading t h reads) k.flight;
}

pub dropped : (t m d : KeptThread) → OnlyReadsThread t m → HasDroppedUnreached m d → HasDroppedUnreached t d
dropped t m d r k = dropped_behind t m.history d r.reads (subst (λ z. HasDroppedUnreached z d) (read_is t m r) k)

-- ---- a power loss

all_some : (events : List CallEvent) → AllCalls (λ e. Unit {0}) events
all_some [] = tt
all_some (e ∷ older) = (tt, all_some older)

pub some_since : (events old new : List CallEvent) → new ≡ events ++ old → AllCallsSince (λ e. Unit {0}) old new
some_since events old new e = record { events = events; extends = e; each = all_some events }

pub reading_survives : (t : KeptThread) (h : List CallEvent) → IsAccepted t.disk t.pairs → IsWritable t.disk t.pairs → OnlyReadsSince t.disk.blocks t.history h → SurvivesLossSince t.disk t.history h (disk_tree t.disk t.pairs) (disk_tree t.disk t.pairs)
reading_survives t h ok fits reads clean = HoldsAtLosses-read_count LeftByLoss-read reads (record { pairs = t.pairs; accepted = ok; writable = fits; tree = inl refl })

pub read_survives : (t m : KeptThread) → CanDropUnreached t → OnlyReadsThread t m → PowerLossLeavesEither t m (disk_tree t.disk t.pairs)
read_survives t m can r = reading_survives t m.history can.accepted can.writable r.reads

pub drop_survives : (t m d : KeptThread) → CanDropUnreached t → OnlyReadsThread t m → ChangesThreadBlocks (pairs_blocks m.pairs) m d → SurvivesLossSince m.disk m.history d.history (disk_tree m.disk m.pairs) (disk_tree m.disk m.pairs) → PowerLossLeavesEither t d (disk_tree t.disk t.pairs)
drop_survives t m d can r w k =
    survives_then t.disk t.history m.history d.history (disk_tree t.disk t.pairs) (disk_tree t.disk t.pairs) r.reads w.at_worst (read_survives t m can r)
    (subst₂ (λ (disk : Disk) (ps : List Pair). SurvivesLossSince disk m.history d.history (disk_tree disk ps) (disk_tree disk ps)) r.disk r.pairs k)

-- after the end of a pending move
pub end_survives : (a b : KeptThread) (h : List CallEvent) → ChangesThreadBlocks (pairs_blocks a.pairs) a b → disk_tree b.disk b.pairs ≡ disk_tree a.disk a.pairs → (calls : List CallEvent) → h ≡ calls ++ b.history
    → SurvivesLossSince a.disk a.history b.history (disk_tree a.disk a.pairs) (disk_tree a.disk a.pairs) → SurvivesLossSince b.disk b.history h (disk_tree b.disk b.pairs) (disk_tree b.disk b.pairs)
    → SurvivesLossSince a.disk a.history h (disk_tree a.disk a.pairs) (disk_tree a.disk a.pairs)
end_survives a b h w shows calls called first second =
    survives_then a.disk a.history b.history h (disk_tree a.disk a.pairs) (disk_tree a.disk a.pairs) w.at_worst (some_since calls b.history h called) first
    (λ clean. HoldsAtLosses-weaker (λ left x. subst (λ z. HasEitherTree z (disk_tree a.disk a.pairs) (disk_tree a.disk a.pairs))
    (λ j. record { block_size = w.shape.block_size j; page = w.shape.page j; order = w.shape.order j; profile = w.shape.profile j; blocks = left })
    (subst (λ z. HasEitherTree (with_blocks left b.disk) z z) shows x)) (second clean))

-- ---- calls

pub called_writing : (a b : KeptThread) (bs : List ℕ) → ChangesThreadBlocks bs a b → IsLaterOnSameDevice a b
called_writing a b bs w = record {
  geometry = record { block_size = w.shape.block_size; page = w.shape.page; order = w.shape.order; profile = w.shape.profile; count = w.shape.count };
  calls = w.at_worst.events;
  called = w.at_worst.extends;
}

pub called_then : (a b c : KeptThread) → IsLaterOnSameDevice a b → IsLaterOnSameDevice b c → IsLaterOnSameDevice a c
called_then a b c f g = record {
  geometry = record {
    block_size = g.geometry.block_size ∙ f.geometry.block_size;
    page = g.geometry.page ∙ f.geometry.page;
    order = g.geometry.order ∙ f.geometry.order;
    profile = g.geometry.profile ∙ f.geometry.profile;
    count = g.geometry.count ∙ f.geometry.count;
  };
  calls = g.calls ++ f.calls;
  called = g.called ∙ ap (λ z. g.calls ++ z) f.called ∙ sym (append_assoc g.calls f.calls a.history);
}

-- ---- the whole

pub can_end : (t : ThreadView) (root : ℕ) → IsSoundWithRoot t root true → CanEndMove t.kept
can_end t root r = record { accepted = r.sound.accepted; writable = r.sound.fits refl; used = r.sound.used; size = r.sound.size }

pub can_drop_then : (a b : KeptThread) → HasEndedMove a b → CanDropUnreached b
can_drop_then a b e = record { accepted = e.taken.follows.accepted; writable = e.taken.writable; used = e.used; size = e.size; none = e.none }

pub recovered_whole : (t : ThreadView) (root : ℕ) (b c : KeptThread) → IsSoundWithRoot t root true → (pairs_gstate t.kept.pairs ≡ zero_gstate → ⊥) → HasEndedMove t.kept b → ChangesThreadBlocks (pairs_blocks t.kept.pairs) t.kept b → HasDroppedUnreached b c → IsLaterOnSameDevice b c
    → fault_count c.history ≡ fault_count t.kept.history → AppliesOperation t.kept ops.Recover c
recovered_whole t root b c rooted left e w d called quiet =
    let a = t.kept in
    let all = called_then a b c (called_writing a b (pairs_blocks a.pairs) w) called in
    let completed : (files : OpenFilesByNumber) → CompletesOperation b.disk b.pairs (record { tree = disk_tree a.disk a.pairs; files = files }) ops.Recover c.disk c.pairs
    = λ files. d.completed (record { tree = disk_tree a.disk a.pairs; files = files }) (sym e.taken.follows.shows) in
    let stays : (files : OpenFilesByNumber) → IsLayoutAfterRecovery a.disk a.pairs (record { tree = disk_tree a.disk a.pairs; files = files }) ops.Recover c.disk c.pairs
    = λ files.
    let s : Session = record { tree = disk_tree a.disk a.pairs; files = files } in
    let k = completed files in
    arranged_after a.disk c.disk c.disk a.pairs c.pairs c.pairs s ops.Recover all.geometry k.accepted k.recovered (e.leads_on s c.disk c.pairs k.laid_out) (recovered_stays c.disk c.pairs s k.accepted d.ready.writable d.ready.settled) in
    record {
      works = refl;
      sound = record { accepted = d.ready.accepted; fits = λ z. d.ready.writable; is_kept = λ z. refl; used = d.ready.used; size = d.ready.size };
      writable = refl;
      geometry = all.geometry;
      calls = all.calls;
      called = all.called;
      no_fault = quiet;
      fits = d.ready.writable;
      recovered = (completed []).recovered;
      shows = λ around files. (completed files).tree around;
      arranged = λ was files. nothing_moves a.disk a.pairs (record { tree = disk_tree a.disk a.pairs; files = files }) ops.Recover all.calls c.disk c.pairs all.geometry d.ready.accepted (stays files);
      itself = λ z. absurd (cc);
      nothing_left = λ z done. absurd (left done.gstate);
      flight = leaves_then (uncached_state a true false) (uncached_state b true false) (uncached_state c true false) (leaves_same a b rooted.sound.used e.flying w) d.flight;
      keeps = λ path file away.
          let first = keeps_writing a b (pairs_blocks a.pairs) rooted.sound.accepted rooted.sound.used (all_pairs a) w path file (struct_stays a.disk a.pairs b.pairs path file (e.taken.follows.stays path (same_leaves path))) in
          let k = keeps_then a b c path first (d.keeps path first.file) in
          record { file = k.file; struct = k.struct; list = k.list; bytes = k.bytes };
      lists = λ none. absurd (left none);
      taken = (let k = room_taken a.disk c.disk a.pairs c.pairs (disk_tree a.disk a.pairs) ops.Recover (rooted.sound.fits refl) all.geometry (stays []) in k);
    }

-- ---- errors

pub reports_reading : {X : Type 0} (t m : KeptThread) (r : Result X Error) (e : Error) → r ≡ Err e → ThreadReportsErrors t m r → HasThreadCause t m e
reports_reading {X} t m r e is reported = record {
  errors = subst (λ (z : Result X Error). IfErr z (λ f. (f ≡ Io) ⊎ (f ≡ NoMemory))) is reported.errors;
  fault = λ io. reported.fault (is ∙ ap Err io);
  no_fault = λ other. reported.no_fault (λ io. other (same_error e Io (sym is ∙ io)));
}

pub reports_steps : {X : Type 0} (m d : ThreadView) (r : Result X Error) (e : Error) → r ≡ Err e → ReportsRecovery m d r → HasThreadCause m.kept d.kept e
reports_steps {X} m d r e is reported = record {
  errors = subst (λ (z : Result X Error). IfErr z (λ f. (f ≡ Io) ⊎ (f ≡ NoMemory))) is reported.errors;
  fault = λ io. reported.fault (is ∙ ap Err io);
  no_fault = λ other. reported.no_fault (λ io. other (same_error e Io (sym is ∙ io)));
}

pub reports_work : {X : Type 0} (m d : KeptThread) (r : Result X Error) (e : Error) → r ≡ Err e → ThreadReportsFaults m d r → HasThreadCause m d e
reports_work {X} m d r e is reported = record {
  errors = subst (λ (z : Result X Error). IfErr z (λ f. (f ≡ Io) ⊎ (f ≡ NoMemory))) is reported.errors;
  fault = λ io. reported.fault (is ∙ ap Err io);
  no_fault = λ other. reported.no_fault (λ io. other (same_error e Io (sym is ∙ io)));
}

pub reports_then : (a b c : KeptThread) (e : Error) → fault_count b.history ≡ fault_count a.history → HasThreadCause b c e → HasThreadCause a c e
reports_then a b c e quiet t = record { errors = t.errors; fault = λ io. let k = t.fault io in omega (arith, k, quiet); no_fault = λ other. t.no_fault other ∙ quiet }

-- an error is passed on
pub reports_given : {Y : Type 0} (a c : KeptThread) (given : Result Y Error) (e f : Error) → given ≡ Err f → f ≡ e → HasThreadCause a c e → IfErr given (HasThreadCause a c)
reports_given {Y = Y} a c given e f is same t = subst (λ (r : Result Y Error). IfErr r (HasThreadCause a c)) (sym is) (subst (HasThreadCause a c) (sym same) t)

-- ---- if nothing is left to recover

pub recovered_already : (t : TreeState) → t.failed ≡ false → t.writable ≡ true → IsSoundState t → pairs_gstate t.pairs ≡ zero_gstate → IsOperationApplied t ops.Recover t
recovered_already t works writable sound settled = record {
  works = works;
  sound = sound;
  writable = writable;
  geometry = record { block_size = refl; page = refl; order = refl; profile = refl; count = refl };
  calls = [];
  called = refl;
  no_fault = refl;
  fits = sound.fits writable;
  recovered = recovered_from t.disk t.pairs sound.accepted settled;
  shows = λ around files. refl;
  arranged = λ called files.
      let s : Session = record { tree = visible_tree t; files = files } in
      nothing_moves t.disk t.pairs s ops.Recover [] t.disk t.pairs (record { block_size = refl; page = refl; order = refl; profile = refl; count = refl }) sound.accepted
      (arranged_settled t.disk t.pairs s ops.Recover t.disk t.pairs sound.accepted (sound.fits writable) settled (recovered_stays t.disk t.pairs s sound.accepted (sound.fits writable) settled));
  itself = λ e. absurd (cc);
  nothing_left = λ e done. (refl, (refl, refl));
  flight = record { stay = λ b f. f; none_comes = λ b f. f; bytes = λ b f. refl; unprogrammed_still = λ b k f u. u };
  keeps = λ path file away. keeps_same (kept_thread t) path file;
  lists = λ none. lists_from t.disk t.disk t.pairs (λ b some. refl);
  taken = omega arith;
}

pub none_survives : (t : TreeState) (after : Tree) → SurvivesLossSince t.disk t.history t.history (visible_tree t) after
none_survives t after clean = record { events = []; extends = refl; each = tt }

-- a state in which nothing is set
pub nothing_set : (g : Gstate) → is_zero g ≡ true → g ≡ zero_gstate
nothing_set g z = go g.sync refl
  where
    go : (sync : Bool) → g.sync ≡ sync → g ≡ zero_gstate
    go true e = absurd (let s = (and_parts (not g.sync) _ z).0 in cc)
    go false e =
        let k = and_parts (not g.sync) _ z in
        let i = and_parts (g.kind == 0) _ k.1 in
        let p = and_parts (g.id == 0) _ i.1 in
        let q = and_parts (g.pair.0 == 0) (g.pair.1 == 0) p.1 in
        let kind = eqb-true g.kind 0 i.0 in
        let id = eqb-true g.id 0 p.0 in
        let pair : g.pair ≡ (0, 0) = ap₂ (λ x y. (x, y)) (eqb-true g.pair.0 0 q.0) (eqb-true g.pair.1 0 q.1) in
        ap (λ s. record g { sync = s }) e ∙ ap (λ k. record g { sync = false; kind = k }) kind
        ∙ ap₂ (λ i p. record { sync = false; kind = 0; id = i; pair = p }) id pair

pub something_set : (g : Gstate) → is_zero g ≡ false → g ≡ zero_gstate → ⊥
something_set g e is = let k = sym e ∙ ap is_zero is in absurd (cc)

-- what works is sound
pub held_sound : (thread : ThreadView) (root : ℕ) (writable : Bool) (now : TreeState) → IsSoundUnlessFailed thread root writable → thread_state thread writable ≡ now → now.failed ≡ false → IsSoundState now
held_sound thread root writable now kept view works =
    let s = (kept (ap (λ (s : TreeState). s.failed) view ∙ works)).sound in
    subst IsSoundState view (record { accepted = s.accepted; fits = s.fits; is_kept = s.is_kept; used = s.used; size = s.size })
