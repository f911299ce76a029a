-- Calls that end in an error instead of a reply.
use Rattle.std.proofs.Common.{inl, inr, ℕ, ◌≡◌, ◌+◌, ◌<◌, Bool, true, false, cond, List, [], ◌∷◌, ◌++◌, refl, sym, ap, ap₂, subst, ◌∙◌, append_assoc, arith}
use Rattle.std.specs.Prelude.{◌⊎◌}
use Rattle.lfs_device.specs.declared.error.Error.{Error}
use Rattle.lfs_device.specs.declared.error.Error.TheVariants.{Io, NoMemory}
use Rattle.lfs_fs.proofs.Common.{Blocks, SameGeometry, CallEvent, AllCalls, IsRead, call_reads, fault_count, Operation, OpenFilesByNumber, Session, SessionHealth, HasFailed, Healthy, is_remount, SystemState, WriteNothing, is_read_only, renames_itself, TreeState, IsSoundState, OnlyReadsTree, IsFailedTree, FailedByReading, HasErrorCause, SessionView, view_with_files, viewed_session, system_state, SessionFails}
use Rattle.lfs_model.specs.session.History.{DeviceCall, Read, Program, Erase, Blank, call_programs, call_erases}

-- ---- calls

none_written : (call : DeviceCall) → call_reads call ≡ 1 → (call_programs call ≡ 0) × (call_erases call ≡ 0)
none_written (Read block off len) e = (refl, refl)
none_written (Program block off bytes) e = absurd (cc)
none_written (Erase block) e = absurd (cc)
none_written (Blank block off len) e = absurd (cc)

pub reads_write_nothing : (blocks : Blocks) (events : List CallEvent) → AllCalls (IsRead blocks) events → WriteNothing events
reads_write_nothing blocks [] h = (refl, refl)
reads_write_nothing blocks (e ∷ older) h =
    let k = reads_write_nothing blocks older h.1 in
    let l = none_written e.call h.0.reads in
    (ap₂ (λ x y. x + y) k.0 l.0, ap₂ (λ x y. x + y) k.1 l.1)

zero_left : (m n : ℕ) → m + n ≡ 0 → m ≡ 0
zero_left m n e = omega arith

zero_right : (m n : ℕ) → m + n ≡ 0 → n ≡ 0
zero_right m n e = omega arith

pub nothing_written : (new old : List CallEvent) → WriteNothing new → WriteNothing old → WriteNothing (new ++ old)
nothing_written [] old h k = k
nothing_written (e ∷ new) old h k =
    let l = nothing_written new old (zero_left _ _ h.0, zero_left _ _ h.1) k in
    (ap₂ (λ x y. x + y) l.0 (zero_right _ _ h.0), ap₂ (λ x y. x + y) l.1 (zero_right _ _ h.1))

-- ---- moments

state_of : SessionView → Bool → SessionHealth
state_of h b = cond b HasFailed (Healthy (viewed_session h))

pub failed_system : (h : SessionView) → h.tree.failed ≡ true → system_state h ≡ record { disk = h.tree.disk; calls = h.tree.history; state = HasFailed }
failed_system h e = ap (λ b. record { disk = h.tree.disk; calls = h.tree.history; state = cond b HasFailed (Healthy (viewed_session h)) }) e

pub healthy_system : (h : SessionView) → h.tree.failed ≡ false → system_state h ≡ record { disk = h.tree.disk; calls = h.tree.history; state = Healthy (viewed_session h) }
healthy_system h e = ap (λ b. record { disk = h.tree.disk; calls = h.tree.history; state = cond b HasFailed (Healthy (viewed_session h)) }) e

works_not_failed : (h : SessionView) → h.tree.failed ≡ false → (system_state h).state ≡ HasFailed → ⊥
works_not_failed h works f = let k : Healthy (viewed_session h) ≡ HasFailed = sym (ap (λ (m : SystemState). m.state) (healthy_system h works)) ∙ f in absurd (cc)

same_session : (s t : Session) → Healthy s ≡ Healthy t → s ≡ t
same_session s t e = ap or_else e
  where
    or_else : SessionHealth → Session
    or_else HasFailed = s
    or_else (Healthy z) = z

-- ---- errors

pub widened : {P : Type 0} (e : Error) → (e ≡ Io) ⊎ (e ≡ NoMemory) → (e ≡ Io) ⊎ ((e ≡ NoMemory) ⊎ P)
widened e (inl h) = inl h
widened e (inr h) = inr (inl h)

-- a call failed that only reads, and with it any operation
pub asking_fails : (e : Error) (old : SessionView) (op : Operation) (tree : TreeState) (files : OpenFilesByNumber) → old.tree.failed ≡ false → FailedByReading old.tree tree → HasErrorCause old.tree tree e →
    SessionFails e (system_state old) op (system_state (view_with_files tree files))
asking_fails e old op tree files works broken error = record {
  fails = record {
    failed = ap (λ (m : SystemState). m.state) (failed_system (view_with_files tree files) broken.failed);
    geometry = subst (λ d. SameGeometry old.tree.disk d) (sym broken.disk) (record { block_size = refl; page = refl; order = refl; profile = refl; count = refl });
    calls = broken.reads.events;
    called = broken.reads.extends;
    asks = λ s f a. (broken.disk, writes);
    itself = λ h. (broken.disk, writes);
    unwritten = λ none. (broken.disk, writes);
    remounted = λ h. (broken.disk, writes);
    reads = λ h. broken.reads.each;
    silent = λ f other. absurd (works_not_failed old works f);
  };
  errors = widened e error.errors;
  fault = error.fault;
  no_fault = error.no_fault;
}
  where
    writes : WriteNothing broken.reads.events
    writes = reads_write_nothing old.tree.disk.blocks broken.reads.events broken.reads.each

-- a call failed that changes the disk, which may be written
pub broken_fails : (e : Error) (old : SessionView) (op : Operation) (mid new : TreeState) (files : OpenFilesByNumber) → old.tree.failed ≡ false → is_remount op ≡ false → is_read_only (viewed_session old) op ≡ false →
    renames_itself op ≡ false → IsSoundState old.tree → old.tree.writable ≡ true → OnlyReadsTree old.tree mid → IsFailedTree mid new → HasErrorCause mid new e → SessionFails e (system_state old) op (system_state (view_with_files new files))
broken_fails e old op mid new files works other asks itself sound writable asked broken error = record {
  fails = record {
    failed = ap (λ (m : SystemState). m.state) (failed_system (view_with_files new files) broken.failed);
    geometry = subst (λ (t : TreeState). SameGeometry t.disk new.disk) asked.same broken.geometry;
    calls = broken.calls ++ asked.reads.events;
    called = broken.called ∙ ap (λ z. broken.calls ++ z) asked.reads.extends ∙ sym (append_assoc broken.calls asked.reads.events old.tree.history);
    asks = λ s f a. absurd (let k = sym asks ∙ ap (λ z. is_read_only z op) (same_session (viewed_session old) s (sym (ap (λ (m : SystemState). m.state) (healthy_system old works)) ∙ f)) ∙ a in cc);
    itself = λ h. absurd (let k = sym itself ∙ h in cc);
    unwritten = λ none. absurd (none old.tree.pairs sound.accepted (sound.fits writable));
    remounted = λ h. absurd (let k = sym other ∙ h in cc);
    reads = λ h. absurd (let k = sym other ∙ h in cc);
    silent = λ f h. absurd (works_not_failed old works f);
  };
  errors = widened e error.errors;
  fault = λ h. subst (λ n. n < fault_count new.history) asked.no_fault (error.fault h);
  no_fault = λ h. error.no_fault h ∙ asked.no_fault;
}

-- no memory is found for what the session keeps
pub memory_error : (old mid : TreeState) → OnlyReadsTree old mid → HasErrorCause old (record mid { failed = true }) NoMemory
memory_error old mid asked = record { errors = inr refl; fault = λ h. absurd (cc); no_fault = λ h. asked.no_fault }

pub memory_broken : (old mid : TreeState) → OnlyReadsTree old mid → FailedByReading old (record mid { failed = true })
memory_broken old mid asked = record {
  failed = refl;
  disk = ap (λ (t : TreeState). t.disk) asked.same;
  reads = asked.reads;
}

pub memory_fails : (old : SessionView) (op : Operation) (mid : TreeState) (files : OpenFilesByNumber) → old.tree.failed ≡ false → OnlyReadsTree old.tree mid →
    SessionFails NoMemory (system_state old) op (system_state (view_with_files (record mid { failed = true }) files))
memory_fails old op mid files works asked = asking_fails NoMemory old op (record mid { failed = true }) files works (memory_broken old.tree mid asked) (memory_error old.tree mid asked)

-- the same before any call, whether or not the session had failed
pub memory_fails_at_once : (old : SessionView) (op : Operation) → SessionFails NoMemory (system_state old) op (system_state (view_with_files (record old.tree { failed = true }) old.files))
memory_fails_at_once old op = record {
  fails = record {
    failed = refl;
    geometry = record { block_size = refl; page = refl; order = refl; profile = refl; count = refl };
    calls = [];
    called = refl;
    asks = λ s f a. (refl, (refl, refl));
    itself = λ h. (refl, (refl, refl));
    unwritten = λ none. (refl, (refl, refl));
    remounted = λ h. (refl, (refl, refl));
    reads = λ h. tt;
    silent = λ f other. (refl, refl);
  };
  errors = inr (inl refl);
  fault = λ h. absurd (cc);
  no_fault = λ h. refl;
}

pub memory_fails_now : (old new : SessionView) (op : Operation) → new ≡ record old { tree = record old.tree { failed = true } } → SessionFails NoMemory (system_state old) op (system_state new)
memory_fails_now old new op is = subst (λ z. SessionFails NoMemory (system_state old) op (system_state z)) (sym is) (memory_fails_at_once old op)
