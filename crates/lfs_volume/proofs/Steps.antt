-- One call of a session, by the definitions: the reply and the session after it.
use Rattle.std.proofs.Common.{ℕ, zero, suc, ◌≡◌, ◌&&◌, ◌||◌, nat_lt, nat_le, not, length, is_none, is_some, Bool, true, false, cond, List, [], ◌∷◌, ◌++◌, Option, Some, None, Result, Ok, Err, unwrap_or, refl, sym, ap, ap₂, subst, ◌∙◌}
use Rattle.std.specs.Prelude.{IfErr, IsErrAnd, slice_get, if◌then◌else◌}
use Rattle.std.specs.List.{list_any}
use Rattle.lfs_device.specs.declared.error.Error.{Error}
use Rattle.lfs_lookup.specs.RefusalErrors as refusals
use Rattle.lfs_lookup.specs.RefusalErrors.{error_refusal}
use Rattle.lfs_model.specs.format.Thread.{Pair}
use Rattle.lfs_model.specs.tree.Tree.{Path}
use Rattle.lfs_model.specs.tree.View.{IsAccepted}
use Rattle.lfs_model.specs.session.Operations as ops
use Rattle.lfs_model.specs.session.Operations.{Operation, Refusal, Reply, FlagsOfOpen, Busy, EntryFull, Exist, Invalid, IsDir, NameTooLong, NoEnt, NoSpace, ReadOnly, parse_path}
use Rattle.lfs_model.specs.session.Session.{DiskSummary, Session, all_readers, all_writers, exceeds_half_pair, first_refusal, flags_allowed, has_long_name, has_open_file, lacks_room, overfills_disk, parents_refusal, refuse_if}
use Rattle.lfs_model.specs.session.TreeEdits.{file_bytes, is_directory, last_name, same_path}
use Rattle.lfs_model.specs.session.Writers.{opened_writer}
use Rattle.lfs_model.specs.session.State.{IsDiskSummary, SessionHealth, HasFailed, Healthy, is_remount, remount_result, nonremount_result}
use Rattle.lfs_model.specs.session.Refusals.{operation_refusal, path_or_root}
use Rattle.lfs_model.specs.session.Effects.{operation_effect, operation_result, unless_refused}
use Rattle.lfs_model.specs.session.Run.{IsReply, IsStep, is_refusal}
use Rattle.lfs_fs.specs.SessionView.{SessionView, StepsOrFails, system_state, viewed_session}
use Rattle.lfs_fs.specs.CallEffects.{IsCall}
use Rattle.lfs_volume.specs.SessionCalls.{AreTreePreservingCalls, FailsInCalls, error_result}

-- The definitions give this reply and the session after it, from what the disk holds.
pub record IsAnswered (old : SessionView) (op : Operation) (reply : Reply) (new : SessionView) : Type 0 where
  pub around : DiskSummary
  pub pairs : List Pair
  pub accepted : IsAccepted old.tree.disk pairs
  pub surrounds : IsDiskSummary old.tree.disk pairs around
  pub is : operation_result around (viewed_session old) op ≡ (reply, viewed_session new)
  pub works : new.tree.failed ≡ false

pub healthy_view : (h : SessionView) → h.tree.failed ≡ false → (system_state h).state ≡ Healthy (viewed_session h)
healthy_view h works = ap (λ b. cond b HasFailed (Healthy (viewed_session h))) works

pub same_session : (s t : Session) → Healthy s ≡ Healthy t → s ≡ t
same_session s t e = ap or_else e
  where
    or_else : SessionHealth → Session
    or_else HasFailed = s
    or_else (Healthy z) = z

pub answered : (old : SessionView) (op : Operation) (reply : Reply) (new : SessionView) → is_remount op ≡ false → old.tree.failed ≡ false → IsStep (system_state old) op reply (system_state new) → IsAnswered old op reply new
answered old op reply new other works step = go new.tree.failed refl both
  where
    a : IsReply old.tree.disk new.tree.disk.order (system_state old).state op reply (system_state new).state
    a = step.answered

    result : Reply × Session
    result = operation_result a.around (viewed_session old) op

    found : (ps : List Pair) × (IsAccepted old.tree.disk ps × IsDiskSummary old.tree.disk ps a.around)
    found = a.surrounds (viewed_session old) (healthy_view old works)

    both : nonremount_result a.around (Healthy (viewed_session old)) op ≡ (Some reply, (system_state new).state)
    both =
        sym (ap (λ z. nonremount_result a.around z op) (healthy_view old works))
        ∙ sym (ap (λ b. cond b (remount_result a.shown) (nonremount_result a.around (system_state old).state op)) other) ∙ a.answers

    go : (b : Bool) → new.tree.failed ≡ b → nonremount_result a.around (Healthy (viewed_session old)) op ≡ (Some reply, cond b HasFailed (Healthy (viewed_session new))) → IsAnswered old op reply new
    go true f e = absurd (let k : Healthy result.1 ≡ HasFailed = ap (λ (z : Option Reply × SessionHealth). z.1) e in cc)
    go false f e = record {
      around = a.around;
      pairs = found.0;
      accepted = found.1.0;
      surrounds = found.1.1;
      is = ap₂ (λ r s. (r, s)) (ap (λ (z : Option Reply × SessionHealth). unwrap_or z.0 reply) e) (same_session result.1 (viewed_session new) (ap (λ (z : Option Reply × SessionHealth). z.1) e));
      works = f;
    }

-- ---- a reply that isn't a refusal

-- No check refused the operation, and it had its effect.
pub record IsDone (old : SessionView) (op : Operation) (reply : Reply) (new : SessionView) : Type 0 where
  pub around : DiskSummary
  pub pairs : List Pair
  pub accepted : IsAccepted old.tree.disk pairs
  pub surrounds : IsDiskSummary old.tree.disk pairs around
  pub passes : operation_refusal around (viewed_session old) op ≡ None
  pub is : operation_effect around (viewed_session old) op ≡ (reply, viewed_session new)
  pub works : new.tree.failed ≡ false

passed : (r : Option Refusal) (s t : Session) (effect : Reply × Session) (reply : Reply) → is_refusal reply ≡ false → unless_refused r s effect ≡ (reply, t) → (r ≡ None) × (effect ≡ (reply, t))
passed None s t effect reply accepted e = (refl, e)
passed (Some error) s t effect reply accepted e = absurd (let k = ap (λ (z : Reply × Session). is_refusal z.0) e in let l : true ≡ false = k ∙ accepted in cc)

pub done : (old : SessionView) (op : Operation) (reply : Reply) (new : SessionView) → is_remount op ≡ false → old.tree.failed ≡ false → is_refusal reply ≡ false → IsStep (system_state old) op reply (system_state new) → IsDone old op reply new
done old op reply new other works accepted step =
    let a = answered old op reply new other works step in
    let p = passed (operation_refusal a.around (viewed_session old) op) (viewed_session old) (viewed_session new) (operation_effect a.around (viewed_session old) op) reply accepted a.is in
    record { around = a.around; pairs = a.pairs; accepted = a.accepted; surrounds = a.surrounds; passes = p.0; is = p.1; works = a.works }

-- ---- a refusal

-- the session is as it was
pub record IsRefused (old : SessionView) (op : Operation) (error : Refusal) (new : SessionView) : Type 0 where
  pub around : DiskSummary
  pub pairs : List Pair
  pub accepted : IsAccepted old.tree.disk pairs
  pub surrounds : IsDiskSummary old.tree.disk pairs around
  pub refused : (operation_refusal around (viewed_session old) op ≡ None) → ⊥
  pub by : operation_refusal around (viewed_session old) op ≡ Some error
  pub stays : viewed_session new ≡ viewed_session old
  pub works : new.tree.failed ≡ false

refused_one : (r : Option Refusal) (s t : Session) (effect : Reply × Session) (error : Refusal) → is_refusal effect.0 ≡ false → unless_refused r s effect ≡ (ops.Refused error, t) → (r ≡ None → ⊥) × (t ≡ s) × (r ≡ Some error)
refused_one None s t effect error proper e = absurd (let k = ap (λ (z : Reply × Session). is_refusal z.0) e in let l : true ≡ false = sym k ∙ proper in cc)
refused_one (Some x) s t effect error proper e = ((λ h. let k : Some x ≡ None = h in absurd (cc)), sym (ap (λ (z : Reply × Session). z.1) e), ap (λ (z : Reply × Session). Some (error_of z.0)) e)
  where
    error_of : Reply → Refusal
    error_of (ops.Refused r) = r
    error_of _ = error

pub refused : (old : SessionView) (op : Operation) (error : Refusal) (new : SessionView) → is_remount op ≡ false → old.tree.failed ≡ false → ((around : DiskSummary) → is_refusal (operation_effect around (viewed_session old) op).0 ≡ false)
    → IsStep (system_state old) op (ops.Refused error) (system_state new) → IsRefused old op error new
refused old op error new other works proper step =
    let a = answered old op (ops.Refused error) new other works step in
    let p = refused_one (operation_refusal a.around (viewed_session old) op) (viewed_session old) (viewed_session new) (operation_effect a.around (viewed_session old) op) error (proper a.around) a.is in
    record { around = a.around; pairs = a.pairs; accepted = a.accepted; surrounds = a.surrounds; refused = p.0; by = p.2; stays = p.1; works = a.works }

-- an error that is a refusal is a step
pub refusal_step : (old : SessionView) (op : Operation) (e : Error) (new : SessionView) → refusals.is_refusal e ≡ true → StepsOrFails old op (error_result e) new → IsStep (system_state old) op (ops.Refused (error_refusal e)) (system_state new)
refusal_step old op e new is h = subst (λ b. StepsOrFails old op (cond b (Ok (ops.Refused (error_refusal e))) (Err e)) new) is h

-- no check refuses the operation, so it isn't refused
pub never_refused : (old : SessionView) (op : Operation) (e : Error) (new : SessionView) → is_remount op ≡ false → old.tree.failed ≡ false → ((around : DiskSummary) → is_refusal (operation_effect around (viewed_session old) op).0 ≡ false)
    → ((around : DiskSummary) (ps : List Pair) → IsAccepted old.tree.disk ps → IsDiskSummary old.tree.disk ps around → operation_refusal around (viewed_session old) op ≡ None) → StepsOrFails old op (error_result e) new → refusals.is_refusal e ≡ true → ⊥
never_refused old op e new other works proper passes h is =
    let r = refused old op (error_refusal e) new other works proper (refusal_step old op e new is h) in
    r.refused (passes r.around r.pairs r.accepted r.surrounds)

-- ---- checks in order

pub no_first : (r : Option Refusal) (rs : List (Option Refusal)) → first_refusal (r ∷ rs) ≡ None → (r ≡ None) × (first_refusal rs ≡ None)
no_first None rs e = (refl, e)
no_first (Some x) rs e = absurd (cc)

pub not_refused_if : (b : Bool) (error : Refusal) → refuse_if b error ≡ None → b ≡ false
not_refused_if true error e = absurd (cc)
not_refused_if false error e = refl

pub passes_if : (b : Bool) (error : Refusal) → b ≡ false → refuse_if b error ≡ None
passes_if b error e = ap (λ z. refuse_if z error) e

-- an error that is passed on
pub passed_err : {X : Type 0} (r : Result X Error) (e : Error) (P : Error → Type 0) → IsErrAnd r (λ f. f ≡ e) → P e → IfErr r P
passed_err (Ok x) e P is h = absurd is
passed_err (Err f) e P is h = subst P (sym is) h

-- the checks of an open
abbrev pub open_checks : DiskSummary → Session → Option Path → Path → FlagsOfOpen → List (Option Refusal)
open_checks around s given p flags =
    refuse_if (flags.write && not around.writable) ReadOnly
    ∷ refuse_if (is_none given || not (flags_allowed flags)) Invalid
    ∷ parents_refusal s.tree [] p
    ∷ refuse_if (is_none (s.tree p) && flags.create && has_long_name around p) NameTooLong
    ∷ refuse_if (is_none (s.tree p) && not flags.create) NoEnt
    ∷ refuse_if (is_some (s.tree p) && flags.exclusive) Exist
    ∷ refuse_if (is_directory (s.tree p)) IsDir
    ∷ refuse_if (if flags.write
    then nat_lt 0 (length (all_writers s.files)) || has_open_file (same_path p) s.files
    else list_any (λ w. same_path p w.path) (all_writers s.files) || nat_le 16 (length (all_readers s.files))) Busy
    ∷ refuse_if (is_none (s.tree p) && exceeds_half_pair around (last_name p) []) EntryFull
    ∷ refuse_if (is_none (s.tree p) && lacks_room around s.files 2) NoSpace
    ∷ refuse_if (flags.truncate && overfills_disk around (opened_writer p flags (file_bytes (s.tree p)))) NoSpace
    ∷ []

pub none_at : (rs : List (Option Refusal)) (i : ℕ) (r : Option Refusal) → first_refusal rs ≡ None → slice_get rs i ≡ Some r → r ≡ None
none_at [] i r passes e = absurd (cc)
none_at (x ∷ rs) zero r passes e = same_some r x (sym e) ∙ (no_first x rs passes).0
  where
    same_some : (a b : Option Refusal) → Some a ≡ Some b → a ≡ b
    same_some a b k = ap (λ o. unwrap_or o a) k
none_at (x ∷ rs) (suc i) r passes e = none_at rs i r (no_first x rs passes).1 e

and_left : (b : Bool) → (b && true) ≡ false → b ≡ false
and_left true e = absurd (cc)
and_left false e = refl

-- a file that isn't to be made is there
pub there_already : (around : DiskSummary) (s : Session) (path : List ℕ) (flags : FlagsOfOpen) → flags.create ≡ false → operation_refusal around s (ops.Open path flags) ≡ None → is_none (s.tree (path_or_root path)) ≡ false
there_already around s path flags old passes =
    let check : Option Refusal = refuse_if (is_none (s.tree (path_or_root path)) && not flags.create) NoEnt in
    let e = none_at (open_checks around s (parse_path path) (path_or_root path) flags) 4 check passes refl in
    and_left (is_none (s.tree (path_or_root path))) (sym (ap (λ b. is_none (s.tree (path_or_root path)) && not b) old) ∙ not_refused_if (is_none (s.tree (path_or_root path)) && not flags.create) NoEnt e)

-- an image that is opened for writing is writable
pub writable_already : (around : DiskSummary) (s : Session) (path : List ℕ) (flags : FlagsOfOpen) → flags.write ≡ true → operation_refusal around s (ops.Open path flags) ≡ None → around.writable ≡ true
writable_already around s path flags writes passes =
    let check : Option Refusal = refuse_if (flags.write && not around.writable) ReadOnly in
    let e = none_at (open_checks around s (parse_path path) (path_or_root path) flags) 0 check passes refl in
    is_true around.writable (sym (ap (λ b. b && not around.writable) writes) ∙ not_refused_if (flags.write && not around.writable) ReadOnly e)
  where
    is_true : (b : Bool) → (true && not b) ≡ false → b ≡ true
    is_true true e = refl
    is_true false e = absurd (cc)

pub not_true : (b : Bool) → (b ≡ true → ⊥) → b ≡ false
not_true true h = absurd (h refl)
not_true false h = refl

-- an operation that isn't refused ends in an error only by a failure
pub fails_at : (e : Error) (old at new : SessionView) (before : List Operation) (next : Operation) → AreTreePreservingCalls old before at → IsCall at next (error_result e) new → (refusals.is_refusal e ≡ true → ⊥) → FailsInCalls e old new
fails_at e old at new before next quiet ends not = (
  not_true (refusals.is_refusal e) not,
  (before ++ next ∷ [], record { before = before; next = next; others = []; are = refl; at = at; quiet = quiet; ends = ends }),
)
