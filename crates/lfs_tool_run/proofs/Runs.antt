-- Operations that are carried out one after another, up to an error.
use Rattle.std.proofs.Common.{ℕ, ◌≡◌, ◌∙◌, ◌+◌, ◌<◌, ◌++◌, Bool, true, false, cond, List, [], ◌∷◌, length, take, get_or, Result, Ok, Err, refl, sym, ap, subst, append_assoc, flat_map}
use Rattle.std.specs.Prelude.{IsErrAnd}
use Rattle.lfs_tool_run.proofs.Common.{flat_map-append, append-nil, All-from_recursion, recursion_from_All, new_flags, node_copy_operations, Operation, Reply, FileNode, IsStep, SystemState, is_refusal, each_append, SessionView, system_state, EndsInError, AreApplied, AppliesUpToError, AppliesUntilError, IsHealthyWithoutFiles, entry_operations}
use Rattle.std.proofs.lemmas.List.{take_more}
use Rattle.lfs_device.specs.declared.error.Error.{Error}
use Rattle.lfs_model.specs.session.Operations as ops
use Rattle.lfs_model.specs.session.Operations.{FlagsOfOpen}
use Rattle.lfs_model.proofs.SessionSteps.{session_steps_joined}
use Rattle.lfs_fs.specs.SessionView.{StepsOrFails}
use Rattle.lfs_fs.specs.Replies.{reply_from}
use Rattle.lfs_lookup.specs.RefusalErrors as refusals
use Rattle.lfs_lookup.specs.RefusalErrors.{error_refusal}
use Rattle.lfs_tool.specs.declared.entries.SourceEntry.{SourceEntry}
use Rattle.lfs_tool_run.proofs.Stepping.{opened_first}

abbrev IsAccepted : Reply → Type 0
IsAccepted r = is_refusal r ≡ false

-- ---- one operation

pub one_carried : (a b : SystemState) (op : Operation) (reply : Reply) → IsStep a op reply b → is_refusal reply ≡ false → AreApplied a (op ∷ []) b
one_carried a b op reply turn accepted = record { replies = reply ∷ []; session_steps = (b, (turn, refl)); accepted = All-from_recursion IsAccepted (reply ∷ []) (accepted, tt) }

pub none_carried : (a : SystemState) → AreApplied a [] a
none_carried a = record { replies = []; session_steps = refl; accepted = All-from_recursion IsAccepted [] tt }

pub one_ends : {X : Type 0} (old new : SessionView) (op : Operation) (reply : X → Reply) (e : Error) → StepsOrFails old op (reply_from reply (Err e)) new → EndsInError (refusals.is_refusal e) e (system_state old) op (system_state new)
one_ends old new op reply e = go (refusals.is_refusal e)
  where
    go : (b : Bool) → StepsOrFails old op (cond b (Ok (ops.Refused (error_refusal e))) (Err e)) new → EndsInError b e (system_state old) op (system_state new)
    go true h = h
    go false h = h

-- ---- more of them

pub carried_on : (xs ys : List Operation) (a b c : SystemState) → AreApplied a xs b → AreApplied b ys c → AreApplied a (xs ++ ys) c
carried_on xs ys a b c h k = record {
  replies = h.replies ++ k.replies;
  session_steps = session_steps_joined xs ys h.replies k.replies a b c h.session_steps k.session_steps;
  accepted = All-from_recursion IsAccepted (h.replies ++ k.replies)
      (each_append IsAccepted h.replies k.replies (recursion_from_All IsAccepted h.replies h.accepted) (recursion_from_All IsAccepted k.replies k.accepted));
}

pub ended_at : (e : Error) (xs : List Operation) (op : Operation) (more : List Operation) (a b c : SystemState) → AreApplied a xs b → EndsInError (refusals.is_refusal e) e b op c → AppliesUpToError e a (xs ++ op ∷ more) c
ended_at e xs op more a b c h ends = record { done = xs; next = op; others = more; are = refl; at = b; carried = h; ends = ends }

pub ended_on : (e : Error) (xs ys : List Operation) (a b c : SystemState) → AreApplied a xs b → AppliesUpToError e b ys c → AppliesUpToError e a (xs ++ ys) c
ended_on e xs ys a b c h k = record {
  done = xs ++ k.done;
  next = k.next;
  others = k.others;
  are = ap (λ zs. xs ++ zs) k.are ∙ sym (append_assoc xs k.done (k.next ∷ k.others));
  at = k.at;
  carried = carried_on xs k.done a b k.at h k.carried;
  ends = k.ends;
}

pub ended_before : (e : Error) (xs ys : List Operation) (a c : SystemState) → AppliesUpToError e a xs c → AppliesUpToError e a (xs ++ ys) c
ended_before e xs ys a c k = record {
  done = k.done;
  next = k.next;
  others = k.others ++ ys;
  are = ap (λ zs. zs ++ ys) k.are ∙ append_assoc k.done (k.next ∷ k.others) ys;
  at = k.at;
  carried = k.carried;
  ends = k.ends;
}

-- ---- results

-- a call of one operation
pub carries_one : {X : Type 0} (old new : SessionView) (op : Operation) (reply : Reply) (r : Result X Error) → is_refusal reply ≡ false → StepsOrFails old op (reply_from (λ x. reply) r) new → AppliesUntilError (system_state old) (op ∷ []) r (system_state new)
carries_one {X} old new op reply (Ok x) accepted h = one_carried (system_state old) (system_state new) op reply h accepted
carries_one {X} old new op reply (Err e) accepted h = ended_at e [] op [] (system_state old) (system_state old) (system_state new) (none_carried (system_state old)) (one_ends {X = X} old new op (λ x. reply) e h)

pub carries_on : {X : Type 0} (xs ys : List Operation) (a b c : SystemState) (r : Result X Error) → AreApplied a xs b → AppliesUntilError b ys r c → AppliesUntilError a (xs ++ ys) r c
carries_on xs ys a b c (Ok x) h k = carried_on xs ys a b c h k
carries_on xs ys a b c (Err e) h k = ended_on e xs ys a b c h k

-- an error that is passed on
pub passed_on : {X : Type 0} (r : Result X Error) (e : Error) (a : SystemState) (operations : List Operation) (c : SystemState) → IsErrAnd r (λ f. f ≡ e) → AppliesUpToError e a operations c → AppliesUntilError a operations r c
passed_on (Ok x) e a operations c is h = absurd is
passed_on (Err f) e a operations c is h = subst (λ g. AppliesUpToError g a operations c) (sym is) h

-- ---- a file

-- the file is open under the first number
pub record IsOpened (old : SessionView) (path : List ℕ) (fd : ℕ) (new : SessionView) : Type 0 where
  pub number : fd ≡ 0
  pub carried : AreApplied (system_state old) (ops.Open path new_flags ∷ []) (system_state new)

pub opens : (old new : SessionView) (path : List ℕ) (flags : FlagsOfOpen) (fd : ℕ) → flags ≡ new_flags → IsHealthyWithoutFiles (system_state old) → IsStep (system_state old) (ops.Open path flags) (ops.Opened fd) (system_state new) → IsOpened old path fd new
opens old new path flags fd is none turn =
    let opened : IsStep (system_state old) (ops.Open path new_flags) (ops.Opened fd) (system_state new) = subst (λ f. IsStep (system_state old) (ops.Open path f) (ops.Opened fd) (system_state new)) is turn in
    record {
      number = opened_first (system_state old) (system_state new) none.session path fd none.healthy none.closed opened;
      carried = one_carried (system_state old) (system_state new) (ops.Open path new_flags) (ops.Opened fd) opened refl;
    }

pub fails_to_open : (old new : SessionView) (path : List ℕ) (flags : FlagsOfOpen) (more : List Operation) (e : Error) → flags ≡ new_flags → StepsOrFails old (ops.Open path flags) (reply_from ops.Opened (Err e)) new
    → AppliesUpToError e (system_state old) (ops.Open path new_flags ∷ more) (system_state new)
fails_to_open old new path flags more e is h =
    ended_at e [] (ops.Open path new_flags) more (system_state old) (system_state old) (system_state new) (none_carried (system_state old))
    (one_ends old new (ops.Open path new_flags) ops.Opened e (subst (λ f. StepsOrFails old (ops.Open path f) (reply_from ops.Opened (Err e)) new) is h))

pub fails_to_write : (old between new : SessionView) (path bytes : List ℕ) (fd : ℕ) (e : Error) → IsOpened old path fd between → StepsOrFails between (ops.Write fd bytes) (reply_from ops.Count (Err e)) new
    → AppliesUpToError e (system_state old) (node_copy_operations path (FileNode [] bytes)) (system_state new)
fails_to_write old between new path bytes fd e o h =
    ended_on e (ops.Open path new_flags ∷ []) (ops.Write 0 bytes ∷ ops.Close 0 ∷ []) (system_state old) (system_state between) (system_state new) o.carried
    (ended_at e [] (ops.Write 0 bytes) (ops.Close 0 ∷ []) (system_state between) (system_state between) (system_state new) (none_carried (system_state between))
    (one_ends between new (ops.Write 0 bytes) ops.Count e (subst (λ n. StepsOrFails between (ops.Write n bytes) (reply_from ops.Count (Err e)) new) o.number h)))

pub closes : {X : Type 0} (old between written new : SessionView) (path bytes : List ℕ) (fd count : ℕ) (r : Result X Error) → IsOpened old path fd between → IsStep (system_state between) (ops.Write fd bytes) (ops.Count count) (system_state written)
    → StepsOrFails written (ops.Close fd) (reply_from (λ x. ops.Done) r) new → AppliesUntilError (system_state old) (node_copy_operations path (FileNode [] bytes)) r (system_state new)
closes old between written new path bytes fd count r o turn h =
    let write : AreApplied (system_state between) (ops.Write 0 bytes ∷ []) (system_state written) =
    one_carried (system_state between) (system_state written) (ops.Write 0 bytes) (ops.Count count) (subst (λ n. IsStep (system_state between) (ops.Write n bytes) (ops.Count count) (system_state written)) o.number turn) refl in
    let both = carried_on (ops.Open path new_flags ∷ []) (ops.Write 0 bytes ∷ []) (system_state old) (system_state between) (system_state written) o.carried write in
    carries_on (ops.Open path new_flags ∷ ops.Write 0 bytes ∷ []) (ops.Close 0 ∷ []) (system_state old) (system_state written) (system_state new) r both
    (carries_one written new (ops.Close 0) ops.Done r refl (subst (λ n. StepsOrFails written (ops.Close n) (reply_from (λ x. ops.Done) r) new) o.number h))

-- ---- entries in turn

pub entry_more : (es : List SourceEntry) (i : ℕ) (d : SourceEntry) (a b c : SystemState) → i < length es → AreApplied a (flat_map entry_operations (take i es)) b → AreApplied b (entry_operations (get_or es i d)) c
    → AreApplied a (flat_map entry_operations (take (i + 1) es)) c
entry_more es i d a b c lt h k =
    let more : flat_map entry_operations (take (i + 1) es) ≡ flat_map entry_operations (take i es) ++ entry_operations (get_or es i d) =
    ap (flat_map entry_operations) (take_more es i d lt) ∙ flat_map-append entry_operations (take i es) (get_or es i d ∷ []) ∙ ap (λ zs. flat_map entry_operations (take i es) ++ zs) (append-nil (entry_operations (get_or es i d))) in
    subst (λ xs. AreApplied a xs c) (sym more) (carried_on (flat_map entry_operations (take i es)) (entry_operations (get_or es i d)) a b c h k)
