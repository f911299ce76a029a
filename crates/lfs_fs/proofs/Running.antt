-- Operations in turn, by a loop.
use Rattle.lfs_fs.proofs.Common.{AllByRecursion, take_all, map-append, fault_count, read_count, Operation, SurvivesPowerLoss, IsStep, SystemState, Session, Healthy, Pair, AlwaysReadsPairsOnce, IsAccepted, SessionFails, SessionView, system_state, HasRefusalError, op_view, reply_view, IsCall, AreFewOnePairDirectories, HasCachedDirectories, directory_pair_count, searched_directories}
use Rattle.std.specs.Prelude.{sum_by}
use Rattle.std.proofs.Common.{Ok, ℕ, ◌≡◌, ◌+◌, ◌<◌, ◌≤◌, Bool, false, cond, List, [], ◌∷◌, ◌++◌, Option, None, Some, length, take, drop, map, get_or, refl, sym, ap, subst, ◌∙◌, drop-cons, add-one, true, arith}
use Rattle.std.proofs.lemmas.List.{append_cancel_right, take_more, take-append-drop}
use Rattle.lfs_device.specs.declared.error.Error.{Error}
use Rattle.lfs_model.specs.session.Operations as ops
use Rattle.lfs_model.specs.crash.Performed.{ArePerformed, IsPerformed}
use Rattle.lfs_model.specs.crash.ReadBounds.{KeepsBlocksBoundsReads, RepeatReadsNothing, accepted_operation}
use Rattle.lfs_model.proofs.Performing.{last_accepted, last_further, performed_further}
use Rattle.lfs_fs.specs.SessionView.{FailsRun}
use Rattle.lfs_fs.proofs.KeptLookUps.{kept_hand, kept_small}
use Rattle.lfs_model.specs.session.Run as model
use Rattle.lfs_fs.specs.declared.run.Op.{Op}
use Rattle.lfs_fs.specs.declared.run.Reply.{Reply}

-- there is one
pub first_op : (ops : List Op) (i : ℕ) → i < length ops → Op
first_op [] i h = absurd (omega (arith, h))
first_op (op ∷ ops) i h = op

-- ---- turns that are thrifty

-- behind an accepted stat, the small directories that it searched are cached
abbrev pub IsWarm : Option Operation → SessionView → Type 0
IsWarm None h = Unit {0}
IsWarm (Some before) h = (path : List ℕ) → before ≡ ops.Stat path → (s : Session) → (system_state h).state ≡ Healthy s → (ps : List Pair) → IsAccepted h.tree.disk ps → AreFewOnePairDirectories ps (searched_directories before) → HasCachedDirectories h.tree (searched_directories before)

call_within_read_bounds : (before : Option Operation) (old : SessionView) (op : Operation) (reply : ops.Reply) (new : SessionView) → IsWarm before old → IsCall old op (Ok reply) new → (turn : IsStep (system_state old) op reply (system_state new)) →
    KeepsBlocksBoundsReads before (system_state old) op turn.calls (system_state new)
call_within_read_bounds before old op reply new warm call turn = record {
  alone = call.alone refl;
  asked = λ k. append_cancel_right turn.calls [] old.tree.history (sym turn.called ∙ ap (λ (h : SessionView). h.tree.history) (call.asks.asked k));
  few = λ s at ps a. call.asks.few s at ps a turn.calls turn.called;
  kept = λ s at ps a. go before warm s at ps a;
}
  where
    go : (b : Option Operation) → IsWarm b old → (s : Session) → (system_state old).state ≡ Healthy s → (ps : List Pair) → IsAccepted old.tree.disk ps → RepeatReadsNothing ps b op turn.calls
    go None w s at ps a = tt
    go (Some b) w s at ps a = λ k. call.asks.none k.again (kept_hand ps b op k old.tree (w k.path k.stat s at ps a (kept_small ps b op k))) turn.calls turn.called

-- an answered call, by what is cached
pub call_performed : (before : Option Operation) (old : SessionView) (op : Operation) (reply : ops.Reply) (new : SessionView) → IsWarm before old → IsCall old op (Ok reply) new → IsPerformed before (system_state old) op reply (system_state new)
call_performed before old op reply new warm call = record {
  turn = call.answers;
  survives_loss = call.survives_loss;
  read_bounds = call_within_read_bounds before old op reply new warm call call.answers;
}

pub warm_behind : (old : SessionView) (op : Operation) (reply : ops.Reply) (new : SessionView) → IsCall old op (Ok reply) new → IsWarm (accepted_operation op reply) new
warm_behind old op reply new call = go (model.is_refusal reply) refl
  where
    go : (b : Bool) → model.is_refusal reply ≡ b → IsWarm (cond b None (Some op)) new
    go true e = tt
    go false e = λ path is s at ps a small. call.asks.hand path reply is refl e s at ps a small

-- ---- the operations so far

-- they are performed, and met no fault
pub record HaveRun (from : SystemState) (operations : List Operation) (replies : List ops.Reply) (to : SessionView) : Type 0 where
  pub performed : ArePerformed None from operations replies (system_state to)
  pub no_fault : fault_count to.tree.history ≡ fault_count from.calls
  pub warm : IsWarm (last_accepted None operations replies) to

pub none_run : (a : SessionView) (replies : List Reply) → replies ≡ [] → HaveRun (system_state a) [] (map reply_view replies) a
none_run a replies none = subst (λ rs. HaveRun (system_state a) [] (map reply_view rs) a) (sym none) (record { performed = refl; no_fault = refl; warm = tt })

one_more : (operations : List Operation) (op : Operation) (replies : List ops.Reply) (reply : ops.Reply) (a : SystemState) (b c : SessionView) → HaveRun a operations replies b → IsCall b op (Ok reply) c → HaveRun a (operations ++ op ∷ []) (replies ++ reply ∷ []) c
one_more operations op replies reply a b c done call = record {
  performed = performed_further None operations op replies reply a (system_state b) (system_state c) done.performed (call_performed (last_accepted None operations replies) b op reply c done.warm call);
  no_fault = call.ends.no_fault refl ∙ done.no_fault;
  warm = subst (λ o. IsWarm o c) (sym (last_further None operations op replies reply a (system_state b) done.performed)) (warm_behind b op reply c call);
}

-- one more operation
pub run_further : (ops : List Op) (i : ℕ) (d : Op) (replies new : List Reply) (reply : Reply) (a : SystemState) (b c : SessionView) → i < length ops → HaveRun a (map op_view (take i ops)) (map reply_view replies) b →
    IsCall b (op_view (get_or ops i d)) (Ok (reply_view reply)) c → new ≡ replies ++ reply ∷ [] → HaveRun a (map op_view (take (i + 1) ops)) (map reply_view new) c
run_further ops i d replies new reply a b c lt done call is =
    subst (λ rs. HaveRun a (map op_view (take (i + 1) ops)) (map reply_view rs) c) (sym is)
    (subst (λ xs. HaveRun a xs (map reply_view (replies ++ reply ∷ [])) c) (sym (ap (map op_view) (take_more ops i d lt) ∙ map-append op_view (take i ops) (get_or ops i d ∷ [])))
    (subst (λ rs. HaveRun a (map op_view (take i ops) ++ op_view (get_or ops i d) ∷ []) rs c) (sym (map-append reply_view replies (reply ∷ [])))
    (one_more (map op_view (take i ops)) (op_view (get_or ops i d)) (map reply_view replies) (reply_view reply) a b c done call)))

pub run_ended : (ops : List Op) (i : ℕ) (replies : List Reply) (a : SystemState) (b : SessionView) → length ops ≤ i → HaveRun a (map op_view (take i ops)) (map reply_view replies) b → HaveRun a (map op_view ops) (map reply_view replies) b
run_ended ops i replies a b h done = subst (λ xs. HaveRun a (map op_view xs) (map reply_view replies) b) (take_all i ops h) done

-- each refusal is named
pub named_further : (replies new : List Reply) (reply : Reply) → AllByRecursion HasRefusalError replies → HasRefusalError reply → new ≡ replies ++ reply ∷ [] → AllByRecursion HasRefusalError new
named_further replies new reply done one is = subst (AllByRecursion HasRefusalError) (sym is) (go replies done)
  where
    go : (rs : List Reply) → AllByRecursion HasRefusalError rs → AllByRecursion HasRefusalError (rs ++ reply ∷ [])
    go [] h = (one, tt)
    go (r ∷ rs) h = (h.0, go rs h.1)

-- without a call nothing was read
pub silent_few : (from : SystemState) (op : Operation) (to : SystemState) → to.calls ≡ from.calls → AlwaysReadsPairsOnce from op to
silent_few from op to same s at ps a calls is looks =
    let none = append_cancel_right calls [] from.calls (sym is ∙ same) in
    subst (λ z. read_count z ≤ sum_by (directory_pair_count ps) (searched_directories op)) (sym none) (zero_least _)
  where
    zero_least : (n : ℕ) → 0 ≤ n
    zero_least n = omega arith

-- the session fails in the next one
pub run_cut : (e : Error) (ops : List Op) (i : ℕ) (d : Op) (replies : List Reply) (a : SystemState) (b : SessionView) (c : SystemState) → i < length ops → HaveRun a (map op_view (take i ops)) (map reply_view replies) b → AlwaysReadsPairsOnce (system_state b) (op_view (get_or ops i d)) c →
    SessionFails e (system_state b) (op_view (get_or ops i d)) c → SurvivesPowerLoss (system_state b) (op_view (get_or ops i d)) c → FailsRun e a (map op_view ops) c
run_cut e ops i d replies a b c lt run few fails survives_loss = record {
  ended = record {
    done = map op_view (take i ops);
    next = op_view (get_or ops i d);
    others = map op_view (drop (i + 1) ops);
    are = ap (map op_view) (sym (take-append-drop i ops)) ∙ map-append op_view (take i ops) (drop i ops) ∙ ap (λ xs. map op_view (take i ops) ++ map op_view xs) (drop-cons ops i d lt ∙ ap (λ n. get_or ops i d ∷ drop n ops) (sym (add-one i)));
    replies = map reply_view replies;
    at = system_state b;
    performed = run.performed;
    fails = fails.fails;
    survives_loss = survives_loss;
    few = few;
  };
  no_fault = run.no_fault;
  by = fails;
}
