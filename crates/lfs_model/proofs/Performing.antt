-- Operations that a session performs, in order.
use Rattle.std.proofs.Common.{◌≡◌, List, [], ◌∷◌, ◌++◌, Option, refl, sym, subst}
use Rattle.lfs_model.proofs.Common.{CallEvent, AllCalls, AllCallsSince, Operation, Reply, SystemState, AreSteps, accepted_operation, IsPerformed, ArePerformed}
use Rattle.lfs_model.proofs.Histories.{began, goes_on_by}

pub performed_turns : (before : Option Operation) (operations : List Operation) (replies : List Reply) (from to : SystemState) → ArePerformed before from operations replies to → AreSteps from operations replies to
performed_turns before [] [] from to h = h
performed_turns before [] (reply ∷ replies) from to h = absurd h
performed_turns before (op ∷ operations) [] from to h = absurd h
performed_turns before (op ∷ operations) (reply ∷ replies) from to (next, (one, rest)) = (next, (one.turn, performed_turns (accepted_operation op reply) operations replies next to rest))

-- ---- one more

-- the newest operation, if it was accepted
abbrev pub last_accepted : Option Operation → List Operation → List Reply → Option Operation
last_accepted before (op ∷ operations) (reply ∷ replies) = last_accepted (accepted_operation op reply) operations replies
last_accepted before _ _ = before

pub performed_further : (before : Option Operation) (operations : List Operation) (op : Operation) (replies : List Reply) (reply : Reply) (a b c : SystemState) → ArePerformed before a operations replies b →
    IsPerformed (last_accepted before operations replies) b op reply c → ArePerformed before a (operations ++ op ∷ []) (replies ++ reply ∷ []) c
performed_further before [] op [] reply a b c h one = subst (λ m. ArePerformed before m (op ∷ []) (reply ∷ []) c) (sym h) (c, (one, refl))
performed_further before [] op (r ∷ replies) reply a b c h one = absurd h
performed_further before (o ∷ operations) op [] reply a b c h one = absurd h
performed_further before (o ∷ operations) op (r ∷ replies) reply a b c (next, (first, rest)) one = (next, (first, performed_further (accepted_operation o r) operations op replies reply next b c rest one))

-- the newest one comes last
pub last_further : (before : Option Operation) (operations : List Operation) (op : Operation) (replies : List Reply) (reply : Reply) (a b : SystemState) → ArePerformed before a operations replies b →
    last_accepted before (operations ++ op ∷ []) (replies ++ reply ∷ []) ≡ accepted_operation op reply
last_further before [] op [] reply a b h = refl
last_further before [] op (r ∷ replies) reply a b h = absurd h
last_further before (o ∷ operations) op [] reply a b h = absurd h
last_further before (o ∷ operations) op (r ∷ replies) reply a b (next, (first, rest)) = last_further (accepted_operation o r) operations op replies reply next b rest

-- ---- the calls between

abbrev pub IsAny : CallEvent → Type 0
IsAny e = Unit {0}

any_events : (events : List CallEvent) → AllCalls IsAny events
any_events [] = tt
any_events (e ∷ events) = (tt, any_events events)

pub calls_since : (old new calls : List CallEvent) → new ≡ calls ++ old → AllCallsSince IsAny old new
calls_since old new calls called = record { events = calls; extends = called; each = any_events calls }

pub performed_since : (before : Option Operation) (operations : List Operation) (replies : List Reply) (from to : SystemState) → ArePerformed before from operations replies to → AllCallsSince IsAny from.calls to.calls
performed_since before [] [] from to h = subst (λ (m : SystemState). AllCallsSince IsAny from.calls m.calls) h began
performed_since before [] (reply ∷ replies) from to h = absurd h
performed_since before (op ∷ operations) [] from to h = absurd h
performed_since before (op ∷ operations) (reply ∷ replies) from to (next, (one, rest)) =
    goes_on_by (calls_since from.calls next.calls one.turn.calls one.turn.called) (performed_since (accepted_operation op reply) operations replies next to rest)
