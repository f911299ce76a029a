-- For an application's proof: what its calls make of a session's trees, and what the next start finds.
use Rattle.std.proofs.Common.{◌≡◌, inl, inr, Bool, true, false, ◌&&◌, ◌||◌, if◌then◌else◌, List, [], ◌∷◌, ◌++◌, Option, Some, None, Result, Ok, Err, is_some, refl, sym, ap, subst, ◌∙◌}
use Rattle.lfs_device.specs.declared.error.Error.{Error}
use Rattle.lfs_model.specs.format.Disk.{Disk}
use Rattle.lfs_model.specs.tree.Tree.{Tree}
use Rattle.lfs_model.specs.session.Operations.{Operation, Reply}
use Rattle.lfs_model.specs.session.Session.{Session}
use Rattle.lfs_model.specs.session.Effects.{operation_effect}
use Rattle.lfs_model.specs.session.State.{Healthy, is_remount}
use Rattle.lfs_model.specs.session.Run.{SystemState, is_refusal}
use Rattle.lfs_model.specs.session.History.{AllCallsSince}
use Rattle.lfs_model.specs.crash.Stops.{ErasesCleanly}
use Rattle.lfs_model.specs.crash.Premises.{MeetsPowerLossPremises}
use Rattle.lfs_model.specs.crash.RepeatedPowerLoss.{LeftBetween, MeetsCrashSafetyPremises}
use Rattle.lfs_model.proofs.Common.{and_parts}
use Rattle.lfs_model.proofs.Premises.{since_of_each}
use Rattle.lfs_fs.specs.CallEffects.{IsCall}
use Rattle.lfs_fs.specs.SessionView.{SessionView, system_state}
use Rattle.lfs_fs.specs.Turns.{turn_of}
use Rattle.lfs_model.specs.crash.Lives.{Turn, IsLife, all_answered, only_last_may_fail, is_last}
use Rattle.lfs_model.specs.crash.LifeHeadline.{session_after_turn, session_after_turns}
use Rattle.lfs_model.specs.crash.LifeTrees.{IsTreeOfLife, HasMountableTree}
use Rattle.lfs_fs.specs.Starts.{IsReachableByCalls}
use Rattle.lfs_fs.proofs.SessionTurns.{call_turn}
use Rattle.lfs_model.proofs.LivedOn.{life_since}
use Rattle.lfs_model.proofs.JoinedLives.{lives_joined, one_turn}
use Rattle.lfs_model.proofs.TreesLeft.{AllTreesHave, any_summary, life_leaves}

-- ---- lives of calls

pub lives : (h k : SessionView) (op : Operation) (r : Result Reply Error) → IsCall h op r k → IsReachableByCalls (system_state h) (system_state k)
lives h k op r call = (turn_of op r (system_state k) ∷ [], one_turn (turn_of op r (system_state k)) (system_state h) (call_turn h op r k call))

pub lives_then : (a b c : SystemState) → IsReachableByCalls a b → IsReachableByCalls b c → IsReachableByCalls a c
lives_then a b c first second = (first.0 ++ second.0, lives_joined first.0 second.0 a b c first.1 second.1)

-- a device of which all calls meet the premises erases cleanly
pub cleanly : (from to : SystemState) → IsReachableByCalls from to → MeetsPowerLossPremises to.calls → AllCallsSince ErasesCleanly from.calls to.calls
cleanly from to lived premises = let since = life_since lived.0 from to lived.1 in since_of_each since.events since.extends premises.erases

-- ---- the trees of calls

module _ (P : Tree → Type 0) where
  one_of : (s : Session) (turns : List Turn) (tree : Tree) → AllTreesHave P any_summary s turns → IsTreeOfLife any_summary s turns tree → P tree
  one_of s [] tree all e = subst P (sym e) all
  one_of s (turn ∷ turns) tree all (inl e) = subst P (sym e) all.0
  one_of s (turn ∷ turns) tree all (inr e) = one_of (session_after_turn any_summary s turn) turns tree all.1 e

  -- after a turn that may be refused, or fail
  last_turn : (s : Session) (op : Operation) (r : Result Reply Error) (to : SystemState) → is_remount op ≡ false → P s.tree → P (operation_effect any_summary s op).1.tree → P (session_after_turn any_summary s (turn_of op r to)).tree
  last_turn s op (Err e) to other before after = after
  last_turn s op (Ok reply) to other before after = rw other (go (is_refusal reply))
    where
      go : (b : Bool) → P (if b then s else (operation_effect any_summary s op).1).tree
      go true = before
      go false = after

  next_start_has : (from to : SystemState) (turns : List Turn) (s : Session) (left : Disk) → from.state ≡ Healthy s → only_last_may_fail turns ≡ true → IsLife from turns to → AllTreesHave P any_summary s turns → MeetsCrashSafetyPremises from to → LeftBetween from to left → HasMountableTree P left
  next_start_has from to turns s left healthy ends lived all may stop =
      let k = life_leaves any_summary s from turns to left healthy ends lived may stop in
      record { order = k.order; tree = k.tree; has = one_of s turns k.tree all k.has; safe = k.safe; may = k.may }

  -- ---- one more call

  with_last : (s : Session) (turns : List Turn) (turn : Turn) → AllTreesHave P any_summary s turns → P (session_after_turn any_summary (session_after_turns any_summary s turns) turn).tree → AllTreesHave P any_summary s (turns ++ turn ∷ [])
  with_last s [] turn all last = (all, last)
  with_last s (first ∷ turns) turn all last = (all.0, with_last (session_after_turn any_summary s first) turns turn all.1 last)

  last_tree : (s : Session) (turns : List Turn) → AllTreesHave P any_summary s turns → P (session_after_turns any_summary s turns).tree
  last_tree s [] all = all
  last_tree s (turn ∷ turns) all = last_tree (session_after_turn any_summary s turn) turns all.1

  ends_last : (turns : List Turn) (turn : Turn) → all_answered turns ≡ true → only_last_may_fail (turns ++ turn ∷ []) ≡ true
  ends_last [] turn all = go turn.reply
    where
      go : (r : Option Reply) → ((is_some r || true) && true) ≡ true
      go None = refl
      go (Some reply) = refl
  ends_last (first ∷ turns) turn all =
      let both = and_parts _ _ all in
      ap (λ b. (b || is_last (turns ++ turn ∷ [])) && only_last_may_fail (turns ++ turn ∷ [])) both.0 ∙ ends_last turns turn both.1

  -- After turns that were answered comes a call. Where each tree so far has P, and the one that the call makes, the next start has P,
  -- wherever power was lost.
  pub call_leaves : (h a b : SessionView) (s : Session) (turns : List Turn) (op : Operation) (r : Result Reply Error) (left : Disk) → (system_state h).state ≡ Healthy s → all_answered turns ≡ true → IsLife (system_state h) turns (system_state a) → AllTreesHave P any_summary s turns →
      is_remount op ≡ false → P (operation_effect any_summary (session_after_turns any_summary s turns) op).1.tree → IsCall a op r b → MeetsCrashSafetyPremises (system_state h) (system_state b) → LeftBetween (system_state h) (system_state b) left → HasMountableTree P left
  call_leaves h a b s turns op r left healthy answered lived all other after call may stop =
      next_start_has (system_state h) (system_state b) (turns ++ turn_of op r (system_state b) ∷ []) s left healthy (ends_last turns (turn_of op r (system_state b)) answered)
      (lives_joined turns (turn_of op r (system_state b) ∷ []) (system_state h) (system_state a) (system_state b) lived (one_turn (turn_of op r (system_state b)) (system_state a) (call_turn a op r b call)))
      (with_last s turns (turn_of op r (system_state b)) all (last_turn (session_after_turns any_summary s turns) op r (system_state b) other (last_tree s turns all) after)) may stop
