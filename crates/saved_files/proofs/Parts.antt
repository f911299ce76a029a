-- A loss of power in a life is in one part of it. So what two calls survive, or two functions, is survived where one comes after the
-- other.
use Rattle.std.proofs.Common.{◌≡◌, ◌⊎◌, inl, inr, Bool, true, false, not, ◌&&◌, ◌||◌, cond, List, [], ◌∷◌, ◌++◌, Option, Some, None, Result, Ok, Err, is_some, refl, sym, ap, ap₂, subst, ◌∙◌}
use Rattle.lfs_device.specs.declared.error.Error.{Error}
use Rattle.lfs_model.proofs.Common.{Blocks, Disk, SameGeometry, disk_with_order, Tree, Reply, Session, Healthy, is_remount, SystemState, HealthyHasDiskTree, AllCallsSince, and_parts, with_blocks}
use Rattle.lfs_model.specs.session.Operations.{Operation}
use Rattle.lfs_model.specs.session.Effects.{operation_effect}
use Rattle.lfs_model.specs.crash.RepeatedPowerLoss.{LeftBetween}
use Rattle.lfs_model.proofs.Histories.{AllCallsSince-until, AllCallsSince-behind}
use Rattle.lfs_model.proofs.Performing.{IsAny}
use Rattle.lfs_model.specs.crash.Lives.{Turn, EndsWith, IsLife, all_answered}
use Rattle.lfs_model.specs.crash.LifeHeadline.{session_after_turns}
use Rattle.lfs_model.specs.crash.LifeTrees.{HasWritableDiskTree, HasMountableTree}
use Rattle.lfs_model.proofs.JoinedLives.{lives_joined, one_turn}
use Rattle.lfs_model.proofs.LivedOn.{life_since, life_defined}
use Rattle.lfs_model.proofs.Passing.{life_may}
use Rattle.lfs_model.proofs.Survived.{IsEither, either_part, same_blocks}
use Rattle.lfs_model.proofs.TreesLeft.{any_summary}
use Rattle.lfs_fs.specs.CallEffects.{IsCall}
use Rattle.lfs_fs.specs.SessionView.{SessionView, system_state}
use Rattle.lfs_fs.specs.Starts.{IsReachableByCalls}
use Rattle.lfs_fs.specs.Turns.{turn_of}
use Rattle.lfs_fs.proofs.SessionTurns.{call_turn}
use Rattle.lfs_fs.proofs.Users.{call_leaves}
use Rattle.saved_files.specs.Working.{LossLeavesTreeWith, KeepsWorkingBetween, never_remounts}

-- ---- what stays of the disk

same_shape : (a b c : Disk) → SameGeometry a b → SameGeometry b c → SameGeometry a c
same_shape a b c g h = record { block_size = h.block_size ∙ g.block_size; page = h.page ∙ g.page; order = h.order ∙ g.order; profile = h.profile ∙ g.profile; count = h.count ∙ g.count }

turn_shape : (reply : Option Reply) (from : SystemState) (turn : Turn) → EndsWith reply from turn.op turn.to → is_remount turn.op ≡ false → SameGeometry from.disk turn.to.disk
turn_shape None from turn fails other = fails.geometry
turn_shape (Some reply) from turn step other = subst (λ b. SameGeometry (cond b (disk_with_order turn.to.disk.order from.disk) from.disk) turn.to.disk) other step.geometry

not_so : (b : Bool) → not b ≡ true → b ≡ false
not_so true e = sym e
not_so false e = refl

life_shape : (turns : List Turn) (from to : SystemState) → never_remounts turns ≡ true → IsLife from turns to → SameGeometry from.disk to.disk
life_shape [] from to stayed same = subst (λ (m : SystemState). SameGeometry from.disk m.disk) same (record { block_size = refl; page = refl; order = refl; profile = refl; count = refl })
life_shape (turn ∷ turns) from to stayed (one, rest) =
    let both = and_parts _ _ stayed in
    same_shape from.disk turn.to.disk to.disk (turn_shape turn.reply from turn one.ends (not_so (is_remount turn.op) both.0)) (life_shape turns turn.to to both.1 rest)

-- ---- the part in which power was lost

pub parted : (a b c : SystemState) (left : Disk) → KeepsWorkingBetween a b → IsReachableByCalls b c → LeftBetween a c left → LeftBetween a b left ⊎ LeftBetween b c left
parted a b c left works lives stop = go stop
  where
    first : AllCallsSince IsAny a.calls b.calls
    first = life_since works.turns a b works.lived

    second : AllCallsSince IsAny b.calls c.calls
    second = life_since lives.0 b c lives.1

    in_part : (blocks : Blocks) → left ≡ with_blocks blocks a.disk → IsEither a b c blocks → LeftBetween a b left ⊎ LeftBetween b c left
    in_part blocks e (inl k) = inl (inr (inl (blocks, (e, k))))
    in_part blocks e (inr k) = inr (inr (inl (blocks, (e ∙ same_blocks a.disk b.disk blocks (life_shape works.turns a b works.stayed works.lived), k))))

    go : LeftBetween a c left → LeftBetween a b left ⊎ LeftBetween b c left
    go (inl e) = inl (inl e)
    go (inr (inl (blocks, (e, since)))) = in_part blocks e (either_part a b c blocks first second since)
    go (inr (inr (e, fails))) = inr (inr (inr (e, AllCallsSince-behind fails first second)))

-- ---- parts that are survived

-- the session works at the end
pub record WorksIn (at : SystemState) : Type 0 where
  pub session : Session
  pub healthy : at.state ≡ Healthy session

pub works_in : (a b : SystemState) → KeepsWorkingBetween a b → HasWritableDiskTree a → WorksIn b
works_in a b works may = record {
  session = session_after_turns any_summary may.agrees.session works.turns;
  healthy = life_defined any_summary works.turns a b may.agrees.session works.answered may.agrees.healthy (subst (HealthyHasDiskTree a.disk) (sym may.agrees.healthy) may.agrees.shows) works.lived;
}

pub then_survives : (P : Tree → Type 0) (a b c : SystemState) → KeepsWorkingBetween a b → IsReachableByCalls b c → LossLeavesTreeWith P a b → ((s : Session) → b.state ≡ Healthy s → LossLeavesTreeWith P b c) → LossLeavesTreeWith P a c
then_survives P a b c works lives before after left may stop = go (parted a b c left works lives stop)
  where
    first : AllCallsSince IsAny a.calls b.calls
    first = life_since works.turns a b works.lived

    second : AllCallsSince IsAny b.calls c.calls
    second = life_since lives.0 b c lives.1

    begins : HasWritableDiskTree a
    begins = record { agrees = may.agrees; profile = may.profile }

    go : LeftBetween a b left ⊎ LeftBetween b c left → HasMountableTree P left
    go (inl k) = before left (record { agrees = may.agrees; profile = may.profile; cleanly = AllCallsSince-until may.cleanly first second }) k
    go (inr k) =
        let w = works_in a b works begins in
        let goes_on = life_may a works.turns b begins works.lived works.answered in
        after w.session w.healthy left (record { agrees = goes_on.agrees; profile = goes_on.profile; cleanly = AllCallsSince-behind may.cleanly first second }) k

-- ---- lives of both kinds

both_so : (a b : Bool) → a ≡ true → b ≡ true → (a && b) ≡ true
both_so a b e f = ap₂ (λ x y. x && y) e f

pub works_then : (a b c : SystemState) → KeepsWorkingBetween a b → KeepsWorkingBetween b c → KeepsWorkingBetween a c
works_then a b c first second = record {
  turns = first.turns ++ second.turns;
  lived = lives_joined first.turns second.turns a b c first.lived second.lived;
  answered = all_both first.turns first.answered;
  stayed = never_both first.turns first.stayed;
}
  where
    all_both : (turns : List Turn) → all_answered turns ≡ true → all_answered (turns ++ second.turns) ≡ true
    all_both [] e = second.answered
    all_both (turn ∷ turns) e = let both = and_parts _ _ e in both_so _ _ both.0 (all_both turns both.1)

    never_both : (turns : List Turn) → never_remounts turns ≡ true → never_remounts (turns ++ second.turns) ≡ true
    never_both [] e = second.stayed
    never_both (turn ∷ turns) e = let both = and_parts _ _ e in both_so _ _ both.0 (never_both turns both.1)

pub works_live : {a b c : SystemState} → KeepsWorkingBetween a b → IsReachableByCalls b c → IsReachableByCalls a c
works_live {a} {b} {c} works lives = (works.turns ++ lives.0, lives_joined works.turns lives.0 a b c works.lived lives.1)

-- ---- what is found

pub finds_weaker : (P Q : Tree → Type 0) (left : Disk) → ((tree : Tree) → P tree → Q tree) → HasMountableTree P left → HasMountableTree Q left
finds_weaker P Q left f h = record { order = h.order; tree = h.tree; has = f h.tree h.has; safe = h.safe; may = h.may }

pub survives_weaker : (P Q : Tree → Type 0) (a b : SystemState) → ((tree : Tree) → P tree → Q tree) → LossLeavesTreeWith P a b → LossLeavesTreeWith Q a b
survives_weaker P Q a b f h left may stop = finds_weaker P Q left f (h left may stop)

-- ---- one call

pub call_works : (a b : SessionView) (op : Operation) (reply : Reply) → is_remount op ≡ false → IsCall a op (Ok reply) b → KeepsWorkingBetween (system_state a) (system_state b)
call_works a b op reply other call = record {
  turns = turn_of op (Ok reply) (system_state b) ∷ [];
  lived = one_turn (turn_of op (Ok reply) (system_state b)) (system_state a) (call_turn a op (Ok reply) b call);
  answered = refl;
  stayed = ap (λ b. not b && true) other;
}

-- Where the tree before the call has P, and the one that it defines, the next start has P.
pub call_survives : (P : Tree → Type 0) (a b : SessionView) (s : Session) (op : Operation) (r : Result Reply Error) → (system_state a).state ≡ Healthy s → is_remount op ≡ false → P s.tree → P (operation_effect any_summary s op).1.tree → IsCall a op r b →
    LossLeavesTreeWith P (system_state a) (system_state b)
call_survives P a b s op r healthy other before after call left may stop = call_leaves P a a b s [] op r left healthy refl refl before other after call may stop
