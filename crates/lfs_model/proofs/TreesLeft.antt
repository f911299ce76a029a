-- Which tree a loss of power in a life leaves, from what its turns define.
use Rattle.std.proofs.Common.{append-nil, ◌≡◌, ◌⊎◌, inl, inr, Bool, true, false, cond, List, [], ◌∷◌, ◌++◌, Option, Some, None, refl, sym, ap, subst, ◌∙◌}
use Rattle.lfs_model.proofs.Common.{default_profile, zero_gstate, Disk, disk_with_order, Pair, Tree, Operation, Reply, Refusal, Session, DiskSummary, IsHealthySession, operation_result, operation_effect, operation_refusal, unless_refused, SessionHealth, HasFailed, Healthy, is_remount, nonremount_result, remount_result, mounted_session, SystemState, HealthyHasDiskTree, IsTreeStep, is_refusal, and_parts}
use Rattle.lfs_model.specs.crash.Failure.{OperationFails}
use Rattle.lfs_model.specs.session.Operations as ops
use Rattle.lfs_model.specs.session.Headline.{session_after}
use Rattle.lfs_model.specs.declared.order.NameOrder.{NameOrder}
use Rattle.lfs_model.specs.crash.RepeatedPowerLoss.{IsJustMounted, KeepsTree, LeftBetween, LossInLife, MeetsCrashSafetyPremises, SameBytes}
use Rattle.lfs_model.proofs.SessionSteps.{IsHealthy}
use Rattle.lfs_model.proofs.Surviving.{same_surroundings}
use Rattle.lfs_model.specs.crash.Lives.{Turn, EndsWith, IsLife, only_last_may_fail, is_last}
use Rattle.lfs_model.specs.crash.LifeHeadline.{session_after_turn}
use Rattle.lfs_model.specs.crash.LifeTrees.{IsTreeOfLife, LeavesTreeOfLife, HasWritableDiskTree, HasMountableTree}
use Rattle.lfs_model.proofs.LivedOn.{step_defined}
use Rattle.lfs_model.proofs.RunTurns.{only, none_inside}
use Rattle.lfs_model.proofs.LivesSurvived.{life_survives}
use Rattle.lfs_model.proofs.Survived.{start_may}

pub same_session : (s t : Session) → Healthy s ≡ Healthy t → s ≡ t
same_session s t e = ap or_else e
  where
    or_else : SessionHealth → Session
    or_else HasFailed = s
    or_else (Healthy z) = z

-- any one, for what doesn't depend on it
pub any_summary : DiskSummary
any_summary = record { writable = true; profile = default_profile; block_size = 0; page = 0; block_count = 0; used = []; gstate = zero_gstate }

-- ---- one operation

-- what an operation makes of a session doesn't depend on the disk
same_effect : (around other : DiskSummary) (s : Session) (op : Operation) → (operation_effect around s op).1 ≡ (operation_effect other s op).1
same_effect around other s (ops.Open path flags) = refl
same_effect around other s (ops.Read fd count) = refl
same_effect around other s (ops.Write fd bytes) = refl
same_effect around other s (ops.Seek fd position) = refl
same_effect around other s (ops.Truncate fd size) = refl
same_effect around other s (ops.Sync fd) = refl
same_effect around other s (ops.Close fd) = refl
same_effect around other s (ops.Mkdir path) = refl
same_effect around other s (ops.Remove path) = refl
same_effect around other s (ops.Rename old new) = refl
same_effect around other s (ops.SetAttr path kind bytes) = refl
same_effect around other s (ops.RemoveAttr path kind) = refl
same_effect around other s _ = refl

remount_keeps : (around : DiskSummary) (s : Session) (op : Operation) → is_remount op ≡ true → (operation_result around s op).1 ≡ s
remount_keeps around s ops.Remount e = refl
remount_keeps around s _ e = absurd (cc)

-- what an answered operation makes of the session, by any summary of its disk
answered_result : (at next : SystemState) (op : Operation) (reply : Reply) (s : Session) (ps : List Pair) (around : DiskSummary) → is_remount op ≡ false → IsTreeStep at op reply next → IsHealthySession at s ps around →
    next.state ≡ Healthy (operation_result around s op).1
answered_result at next op reply s ps around other step work =
    let a = step.answered in
    let k = a.surrounds s work.healthy in
    let same = same_surroundings at.disk ps k.0 around a.around work.accepted k.1.0 work.surrounds k.1.1 in
    let e = sym (ap (λ b. cond b (remount_result a.shown) (nonremount_result a.around at.state op)) other) ∙ a.answers in
    sym (ap (λ (z : Option Reply × SessionHealth). z.1) (sym (ap (λ state. nonremount_result a.around state op) work.healthy) ∙ e)) ∙ ap (λ (z : DiskSummary). Healthy (operation_result z s op).1) (sym same)

-- each tree that a session has in its life has P
abbrev pub AllTreesHave : (Tree → Type 0) → DiskSummary → Session → List Turn → Type 0
AllTreesHave P around s [] = P s.tree
AllTreesHave P around s (turn ∷ turns) = P s.tree × AllTreesHave P around (session_after_turn around s turn) turns

module _ (P : Tree → Type 0) where
  -- the first one
  pub first_tree : (around : DiskSummary) (s : Session) (turns : List Turn) → AllTreesHave P around s turns → P s.tree
  first_tree around s [] all = all
  first_tree around s (turn ∷ turns) all = all.0

  by_refusal : (around : DiskSummary) (s : Session) (op : Operation) (r : Option Refusal) → P s.tree → P (operation_effect around s op).1.tree → P (unless_refused r s (operation_effect around s op)).1.tree
  by_refusal around s op None before after = after
  by_refusal around s op (Some error) before after = before

  -- after the turn that was cut
  turn_result : (at next : SystemState) (turn : Turn) (s : Session) (ps : List Pair) (around : DiskSummary) → EndsWith turn.reply at turn.op next → IsHealthySession at s ps around → HealthyHasDiskTree at.disk at.state →
      P s.tree → P (session_after_turn around s turn).tree → P (operation_result around s turn.op).1.tree
  turn_result at next turn s ps around ends work agrees before after = go turn.reply refl ends
    where
      go : (reply : Option Reply) → turn.reply ≡ reply → EndsWith reply at turn.op next → P (operation_result around s turn.op).1.tree
      go None is fails = by_refusal around s turn.op (operation_refusal around s turn.op) before
          (subst (λ (r : Option Reply). P (session_after_turn around s (record { op = turn.op; reply = r; to = turn.to })).tree) is after)
      go (Some reply) is step = by_op (is_remount turn.op) refl
        where
          by_op : (b : Bool) → is_remount turn.op ≡ b → P (operation_result around s turn.op).1.tree
          by_op true e = subst (λ (t : Session). P t.tree) (sym (remount_keeps around s turn.op e)) before
          by_op false e = subst (λ (t : Session). P t.tree)
              (same_session (session_after around s turn.op reply) (operation_result around s turn.op).1
              (sym (step_defined around turn.op reply at next s work.healthy agrees step) ∙ answered_result at next turn.op reply s ps around e step work))
              (subst (λ (r : Option Reply). P (session_after_turn around s (record { op = turn.op; reply = r; to = turn.to })).tree) is after)

  -- ---- the life up to the turn that was cut

  record IsReached (around : DiskSummary) (at : SystemState) (turns : List Turn) : Type 0 where
    session : Session
    healthy : at.state ≡ Healthy session
    agrees : HealthyHasDiskTree at.disk at.state
    all : AllTreesHave P around session turns

  reached : (around : DiskSummary) (done others : List Turn) (from at : SystemState) (s : Session) → from.state ≡ Healthy s → HealthyHasDiskTree from.disk from.state → (is_last others ≡ false) ⊎ IsHealthy at.state →
      only_last_may_fail (done ++ others) ≡ true → IsLife from done at → AllTreesHave P around s (done ++ others) → IsReached around at others
  reached around [] others from at s healthy agrees some ends same all =
      subst (λ m. IsReached around m others) same (record { session = s; healthy = healthy; agrees = agrees; all = all })
  reached around (turn ∷ done) others from at s healthy agrees some ends (one, rest) all =
      go turn.reply refl one.ends (λ healthy agrees. reached around done others turn.to at (session_after_turn around s turn) healthy agrees some (and_parts _ _ ends).1 rest all.1)
    where
      not_last : (ts os : List Turn) → ts ++ os ≡ [] → is_last os ≡ true
      not_last [] os e = ap is_last e
      not_last (t ∷ ts) os e = absurd (cc)

      none_left : (ts : List Turn) → ts ++ others ≡ [] → ts ≡ []
      none_left [] e = refl
      none_left (t ∷ ts) e = absurd (cc)

      dead : OperationFails from turn.op turn.to → turn.reply ≡ None → (is_last others ≡ false) ⊎ IsHealthy at.state → IsReached around at others
      dead fails is (inl more) = absurd (let k : true ≡ false = sym (not_last done others (only (done ++ others) turn.reply is ends)) ∙ more in cc)
      dead fails is (inr works) =
          let end : turn.to ≡ at = subst (λ ts. IsLife turn.to ts at) (none_left done (only (done ++ others) turn.reply is ends)) rest in
          absurd (subst IsHealthy (sym (ap (λ (m : SystemState). m.state) end) ∙ fails.failed) works)

      go : (reply : Option Reply) → turn.reply ≡ reply → EndsWith reply from turn.op turn.to → (turn.to.state ≡ Healthy (session_after_turn around s turn) → HealthyHasDiskTree turn.to.disk turn.to.state → IsReached around at others) → IsReached around at others
      go None is fails later = dead fails is some
      go (Some reply) is step later = later
          (step_defined around turn.op reply from turn.to s healthy agrees step ∙ ap (λ (r : Option Reply). Healthy (session_after_turn around s (record { op = turn.op; reply = r; to = turn.to }))) (sym is))
          step.agrees

  -- ---- the tree that is left

  tree_left : (from to : SystemState) (turns : List Turn) (s : Session) (left : Disk) (tree : Tree) → from.state ≡ Healthy s → HealthyHasDiskTree from.disk from.state → only_last_may_fail turns ≡ true → IsLife from turns to →
      ((around : DiskSummary) → AllTreesHave P around s turns) → LossInLife from turns to left tree → P tree
  tree_left from to turns s left tree healthy agrees ends lived all (inl h) = by_either h.loss.either
    where
      around : DiskSummary
      around = h.loss.around

      r : IsReached around h.at (h.cut ∷ h.others)
      r = reached around h.done (h.cut ∷ h.others) from h.at s healthy agrees (inl refl) (subst (λ ts. only_last_may_fail ts ≡ true) h.are ends) h.lived (subst (AllTreesHave P around s) h.are (all around))

      same : r.session ≡ h.loss.session
      same = same_session r.session h.loss.session (sym r.healthy ∙ h.loss.work.healthy)

      seen : AllTreesHave P around h.loss.session (h.cut ∷ h.others)
      seen = subst (λ t. AllTreesHave P around t (h.cut ∷ h.others)) same r.all

      by_either : (tree ≡ h.loss.session.tree) ⊎ (tree ≡ (operation_result around h.loss.session h.cut.op).1.tree) → P tree
      by_either (inl e) = subst P (sym e) seen.0
      by_either (inr e) = subst P (sym e) (turn_result h.at h.cut.to h.cut h.loss.session h.loss.pairs around h.turn.ends h.loss.work r.agrees seen.0
          (first_tree around (session_after_turn around h.loss.session h.cut) h.others seen.1))
  tree_left from to turns s left tree healthy agrees ends lived all (inr h) =
      subst P (sym (h.is ∙ ap (λ (t : Session). t.tree) (same_session h.session r.session (sym h.healthy ∙ r.healthy)))) r.all
    where
      r : IsReached any_summary to []
      r = reached any_summary turns [] from to s healthy agrees (inr (subst IsHealthy (sym h.healthy) tt)) (subst (λ ts. only_last_may_fail ts ≡ true) (sym (append-nil turns)) ends) lived (subst (AllTreesHave P any_summary s) (sym (append-nil turns)) (all any_summary))

-- ---- the law of a user

-- a session's trees don't depend on the disk
same_turn : (around other : DiskSummary) (s : Session) (turn : Turn) → session_after_turn around s turn ≡ session_after_turn other s turn
same_turn around other s turn = go turn.reply
  where
    go : (reply : Option Reply) → session_after_turn around s (record { op = turn.op; reply = reply; to = turn.to }) ≡ session_after_turn other s (record { op = turn.op; reply = reply; to = turn.to })
    go None = same_effect around other s turn.op
    go (Some reply) = ap (λ t. cond (is_refusal reply) s (cond (is_remount turn.op) (mounted_session s.tree) t)) (same_effect around other s turn.op)

all_among : (P : Tree → Type 0) (around other : DiskSummary) (s : Session) (turns : List Turn) → ((tree : Tree) → IsTreeOfLife around s turns tree → P tree) → AllTreesHave P other s turns
all_among P around other s [] has = has s.tree refl
all_among P around other s (turn ∷ turns) has = (
  has s.tree (inl refl),
  subst (λ t. AllTreesHave P other t turns) (same_turn around other s turn) (all_among P around other (session_after_turn around s turn) turns (λ tree among. has tree (inr among))),
)

start_may_again : (tree : Tree) (order : NameOrder) (left : Disk) → KeepsTree tree (disk_with_order order left) → (begin : SystemState) → SameBytes left begin.disk → IsJustMounted begin.disk begin → HasWritableDiskTree begin
start_may_again tree order left safe begin same begins = let may = start_may tree order left begin safe same begins in record { agrees = may.0; profile = may.1 }

pub life_leaves : (around : DiskSummary) (s : Session) (from : SystemState) (turns : List Turn) (to : SystemState) (left : Disk) → from.state ≡ Healthy s → only_last_may_fail turns ≡ true → IsLife from turns to → MeetsCrashSafetyPremises from to →
    LeftBetween from to left → LeavesTreeOfLife around s turns left
life_leaves around s from turns to left healthy ends lived may stop =
    let k = life_survives from turns to left lived (none_inside from turns ends) may stop in
    let agrees = subst (HealthyHasDiskTree from.disk) (sym may.agrees.healthy) may.agrees.shows in
    record {
      order = k.order;
      tree = k.tree;
      has = tree_left (IsTreeOfLife around s turns) from to turns s (disk_with_order k.order left) k.tree healthy agrees ends lived
          (λ other. all_among (IsTreeOfLife around s turns) around other s turns (λ tree among. among)) k.cut;
      safe = k.safe;
      may = start_may_again k.tree k.order left k.safe;
    }

-- ---- a start

pub keeps_starts : (tree : Tree) (left : Disk) → KeepsTree tree left → HasMountableTree (λ t. t ≡ tree) left
keeps_starts tree left safe = record { order = left.order; tree = tree; has = refl; safe = safe; may = start_may_again tree left.order left safe }

-- whichever session mounts the disk, its tree has P
pub start_has : (P : Tree → Type 0) (left : Disk) → HasMountableTree P left → (begin : SystemState) → SameBytes left begin.disk → (mounts : IsJustMounted begin.disk begin) → P mounts.tree
start_has P left h begin same mounts =
    subst P (ap (λ (t : Session). t.tree) (same_session (mounted_session h.tree) (mounted_session mounts.tree) (sym (h.safe.mounts begin.disk begin same mounts) ∙ mounts.healthy))) h.has

-- a session that mounts the disk
pub start_mounts : (P : Tree → Type 0) (left : Disk) → HasMountableTree P left → (begin : SystemState) × (SameBytes left begin.disk × IsJustMounted begin.disk begin)
start_mounts P left h = (
  record { disk = disk_with_order h.order left; calls = []; state = Healthy (mounted_session h.tree) },
  (refl, record { on = refl; tree = h.tree; shows = (h.safe.pairs, (h.safe.accepted, sym h.safe.shows)); healthy = refl }),
)
