-- Session steps that survive stops survive them.
use Rattle.std.proofs.Common.{ℕ, ◌≡◌, Bool, true, false, cond, List, Option, Some, refl, sym, ap, ap₂, subst, ◌∙◌}
use Rattle.lfs_model.specs.declared.limits.Profile.{Profile}
use Rattle.lfs_model.proofs.Common.{content_at, Disk, block_count, disk_with_order, Operation, Reply, IsHealthySession, HasEitherTree, SurvivesStoppedCalls, SurvivesPowerLoss, HealthyHasDiskTree, ShowsTree, IsTreeStep, SystemState, is_refusal, Session, DiskSummary, Gstate, Healthy, SessionHealth, IsDiskSummary, nonremount_result, is_remount, remount_result, operation_result, Pair, IsAccepted, disk_tree, IsWritable}
use Rattle.lfs_model.proofs.AfterStops.{left_after, left_before}
use Rattle.lfs_model.proofs.Kept.{one_tree}
use Rattle.lfs_model.proofs.OtherOrder.{same_pairs, same_tree, writable_in_order}
use Rattle.lfs_model.proofs.SessionSteps.{IsHealthy, session_step_is_healthy, true_from}
use Rattle.lfs_model.proofs.Uniqueness.{one_thread}

-- ---- what an operation takes from a disk is one

same_bit : (a b : Bool) → (a ≡ true → b ≡ true) → (b ≡ true → a ≡ true) → a ≡ b
same_bit true true f g = refl
same_bit true false f g = sym (f refl)
same_bit false true f g = g refl
same_bit false false f g = refl

pub same_surroundings : (disk : Disk) (ps qs : List Pair) (a b : DiskSummary) → IsAccepted disk ps → IsAccepted disk qs → IsDiskSummary disk ps a → IsDiskSummary disk qs b → a ≡ b
same_surroundings disk ps qs a b one other around about =
    all (subst (λ z. IsDiskSummary disk z a) (one_thread (content_at disk) (block_count disk) ps qs one.thread other.thread) around) about
  where
    all : IsDiskSummary disk qs a → IsDiskSummary disk qs b → a ≡ b
    all x y =
        ap (λ (k : Profile). record a { profile = k }) (x.profile ∙ sym y.profile)
        ∙ ap₂ (λ (s p : ℕ). record a { profile = b.profile; block_size = s; page = p }) (x.block_size ∙ sym y.block_size) (x.page ∙ sym y.page)
        ∙ ap₂ (λ (n : ℕ) (u : List ℕ). record a { profile = b.profile; block_size = b.block_size; page = b.page; block_count = n; used = u }) (x.block_count ∙ sym y.block_count) (x.used ∙ sym y.used)
        ∙ ap₂ (λ (g : Gstate) (w : Bool). record b { gstate = g; writable = w }) (x.gstate ∙ sym y.gstate) (same_bit a.writable b.writable (λ h. y.writable.1 (x.writable.0 h)) (λ h. x.writable.1 (y.writable.0 h)))

-- ---- a turn

-- What is at the end of a session step is what the definitions have there, so a session step that survives stops survives them.
pub session_step_survives_loss : (from : SystemState) (op : Operation) (reply : Reply) (to : SystemState) → HealthyHasDiskTree from.disk from.state → IsTreeStep from op reply to → SurvivesStoppedCalls from op to → SurvivesPowerLoss from op to
session_step_survives_loss from op reply to agrees turn survives = record { stops = survives; stands = λ s ps around work clean fails. stands s ps around work }
  where
    stands : (s : Session) (ps : List Pair) (around : DiskSummary) → IsHealthySession from s ps around → HasEitherTree to.disk s.tree (operation_result around s op).1.tree
    stands s ps around work = by_op (is_remount op) refl
      where
        untouched : to.disk ≡ from.disk → HasEitherTree to.disk s.tree (operation_result around s op).1.tree
        untouched e = subst (λ d. HasEitherTree d s.tree (operation_result around s op).1.tree) (sym e)
            (left_before from.disk ps s.tree (operation_result around s op).1.tree work.accepted work.writable
            (one_tree from.disk (disk_tree from.disk ps) s.tree (ps, (work.accepted, refl)) (subst (HealthyHasDiskTree from.disk) work.healthy agrees)))

        -- by a remount, in the order that it found
        read_anew : to.disk ≡ disk_with_order to.disk.order from.disk → HasEitherTree to.disk s.tree (operation_result around s op).1.tree
        read_anew e =
            let known = true_from to (session_step_is_healthy from to op reply turn (subst IsHealthy (sym work.healthy) tt)) turn.agrees in
            let shown = subst (λ d. ShowsTree d (Some known.session.tree)) e known.shows in
            let pairs = same_pairs to.disk.order from.disk ps shown.0 work.accepted shown.1.0 in
            subst (λ d. HasEitherTree d s.tree (operation_result around s op).1.tree) (sym e)
            (left_before (disk_with_order to.disk.order from.disk) shown.0 s.tree (operation_result around s op).1.tree shown.1.0
            (writable_in_order to.disk.order from.disk shown.0 (subst (IsWritable from.disk) pairs work.writable))
            (same_tree to.disk.order from.disk (disk_tree from.disk shown.0) s.tree (shown.0, (shown.1.0, refl)) (subst (HealthyHasDiskTree from.disk) work.healthy agrees)))

        done : is_remount op ≡ false → is_refusal reply ≡ false → HasEitherTree to.disk s.tree (operation_result around s op).1.tree
        done other accepted =
            let a = turn.answered in
            let about = a.surrounds s work.healthy in
            let same = same_surroundings from.disk about.0 ps a.around around about.1.0 work.accepted about.1.1 work.surrounds in
            let state : Healthy (operation_result around s op).1 ≡ to.state =
            ap (λ (z : Option Reply × SessionHealth). z.1)
            (sym (ap (λ z. nonremount_result z (Healthy s) op) same) ∙ sym (ap (λ z. nonremount_result a.around z op) work.healthy) ∙ sym (ap (λ b. cond b (remount_result a.shown) (nonremount_result a.around from.state op)) other) ∙ a.answers) in
            let shown = subst (HealthyHasDiskTree to.disk) (sym state) turn.agrees in
            left_after to.disk shown.0 s.tree (operation_result around s op).1.tree shown.1.0
            ((turn.effect_on_disk accepted s work.healthy ps shown.0 work.accepted shown.1.0).profile work.writable) (sym shown.1.1)

        by_reply : (b : Bool) → is_refusal reply ≡ b → is_remount op ≡ false → HasEitherTree to.disk s.tree (operation_result around s op).1.tree
        by_reply true e other = untouched (turn.refused e).0
        by_reply false e other = done other e

        by_op : (b : Bool) → is_remount op ≡ b → HasEitherTree to.disk s.tree (operation_result around s op).1.tree
        by_op true e = read_anew (turn.remounted e).untouched.0
        by_op false e = by_reply (is_refusal reply) refl e
