-- Runs whose operations survive a power loss.
use Rattle.std.proofs.Common.{Result, Ok, Err, ◌≡◌, ◌≢◌, Bool, true, false, cond, List, [], refl, sym, ap, subst, ◌∙◌}
use Rattle.lfs_device.specs.declared.error.Error.{Error}
use Rattle.lfs_fs.proofs.Common.{HasEitherTree, SurvivesStoppedCalls, SurvivesPowerLoss, SameGeometry, disk_with_order, operation_result, LeftByLatestCall, Operation, Session, DiskSummary, is_remount, disk_tree, Pair, HealthyHasDiskTree, SystemState, StepsOrFails, SessionView, IsReady, session_view, system_state, HasSessionInvariant, DeviceConforms, RuntimeFiles, TreeState}
use Rattle.lfs_model.specs.crash.PowerLoss.{IsHealthySession}
use Rattle.lfs_model.specs.session.Operations as ops
use Rattle.lfs_model.proofs.AfterStops.{left_before}
use Rattle.lfs_model.proofs.Kept.{one_tree}
use Rattle.lfs_model.proofs.Standing.{device_survives_loss, one_device}
use Rattle.lfs_fs.proofs.Failing.{failed_system, healthy_system}
use Rattle.lfs_fs.proofs.Stopping.{same_blocks, works_at}

-- the session has the tree of its disk
pub ready_agrees : (t : TreeState) (files : RuntimeFiles) → (t.failed ≡ false → IsReady t files) → HealthyHasDiskTree (system_state (session_view t files)).disk (system_state (session_view t files)).state
ready_agrees t files ready = go t.failed refl
  where
    go : (b : Bool) → t.failed ≡ b → HealthyHasDiskTree t.disk (system_state (session_view t files)).state
    go true e = subst (λ (m : SystemState). HealthyHasDiskTree t.disk m.state) (sym (failed_system (session_view t files) e)) tt
    go false e = subst (λ (m : SystemState). HealthyHasDiskTree t.disk m.state) (sym (healthy_system (session_view t files) e)) (t.pairs, ((ready e).sound.accepted, refl))

-- ---- a call that fails, or that leaves the disk as it was

pub stood_before : (from : SystemState) (op : Operation) → HealthyHasDiskTree from.disk from.state → (s : Session) (ps : List Pair) (around : DiskSummary) → IsHealthySession from s ps around → HasEitherTree from.disk s.tree (operation_result around s op).1.tree
stood_before from op agrees s ps around work =
    left_before from.disk ps s.tree (operation_result around s op).1.tree work.accepted work.writable
    (one_tree from.disk (disk_tree from.disk ps) s.tree (ps, (work.accepted, refl)) (subst (HealthyHasDiskTree from.disk) work.healthy agrees))

-- what stands is what stood
pub untouched_survives_loss : (from : SystemState) (op : Operation) (to : SystemState) → HealthyHasDiskTree from.disk from.state → to.disk ≡ from.disk → SurvivesStoppedCalls from op to → SurvivesPowerLoss from op to
untouched_survives_loss from op to agrees same survives = record {
  stops = survives;
  stands = λ s ps around work clean fails. subst (λ d. HasEitherTree d s.tree (operation_result around s op).1.tree) (sym same) (stood_before from op agrees s ps around work);
}

-- the disk has the shape that it had, and the order of names, but for a remount
same_shape : (old : SessionView) (op : Operation) (r : Result ops.Reply Error) (new : SessionView) → is_remount op ≡ false → StepsOrFails old op r new → SameGeometry old.tree.disk new.tree.disk
same_shape old op (Ok reply) new other turn = subst (λ b. SameGeometry (cond b (disk_with_order new.tree.disk.order old.tree.disk) old.tree.disk) new.tree.disk) other turn.geometry
same_shape old op (Err e) new other fails = fails.fails.geometry

-- What stands is what the newest call left.
pub call_survives_loss : (t : TreeState) (fs : RuntimeFiles) (now : SessionView) (op : Operation) (r : Result ops.Reply Error) (new : SessionView) → session_view t fs ≡ now → HasSessionInvariant t fs → DeviceConforms new.tree → is_remount op ≡ false → StepsOrFails now op r new → SurvivesStoppedCalls (system_state now) op (system_state new) →
    SurvivesPowerLoss (system_state now) op (system_state new)
call_survives_loss t fs now op r new is between reported other answers survives = go now.tree.failed refl
  where
    was : now.tree ≡ t
    was = ap (λ (h : SessionView). h.tree) (sym is)

    agrees : HealthyHasDiskTree now.tree.disk (system_state now).state
    agrees = subst (λ (h : SessionView). HealthyHasDiskTree h.tree.disk (system_state h).state) is (ready_agrees t fs between.ready)

    go : (b : Bool) → now.tree.failed ≡ b → SurvivesPowerLoss (system_state now) op (system_state new)
    go true failed = record { stops = survives; stands = λ s ps around work clean stopped. absurd (let k = sym failed ∙ works_at now s work.healthy in cc) }
    go false works =
        let at = sym (ap (λ (s : TreeState). s.failed) was) ∙ works in
        device_survives_loss (system_state now) (system_state new) op agrees
        (one_device (system_state now) (system_state new) (subst (λ (s : TreeState). s.history ≢ []) (sym was) (between.ready at).called) (subst (λ (s : TreeState). LeftByLatestCall s.history s.disk.blocks) (sym was) (between.reported at).newest) reported.newest reported.conforms
        (same_blocks now.tree.disk new.tree.disk new.tree.disk.blocks (same_shape now op r new other answers))) survives
