-- What a mount and a recovery make of what a stop left.
use Rattle.std.specs.Prelude.{Result, Ok, Err}
use Rattle.std.proofs.Common.{◌≡◌, ◌≢◌, ◌⊎◌, inl, inr, Bool, true, false, not, List, ◌++◌, Option, None, refl, sym, ap, subst, ◌∙◌}
use Rattle.lfs_device.specs.declared.error.Error.{Error}
use Rattle.lfs_device.specs.declared.error.Error.TheVariants.{Io, NoMemory, Corrupt}
use Rattle.lfs_fs.specs.SessionView.{SessionView, StepsOrFails, system_state}
use Rattle.lfs_fs.specs.Replies.{reply_from}
use Rattle.lfs_fs.specs.CallEffects.{IsCall}
use Rattle.lfs_model.specs.format.Disk.{Disk}
use Rattle.lfs_model.specs.session.Effects.{operation_result, unless_refused}
use Rattle.lfs_model.specs.session.History.{CallEvent}
use Rattle.lfs_model.specs.session.Operations as ops
use Rattle.lfs_model.specs.session.Operations.{Operation, Reply, ReadOnly}
use Rattle.lfs_model.specs.crash.PowerLoss.{IsHealthySession, HasEitherTree}
use Rattle.lfs_model.specs.crash.Premises.{MeetsPowerLossPremises}
use Rattle.lfs_model.specs.crash.RepeatedPowerLoss.{IsJustMounted, KeepsTree, SameBytes}
use Rattle.lfs_model.specs.session.Run.{SystemState, IsStep, ShowsTree}
use Rattle.lfs_model.specs.session.Session.{Session, DiskSummary, refuse_if}
use Rattle.lfs_model.specs.session.State.{SessionHealth, Healthy, nonremount_result, is_remount, mounted_session}
use Rattle.lfs_model.specs.format.Thread.{Pair}
use Rattle.lfs_model.specs.tree.Tree.{Tree}
use Rattle.lfs_model.proofs.Premises.{since_of_each}
use Rattle.lfs_model.proofs.SessionSteps.{tree_step}
use Rattle.lfs_fs_tests.specs.Recovered.{IsRecoveredWithEither}

-- ---- a recovery

-- it leaves a session as it is
state_stays : (around : DiskSummary) (s : Session) → (nonremount_result around (Healthy s) ops.Recover).1 ≡ Healthy s
state_stays around s = go around.writable refl
  where
    go : (w : Bool) → around.writable ≡ w → (nonremount_result around (Healthy s) ops.Recover).1 ≡ Healthy s
    go true e = ap (λ b. Healthy (unless_refused (refuse_if (not b) ReadOnly) s (ops.Done, s)).1) e
    go false e = ap (λ b. Healthy (unless_refused (refuse_if (not b) ReadOnly) s (ops.Done, s)).1) e

pub shown_after : (before after tree : Tree) (left other : Disk) (from to : SystemState) → (tree ≡ before) ⊎ (tree ≡ after) → KeepsTree tree left → SameBytes left other → IsJustMounted other from
    → IsStep from ops.Recover ops.Done to → IsRecoveredWithEither before after to
shown_after before after tree left other from to either safe same mount step =
    let a = step.answered in
    record {
      tree = tree;
      either = either;
      restored = safe.recovers other from to ops.Done same mount (tree_step from to ops.Recover ops.Done step);
      healthy = sym (ap (λ (z : Option Reply × SessionHealth). z.1) a.answers) ∙ ap (λ s. (nonremount_result a.around s ops.Recover).1) (safe.mounts other from same mount)
          ∙ state_stays a.around (mounted_session tree);
    }

-- an error of it isn't that no image was accepted
pub not_corrupt : (old new : SessionView) (e : Error) → IsCall old ops.Recover (reply_from (λ (u : Unit {0}). ops.Done) (Err e)) new → e ≢ Corrupt
not_corrupt old new e call is = go (subst (λ x. IsCall old ops.Recover (reply_from (λ (u : Unit {0}). ops.Done) (Err x)) new) is call).answers.errors
  where
    go : (Corrupt ≡ Io) ⊎ ((Corrupt ≡ NoMemory) ⊎ ((Corrupt ≡ Corrupt) × (is_remount ops.Recover ≡ true) × ShowsTree (system_state old).disk None)) → ⊥
    go (inl same) = absurd (cc)
    go (inr (inl same)) = absurd (cc)
    go (inr (inr parts)) = absurd (let never : false ≡ true = parts.1 in cc)

-- ---- the operation that was cut

called_in : (old new : SessionView) (op : Operation) (r : Result Reply Error) → StepsOrFails old op r new → (calls : List CallEvent) × (new.tree.history ≡ calls ++ old.tree.history)
called_in old new op (Ok reply) step = (step.calls, step.called)
called_in old new op (Err e) by = (by.fails.calls, by.fails.called)

-- what a call leaves, however it ended, where the device met what is supposed of it
pub left_by_call : (old new : SessionView) (op : Operation) (r : Result Reply Error) → IsCall old op r new → (s : Session) (ps : List Pair) (around : DiskSummary)
    → IsHealthySession (system_state old) s ps around → MeetsPowerLossPremises new.tree.history → HasEitherTree new.tree.disk s.tree (operation_result around s op).1.tree
left_by_call old new op r call s ps around work met =
    let since = called_in old new op r call.answers in
    call.survives_loss.stands s ps around work (since_of_each since.0 since.1 met.erases) (since_of_each since.0 since.1 met.failed)
