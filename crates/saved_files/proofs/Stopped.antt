-- What a start finds on a device that stopped in a save.
use Rattle.std.proofs.Common.{ℕ, ◌≡◌, inr, List, Some, refl, sym, ap, subst, ◌∙◌}
use Rattle.lfs_model.specs.format.Disk.{Disk, disk_with_order}
use Rattle.lfs_model.specs.session.Session.{Session}
use Rattle.lfs_model.specs.session.State.{mounted_session}
use Rattle.lfs_model.specs.session.Run.{SystemState, ShowsTree}
use Rattle.lfs_model.specs.crash.Premises.{MeetsPowerLossPremises}
use Rattle.lfs_model.specs.crash.RepeatedPowerLoss.{IsJustMounted}
use Rattle.lfs_model.proofs.Premises.{since_of_each}
use Rattle.lfs_model.proofs.LivedOn.{life_since}
use Rattle.lfs_model.proofs.TreesLeft.{same_session, start_has}
use Rattle.lfs_fs.specs.Starts.{IsReachableByCalls}
use Rattle.lfs_fs.proofs.Users.{cleanly}
use Rattle.saved_files.specs.Settings.{settings_in, IsEither, SaveSurvivesPowerLoss, FindsEitherSettings}

-- the next session mounts the disk that the last call left
pub finds_save : (from to next : SystemState) (disk : Disk) (bytes : List ℕ) → SaveSurvivesPowerLoss from bytes to → IsReachableByCalls from to → MeetsPowerLossPremises to.calls → disk_with_order to.disk.order disk ≡ to.disk → IsJustMounted (disk_with_order next.disk.order disk) next → FindsEitherSettings from bytes next
finds_save from to next disk bytes survives lived premises same mounts s t healthy may after =
    let since = life_since lived.0 from to lived.1 in
    let left = survives s healthy to.disk (record { agrees = may.agrees; profile = may.profile; cleanly = cleanly from to lived premises }) (inr (inr (refl, since_of_each since.events since.extends premises.failed))) in
    let begun : IsJustMounted next.disk next = record { on = refl; tree = mounts.tree; shows = subst (λ d. ShowsTree d (Some mounts.tree)) (sym mounts.on) mounts.shows; healthy = mounts.healthy } in
    subst (λ (z : Session). IsEither (settings_in s.tree) bytes (settings_in z.tree)) (same_session (mounted_session mounts.tree) t (sym mounts.healthy ∙ after))
    (start_has (λ tree. IsEither (settings_in s.tree) bytes (settings_in tree)) to.disk left next (mounts.on ∙ ap (disk_with_order next.disk.order) same) begun)
