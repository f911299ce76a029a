-- Whether a session may write, and why not.
use Rattle.std.specs.Prelude.{◌≡◌, false, Option, Some, None}
use Rattle.lfs_model.specs.declared.breaches.ProfileBreach.{ProfileBreach}
use Rattle.lfs_model.specs.layers.ProfileBreaches.{BreaksProfile}
use Rattle.lfs_model.specs.session.Headline.{HasDiskTree}
use Rattle.lfs_model.specs.tree.Profile.{IsWritableDisk}
use Rattle.lfs_fs.specs.SessionView.{SessionView, system_state}

-- The session hasn't failed and has its disk's tree, and the image is in the writing profile. These are the premises of the
-- laws on power loss.
pub record IsWritableSession (h : SessionView) : Type 0 where
  pub works : h.tree.failed ≡ false
  pub agrees : HasDiskTree (system_state h)
  pub profile : IsWritableDisk h.tree.disk

-- None if the session may write, otherwise a rule of the writing profile that the image breaks
abbrev pub IsReadOnlyReason : SessionView → Option ProfileBreach → Type 0
IsReadOnlyReason h None = IsWritableSession h
IsReadOnlyReason h (Some b) = BreaksProfile h.tree.disk h.tree.pairs b
