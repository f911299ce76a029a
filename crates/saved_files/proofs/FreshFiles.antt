-- A session on a fresh disk that makes no call, for examples.
use Rattle.std.proofs.Common.{ℕ, ◌≡◌, inl, List, [], ◌∷◌, refl, sym, ap, ◌∙◌}
use Rattle.lfs_model.specs.tree.Fresh.{empty_tree}
use Rattle.lfs_model.specs.tree.Tree.{Tree}
use Rattle.lfs_model.specs.session.Session.{Session}
use Rattle.lfs_model.specs.session.State.{Healthy, mounted_session}
use Rattle.lfs_model.specs.crash.RepeatedPowerLoss.{IsJustMounted}
use Rattle.lfs_model.specs.examples.Images.{small_image}
use Rattle.lfs_model.specs.examples.Runs.{fresh_state, blockless_disk}
use Rattle.lfs_model.proofs.FreshLife.{agrees, premises}
use Rattle.lfs_model.proofs.FreshSession.{none_in_order}
use Rattle.lfs_model.proofs.TreesLeft.{any_summary, life_leaves, same_session}
use Rattle.lfs_model.specs.crash.LifeTrees.{HasMountableTree}
use Rattle.saved_files.specs.Working.{LossLeavesTreeWith}
use Rattle.saved_files.specs.Settings.{SaveSurvivesPowerLoss, IsInterruptedSave, settings_in}
use Rattle.saved_files.specs.Log.{IsCrashSafeAppend, AreInterruptedAppends, log_in}
use Rattle.saved_files.proofs.Parts.{survives_weaker}

abbrev pub fresh : Session
fresh = mounted_session empty_tree

pub same_fresh : (s : Session) → fresh_state.state ≡ Healthy s → s ≡ fresh
same_fresh s e = same_session s fresh (sym e)

pub keeps_tree : LossLeavesTreeWith (λ tree. tree ≡ empty_tree) fresh_state fresh_state
keeps_tree left may stop = life_leaves any_summary fresh fresh_state [] fresh_state left refl refl refl may stop

pub mounts : IsJustMounted small_image fresh_state
mounts = record { on = refl; tree = empty_tree; shows = agrees; healthy = refl }

-- the tree is empty
pub starts_empty : HasMountableTree (λ tree. tree ≡ empty_tree) small_image
starts_empty = keeps_tree small_image premises (inl refl)

pub none_starts : (P : Tree → Type 0) → HasMountableTree P blockless_disk → ⊥
none_starts P h = none_in_order h.order h.safe.pairs h.safe.accepted

-- ---- power is lost before the first call

keeps_settings : (bytes : List ℕ) → SaveSurvivesPowerLoss fresh_state bytes fresh_state
keeps_settings bytes s healthy = survives_weaker _ _ fresh_state fresh_state (λ tree e. inl (ap settings_in e ∙ sym (ap (λ (t : Session). settings_in t.tree) (same_fresh s healthy)))) keeps_tree

pub cut_save : (bytes : List ℕ) → IsInterruptedSave small_image bytes small_image
cut_save bytes = record { begin = fresh_state; same = refl; mounts = mounts; to = fresh_state; survives = keeps_settings bytes; cleanly = record { events = []; extends = refl; each = tt }; stop = inl refl }

keeps_log : (bytes : List ℕ) → IsCrashSafeAppend fresh_state bytes fresh_state
keeps_log bytes = record {
  survives = λ s healthy. survives_weaker _ _ fresh_state fresh_state (λ tree e. inl (ap log_in e ∙ sym (ap (λ (t : Session). log_in t.tree) (same_fresh s healthy)))) keeps_tree;
  lived = ([], refl);
}

pub cut_append : (bytes : List ℕ) → AreInterruptedAppends small_image (bytes ∷ []) small_image
cut_append bytes = record { begin = fresh_state; same = refl; mounts = mounts; to = fresh_state; appends = keeps_log bytes; cleanly = record { events = []; extends = refl; each = tt }; stop = inl refl }
