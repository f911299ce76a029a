-- Settings: what a save makes of a session and its trees, and what saves that were cut leave.
use Rattle.std.proofs.Common.{ℕ, ◌≡◌, ◌⊎◌, inl, inr, List, [], ◌∷◌, Option, Some, Result, Ok, refl, sym, ap, subst, ◌∙◌}
use Rattle.std.specs.Prelude.{codes}
use Rattle.lfs_device.specs.declared.error.Error.{Error}
use Rattle.lfs_model.specs.format.Disk.{Disk}
use Rattle.lfs_model.specs.tree.Tree.{Path, Tree}
use Rattle.lfs_model.specs.session.TreeEdits.{file_bytes}
use Rattle.lfs_model.specs.session.Operations as ops
use Rattle.lfs_model.specs.session.Operations.{FlagsOfOpen, Operation, Reply}
use Rattle.lfs_model.specs.session.Session.{Session}
use Rattle.lfs_model.specs.session.Effects.{operation_effect}
use Rattle.lfs_model.specs.session.State.{mounted_session}
use Rattle.lfs_model.specs.session.Run.{SystemState}
use Rattle.lfs_fs.specs.CallEffects.{IsCall}
use Rattle.lfs_fs.specs.SessionView.{SessionView, system_state}
use Rattle.lfs_model.proofs.Passing.{accepted_step}
use Rattle.lfs_model.proofs.TreesLeft.{any_summary, start_has}
use Rattle.lfs_fs.proofs.Users.{lives}
use Rattle.lfs_model.specs.crash.LifeTrees.{HasMountableTree}
use Rattle.saved_files.specs.Working.{KeepsWorkingBetween}
use Rattle.saved_files.proofs.Parts.{finds_weaker, survives_weaker, then_survives, call_survives}
use Rattle.saved_files.specs.Writing.{bytes_if_file, saving_flags, IsBeforeOrAfterWrite, WriteSurvivesPowerLoss, WritesFile, IsWritten}
use Rattle.saved_files.specs.Settings.{settings_path, settings_in, IsEither, SaveSurvivesPowerLoss, SavesSettings, IsInterruptedSave, AreInterruptedSaves, IsOneOfSettings}
use Rattle.saved_files.proofs.Written.{emptied_has}

abbrev draft_path : Path
draft_path = codes "settings.new" ∷ []

abbrev renaming : Operation
renaming = ops.Rename (codes "/settings.new") (codes "/settings")

-- ---- a save

-- the draft is beside the settings
draft_keeps : (flags : FlagsOfOpen) (bytes : List ℕ) (old tree : Tree) → IsBeforeOrAfterWrite draft_path flags bytes old tree → settings_in tree ≡ settings_in old
draft_keeps flags bytes old tree (inl h) = ap bytes_if_file (h.elsewhere settings_path refl refl)
draft_keeps flags bytes old tree (inr h) = ap bytes_if_file (h.elsewhere settings_path refl refl)

module _ (a : SystemState) (b : SessionView) (flags : FlagsOfOpen) (bytes : List ℕ) (survives : WriteSurvivesPowerLoss (codes "/settings.new") flags bytes a (system_state b)) where
  pub draft_survives : SaveSurvivesPowerLoss a bytes (system_state b)
  draft_survives s healthy =
      survives_weaker (IsBeforeOrAfterWrite draft_path flags bytes s.tree) (λ tree. IsEither (settings_in s.tree) bytes (settings_in tree)) a (system_state b) (λ tree h. inl (draft_keeps flags bytes s.tree tree h)) (survives s healthy)

  module _ (c : SessionView) (is : flags ≡ saving_flags) (works : KeepsWorkingBetween a (system_state b)) (writes : WritesFile (codes "/settings.new") flags bytes a (system_state b)) where
    -- the draft becomes the settings
    renamed_has : (old : Tree) (t : Session) → IsWritten draft_path flags bytes old t.tree → settings_in (operation_effect any_summary t renaming).1.tree ≡ Some bytes
    renamed_has old t h = h.file ∙ ap Some (emptied_has draft_path flags (file_bytes (old draft_path)) bytes (ap (λ (f : FlagsOfOpen). f.truncate) is) (ap (λ (f : FlagsOfOpen). f.append) is))

    pub save_survives : (r : Result Reply Error) → IsCall b renaming r c → SaveSurvivesPowerLoss a bytes (system_state c)
    save_survives r call s healthy =
        let Has : Tree → Type 0 = λ tree. IsEither (settings_in s.tree) bytes (settings_in tree) in
        let k = writes s healthy in
        then_survives Has a (system_state b) (system_state c) works (lives b c renaming r call) (draft_survives s healthy)
        (λ t after. call_survives Has b c k.0 renaming r k.1.0 refl (inl (ap bytes_if_file (k.1.1.elsewhere settings_path refl refl))) (inr (renamed_has s.tree k.0 k.1.1)) call)

    pub saved : IsCall b renaming (Ok ops.Done) c → SavesSettings a bytes (system_state c)
    saved call s healthy =
        let k = writes s healthy in
        ((operation_effect any_summary k.0 renaming).1, ((accepted_step (system_state b) (system_state c) renaming ops.Done k.0 k.1.0 refl refl call.answers).after, renamed_has s.tree k.0 k.1.1))

-- ---- saves that were cut, one after another

-- the settings have Q
abbrev pub StartsWithSettings : (Option (List ℕ) → Type 0) → Disk → Type 0
StartsWithSettings Q disk = HasMountableTree (λ tree. Q (settings_in tree)) disk

weaker : (P Q : Option (List ℕ) → Type 0) (disk : Disk) → ((is : Option (List ℕ)) → P is → Q is) → StartsWithSettings P disk → StartsWithSettings Q disk
weaker P Q disk f h = finds_weaker (λ tree. P (settings_in tree)) (λ tree. Q (settings_in tree)) disk (λ tree. f (settings_in tree)) h

after_one : (Q : Option (List ℕ) → Type 0) (disk next : Disk) (bytes : List ℕ) → StartsWithSettings Q disk → IsInterruptedSave disk bytes next → StartsWithSettings (λ is. Q is ⊎ (is ≡ Some bytes)) next
after_one Q disk next bytes h cut =
    let may = h.may cut.begin cut.same cut.mounts in
    weaker (IsEither (settings_in cut.mounts.tree) bytes) (λ is. Q is ⊎ (is ≡ Some bytes)) next (λ is e. either is e)
    (cut.survives (mounted_session cut.mounts.tree) cut.mounts.healthy next (record { agrees = may.agrees; profile = may.profile; cleanly = cut.cleanly }) cut.stop)
  where
    either : (is : Option (List ℕ)) → IsEither (settings_in cut.mounts.tree) bytes is → Q is ⊎ (is ≡ Some bytes)
    either is (inl e) = inl (subst Q (sym e) (start_has (λ tree. Q (settings_in tree)) disk h cut.begin cut.same cut.mounts))
    either is (inr e) = inr e

sorted : (Q : Option (List ℕ) → Type 0) (bytes : List ℕ) (saves : List (List ℕ)) (is : Option (List ℕ)) → (Q is ⊎ (is ≡ Some bytes)) ⊎ IsOneOfSettings saves is → Q is ⊎ IsOneOfSettings (bytes ∷ saves) is
sorted Q bytes saves is (inl (inl h)) = inl h
sorted Q bytes saves is (inl (inr e)) = inr (inl e)
sorted Q bytes saves is (inr h) = inr (inr h)

pub after_all : (Q : Option (List ℕ) → Type 0) (disk left : Disk) (saves : List (List ℕ)) → StartsWithSettings Q disk → AreInterruptedSaves disk saves left → StartsWithSettings (λ is. Q is ⊎ IsOneOfSettings saves is) left
after_all Q disk left [] h same = weaker Q (λ is. Q is ⊎ ⊥) left (λ is k. inl k) (subst (StartsWithSettings Q) (sym same) h)
after_all Q disk left (bytes ∷ saves) h (next, (cut, more)) =
    weaker (λ is. (Q is ⊎ (is ≡ Some bytes)) ⊎ IsOneOfSettings saves is) (λ is. Q is ⊎ IsOneOfSettings (bytes ∷ saves) is) left (sorted Q bytes saves)
    (after_all (λ is. Q is ⊎ (is ≡ Some bytes)) next left saves (after_one Q disk next bytes h cut) more)
