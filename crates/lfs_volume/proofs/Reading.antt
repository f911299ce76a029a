-- Calls of a volume that only read the image.
use Rattle.std.proofs.Common.{inl, inr, ◌≡◌, true, false, Result, Ok, Err, sym, ap, subst, ◌∙◌}
use Rattle.std.specs.Prelude.{◌⊎◌, IfErr, OnOk}
use Rattle.lfs_device.specs.declared.error.Error.{Error}
use Rattle.lfs_tree.specs.TreeState.{TreeState, visible_tree}
use Rattle.lfs_fs.specs.ImageLimits.{FailedByRead, OnlyReadsSession}
use Rattle.lfs_volume.specs.Opened.{HasNoOpenFiles}
use Rattle.lfs_volume.specs.Volume.{VolumeView}
use Rattle.lfs_volume.specs.VolumeCalls.{HasSameOpenFiles, IsSoundIfWorking}
use Rattle.lfs_volume.proofs.SessionOperations.{sound_same}
use Rattle.lfs_volume.proofs.Soundness.{sound_kept}

sound_if_read : (old new : VolumeView) → OnlyReadsSession old.session new.session → HasSameOpenFiles old new → IsSoundIfWorking old → IsSoundIfWorking new
sound_if_read old new r tables sound works =
    let s = sound r.works in
    sound_kept old new s (record { works = works; shows = ap (λ (t : TreeState). visible_tree t) r.tree.same; files = subst HasNoOpenFiles (sym r.files) s.idle.files }) (ap (λ (t : TreeState). t.disk.profile) r.tree.same) tables.0 tables.1

sound_if_failed : (old new : VolumeView) (e : Error) → FailedByRead old.session new.session e → HasSameOpenFiles old new → IsSoundIfWorking old → IsSoundIfWorking new
sound_if_failed old new e (inl (failed, is, same)) tables sound = sound_same old new sound same tables.0 tables.1
sound_if_failed old new e (inr (worked, reading, cause)) tables sound = λ works. absurd (let k : true ≡ false = sym reading.failed ∙ works in cc)

pub read_keeps : {A : Type 0} (r : Result A Error) (old new : VolumeView) → OnOk r (OnlyReadsSession old.session new.session) → IfErr r (FailedByRead old.session new.session) → HasSameOpenFiles old new → IsSoundIfWorking old → IsSoundIfWorking new
read_keeps (Ok x) old new read failed tables sound = sound_if_read old new read tables sound
read_keeps (Err e) old new read failed tables sound = sound_if_failed old new e failed tables sound
