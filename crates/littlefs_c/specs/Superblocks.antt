-- What C gets of an image's superblock, and of why the image is read only.
use Rattle.std.specs.Prelude.{Bool, ℕ, ℤ, ◌≡◌, ◌↔◌, IfErr, IfOk, IsTrue, OnOk, pos, Option, None, Some, Result, Ok, Err}
use Rattle.lfs_device.specs.declared.error.Error.{Error}
use Rattle.lfs_model.specs.declared.breaches.OtherLimit.{OtherLimit}
use Rattle.lfs_model.specs.declared.breaches.OtherLimit.TheVariants as limit
use Rattle.lfs_model.specs.declared.breaches.ProfileBreach.{ProfileBreach}
use Rattle.lfs_model.specs.declared.breaches.ProfileBreach.TheVariants as breach
use Rattle.lfs_model.specs.tree.Profile.{image_superblock_fields}
use Rattle.lfs_tag.specs.FieldsView.{superblock_view}
use Rattle.lfs_tag.specs.declared.fields.Superblock.{Superblock}
use Rattle.lfs_fs.specs.ImageLimits.{FailedByRead, OnlyReadsSession}
use Rattle.lfs_fs.specs.ReadOnly.{IsReadOnlyReason, IsWritableSession}
use Rattle.lfs_fs.specs.SessionView.{SessionView}
use Rattle.lfs_volume.specs.VolumeCalls.{HasSameOpenFiles}
use Rattle.littlefs_values.specs.Codes.{bool_number, result_code}
use Rattle.littlefs_values.specs.Infos.{superblock_info}
use Rattle.littlefs_values.specs.declared.info.FsInfo.{FsInfo}
use Rattle.littlefs_c.specs.declared.mounted.Mounted.{Mounted}
use Rattle.littlefs_c.specs.declared.superblocks.BreachInfo.{BreachInfo}

-- ---- a call that only reads

-- The open files and directories stay, and the session is only read; or it has failed by that error.
pub record OnlyReads {X : Type 0} (r : Result X Error) (old new : Mounted) : Type 0 where
  pub directories : new.directories ≡ old.directories
  pub files : HasSameOpenFiles old.volume new.volume
  pub read : OnOk r (OnlyReadsSession old.volume.session new.volume.session)
  pub failed : IfErr r (FailedByRead old.volume.session new.volume.session)

-- ---- the superblock

-- C gets it, if there is one
abbrev pub FillsSuperblockInfo : {X : Type 0} → Result Superblock Error → Result X Error → FsInfo → FsInfo → Type 0
FillsSuperblockInfo (Ok f) (Ok x) before after = after ≡ superblock_info f
FillsSuperblockInfo (Ok f) (Err e) before after = ⊥
FillsSuperblockInfo (Err e) (Ok x) before after = ⊥
FillsSuperblockInfo (Err e) (Err e') before after = (e' ≡ e) × (after ≡ before)

-- it is that of the image
abbrev pub IsImageSuperblock : SessionView → Superblock → Type 0
IsImageSuperblock s f = image_superblock_fields s.tree.pairs ≡ Some (superblock_view f)

-- The volume's superblock, by a call with this code.
abbrev pub IsSuperblockCall : FsInfo → FsInfo → ℤ → Mounted → Mounted → Type 0
IsSuperblockCall before after code old new =
    (r : Result Superblock Error) × ((t : Result Unit Error) × ((code ≡ result_code (λ _. 0) t)
    × (FillsSuperblockInfo r t before after × (IfOk r (IsImageSuperblock old.volume.session) × OnlyReads r old new))))

-- ---- why an image is read only

-- whether it may be changed: 1 or 0
abbrev pub IsWritableCall : ℤ → Mounted → Mounted → Type 0
IsWritableCall code old new = (new ≡ old) × ((b : Bool) × ((code ≡ pos (bool_number b)) × (IsTrue b ↔ IsWritableSession old.volume.session)))

-- the number of a rule about a limit, and the limit that the superblock has
abbrev pub limit_number : OtherLimit → ℕ
limit_number (limit.Name n) = 1
limit_number (limit.File n) = 2
limit_number (limit.Attr n) = 3

abbrev pub limit_value : OtherLimit → ℕ
limit_value (limit.Name n) = n
limit_value (limit.File n) = n
limit_value (limit.Attr n) = n

-- the number of the rule that an image breaks
abbrev pub breach_number : ProfileBreach → ℕ
breach_number (breach.OtherLimits pair slot most) = limit_number most
breach_number (breach.LongInline pair slot) = 4
breach_number (breach.EmptyPair pair) = 5
breach_number (breach.TooLarge pair) = 6

abbrev pub breach_info : ProfileBreach → BreachInfo
breach_info (breach.OtherLimits pair slot most) = record { pair = pair; slot = slot; limit = limit_value most }
breach_info (breach.LongInline pair slot) = record { pair = pair; slot = slot; limit = 0 }
breach_info (breach.EmptyPair pair) = record { pair = pair; slot = 0; limit = 0 }
breach_info (breach.TooLarge pair) = record { pair = pair; slot = 0; limit = 0 }

-- the number of the rule, and where it is broken; or 0
abbrev pub FillsBreachInfo : Option ProfileBreach → ℕ → BreachInfo → BreachInfo → Type 0
FillsBreachInfo None n before after = (n ≡ 0) × (after ≡ before)
FillsBreachInfo (Some b) n before after = (n ≡ breach_number b) × (after ≡ breach_info b)

abbrev pub FillsReasonInfo : Result (Option ProfileBreach) Error → Result ℕ Error → BreachInfo → BreachInfo → Type 0
FillsReasonInfo (Ok o) (Ok n) before after = FillsBreachInfo o n before after
FillsReasonInfo (Ok o) (Err e) before after = ⊥
FillsReasonInfo (Err e) (Ok n) before after = ⊥
FillsReasonInfo (Err e) (Err e') before after = (e' ≡ e) × (after ≡ before)

-- The volume's reason, by a call with this code.
abbrev pub IsReasonCall : BreachInfo → BreachInfo → ℤ → Mounted → Mounted → Type 0
IsReasonCall before after code old new =
    (r : Result (Option ProfileBreach) Error) × ((t : Result ℕ Error) × ((code ≡ result_code (λ n. n) t)
    × (FillsReasonInfo r t before after × (IfOk r (IsReadOnlyReason old.volume.session) × OnlyReads r old new))))
