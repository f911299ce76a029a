-- Errors that are refusals: all except those that make a session fail.
use Rattle.std.specs.Prelude.{◌≡◌, Bool, true, false, refl}
use Rattle.lfs_device.specs.declared.error.Error.{Error}
use Rattle.lfs_device.specs.declared.error.Error.TheVariants as error
use Rattle.lfs_model.specs.session.Operations as ops
use Rattle.lfs_model.specs.session.Operations.{Refusal}

abbrev pub is_refusal : Error → Bool
is_refusal error.Io = false
is_refusal error.NoMemory = false
is_refusal error.Corrupt = false
is_refusal _ = true

-- an error as a refusal; any refusal if the error isn't one
abbrev pub error_refusal : Error → Refusal
error_refusal error.NoEnt = ops.NoEnt
error_refusal error.BadFile = ops.BadFile
error_refusal error.Busy = ops.Busy
error_refusal error.Exist = ops.Exist
error_refusal error.NotDir = ops.NotDir
error_refusal error.IsDir = ops.IsDir
error_refusal error.Invalid = ops.Invalid
error_refusal error.TooBig = ops.TooBig
error_refusal error.NoSpace = ops.NoSpace
error_refusal error.ReadOnly = ops.ReadOnly
error_refusal error.NameTooLong = ops.NameTooLong
error_refusal error.NotEmpty = ops.NotEmpty
error_refusal error.NoAttr = ops.NoAttr
error_refusal error.EntryFull = ops.EntryFull
error_refusal _ = ops.Failed

abbrev pub refusal_error : Refusal → Error
refusal_error ops.NoEnt = error.NoEnt
refusal_error ops.BadFile = error.BadFile
refusal_error ops.Busy = error.Busy
refusal_error ops.Exist = error.Exist
refusal_error ops.NotDir = error.NotDir
refusal_error ops.IsDir = error.IsDir
refusal_error ops.Invalid = error.Invalid
refusal_error ops.TooBig = error.TooBig
refusal_error ops.NoSpace = error.NoSpace
refusal_error ops.ReadOnly = error.ReadOnly
refusal_error ops.NameTooLong = error.NameTooLong
refusal_error ops.NotEmpty = error.NotEmpty
refusal_error ops.NoAttr = error.NoAttr
refusal_error ops.Failed = error.Failed
refusal_error ops.EntryFull = error.EntryFull

pub error_survives_refusal : (e : Error) → is_refusal e ≡ true → refusal_error (error_refusal e) ≡ e
error_survives_refusal error.NoEnt h = refl
error_survives_refusal error.BadFile h = refl
error_survives_refusal error.Busy h = refl
error_survives_refusal error.Exist h = refl
error_survives_refusal error.NotDir h = refl
error_survives_refusal error.IsDir h = refl
error_survives_refusal error.Invalid h = refl
error_survives_refusal error.TooBig h = refl
error_survives_refusal error.NoSpace h = refl
error_survives_refusal error.ReadOnly h = refl
error_survives_refusal error.NameTooLong h = refl
error_survives_refusal error.NotEmpty h = refl
error_survives_refusal error.NoAttr h = refl
error_survives_refusal error.Failed h = refl
error_survives_refusal error.EntryFull h = refl
error_survives_refusal error.Io h = absurd (Prim.cc)
error_survives_refusal error.NoMemory h = absurd (Prim.cc)
error_survives_refusal error.Corrupt h = absurd (Prim.cc)
