-- Refusals as errors.
use Rattle.std.proofs.Common.{◌≡◌, true, Result, Ok, Err, refl, sym, ap, ◌∙◌}
use Rattle.std.specs.Result.{IsErrAnd}
use Rattle.lfs_device.specs.declared.error.Error.{Error}
use Rattle.lfs_model.specs.session.Operations as ops
use Rattle.lfs_fs.proofs.Common.{Refusal, refusal_error, is_refusal, error_refusal}
use Rattle.lfs_lookup.specs.RefusalErrors.{error_survives_refusal}

pub error_refuses : (r : Refusal) → is_refusal (refusal_error r) ≡ true
error_refuses ops.NoEnt = refl
error_refuses ops.BadFile = refl
error_refuses ops.Busy = refl
error_refuses ops.Exist = refl
error_refuses ops.NotDir = refl
error_refuses ops.IsDir = refl
error_refuses ops.Invalid = refl
error_refuses ops.TooBig = refl
error_refuses ops.NoSpace = refl
error_refuses ops.ReadOnly = refl
error_refuses ops.NameTooLong = refl
error_refuses ops.NotEmpty = refl
error_refuses ops.NoAttr = refl
error_refuses ops.Failed = refl
error_refuses ops.EntryFull = refl

pub refusal_again : (r : Refusal) → error_refusal (refusal_error r) ≡ r
refusal_again ops.NoEnt = refl
refusal_again ops.BadFile = refl
refusal_again ops.Busy = refl
refusal_again ops.Exist = refl
refusal_again ops.NotDir = refl
refusal_again ops.IsDir = refl
refusal_again ops.Invalid = refl
refusal_again ops.TooBig = refl
refusal_again ops.NoSpace = refl
refusal_again ops.ReadOnly = refl
refusal_again ops.NameTooLong = refl
refusal_again ops.NotEmpty = refl
refusal_again ops.NoAttr = refl
refusal_again ops.Failed = refl
refusal_again ops.EntryFull = refl

-- the exit of a `?` between the same errors
pub given_on : {A : Type 0} (e : Error) (r : Result A Error) → IsErrAnd r (λ x. x ≡ e) → r ≡ Err e
given_on e (Ok x) h = absurd h
given_on e (Err x) h = ap (λ z. Err z) h

pub passed_on : (r : Refusal) (e : Error) → error_refusal e ≡ r → is_refusal e ≡ true → e ≡ refusal_error r
passed_on r e is refuses = sym (error_survives_refusal e refuses) ∙ ap refusal_error is
