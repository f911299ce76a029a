-- From the results of calls to replies.
use Rattle.std.specs.Prelude.{if◌then◌else◌, Option, Some, None, Result, Ok, Err}
use Rattle.lfs_device.specs.declared.error.Error.{Error}
use Rattle.lfs_model.specs.session.Operations as ops
use Rattle.lfs_model.specs.session.Operations.{Refusal, Reply}
use Rattle.lfs_lookup.specs.RefusalErrors.{refusal_error, is_refusal, error_refusal}

-- the reply of a call with that result: of a refusal, too, but not of another error
abbrev pub reply_from : {A : Type 0} → (A → Reply) → Result A Error → Result Reply Error
reply_from reply (Ok x) = Ok (reply x)
reply_from reply (Err e) = if is_refusal e then Ok (ops.Refused (error_refusal e)) else Err e

-- the refusal's error, or the value if there is no refusal
abbrev pub result_unless_refused : {A : Type 0} → Option Refusal → A → Result A Error
result_unless_refused (Some refusal) x = Err (refusal_error refusal)
result_unless_refused None x = Ok x
