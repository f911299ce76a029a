-- Results that are the same have the same error.
use Rattle.std.proofs.Common.{◌≡◌, Result, Err}
use Rattle.lfs_device.specs.declared.error.Error.{Error}

pub same_error : {X : Type 0} (e f : Error) → (let r : Result X Error = Err e in r) ≡ Err f → e ≡ f
same_error e f h = cc
