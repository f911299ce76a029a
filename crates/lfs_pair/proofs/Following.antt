-- The error that a call passed on.
use Rattle.std.proofs.Common.{◌≡◌, Result, Err}

pub same_error : {T E : Type 0} {r : Result T E} {y f e : E} → r ≡ Err y → y ≡ f → r ≡ Err e → f ≡ e
same_error was is gives = cc
