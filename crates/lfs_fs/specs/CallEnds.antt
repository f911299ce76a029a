-- How a session's call ends: what its reply or error says of the session and its device.
use Rattle.std.specs.Prelude.{◌≡◌, true, false, Some, Result, Ok, is_err}
use Rattle.lfs_device.specs.declared.error.Error.{Error}
use Rattle.lfs_model.specs.crash.Frame.{refused_before_search, needs_session_alone}
use Rattle.lfs_model.specs.session.History.{fault_count}
use Rattle.lfs_model.specs.session.Operations as ops
use Rattle.lfs_model.specs.session.Operations.{Failed, Operation, Refusal, Reply}
use Rattle.lfs_model.specs.session.Session.{Session}
use Rattle.lfs_model.specs.session.State.{Healthy, is_remount}
use Rattle.lfs_fs.specs.SessionView.{SessionView, system_state, refusal_by_checks}

-- A failed session replies `Failed` to each operation except a remount. During a call that replies, if only by a refusal, no
-- device call failed. An operation that needs neither the device nor memory always replies. A refusal that needs no look-up
-- changes nothing.
pub record MeetsReplyRules (old : SessionView) (op : Operation) (r : Result Reply Error) (new : SessionView) : Type 0 where
  pub failed : old.tree.failed ≡ true → is_remount op ≡ false → r ≡ Ok (ops.Refused Failed)
  pub no_fault : is_err r ≡ false → fault_count new.tree.history ≡ fault_count old.tree.history
  pub answered : (s : Session) → (system_state old).state ≡ Healthy s → needs_session_alone s op ≡ true → is_err r ≡ false
  pub at_once : (e : Refusal) → refusal_by_checks old op ≡ Some e → refused_before_search op e ≡ true → new ≡ old
