-- Calls of a session, one after another, within one call of a volume.
use Rattle.std.specs.Prelude.{◌≡◌, ◌⊎◌, false, if◌then◌else◌, List, [], ◌∷◌, ◌++◌, Result, Ok, Err}
use Rattle.lfs_device.specs.declared.error.Error.{Error}
use Rattle.lfs_lookup.specs.RefusalErrors as refusals
use Rattle.lfs_lookup.specs.RefusalErrors.{error_refusal}
use Rattle.lfs_model.specs.session.Operations as ops
use Rattle.lfs_model.specs.session.Operations.{Operation, Reply}
use Rattle.lfs_model.specs.session.Run.{is_refusal}
use Rattle.lfs_model.specs.session.State.{is_remount}
use Rattle.lfs_tree.specs.TreeState.{visible_tree}
use Rattle.lfs_fs.specs.CallEffects.{IsCall}
use Rattle.lfs_fs.specs.SessionView.{SessionView}

-- the session accepted the operation
pub record IsAcceptedCall (old : SessionView) (op : Operation) (new : SessionView) : Type 0 where
  pub reply : Reply
  pub accepted : is_refusal reply ≡ false
  pub call : IsCall old op (Ok reply) new
  -- a remount is excluded, since it may find another order of names
  pub other : is_remount op ≡ false

-- it accepted all of these operations, and none of them changed its tree
abbrev pub AreTreePreservingCalls : SessionView → List Operation → SessionView → Type 0
AreTreePreservingCalls old [] new = old ≡ new
AreTreePreservingCalls old (op ∷ operations) new = (next : SessionView) × (IsAcceptedCall old op next × (visible_tree next.tree ≡ visible_tree old.tree) × AreTreePreservingCalls next operations new)

-- It accepted these operations, and kept its tree in all but one of them.
pub record ChangesTreeOnce (old : SessionView) (operations : List Operation) (new : SessionView) : Type 0 where
  pub before : List Operation
  pub change : Operation
  pub after : List Operation
  pub are : operations ≡ before ++ change ∷ after
  pub first : SessionView
  pub second : SessionView
  pub quiet : AreTreePreservingCalls old before first
  pub changed : IsAcceptedCall first change second
  pub rest : AreTreePreservingCalls second after new

-- it accepted these operations, and at most one of them changed the tree
abbrev pub MayChangeTreeOnce : SessionView → List Operation → SessionView → Type 0
MayChangeTreeOnce old operations new = AreTreePreservingCalls old operations new ⊎ ChangesTreeOnce old operations new

-- the result of a call that ends in this error: a refusal is a reply
abbrev pub error_result : Error → Result Reply Error
error_result e = if refusals.is_refusal e then Ok (ops.Refused (error_refusal e)) else Err e

-- Some of these operations were accepted, and kept the tree. The next one ended in that error: it was refused, or the session
-- failed.
pub record EndsAtErrorOperation (e : Error) (old : SessionView) (operations : List Operation) (new : SessionView) : Type 0 where
  pub before : List Operation
  pub next : Operation
  pub others : List Operation
  pub are : operations ≡ before ++ next ∷ others
  pub at : SessionView
  pub quiet : AreTreePreservingCalls old before at
  pub ends : IsCall at next (error_result e) new

-- the session failed with that error in one of its calls, and the calls before it kept the tree
abbrev pub FailsInCalls : Error → SessionView → SessionView → Type 0
FailsInCalls e old new = (refusals.is_refusal e ≡ false) × ((operations : List Operation) × EndsAtErrorOperation e old operations new)
