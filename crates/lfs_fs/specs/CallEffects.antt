-- The promises of a session's call: how it replies and ends, what a power loss leaves, which blocks it leaves alone, and how
-- many reads it makes.
use Rattle.std.specs.Prelude.{ℕ, ◌≡◌, true, false, List, Result, Ok, is_err}
use Rattle.lfs_device.specs.declared.error.Error.{Error}
use Rattle.lfs_model.specs.crash.Frame.{KeepsUnrelatedBlocks, is_session_query, is_look_up, searched_directories}
use Rattle.lfs_model.specs.session.Operations as ops
use Rattle.lfs_model.specs.session.Operations.{Operation, Reply}
use Rattle.lfs_model.specs.crash.PowerLoss.{SurvivesPowerLoss}
use Rattle.lfs_model.specs.session.Run.{SystemState, is_refusal}
use Rattle.lfs_model.specs.session.Session.{Session}
use Rattle.lfs_model.specs.format.Slots.{zero_gstate}
use Rattle.lfs_model.specs.session.State.{Healthy}
use Rattle.lfs_model.specs.format.Thread.{Pair, pairs_gstate}
use Rattle.lfs_model.specs.crash.ReadBounds.{AlwaysReadsPairsOnce}
use Rattle.lfs_model.specs.tree.View.{IsAccepted}
use Rattle.lfs_lookup.specs.CachedPairs.{AreFewOnePairDirectories}
use Rattle.lfs_tree.specs.TreeReads.{HasCachedDirectories}
use Rattle.lfs_fs.specs.CallEnds.{MeetsReplyRules}
use Rattle.lfs_fs.specs.SessionView.{StepsOrFails, SessionView, system_state}
use Rattle.lfs_fs.specs.LookUps.{NoReadsIfCached}

-- if nothing was to recover, the operation leaves alone what it isn't about
abbrev pub KeepsUnrelatedIfRecovered : SystemState → Operation → SystemState → Type 0
KeepsUnrelatedIfRecovered from op to = (s : Session) → from.state ≡ Healthy s → (ps qs : List Pair) → IsAccepted from.disk ps → IsAccepted to.disk qs → pairs_gstate ps ≡ zero_gstate
    → KeepsUnrelatedBlocks from.disk ps s op to.disk qs

-- after a stat that isn't refused the searched directories are cached, if they are few and small
abbrev pub StatCachesDirectories : Operation → Result Reply Error → SessionView → Type 0
StatCachesDirectories op r new = (path : List ℕ) (reply : Reply) → op ≡ ops.Stat path → r ≡ Ok reply → is_refusal reply ≡ false → (s : Session) → (system_state new).state ≡ Healthy s → (ps : List Pair) → IsAccepted new.tree.disk ps
    → AreFewOnePairDirectories ps (searched_directories op) → HasCachedDirectories new.tree (searched_directories op)

-- How often a call reads: never if the session knows the reply, and at most once for each pair in a look-up.
pub record BoundsCallReads (old : SessionView) (op : Operation) (r : Result Reply Error) (new : SessionView) : Type 0 where
  pub asked : is_session_query op ≡ true → new ≡ old
  pub few : AlwaysReadsPairsOnce (system_state old) op (system_state new)
  pub none : is_look_up op ≡ true → NoReadsIfCached old.tree op new.tree
  pub hand : StatCachesDirectories op r new

-- The operation, called in `old`, ends in that reply or error and in `new`.
pub record IsCall (old : SessionView) (op : Operation) (r : Result Reply Error) (new : SessionView) : Type 0 where
  pub answers : StepsOrFails old op r new
  pub ends : MeetsReplyRules old op r new
  pub survives_loss : SurvivesPowerLoss (system_state old) op (system_state new)
  pub alone : is_err r ≡ false → KeepsUnrelatedIfRecovered (system_state old) op (system_state new)
  pub asks : BoundsCallReads old op r new
