-- Operations that change only what they are meant to change, and read no more than they need.
use Rattle.std.specs.Prelude.{◌≡◌, true, List, [], ◌++◌, Option, Some, None, if◌then◌else◌}
use Rattle.lfs_model.specs.format.Slots.{zero_gstate}
use Rattle.lfs_model.specs.format.Thread.{Pair, pairs_gstate}
use Rattle.lfs_model.specs.tree.View.{IsAccepted}
use Rattle.lfs_model.specs.session.History.{CallEvent, read_count}
use Rattle.lfs_model.specs.session.Operations.{Operation, Reply}
use Rattle.lfs_model.specs.session.Session.{Session}
use Rattle.lfs_model.specs.session.State.{Healthy}
use Rattle.lfs_model.specs.crash.Frame.{KeepsUnrelatedBlocks, is_session_query, ReadsEachPairOnce, SearchesSameDirectories}
use Rattle.lfs_model.specs.session.Run.{SystemState, is_refusal}

-- The operation reads nothing if `before` was a status query that searched the same directories.
abbrev pub RepeatReadsNothing : List Pair → Option Operation → Operation → List CallEvent → Type 0
RepeatReadsNothing ps None op calls = Unit {0}
RepeatReadsNothing ps (Some before) op calls = SearchesSameDirectories ps before op → read_count calls ≡ 0

-- The operation leaves other blocks unchanged and makes no more reads than it may. The operation
-- before it is `before`, if that was accepted.
pub record KeepsBlocksBoundsReads (before : Option Operation) (from : SystemState) (op : Operation) (calls : List CallEvent) (to : SystemState) : Type 0 where
  pub alone : (s : Session) → from.state ≡ Healthy s → (ps qs : List Pair) → IsAccepted from.disk ps → IsAccepted to.disk qs → pairs_gstate ps ≡ zero_gstate
      → KeepsUnrelatedBlocks from.disk ps s op to.disk qs
  pub asked : is_session_query op ≡ true → calls ≡ []
  pub few : (s : Session) → from.state ≡ Healthy s → (ps : List Pair) → IsAccepted from.disk ps → ReadsEachPairOnce ps op calls
  pub kept : (s : Session) → from.state ≡ Healthy s → (ps : List Pair) → IsAccepted from.disk ps → RepeatReadsNothing ps before op calls

-- A look-up makes at most one read for each pair of the directories that it searches, even if it
-- ends with an error.
abbrev pub AlwaysReadsPairsOnce : SystemState → Operation → SystemState → Type 0
AlwaysReadsPairsOnce from op to = (s : Session) → from.state ≡ Healthy s → (ps : List Pair) → IsAccepted from.disk ps → (calls : List CallEvent) → to.calls ≡ calls ++ from.calls → ReadsEachPairOnce ps op calls

-- The operation, or None if the reply is a refusal.
abbrev pub accepted_operation : Operation → Reply → Option Operation
accepted_operation op reply = if is_refusal reply then None else Some op
