-- What holds of a session after a life: it has its disk's tree, and answers as a fresh mount does.
use Rattle.std.specs.Prelude.{ℕ, ◌≡◌, true, List, [], ◌∷◌, Option, Some, None}
use Rattle.lfs_model.specs.session.Operations as ops
use Rattle.lfs_model.specs.session.Operations.{Operation, Reply}
use Rattle.lfs_model.specs.session.Session.{Session, DiskSummary}
use Rattle.lfs_model.specs.session.Effects.{operation_effect}
use Rattle.lfs_model.specs.session.State.{HasFailed, Healthy}
use Rattle.lfs_model.specs.session.Run.{SystemState, IsReply}
use Rattle.lfs_model.specs.session.Headline.{session_after, HasDiskTree, IsRecoveredDisk, is_query, IsReplyAfterMount, IsReaderReply}
use Rattle.lfs_model.specs.tree.Profile.{IsWritableDisk}
use Rattle.lfs_model.specs.crash.Lives.{Turn, all_answered}

-- The session after a turn. A refused operation changes nothing. If an error ended the operation,
-- the session has failed, but the disk may have the operation's effect.
abbrev pub session_after_turn : DiskSummary → Session → Turn → Session
session_after_turn around s turn = after turn.reply
  where
    after : Option Reply → Session
    after None = (operation_effect around s turn.op).1
    after (Some reply) = session_after around s turn.op reply

-- The session after several turns.
abbrev pub session_after_turns : DiskSummary → Session → List Turn → Session
session_after_turns around s [] = s
session_after_turns around s (turn ∷ turns) = session_after_turns around (session_after_turn around s turn) turns

-- The reply is the one defined for the operation on this disk. With None, an error ended the
-- operation, and the session has failed.
abbrev pub IsExpectedReply : Option Reply → SystemState → Operation → SystemState → Type 0
IsExpectedReply None from op to = to.state ≡ HasFailed
IsExpectedReply (Some reply) from op to = IsReply from.disk to.disk.order from.state op reply to.state

-- The turns lead from one state to the other, each with the reply defined for it.
abbrev pub AreAnswers : SystemState → List Turn → SystemState → Type 0
AreAnswers from [] to = from ≡ to
AreAnswers from (turn ∷ turns) to = IsExpectedReply turn.reply from turn.op turn.to × AreAnswers turn.to turns to

-- The session is healthy, and has the tree that its disk shows. It answers queries about entries,
-- attributes, used blocks and the global state as a fresh mount would. An open reader returns the
-- bytes on the disk.
pub record AnswersAsDisk (at : SystemState) : Type 0 where
  pub shows : HasDiskTree at
  pub questions : (to : SystemState) (op : Operation) (reply : Reply) → is_query op ≡ true → IsExpectedReply (Some reply) at op to → IsReplyAfterMount at op reply
  pub readers : (to : SystemState) (fd count : ℕ) (reply : Reply) → IsExpectedReply (Some reply) at (ops.Read fd count) to → IsReaderReply at fd count reply

-- The session was healthy when the life began, and every turn was answered.
pub record WorksAllAlong (from : SystemState) (turns : List Turn) (s : Session) : Type 0 where
  pub begins : from.state ≡ Healthy s
  pub answered : all_answered turns ≡ true

-- The following holds after a life of a session that had failed, or had the tree of its disk. Each
-- reply is the one defined. If the session is healthy in the end, it answers from its disk, even
-- after errors and a remount. If it was healthy throughout, it is healthy, and has the tree and the
-- open files that the turns define. An image then stays in the writing profile, and if nothing was
-- left to recover before, nothing is after.
pub record LifeMatchesDisk (from : SystemState) (turns : List Turn) (at : SystemState) : Type 0 where
  pub answers : AreAnswers from turns at
  pub works : (s : Session) → at.state ≡ Healthy s → AnswersAsDisk at
  pub defined : (s : Session) → WorksAllAlong from turns s → (around : DiskSummary) → at.state ≡ Healthy (session_after_turns around s turns)
  pub profile : (s : Session) → WorksAllAlong from turns s → IsWritableDisk from.disk → IsWritableDisk at.disk
  pub settled : (s : Session) → WorksAllAlong from turns s → IsRecoveredDisk from.disk → IsRecoveredDisk at.disk
