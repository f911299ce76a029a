-- What a run ensures: a session has the tree of its disk, and answers as a fresh mount does.
use Rattle.std.specs.Prelude.{ℕ, ◌≡◌, Bool, true, false, if◌then◌else◌, List, [], ◌∷◌, ◌++◌, take, drop, Option, Some, None}
use Rattle.lfs_model.specs.format.Disk.{Disk}
use Rattle.lfs_model.specs.format.Thread.{Pair}
use Rattle.lfs_model.specs.tree.Tree.{Tree}
use Rattle.lfs_model.specs.session.TreeEdits.{file_bytes}
use Rattle.lfs_model.specs.tree.View.{IsAccepted}
use Rattle.lfs_model.specs.tree.Profile.{IsWritable, IsWritableDisk}
use Rattle.lfs_model.specs.tree.Shown.{disk_tree}
use Rattle.lfs_model.specs.tree.Fresh.{IsFreshDisk, empty_tree}
use Rattle.lfs_model.specs.session.Operations as ops
use Rattle.lfs_model.specs.session.Operations.{Operation, Reply, BadFile}
use Rattle.lfs_model.specs.session.Session.{Session, DiskSummary, FileReader, file_reader, file_numbered}
use Rattle.lfs_model.specs.session.Effects.{operation_result, operation_effect}
use Rattle.lfs_model.specs.session.State.{IsDiskSummary, Healthy, is_remount, mounted_session}
use Rattle.lfs_model.specs.session.Recovery.{IsRecovered}
use Rattle.lfs_model.specs.session.Run.{SystemState, ShowsTree, is_refusal, IsStep, AreSteps}

-- The operations, with these replies, lead from a fresh disk that was just mounted to the state
-- `at`.
pub record LeadsFromFresh (operations : List Operation) (replies : List Reply) (at : SystemState) : Type 0 where
  pub from : SystemState
  pub fresh : IsFreshDisk from.disk
  pub mounts : from.state ≡ Healthy (mounted_session empty_tree)
  pub session_steps : AreSteps from operations replies at

-- ---- what the accepted operations define

-- The session after an operation with this reply. A refused operation changes nothing, and a
-- remount closes all files.
abbrev pub session_after : DiskSummary → Session → Operation → Reply → Session
session_after around s op reply =
    if is_refusal reply then s
    else (if is_remount op then mounted_session s.tree else (operation_effect around s op).1)

-- The session after several operations with these replies.
abbrev pub session_after_all : DiskSummary → Session → List Operation → List Reply → Session
session_after_all around s [] replies = s
session_after_all around s (op ∷ operations) [] = s
session_after_all around s (op ∷ operations) (reply ∷ replies) = session_after_all around (session_after around s op reply) operations replies

-- ---- what the disk shows

-- The session is healthy, and its tree is the one that the disk shows.
pub record HasDiskTree (at : SystemState) : Type 0 where
  pub session : Session
  pub healthy : at.state ≡ Healthy session
  pub shows : ShowsTree at.disk (Some session.tree)

-- The disk is accepted and in the writing profile, and nothing is left to recover.
pub record IsRecoveredDisk (disk : Disk) : Type 0 where
  pub pairs : List Pair
  pub accepted : IsAccepted disk pairs
  pub writable : IsWritable disk pairs
  pub recovered : IsRecovered pairs

-- ---- replies

-- Whether the operation is a query that needs no open file.
abbrev pub is_query : Operation → Bool
is_query (ops.ListAll path) = true
is_query (ops.Stat path) = true
is_query (ops.GetAttr path kind) = true
is_query ops.AskGstate = true
is_query (ops.IsUsed block) = true
is_query ops.UsedCount = true
is_query _ = false

-- The reply is what a session just mounted from the disk would reply.
pub record IsReplyAfterMount (at : SystemState) (op : Operation) (reply : Reply) : Type 0 where
  pub pairs : List Pair
  pub accepted : IsAccepted at.disk pairs
  pub around : DiskSummary
  pub surrounds : IsDiskSummary at.disk pairs around
  pub is : reply ≡ (operation_result around (mounted_session (disk_tree at.disk pairs)) op).0

-- The reply to a read of up to `count` bytes at the position of an open reader, from the file in
-- `tree`.
abbrev pub read_reply : Tree → Option FileReader → ℕ → Reply
read_reply tree None count = ops.Refused BadFile
read_reply tree (Some r) count = ops.Bytes (take count (drop r.position (file_bytes (tree r.path))))

-- The reply has the bytes of the disk's file at the path of the open reader.
pub record IsReaderReply (at : SystemState) (fd count : ℕ) (reply : Reply) : Type 0 where
  pub pairs : List Pair
  pub accepted : IsAccepted at.disk pairs
  pub session : Session
  pub healthy : at.state ≡ Healthy session
  pub is : reply ≡ read_reply (disk_tree at.disk pairs) (file_reader (file_numbered session.files fd)) count

-- ---- runs over joined lists

-- A run of the joined lists is a run of `operations`, followed by a run of `more`.
pub record IsRunOfConcatenation (operations more : List Operation) (replies : List Reply) (a c : SystemState) : Type 0 where
  pub between : SystemState
  pub front : List Reply
  pub back : List Reply
  pub joined : replies ≡ front ++ back
  pub first : AreSteps a operations front between
  pub second : AreSteps between more back c

-- ---- the headline

-- The following holds after any run from a session that had the tree of its disk. Each reply is the
-- one defined. The session has the tree that a fresh mount of its disk would find, and the open
-- files that the accepted operations define. It answers queries about entries, attributes, used
-- blocks and the global state as a fresh mount would. An open reader returns the bytes on the disk.
-- An image stays in the writing profile. If nothing was left to recover before the run, nothing is
-- after it.
pub record SessionMatchesDisk (from : SystemState) (operations : List Operation) (replies : List Reply) (at : SystemState) : Type 0 where
  pub answers : AreSteps from operations replies at
  pub shows : HasDiskTree at
  pub defined : (around : DiskSummary) (s : Session) → from.state ≡ Healthy s → at.state ≡ Healthy (session_after_all around s operations replies)
  pub questions : (to : SystemState) (op : Operation) (reply : Reply) → is_query op ≡ true → IsStep at op reply to → IsReplyAfterMount at op reply
  pub readers : (to : SystemState) (fd count : ℕ) (reply : Reply) → IsStep at (ops.Read fd count) reply to → IsReaderReply at fd count reply
  pub profile : IsWritableDisk from.disk → IsWritableDisk at.disk
  pub settled : IsRecoveredDisk from.disk → IsRecoveredDisk at.disk
