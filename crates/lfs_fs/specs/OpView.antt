-- Operations and replies in contracts.
use Rattle.std.specs.Prelude.{◌≡◌, true, map, Result, Ok, Err}
use Rattle.lfs_device.specs.declared.error.Error.{Error}
use Rattle.lfs_model.specs.session.Operations as ops
use Rattle.lfs_model.specs.session.Operations.{Operation}
use Rattle.lfs_lookup.specs.RefusalErrors.{is_refusal, error_refusal}
use Rattle.lfs_lookup.specs.Finds.{listed_item_view, stat_view}
use Rattle.lfs_fs.specs.GstateView.{returned_gstate_reply}
use Rattle.lfs_fs.specs.FlagsView.{flags_view}
use Rattle.lfs_fs.specs.declared.run.Op.{Op}
use Rattle.lfs_fs.specs.declared.run.Op.TheVariants as op
use Rattle.lfs_fs.specs.declared.run.Reply.{Reply}
use Rattle.lfs_fs.specs.declared.run.Reply.TheVariants as reply

abbrev pub op_view : Op → Operation
op_view (op.Open path flags) = ops.Open path.now (flags_view flags)
op_view (op.Read fd count) = ops.Read fd count
op_view (op.Write fd bytes) = ops.Write fd bytes.now
op_view (op.Seek fd position) = ops.Seek fd position
op_view (op.Truncate fd size) = ops.Truncate fd size
op_view (op.Sync fd) = ops.Sync fd
op_view (op.Close fd) = ops.Close fd
op_view (op.Mkdir path) = ops.Mkdir path.now
op_view (op.List path) = ops.ListAll path.now
op_view (op.Stat path) = ops.Stat path.now
op_view (op.GetAttr path kind) = ops.GetAttr path.now kind
op_view (op.Remove path) = ops.Remove path.now
op_view (op.Rename from to) = ops.Rename from.now to.now
op_view (op.SetAttr path kind value) = ops.SetAttr path.now kind value.now
op_view (op.RemoveAttr path kind) = ops.RemoveAttr path.now kind
op_view op.Gstate = ops.AskGstate
op_view (op.IsUsed block) = ops.IsUsed block
op_view op.UsedCount = ops.UsedCount
op_view op.Recover = ops.Recover
op_view op.Remount = ops.Remount

abbrev pub reply_view : Reply → ops.Reply
reply_view reply.Done = ops.Done
reply_view (reply.Fd fd) = ops.Opened fd
reply_view (reply.Bytes bytes) = ops.Bytes bytes.items
reply_view (reply.Count count) = ops.Count count
reply_view (reply.Items items) = ops.Items (map listed_item_view items.items)
reply_view (reply.Stat stat) = ops.StatIs (stat_view stat)
reply_view (reply.Gstate gstate) = returned_gstate_reply gstate
reply_view (reply.Yes is) = ops.Yes is
reply_view (reply.Refused error) = ops.Refused (error_refusal error)

-- a reply `Refused` has an error that is a refusal
abbrev pub HasRefusalError : Reply → Type 0
HasRefusalError (reply.Refused error) = is_refusal error ≡ true
HasRefusalError _ = Unit {0}

-- the result of a call, with its reply as the definitions have it
abbrev pub result_view : Result Reply Error → Result ops.Reply Error
result_view (Ok r) = Ok (reply_view r)
result_view (Err e) = Err e
