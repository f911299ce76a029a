use Rattle.std.proofs.Common.{ap}
use Rattle.lfs_fs.proofs.Common.{op_view}
use Rattle.lfs_fs.proofs.Sparing.{performed_call}
use Rattle.lfs_fs.proofs.session.Session.perform.Goals as goal

pub returns-in-Open-clause-call : goal.returns-in-Open-clause-call
returns-in-Open-clause-call g c = performed_call _ _ _ _ _ _ (ap op_view c.in-Open.is) c.reply_of_fd.ensures.seen c.open.ensures

pub returns-in-Read-clause-call : goal.returns-in-Read-clause-call
returns-in-Read-clause-call g c = performed_call _ _ _ _ _ _ (ap op_view c.in-Read.is) c.reply_of_bytes.ensures.seen c.read.ensures.call

pub returns-in-Seek-clause-call : goal.returns-in-Seek-clause-call
returns-in-Seek-clause-call g c = performed_call _ _ _ _ _ _ (ap op_view c.in-Seek.is) c.reply_of_unit.ensures.seen c.seek.ensures

pub returns-in-Write-clause-call : goal.returns-in-Write-clause-call
returns-in-Write-clause-call g c = performed_call _ _ _ _ _ _ (ap op_view c.in-Write.is) c.reply_of_count.ensures.seen c.write.ensures

pub returns-in-Truncate-clause-call : goal.returns-in-Truncate-clause-call
returns-in-Truncate-clause-call g c = performed_call _ _ _ _ _ _ (ap op_view c.in-Truncate.is) c.reply_of_unit-in-Truncate.ensures.seen c.truncate.ensures

pub returns-in-Sync-clause-call : goal.returns-in-Sync-clause-call
returns-in-Sync-clause-call g c = performed_call _ _ _ _ _ _ (ap op_view c.in-Sync.is) c.reply_of_unit-in-Sync.ensures.seen c.sync.ensures

pub returns-in-Close-clause-call : goal.returns-in-Close-clause-call
returns-in-Close-clause-call g c = performed_call _ _ _ _ _ _ (ap op_view c.in-Close.is) c.reply_of_unit-in-Close.ensures.seen c.close.ensures

pub returns-in-Mkdir-clause-call : goal.returns-in-Mkdir-clause-call
returns-in-Mkdir-clause-call g c = performed_call _ _ _ _ _ _ (ap op_view c.in-Mkdir.is) c.reply_of_unit-in-Mkdir.ensures.seen c.mkdir.ensures

pub returns-in-List-clause-call : goal.returns-in-List-clause-call
returns-in-List-clause-call g c = performed_call _ _ _ _ _ _ (ap op_view c.in-List.is) c.reply_of_items.ensures.seen c.list.ensures

pub returns-in-Stat-clause-call : goal.returns-in-Stat-clause-call
returns-in-Stat-clause-call g c = performed_call _ _ _ _ _ _ (ap op_view c.in-Stat.is) c.reply_of_stat.ensures.seen c.stat.ensures

pub returns-in-GetAttr-clause-call : goal.returns-in-GetAttr-clause-call
returns-in-GetAttr-clause-call g c = performed_call _ _ _ _ _ _ (ap op_view c.in-GetAttr.is) c.reply_of_bytes-in-GetAttr.ensures.seen c.get_attr.ensures

pub returns-in-Remove-clause-call : goal.returns-in-Remove-clause-call
returns-in-Remove-clause-call g c = performed_call _ _ _ _ _ _ (ap op_view c.in-Remove.is) c.reply_of_unit-in-Remove.ensures.seen c.remove.ensures

pub returns-in-Rename-clause-call : goal.returns-in-Rename-clause-call
returns-in-Rename-clause-call g c = performed_call _ _ _ _ _ _ (ap op_view c.in-Rename.is) c.reply_of_unit-in-Rename.ensures.seen c.rename.ensures

pub returns-in-SetAttr-clause-call : goal.returns-in-SetAttr-clause-call
returns-in-SetAttr-clause-call g c = performed_call _ _ _ _ _ _ (ap op_view c.in-SetAttr.is) c.reply_of_unit-in-SetAttr.ensures.seen c.set_attr.ensures

pub returns-in-RemoveAttr-clause-call : goal.returns-in-RemoveAttr-clause-call
returns-in-RemoveAttr-clause-call g c = performed_call _ _ _ _ _ _ (ap op_view c.in-RemoveAttr.is) c.reply_of_unit-in-RemoveAttr.ensures.seen c.remove_attr.ensures

pub returns-in-Gstate-clause-call : goal.returns-in-Gstate-clause-call
returns-in-Gstate-clause-call g c = performed_call _ _ _ _ _ _ (ap op_view c.in-Gstate.is) c.reply_of_gstate.ensures.seen c.gstate.ensures

pub returns-in-IsUsed-clause-call : goal.returns-in-IsUsed-clause-call
returns-in-IsUsed-clause-call g c = performed_call _ _ _ _ _ _ (ap op_view c.in-IsUsed.is) c.reply_of_bool.ensures.seen c.is_used.ensures

pub returns-in-UsedCount-clause-call : goal.returns-in-UsedCount-clause-call
returns-in-UsedCount-clause-call g c = performed_call _ _ _ _ _ _ (ap op_view c.in-UsedCount.is) c.reply_of_count-in-UsedCount.ensures.seen c.used_count.ensures

pub returns-in-Recover-clause-call : goal.returns-in-Recover-clause-call
returns-in-Recover-clause-call g c = performed_call _ _ _ _ _ _ (ap op_view c.in-Recover.is) c.reply_of_unit-in-Recover.ensures.seen c.recover.ensures

pub returns-in-Remount-clause-call : goal.returns-in-Remount-clause-call
returns-in-Remount-clause-call g c = performed_call _ _ _ _ _ _ (ap op_view c.in-Remount.is) c.reply_of_unit-in-Remount.ensures.seen c.remount.ensures
