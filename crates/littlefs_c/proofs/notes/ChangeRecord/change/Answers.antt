use Rattle.std.proofs.Common.{◌≡◌, List, subst}
use Rattle.std.specs.Prelude.{IfSome, Some, slice_get}
use Rattle.lfs_model.specs.session.History.{DeviceCall}
use Rattle.littlefs_c.specs.ChangeLog.{AreRecordedChanges, change_call}
use Rattle.littlefs_c.specs.declared.notes.Change.{Change}
use Rattle.littlefs_c.proofs.Kept.{kept_call_if_some}
use Rattle.littlefs_c.proofs.notes.ChangeRecord.change.Goals as goal

pub returns : goal.returns
returns c =
    subst (λ (kept : List Change). IfSome c.get.result (λ x. (calls : List DeviceCall) → AreRecordedChanges c.args.self.now.first kept calls → slice_get calls c.args.number ≡ Some (change_call x.now))) c.deref.ensures.value
    (kept_call_if_some c.args.self.now.first c.args.number c.deref.result.now c.get.result c.if-number-self.false c.if-self-ge-NUMBERS.false c.get.ensures.lookup.0 c.get.ensures.lookup.1)
