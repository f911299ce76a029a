-- The notes are those of the volume's device.
use Rattle.std.proofs.Common.{ℕ, List, Option, None, Some, ap, length, subst, ◌≡◌, ◌∙◌}
use Rattle.std.specs.Prelude.{IfSome}
use Rattle.lfs_device.specs.RamDevice.{ram_history}
use Rattle.lfs_model.specs.session.History.{DeviceCall, CallEvent}
use Rattle.littlefs_c.specs.ChangeLog.{AreRecordedChanges, history_writes}
use Rattle.littlefs_c.specs.Fetches.{IsNextChange}
use Rattle.littlefs_c.specs.declared.notes.Change.{Change}
use Rattle.littlefs_c.proofs.changes.next_change_number.Goals as goal

at_calls : (first : ℕ) (kept : List Change) (calls : List DeviceCall) (o : Option ℕ) → AreRecordedChanges first kept calls → IfSome o (λ n. (cs : List DeviceCall) → AreRecordedChanges first kept cs → n ≡ length cs) → IsNextChange calls o
at_calls first kept calls None noted is = tt
at_calls first kept calls (Some n) noted is = is calls noted

pub returns-clause-number : goal.returns-clause-number
returns-clause-number c =
    subst (λ (h : List CallEvent). IsNextChange (history_writes h) c.begin.result) (ap (λ d. ram_history d.inner) c.inner.ensures ∙ c.device.ensures.history)
    (at_calls c.notes.result.now.first c.notes.result.now.changes.items _ c.begin.result c.notes.ensures c.begin.ensures.number)
