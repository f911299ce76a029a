-- The notes are those of the volume's device.
use Rattle.std.proofs.Common.{List, ap, subst, ◌∙◌}
use Rattle.lfs_device.specs.RamDevice.{ram_history}
use Rattle.lfs_model.specs.session.History.{CallEvent}
use Rattle.littlefs_c.specs.ChangeLog.{history_writes}
use Rattle.littlefs_c.specs.Fetches.{FetchesChange}
use Rattle.littlefs_c.proofs.changes.fetch_volume_change.Goals as goal

pub returns : goal.returns
returns c =
    subst (λ (h : List CallEvent). FetchesChange (history_writes h) c.args.number c.fetch_change.result c.args.shown.now c.fetch_change.new.shown c.args.buffer.now c.fetch_change.new.buffer)
    (ap (λ d. ram_history d.inner) c.inner.ensures ∙ c.device.ensures.history) (c.fetch_change.ensures _ c.notes.ensures)
