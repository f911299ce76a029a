use Rattle.std.proofs.Common.{List, ℕ, ap, ◌∙◌, subst}
use Rattle.lfs_file.proofs.Common.{err_from_is_err_and, Blocks, written_contents, CanEndUnfinished, unfinished_bytes}
use Rattle.lfs_device.specs.declared.geometry.Geometry.{Geometry}
use Rattle.lfs_file.proofs.Owning.{list_from}
use Rattle.lfs_file.proofs.ContentsCalled.{quiet, reported_as, reported_on, used_on, used_reads}
use Rattle.lfs_file.proofs.Spared.{KeepsUsedBlocks-refl}
use Rattle.lfs_file.proofs.contents.begin_with_bytes.Goals as goal

pub returns-in_err-begun-clause-device : goal.returns-in_err-begun-clause-device
returns-in_err-begun-clause-device g c = used_reads g.D.BlockDevice c.args.map.now c.start_draft.ensures.device

pub returns-in_err-fill_and_write-clause-device : goal.returns-in_err-fill_and_write-clause-device
returns-in_err-fill_and_write-clause-device g c = used_on g.D.BlockDevice (KeepsUsedBlocks-refl c.args.map.now) (used_reads g.D.BlockDevice c.args.map.now c.start_draft.ensures.device) c.fill_and_write.ensures.device

pub returns-in_err-fill_and_write-clause-reports : goal.returns-in_err-fill_and_write-clause-reports
returns-in_err-fill_and_write-clause-reports g c =
    let p = err_from_is_err_and c.from_residual-in_err-fill_and_write.result c.from_residual-in_err-fill_and_write.ensures.1 in
    rw (p.1, p.2) (record { faults = reported_on g.D.BlockDevice (quiet g.D.BlockDevice c.in_ok-begun.ensures.reports.faults) (reported_as g.D.BlockDevice c.in_err-fill_and_write.ensures.reports.faults); errors = c.in_err-fill_and_write.ensures.reports.errors })

pub returns-clause-device : goal.returns-clause-device
returns-clause-device g c = used_on g.D.BlockDevice (KeepsUsedBlocks-refl c.args.map.now) (used_reads g.D.BlockDevice c.args.map.now c.start_draft.ensures.device) c.fill_and_write.ensures.device

pub returns-clause-written : goal.returns-clause-written
returns-clause-written g c =
    let hand = c.in_ok-begun.begun in
    let read = c.start_draft.ensures.device in
    let at = c.in_ok-begun.ensures.begun c.args.map.now c.requires.stored in
    let wrote = c.in_ok-fill_and_write.ensures.written in
    record {
      going = subst (λ (k : Geometry). CanEndUnfinished c.fill_and_write.new.map (g.D.BlockDevice.blocks c.fill_and_write.new.dev) k c.fill_and_write.new.hand) read.geometry wrote.going;
      size = wrote.size;
      bytes = wrote.bytes ∙ ap (λ (x : Blocks). written_contents (unfinished_bytes x hand) c.args.place c.args.bytes.now) read.same ∙ ap (λ (l : List ℕ). written_contents l c.args.place c.args.bytes.now) at.bytes;
    }

pub returns-clause-base : goal.returns-clause-base
returns-clause-base g c =
    let read = c.start_draft.ensures.device in
    list_from _ _ _ _ _ _ _ _ read.geometry read.same c.in_ok-begun.ensures.base c.fill_and_write.ensures.base
