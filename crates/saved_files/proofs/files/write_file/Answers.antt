use Rattle.std.proofs.Common.{refl}
use Rattle.lfs_fs.proofs.Users.{lives}
use Rattle.saved_files.proofs.Parts.{works_then, works_live, call_works}
use Rattle.lfs_fs.specs.FlagsView.{flags_view}
use Rattle.saved_files.proofs.Writes.{open_survives, write_survives, close_survives, all_written}
use Rattle.saved_files.proofs.files.write_file.Goals as goal

pub returns-in_err-file-clause-survives : goal.returns-in_err-file-clause-survives
returns-in_err-file-clause-survives g c = λ s healthy. open_survives c.args.session.now c.args.path.now (flags_view c.args.flags) c.args.bytes.now c.requires.writes s healthy _ c.open.new.self c.open.ensures

pub returns-in_err-write-clause-survives : goal.returns-in_err-write-clause-survives
returns-in_err-write-clause-survives g c = λ s healthy. write_survives c.args.session.now c.args.path.now (flags_view c.args.flags) c.args.bytes.now c.requires.writes s healthy c.in_ok-file.file c.open.new.self c.in_ok-file.ensures _ c.write.new.self c.write.ensures

pub returns-in_err-close-clause-survives : goal.returns-in_err-close-clause-survives
returns-in_err-close-clause-survives g c = λ s healthy.
    close_survives c.args.session.now c.args.path.now (flags_view c.args.flags) c.args.bytes.now c.requires.writes s healthy c.in_ok-file.file c.open.new.self c.in_ok-file.ensures c.in_ok-write.field-0 c.write.new.self c.in_ok-write.ensures _ c.close.new.self c.close.ensures

pub returns-clause-survives : goal.returns-clause-survives
returns-clause-survives g c = λ s healthy.
    close_survives c.args.session.now c.args.path.now (flags_view c.args.flags) c.args.bytes.now c.requires.writes s healthy c.in_ok-file.file c.open.new.self c.in_ok-file.ensures c.in_ok-write.field-0 c.write.new.self c.in_ok-write.ensures _ c.close.new.self c.in_ok-close.ensures

pub returns-clause-written : goal.returns-clause-written
returns-clause-written g c = λ s healthy.
    all_written c.args.session.now c.args.path.now (flags_view c.args.flags) c.args.bytes.now c.requires.writes s healthy c.in_ok-file.file c.open.new.self c.in_ok-file.ensures c.in_ok-write.field-0 c.write.new.self c.close.new.self c.in_ok-write.ensures c.in_ok-close.ensures

pub returns-in_err-file-clause-lived : goal.returns-in_err-file-clause-lived
returns-in_err-file-clause-lived g c = lives _ _ _ _ c.open.ensures

pub returns-in_err-write-clause-lived : goal.returns-in_err-write-clause-lived
returns-in_err-write-clause-lived g c = works_live (call_works _ _ _ _ refl c.in_ok-file.ensures) (lives _ _ _ _ c.write.ensures)

pub returns-in_err-close-clause-lived : goal.returns-in_err-close-clause-lived
returns-in_err-close-clause-lived g c = works_live (works_then _ _ _ (call_works _ _ _ _ refl c.in_ok-file.ensures) (call_works _ _ _ _ refl c.in_ok-write.ensures)) (lives _ _ _ _ c.close.ensures)

pub returns-clause-lived : goal.returns-clause-lived
returns-clause-lived g c = works_live (works_then _ _ _ (call_works _ _ _ _ refl c.in_ok-file.ensures) (call_works _ _ _ _ refl c.in_ok-write.ensures)) (lives _ _ _ _ c.in_ok-close.ensures)

pub returns-clause-works : goal.returns-clause-works
returns-clause-works g c = works_then _ _ _ (call_works _ _ _ _ refl c.in_ok-file.ensures) (works_then _ _ _ (call_works _ _ _ _ refl c.in_ok-write.ensures) (call_works _ _ _ _ refl c.in_ok-close.ensures))
