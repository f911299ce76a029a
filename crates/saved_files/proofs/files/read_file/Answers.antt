use Rattle.std.proofs.Common.{refl}
use Rattle.lfs_fs.proofs.Users.{lives}
use Rattle.saved_files.proofs.Parts.{works_live, works_then, call_works}
use Rattle.saved_files.proofs.FileReads.{open_reads, read_reads, close_reads, all_read}
use Rattle.saved_files.proofs.files.read_file.Goals as goal

pub returns-in_err-reader-clause-survives : goal.returns-in_err-reader-clause-survives
returns-in_err-reader-clause-survives g c = open_reads c.args.session.now c.open.new.self c.args.path.now _ c.open.ensures

pub returns-in_err-reader-clause-lived : goal.returns-in_err-reader-clause-lived
returns-in_err-reader-clause-lived g c = lives _ _ _ _ c.open.ensures

pub returns-in_err-size-clause-survives : goal.returns-in_err-size-clause-survives
returns-in_err-size-clause-survives g c = open_reads c.args.session.now c.open.new.self c.args.path.now _ c.in_ok-reader.ensures

pub returns-in_err-size-clause-lived : goal.returns-in_err-size-clause-lived
returns-in_err-size-clause-lived g c = lives _ _ _ _ c.in_ok-reader.ensures

pub returns-in_err-bytes-clause-survives : goal.returns-in_err-bytes-clause-survives
returns-in_err-bytes-clause-survives g c = read_reads c.args.session.now c.open.new.self c.args.path.now c.in_ok-reader.reader c.in_ok-reader.ensures c.in_ok-size.size c.read.new.self _ c.read.ensures.call

pub returns-in_err-bytes-clause-lived : goal.returns-in_err-bytes-clause-lived
returns-in_err-bytes-clause-lived g c = works_live (call_works _ _ _ _ refl c.in_ok-reader.ensures) (lives _ _ _ _ c.read.ensures.call)

pub returns-in_err-close-clause-survives : goal.returns-in_err-close-clause-survives
returns-in_err-close-clause-survives g c =
    close_reads c.args.session.now c.open.new.self c.args.path.now c.in_ok-reader.reader c.in_ok-reader.ensures c.in_ok-size.size c.read.new.self c.in_ok-bytes.bytes.items c.in_ok-bytes.ensures.call c.close.new.self _ c.close.ensures

pub returns-in_err-close-clause-lived : goal.returns-in_err-close-clause-lived
returns-in_err-close-clause-lived g c = works_live (works_then _ _ _ (call_works _ _ _ _ refl c.in_ok-reader.ensures) (call_works _ _ _ _ refl c.in_ok-bytes.ensures.call)) (lives _ _ _ _ c.close.ensures)

pub returns-clause-survives : goal.returns-clause-survives
returns-clause-survives g c =
    close_reads c.args.session.now c.open.new.self c.args.path.now c.in_ok-reader.reader c.in_ok-reader.ensures c.in_ok-size.size c.read.new.self c.in_ok-bytes.bytes.items c.in_ok-bytes.ensures.call c.close.new.self _ c.in_ok-close.ensures

pub returns-clause-lived : goal.returns-clause-lived
returns-clause-lived g c = works_live (works_then _ _ _ (call_works _ _ _ _ refl c.in_ok-reader.ensures) (call_works _ _ _ _ refl c.in_ok-bytes.ensures.call)) (lives _ _ _ _ c.in_ok-close.ensures)

pub returns-clause-works : goal.returns-clause-works
returns-clause-works g c = works_then _ _ _ (call_works _ _ _ _ refl c.in_ok-reader.ensures) (works_then _ _ _ (call_works _ _ _ _ refl c.in_ok-bytes.ensures.call) (call_works _ _ _ _ refl c.in_ok-close.ensures))

pub returns-clause-read : goal.returns-clause-read
returns-clause-read g c =
    all_read c.args.session.now c.open.new.self c.args.path.now c.in_ok-reader.reader c.in_ok-reader.ensures c.in_ok-size.size c.read.new.self c.in_ok-bytes.bytes.items c.in_ok-bytes.ensures.call c.in_ok-size.ensures c.close.new.self c.in_ok-close.ensures
