use Rattle.lfs_fs.specs.FlagsView.{flags_view}
use Rattle.lfs_fs.specs.SessionView.{system_state}
use Rattle.lfs_fs.proofs.Users.{lives}
use Rattle.saved_files.proofs.Parts.{works_live}
use Rattle.saved_files.proofs.Saves.{draft_survives, save_survives, saved}
use Rattle.saved_files.proofs.settings.save_settings.Goals as goal

pub returns-in_err-write_file-clause-survives : goal.returns-in_err-write_file-clause-survives
returns-in_err-write_file-clause-survives g c = draft_survives (system_state c.args.session.now) c.write_file.new.session (flags_view c.saving_flags.result) c.args.bytes.now c.write_file.ensures.survives

pub returns-in_err-rename-clause-survives : goal.returns-in_err-rename-clause-survives
returns-in_err-rename-clause-survives g c =
    save_survives (system_state c.args.session.now) c.write_file.new.session (flags_view c.saving_flags.result) c.args.bytes.now c.in_ok-write_file.ensures.survives c.rename.new.self c.saving_flags.ensures c.in_ok-write_file.ensures.works c.in_ok-write_file.ensures.written _ c.rename.ensures

pub returns-in_err-rename-clause-lived : goal.returns-in_err-rename-clause-lived
returns-in_err-rename-clause-lived g c = works_live c.in_ok-write_file.ensures.works (lives _ _ _ _ c.rename.ensures)

pub returns-clause-survives : goal.returns-clause-survives
returns-clause-survives g c =
    save_survives (system_state c.args.session.now) c.write_file.new.session (flags_view c.saving_flags.result) c.args.bytes.now c.in_ok-write_file.ensures.survives c.rename.new.self c.saving_flags.ensures c.in_ok-write_file.ensures.works c.in_ok-write_file.ensures.written _ c.in_ok-rename.ensures

pub returns-clause-lived : goal.returns-clause-lived
returns-clause-lived g c = works_live c.in_ok-write_file.ensures.works (lives _ _ _ _ c.in_ok-rename.ensures)

pub returns-clause-saved : goal.returns-clause-saved
returns-clause-saved g c =
    saved (system_state c.args.session.now) c.write_file.new.session (flags_view c.saving_flags.result) c.args.bytes.now c.in_ok-write_file.ensures.survives c.rename.new.self c.saving_flags.ensures c.in_ok-write_file.ensures.works c.in_ok-write_file.ensures.written c.in_ok-rename.ensures
