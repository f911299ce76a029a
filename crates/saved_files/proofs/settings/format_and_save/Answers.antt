use Rattle.lfs_model.specs.tree.Fresh.{empty_tree}
use Rattle.lfs_model.specs.session.State.{mounted_session}
use Rattle.lfs_fs.specs.SessionView.{system_state}
use Rattle.lfs_model.proofs.Passing.{fresh_may}
use Rattle.saved_files.proofs.settings.format_and_save.Goals as goal

pub returns : goal.returns
returns c =
    let from = system_state c.in-Ok.session in
    let may = fresh_may from c.in-Ok.ensures.formatted.fresh c.in-Ok.ensures.state in
    (from, (c.in-Ok.ensures.formatted.fresh, λ left stop. c.save_settings.ensures.survives (mounted_session empty_tree) c.in-Ok.ensures.state left (record { agrees = may.agrees; profile = may.profile; cleanly = c.memory_erases_cleanly.ensures from c.save_settings.ensures.lived }) stop))
