use Rattle.std.proofs.Common.{rules}
use Rattle.lfs_fs.specs.SessionView.{system_state}
use Rattle.lfs_fs_tests.proofs.Recoveries.{not_corrupt, shown_after}
use Rattle.lfs_fs_tests.proofs.recovery.recover_session.Goals as goal

pub returns-in-Ok : goal.returns-in-Ok
returns-in-Ok c = λ left other before after stop same mount.
    let safe = c.power_loss_leaves_disk_with_safe_tree.ensures.left left before after stop in
    record {
      shows = shown_after before after safe.0 left other (system_state c.args.session) (system_state c.recover.new.self) safe.1.0 safe.1.1 same mount c.in-Ok.ensures.answers;
      accepted = search rules;
    }

pub returns-in-Err : goal.returns-in-Err
returns-in-Err c = λ left other before after stop same mount. record {
  shows = search rules;
  accepted = not_corrupt c.args.session c.recover.new.self c.in-Err.error c.in-Err.ensures;
}
