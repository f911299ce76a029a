use Rattle.lfs_fs_tests.proofs.Recoveries.{left_by_call}
use Rattle.lfs_fs_tests.proofs.recovery.rename_and_recover.Goals as goal

pub returns : goal.returns
returns c = λ s ps around work. c.recover_after_loss.ensures _ _ (left_by_call c.args.session c.rename.new.self _ _ c.rename.ensures s ps around work)
