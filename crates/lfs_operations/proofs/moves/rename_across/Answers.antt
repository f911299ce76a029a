use Rattle.lfs_operations.proofs.Common.{on_ok_weaker}
use Rattle.lfs_operations.proofs.AlteredLater.{altered_across}
use Rattle.lfs_operations.proofs.MovLater.{renamed_across}
use Rattle.lfs_operations.proofs.moves.rename_across.Goals as goal

pub returns-clause-renamed : goal.returns-clause-renamed
returns-clause-renamed g c = on_ok_weaker c.move_between_pairs.result (λ h rename. renamed_across rename h) c.move_between_pairs.ensures.moved

pub returns-clause-alters : goal.returns-clause-alters
returns-clause-alters g c = on_ok_weaker c.move_between_pairs.result (λ h. altered_across c.args.replaces c.requires.can h c.move_between_pairs.ensures.device) c.move_between_pairs.ensures.moved
