use Rattle.std.proofs.Common.{◌≡◌, [], None, refl}
use Rattle.lfs_model.specs.crash.LifeTrees.{IsTreeOfLife}
use Rattle.lfs_model.specs.crash.RepeatedPowerLoss.{IsJustMounted}
use Rattle.lfs_model.specs.tree.Fresh.{empty_tree}
use Rattle.lfs_model.proofs.Common.{fresh_state, small_image}
use Rattle.lfs_model.proofs.FreshLife.{agrees}
use Rattle.lfs_model.proofs.FreshSession.{none_in_order}
use Rattle.lfs_model.proofs.SafeImage.{is_safe}
use Rattle.lfs_model.proofs.TreesLeft.{keeps_starts, start_has, start_mounts}
use Rattle.lfs_model.proofs.life_trees.session_mounts_disk_after_power_loss.Goals as goal

pub returns-clause-keeps : goal.returns-clause-keeps
returns-clause-keeps c = keeps_starts

pub returns-clause-mounts : goal.returns-clause-mounts
returns-clause-mounts c = λ around s turns. start_mounts (IsTreeOfLife around s turns)

pub returns-clause-has : goal.returns-clause-has
returns-clause-has c = λ around s turns. start_has (IsTreeOfLife around s turns)

pub returns-clause-fresh : goal.returns-clause-fresh
returns-clause-fresh c = keeps_starts empty_tree _ is_safe

pub returns-clause-no_other : goal.returns-clause-no_other
returns-clause-no_other c = λ h.
    let begun : IsJustMounted small_image fresh_state = record { on = refl; tree = empty_tree; shows = agrees; healthy = refl } in
    absurd (let k = start_has (λ tree. tree [] ≡ None) small_image h fresh_state refl begun in cc)

pub returns-clause-none : goal.returns-clause-none
returns-clause-none c = λ tree h. none_in_order h.order h.safe.pairs h.safe.accepted
