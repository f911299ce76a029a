use Rattle.std.proofs.Common.{◌≡◌, None, refl, ap}
use Rattle.std.specs.Prelude.{codes}
use Rattle.lfs_model.specs.examples.Images.{small_image}
use Rattle.lfs_model.specs.examples.Runs.{blockless_disk}
use Rattle.lfs_model.specs.tree.Fresh.{empty_tree}
use Rattle.saved_files.specs.Settings.{settings_in}
use Rattle.saved_files.specs.Log.{log_in}
use Rattle.saved_files.proofs.Appends.{log_survives}
use Rattle.saved_files.proofs.Saves.{after_all}
use Rattle.saved_files.proofs.Parts.{finds_weaker}
use Rattle.saved_files.proofs.FreshFiles.{cut_append, cut_save, none_starts, starts_empty}
use Rattle.saved_files.proofs.examples.power_loss_may_interrupt_saves.Goals as goal

pub returns-clause-save : goal.returns-clause-save
returns-clause-save c = cut_save (codes "a")

pub returns-clause-saves : goal.returns-clause-saves
returns-clause-saves c = (small_image, (cut_save (codes "a"), (small_image, (cut_save (codes "b"), refl))))

pub returns-clause-not_lost : goal.returns-clause-not_lost
returns-clause-not_lost c = λ saves cuts. none_starts _
    (after_all (λ is. is ≡ None) small_image blockless_disk saves (finds_weaker (λ tree. tree ≡ empty_tree) (λ tree. settings_in tree ≡ None) small_image (λ tree e. ap settings_in e) starts_empty) cuts)

pub returns-clause-appends : goal.returns-clause-appends
returns-clause-appends c = cut_append (codes "a")

pub returns-clause-sessions : goal.returns-clause-sessions
returns-clause-sessions c = (small_image, (cut_append (codes "a"), (small_image, (cut_append (codes "b"), refl))))

pub returns-clause-log_not_lost : goal.returns-clause-log_not_lost
returns-clause-log_not_lost c = λ sessions cuts. none_starts _
    (log_survives small_image blockless_disk (log_in empty_tree) sessions (finds_weaker (λ tree. tree ≡ empty_tree) (λ tree. log_in tree ≡ log_in empty_tree) small_image (λ tree e. ap log_in e) starts_empty) cuts)
