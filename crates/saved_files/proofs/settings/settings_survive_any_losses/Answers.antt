use Rattle.std.proofs.Common.{◌≡◌}
use Rattle.saved_files.proofs.Saves.{after_all}
use Rattle.saved_files.proofs.settings.settings_survive_any_losses.Goals as goal

pub returns : goal.returns
returns c = λ disk left old saves. after_all (λ is. is ≡ old) disk left saves
