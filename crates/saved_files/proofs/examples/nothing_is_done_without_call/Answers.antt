use Rattle.std.proofs.Common.{refl, sym, ap, ◌∙◌}
use Rattle.lfs_model.specs.session.Session.{Session}
use Rattle.saved_files.specs.Counter.{counter_in}
use Rattle.saved_files.specs.Settings.{settings_in}
use Rattle.saved_files.specs.Log.{log_in}
use Rattle.saved_files.proofs.FreshFiles.{fresh, same_fresh}
use Rattle.saved_files.proofs.examples.nothing_is_done_without_call.Goals as goal

pub returns-clause-set : goal.returns-clause-set
returns-clause-set c = λ s healthy. (fresh, (refl, refl))

pub returns-clause-not_set : goal.returns-clause-not_set
returns-clause-not_set c = λ h. let k = h fresh refl in absurd (let e = sym (ap (λ (t : Session). counter_in t.tree) (same_fresh k.0 k.1.0)) ∙ k.1.1 in cc)

pub returns-clause-not_raised : goal.returns-clause-not_raised
returns-clause-not_raised c = λ h. let k = (h fresh refl).1 in absurd (let e = sym (ap (λ (t : Session). counter_in t.tree) (same_fresh k.0 k.1.0)) ∙ k.1.1 in cc)

pub returns-clause-not_saved : goal.returns-clause-not_saved
returns-clause-not_saved c = λ h. let k = h fresh refl in absurd (let e = sym (ap (λ (t : Session). settings_in t.tree) (same_fresh k.0 k.1.0)) ∙ k.1.1 in cc)

pub returns-clause-not_logged : goal.returns-clause-not_logged
returns-clause-not_logged c = λ h. let k = h.has fresh refl in absurd (let e = sym (ap (λ (t : Session). log_in t.tree) (same_fresh k.0 k.1.0)) ∙ k.1.1 in cc)

pub returns-clause-no_append : goal.returns-clause-no_append
returns-clause-no_append c = λ none. none
