use Rattle.std.proofs.Common.{refl, sym, ap}
use Rattle.lfs_model.specs.session.Session.{Session}
use Rattle.saved_files.specs.Counter.{counter_in}
use Rattle.saved_files.proofs.FreshFiles.{fresh, same_fresh}
use Rattle.saved_files.proofs.examples.counter_is_four_bytes.Goals as goal

pub returns-clause-counts : goal.returns-clause-counts
returns-clause-counts c = λ s healthy. (sym (ap (λ (t : Session). counter_in t.tree) (same_fresh s healthy)), (fresh, (refl, refl)))

pub returns-clause-miscounts : goal.returns-clause-miscounts
returns-clause-miscounts c = λ h. absurd (let k = (h fresh refl).0 in cc)
