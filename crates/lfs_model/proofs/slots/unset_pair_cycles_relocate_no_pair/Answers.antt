use Rattle.lfs_model.proofs.Unmoved.{nothing_moves, laid_without_cycles}
use Rattle.lfs_model.proofs.slots.unset_pair_cycles_relocate_no_pair.Goals as goal

pub returns-clause-laid_out : goal.returns-clause-laid_out
returns-clause-laid_out c = λ disk new ps qs s op calls. laid_without_cycles disk ps s op calls new qs

pub returns-clause-unmoved : goal.returns-clause-unmoved
returns-clause-unmoved c = λ disk new ps qs s op calls. nothing_moves disk ps s op calls new qs
