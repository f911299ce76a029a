use Rattle.lfs_model.proofs.Passing.{fresh_may, recovered_may, life_may}
use Rattle.lfs_model.proofs.FreshLife.{premises}
use Rattle.lfs_model.proofs.life_trees.premises_hold_after_format_and_recovery.Goals as goal

pub returns-clause-fresh : goal.returns-clause-fresh
returns-clause-fresh c = fresh_may

pub returns-clause-recovered : goal.returns-clause-recovered
returns-clause-recovered c = recovered_may

pub returns-clause-goes_on : goal.returns-clause-goes_on
returns-clause-goes_on c = life_may

pub returns-clause-premises : goal.returns-clause-premises
returns-clause-premises c = λ from to may clean. record { agrees = may.agrees; profile = may.profile; cleanly = clean }

pub returns-clause-may : goal.returns-clause-may
returns-clause-may c = record { agrees = premises.agrees; profile = premises.profile }
