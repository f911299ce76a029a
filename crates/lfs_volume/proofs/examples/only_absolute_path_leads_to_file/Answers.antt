use Rattle.std.proofs.Common.{refl}
use Rattle.lfs_volume.proofs.examples.only_absolute_path_leads_to_file.Goals as goal

pub returns-clause-file : goal.returns-clause-file
returns-clause-file c = record { given = refl; parents = refl; file = refl }

pub returns-clause-none : goal.returns-clause-none
returns-clause-none c leads = absurd (let k = leads.file in cc)

pub returns-clause-root : goal.returns-clause-root
returns-clause-root c leads = absurd (let k = leads.file in cc)

pub returns-clause-beneath : goal.returns-clause-beneath
returns-clause-beneath c leads = absurd (let k = leads.parents in cc)

pub returns-clause-form : goal.returns-clause-form
returns-clause-form c leads = absurd (let k = leads.given in cc)
