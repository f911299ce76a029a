use Rattle.lfs_model.proofs.KeptProfiles.{writable_breaks_none}
use Rattle.lfs_model.proofs.breaches.breach_prevents_writing.Goals as goal

pub returns : goal.returns
returns c = λ disk ps b broken writable. writable_breaks_none disk ps b writable broken
