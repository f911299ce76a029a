use Rattle.lfs_pair.proofs.Calls.{reads_trans}
use Rattle.lfs_pair.proofs.fetches.later_revision_first.Goals as goal

pub returns-in_err-second_revision-clause-device : goal.returns-in_err-second_revision-clause-device
returns-in_err-second_revision-clause-device g c = reads_trans c.read_revision.ensures.device c.in_err-second_revision.ensures.device

pub returns-then-is_later_than-clause-device : goal.returns-then-is_later_than-clause-device
returns-then-is_later_than-clause-device g c = reads_trans c.in_ok-first_revision.ensures.device c.in_ok-second_revision.ensures.device

pub returns-else-is_later_than-clause-device : goal.returns-else-is_later_than-clause-device
returns-else-is_later_than-clause-device g c = reads_trans c.in_ok-first_revision.ensures.device c.in_ok-second_revision.ensures.device
