use Rattle.saved_files.proofs.FreshFiles.{none_starts, starts_empty}
use Rattle.saved_files.proofs.examples.formatted_disk_can_be_mounted.Goals as goal

pub returns-clause-starts : goal.returns-clause-starts
returns-clause-starts c = starts_empty

pub returns-clause-none : goal.returns-clause-none
returns-clause-none c = none_starts _
