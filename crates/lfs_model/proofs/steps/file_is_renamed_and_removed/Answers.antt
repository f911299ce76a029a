use Rattle.lfs_model.proofs.WrittenFile.{rename_step, rename_seen, remove_step, remove_seen}
use Rattle.lfs_model.proofs.steps.file_is_renamed_and_removed.Goals as goal

pub returns-clause-renamed : goal.returns-clause-renamed
returns-clause-renamed c = rename_step

pub returns-clause-not_kept : goal.returns-clause-not_kept
returns-clause-not_kept c = rename_seen

pub returns-clause-removed : goal.returns-clause-removed
returns-clause-removed c = remove_step

pub returns-clause-not_left : goal.returns-clause-not_left
returns-clause-not_left c = remove_seen
