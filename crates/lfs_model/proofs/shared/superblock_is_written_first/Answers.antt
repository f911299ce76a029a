use Rattle.lfs_model.proofs.FirstEntries.{name_types, superblock_anew}
use Rattle.lfs_model.proofs.shared.superblock_is_written_first.Goals as goal

pub returns-clause-types : goal.returns-clause-types
returns-clause-types c = name_types

pub returns-clause-first : goal.returns-clause-first
returns-clause-first c = superblock_anew
