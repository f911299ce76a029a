use Rattle.std.proofs.Common.{◌∙◌}
use Rattle.lfs_lookup.proofs.Directories.{own_shapes}
use Rattle.lfs_lookup.proofs.directory.directory_pair_entries.Goals as goal

pub returns-clause-entries : goal.returns-clause-entries
returns-clause-entries g c ok path at leads begins =
    c.in_ok-items.ensures.items ∙ own_shapes c.args.thread.now.kept.disk c.args.thread.now.kept.pairs path at c.args.first ok leads begins
