use Rattle.std.proofs.Common.{[]}
use Rattle.lfs_tag.proofs.builder.CommitBuilder.new.Given as goal

abbrev pub ghost-with_ghost_commit : goal.ghost-with_ghost_commit
ghost-with_ghost_commit a = let b = a._before.now in record { page = b.0; room = b.1; previous = b.2; revision = b.3; entries = [] }
