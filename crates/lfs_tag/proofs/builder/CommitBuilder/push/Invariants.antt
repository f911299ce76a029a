use Rattle.lfs_tag.proofs.Common.{commit_adding_entry}
use Rattle.lfs_tag.proofs.builder.CommitBuilder.push.Given as goal

abbrev pub ghost-with_ghost_commit : goal.ghost-with_ghost_commit
ghost-with_ghost_commit a = let e = a._pushed.now in commit_adding_entry (record { tag = e.0; bytes = e.1.now }) a._before.now.so_far
