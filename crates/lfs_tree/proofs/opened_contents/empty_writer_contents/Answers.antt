use Rattle.std.proofs.Common.{[], refl}
use Rattle.lfs_tree.proofs.Common.{Inline}
use Rattle.lfs_tree.proofs.OpenedFiles.{opened_in_memory}
use Rattle.lfs_tree.proofs.opened_contents.empty_writer_contents.Goals as goal

pub returns-clause-opened : goal.returns-clause-opened
returns-clause-opened g c = opened_in_memory c.args.thread.now.kept c.geometry_of.result [] [] (Inline []) 0 c.contents_in_memory.result c.geometry_of.ensures c.requires refl refl refl c.contents_in_memory.ensures.holds
