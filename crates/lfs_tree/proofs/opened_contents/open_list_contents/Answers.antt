use Rattle.lfs_tree.proofs.OpenedFiles.{opened_list}
use Rattle.lfs_tree.proofs.opened_contents.open_list_contents.Goals as goal

pub returns : goal.returns
returns g c slot held can = opened_list c.args.thread.now.kept c.geometry_of-geometry.result c.args.head c.args.size slot held c.geometry_of-geometry.ensures can
