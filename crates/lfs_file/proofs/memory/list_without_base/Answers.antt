use Rattle.lfs_file.proofs.ContentsMemories.{begins_none}
use Rattle.lfs_file.proofs.memory.list_without_base.Goals as goal

pub returns-clause-begun : goal.returns-clause-begun
returns-clause-begun c map disk now quiet = begins_none map disk now c.args.list quiet
