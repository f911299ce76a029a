use Rattle.lfs_file.proofs.Pointed.{pointed_more}
use Rattle.lfs_file.proofs.block.FullBlocks.add.Goals as goal

pub returns-clause-later : goal.returns-clause-later
returns-clause-later c all = pointed_more c.args.self.now.count c.args.self.now.known c.note.new.self c.note.ensures.known c.note.ensures.others all
