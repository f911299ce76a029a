use Rattle.std.proofs.Common.{arith}
use Rattle.lfs_fs.proofs.OpenFiles.{none_put}
use Rattle.lfs_fs.proofs.files.reserve_in_table.Goals as goal

pub returns-else-number-len-clause-put : goal.returns-else-number-len-clause-put
returns-else-number-len-clause-put c =
    let inside = c.requires.inside in
    let len = c.len.ensures in
    let less = c.if-number-len.false in
    none_put c.args.entries.now.items c.args.number (omega arith) c.requires.free
