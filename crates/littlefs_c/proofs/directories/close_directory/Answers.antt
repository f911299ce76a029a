use Rattle.std.proofs.Common.{◌∙◌, arith, refl}
use Rattle.littlefs_c.proofs.Tables.{entry_index, some_entry}
use Rattle.littlefs_c.proofs.directories.close_directory.Goals as goal

pub returns : goal.returns
returns c =
    let s = some_entry c.index.result.now c.if-is_none.ensures in
    (s.0, (entry_index c.args.directories.now.items c.args.number c.index.result.now (omega arith) c.index.ensures ∙ s.1, refl))
