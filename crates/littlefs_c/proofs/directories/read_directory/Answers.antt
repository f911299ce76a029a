use Rattle.std.proofs.Common.{◌∙◌, arith, refl}
use Rattle.littlefs_c.proofs.Tables.{entry_index, set_found}
use Rattle.littlefs_c.proofs.directories.read_directory.Goals as goal

pub returns-in-None : goal.returns-in-None
returns-in-None c =
    let xs = c.args.directories.now.items in
    ((refl, entry_index xs c.args.number c.index_mut.result.now (omega arith) c.index_mut.ensures.value ∙ c.in-None.is, set_found xs c.args.number c.index_mut.result.now (omega arith) c.index_mut.ensures.value), refl, refl)
