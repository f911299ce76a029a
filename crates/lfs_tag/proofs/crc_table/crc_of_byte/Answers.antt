use Rattle.std.proofs.Common.{◌∙◌}
use Rattle.lfs_tag.proofs.Table.{in_table}
use Rattle.lfs_tag.proofs.crc_table.crc_of_byte.Goals as goal

pub returns : goal.returns
returns c = c.table_word.ensures ∙ in_table c.args.row c.args.byte c.requires.row c.requires.byte
