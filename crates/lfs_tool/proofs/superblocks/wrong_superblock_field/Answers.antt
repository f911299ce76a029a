use Rattle.std.proofs.Common.{refl}
use Rattle.lfs_tool.proofs.NoWrongNumbers.{no_wrong_number}
use Rattle.lfs_tool.proofs.superblocks.wrong_superblock_field.Goals as goal

pub returns-in-None-clause-none : goal.returns-in-None-clause-none
returns-in-None-clause-none c none = no_wrong_number c.args.bytes.now c.args.block_size c.args.versions (c.in-None.ensures.none refl) (c.wrong_field_at-in-None.ensures.none none)
