use Rattle.std.proofs.Common.{refl}
use Rattle.lfs_tool.proofs.superblocks.wrong_field_at.Goals as goal

pub returns-in-None-clause-none : goal.returns-in-None-clause-none
returns-in-None-clause-none c none fields stands = absurd (c.in-None.ensures.none refl fields stands)
