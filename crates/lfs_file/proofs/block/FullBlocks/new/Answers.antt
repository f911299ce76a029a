use Rattle.std.proofs.Common.{sym, subst}
use Rattle.lfs_file.proofs.Common.{OnlyBelowKnown}
use Rattle.lfs_file.proofs.Pointed.{none_below}
use Rattle.lfs_file.proofs.block.FullBlocks.new.Goals as goal

pub returns-clause-below : goal.returns-clause-below
returns-clause-below c n = subst (OnlyBelowKnown n) (sym c.new.ensures.empty) (none_below n)
