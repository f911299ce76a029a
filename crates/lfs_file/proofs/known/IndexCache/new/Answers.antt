use Rattle.std.proofs.Common.{◌≡◌, replicate, slice_index, arith}
use Rattle.lfs_file.proofs.Common.{get_or-replicate}
use Rattle.lfs_file.proofs.known.IndexCache.new.Goals as goal

pub returns-clause-blocks : goal.returns-clause-blocks
returns-clause-blocks c all row lt small within =
    let none : slice_index (replicate 32 4294967295) row ≡ 4294967295 = get_or-replicate 32 row 4294967295 0 lt in
    absurd (omega (arith, none, small))
