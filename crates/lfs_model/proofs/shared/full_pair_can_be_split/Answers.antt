use Rattle.lfs_model.proofs.Halves.{can_be_cut, entry_small, insert_cut, set_cut, content_cut_inside}
use Rattle.lfs_model.proofs.shared.full_pair_can_be_split.Goals as goal

pub returns-clause-cut : goal.returns-clause-cut
returns-clause-cut c = can_be_cut

pub returns-clause-comes : goal.returns-clause-comes
returns-clause-comes c = λ profile block_size page raw content old id s large logged is slots fits was.
    insert_cut block_size page raw content old id s logged is slots (entry_small profile block_size page s large fits) was

pub returns-clause-changes : goal.returns-clause-changes
returns-clause-changes c = λ profile block_size page raw content old front was s back large logged is before slots fits whole.
    set_cut block_size page raw content old front was s back logged is before slots (entry_small profile block_size page s large fits) whole

pub returns-clause-inside : goal.returns-clause-inside
returns-clause-inside c = λ block_size page raw content at logged is full cut.
    let k = content_cut_inside block_size page raw content at logged is full cut in (k.some, k.fewer)
