use Rattle.lfs_model.proofs.ListSizes.{length-list_bytes, skip_list_block_count-more}
use Rattle.lfs_model.proofs.Staying.{list-stays, bytes-stay}
use Rattle.lfs_model.proofs.shared.skip_list_keeps_its_bytes.Goals as goal

pub returns-clause-size : goal.returns-clause-size
returns-clause-size c = length-list_bytes

pub returns-clause-more : goal.returns-clause-more
returns-clause-more c = skip_list_block_count-more

pub returns-clause-stays : goal.returns-clause-stays
returns-clause-stays c = λ old new bs block_size head size same apart list.
    (list-stays old new bs same block_size head size apart list, bytes-stay old new bs same block_size head size apart)
