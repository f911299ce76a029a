use Rattle.lfs_file.proofs.Ends.{base_chain}
use Rattle.lfs_file.proofs.list_ends.release_base_from.Goals as goal

pub release_list_from-requires-clause-chain : goal.release_list_from-requires-clause-chain
release_list_from-requires-clause-chain g c = base_chain _ _ _ _ _ _ c.geometry-block_size.ensures c.blocks_for-count.ensures c.requires.base
