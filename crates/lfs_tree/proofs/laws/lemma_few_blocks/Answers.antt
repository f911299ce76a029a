use Rattle.lfs_tree.proofs.laws.lemma_few_blocks.Goals as goal

pub returns : goal.returns
returns c = λ old new op sound writable carried. carried.taken
