use Rattle.std.proofs.Common.{◌-◌, length}
use Rattle.lfs_model.specs.format.Log.{chain_of}
use Rattle.lfs_model.proofs.Chains.{chain_sound, chain_longest, chain_beginning}
use Rattle.lfs_model.proofs.log.log_is_longest_commit_sequence.Goals as goal

pub returns-clause-chain : goal.returns-clause-chain
unfolding chain_of
returns-clause-chain c = λ block. chain_sound (length block - 4) block 0 4 0xffffffff

pub returns-clause-longest : goal.returns-clause-longest
unfolding chain_of
returns-clause-longest c = λ block others end last h. chain_longest block 0 4 0xffffffff others end last h

pub returns-clause-beginning : goal.returns-clause-beginning
unfolding chain_of
returns-clause-beginning c = λ block others end last h. chain_beginning block 0 4 0xffffffff others end last h
