use Rattle.std.proofs.Common.{◌≡◌, false, refl}
use Rattle.lfs_model.specs.examples.Images.{three_block_list, three_block_list_with, cyclic_list_blocks}
use Rattle.lfs_model.proofs.Skips.{is_list, list_from, list_to}
use Rattle.lfs_model.proofs.lists.bytes_of_skip_list_are_read.Goals as goal

pub returns-clause-list : goal.returns-clause-list
unfolding lib.Count.count_trailing_zeros
returns-clause-list c = list_from three_block_list 1024 7 2045 refl

pub returns-clause-blocks : goal.returns-clause-blocks
unfolding lib.Count.count_trailing_zeros
returns-clause-blocks c = refl

pub returns-clause-bytes : goal.returns-clause-bytes
unfolding lib.Count.count_trailing_zeros
returns-clause-bytes c = refl

pub returns-clause-wrong_pointer : goal.returns-clause-wrong_pointer
unfolding lib.Count.count_trailing_zeros
returns-clause-wrong_pointer c = λ h.
    let passes = list_to (three_block_list_with 6) 1024 7 2045 h in
    let fails : is_list (three_block_list_with 6) 1024 7 2045 ≡ false = refl in
    cc

pub returns-clause-round : goal.returns-clause-round
unfolding lib.Count.count_trailing_zeros
returns-clause-round c = λ h.
    let passes = list_to cyclic_list_blocks 1024 7 2045 h in
    let fails : is_list cyclic_list_blocks 1024 7 2045 ≡ false = refl in
    cc
