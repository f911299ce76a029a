use Rattle.std.proofs.Common.{◌∙◌, arith}
use Rattle.lfs_file.proofs.Chains.{pointer_count-pos}
use Rattle.lfs_file.proofs.visits.check_block.Goals as goal

pub returns-clause-word : goal.returns-clause-word
returns-clause-word g c =
    let some = c.requires.some in
    let many = pointer_count-pos c.args.index some in
    c.word_of_slice.ensures ∙ c.in_ok-copy_pointers.ensures.noted.own 0 (omega arith)
