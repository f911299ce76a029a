use Rattle.std.proofs.Common.{arith}
use Rattle.lfs_tool.proofs.Rules.{block_is_no_smaller, unbroken_sizes_fit}
use Rattle.lfs_tool.proofs.sizes.Sizes.first_broken_rule.Goals as goal

pub nonzero_rem-self : goal.nonzero_rem-self
nonzero_rem-self c = let low = block_is_no_smaller c.args.self c.requires in omega arith

pub nonzero_div-count : goal.nonzero_div-count
nonzero_div-count c = let low = block_is_no_smaller c.args.self c.requires in omega arith

pub returns-clause-fits : goal.returns-clause-fits
returns-clause-fits c = λ none. unbroken_sizes_fit c.args.self c.requires (omega arith) (omega arith) (omega arith) (omega arith)
