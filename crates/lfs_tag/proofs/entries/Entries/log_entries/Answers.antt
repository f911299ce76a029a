use Rattle.std.proofs.Common.{arith}
use Rattle.lfs_tag.proofs.Common.{block_entries}
use Rattle.lfs_model.specs.format.Log.{chain_of}
use Rattle.lfs_tag.proofs.Runs.{all_run, all_is, run_count}
use Rattle.lfs_tag.proofs.entries.Entries.log_entries.Goals as goal

pub invariant_of-result : goal.invariant_of-result
invariant_of-result c = record { run = rw (c.requires.end, c.requires.last, c.from_bits.ensures, all_is c.args.block.now) (all_run c.args.block.now) }

pub returns-clause-value : goal.returns-clause-value
returns-clause-value c = rw (c.requires.end, c.from_bits.ensures) (all_is c.args.block.now)

pub returns-clause-small : goal.returns-clause-small
returns-clause-small c =
    let b = c.args.block.now in
    let count = run_count b 4 0xffffffff (block_entries b) (chain_of b).end (chain_of b).last (all_run b) in
    omega (arith, count, c.requires.end)
