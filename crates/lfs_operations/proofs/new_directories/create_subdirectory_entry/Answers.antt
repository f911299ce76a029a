use Rattle.lfs_operations.proofs.Common.{subst, on_ok_weaker, CleanLossLeaves, LeftByCommitOrSplit, AreCommittedOrSplit, ReportsCommitOrSplit, entry_changes}
use Rattle.lfs_operations.proofs.new_directories.create_subdirectory_entry.Goals as goal

pub returns-clause-is_put : goal.returns-clause-is_put
returns-clause-is_put g c =
    on_ok_weaker c.create_entry_flipping.result (λ is.
    subst (λ bytes. AreCommittedOrSplit c.args.thread.now.kept c.args.pair (entry_changes c.args.thread.now.kept c.args.pair c.args.id c.args.name.now bytes) c.create_entry_flipping.new.thread.kept) c.pair_bytes-branch.ensures.bytes is)
    c.create_entry_flipping.ensures.is_put

pub returns-clause-stops : goal.returns-clause-stops
returns-clause-stops g c =
    subst (λ bytes. CleanLossLeaves c.args.thread.now.kept.history c.create_entry_flipping.new.thread.kept.history (LeftByCommitOrSplit c.args.thread.now.kept c.args.pair (entry_changes c.args.thread.now.kept c.args.pair c.args.id c.args.name.now bytes)))
    c.pair_bytes-branch.ensures.bytes c.create_entry_flipping.ensures.stops

pub returns-clause-errors : goal.returns-clause-errors
returns-clause-errors g c =
    subst (λ bytes. ReportsCommitOrSplit c.args.thread.now c.create_entry_flipping.new.thread c.args.pair (entry_changes c.args.thread.now.kept c.args.pair c.args.id c.args.name.now bytes) c.create_entry_flipping.result)
    c.pair_bytes-branch.ensures.bytes c.create_entry_flipping.ensures.errors
