use Rattle.lfs_operations.proofs.Common.{ap, address_of_array, ThreadView}
use Rattle.lfs_operations.proofs.MakingReported.{reports_first}
use Rattle.lfs_operations.proofs.WornUnloads.{root_expanded, can_unload, expanding, unload_survives, unload_writes}
use Rattle.lfs_operations.proofs.wear.expand_superblock.Goals as goal

pub unload-requires-clause-can : goal.unload-requires-clause-can
unload-requires-clause-can g c = can_unload (expanding c.args.thread.now.kept (address_of_array c.args.fresh) c.requires.can) (ap (λ (s : ThreadView). s.kept) c.mark_blocks_allocated.ensures)

pub returns-in_err-unload-clause-errors : goal.returns-in_err-unload-clause-errors
returns-in_err-unload-clause-errors g c = reports_first c.from_residual.result (ap (λ (s : ThreadView). s.kept) c.mark_blocks_allocated.ensures) c.in_err-unload.was c.from_residual.ensures.1 c.unload.ensures.failed c.unload.ensures.errors

pub returns-in_err-unload-clause-device : goal.returns-in_err-unload-clause-device
returns-in_err-unload-clause-device g c = unload_writes (expanding c.args.thread.now.kept (address_of_array c.args.fresh) c.requires.can) (ap (λ (s : ThreadView). s.kept) c.mark_blocks_allocated.ensures) c.unload.ensures.device.only

pub returns-in_err-unload-clause-survives : goal.returns-in_err-unload-clause-survives
returns-in_err-unload-clause-survives g c = unload_survives (expanding c.args.thread.now.kept (address_of_array c.args.fresh) c.requires.can) (ap (λ (s : ThreadView). s.kept) c.mark_blocks_allocated.ensures) c.unload.ensures.stops

pub returns-clause-expanded : goal.returns-clause-expanded
returns-clause-expanded g c = root_expanded c.args.thread.now.kept (address_of_array c.args.fresh) c.requires.can (ap (λ (s : ThreadView). s.kept) c.mark_blocks_allocated.ensures) c.in_ok-unload.ensures.done c.unload.ensures.device.only

pub returns-clause-survives : goal.returns-clause-survives
returns-clause-survives g c = unload_survives (expanding c.args.thread.now.kept (address_of_array c.args.fresh) c.requires.can) (ap (λ (s : ThreadView). s.kept) c.mark_blocks_allocated.ensures) c.unload.ensures.stops
