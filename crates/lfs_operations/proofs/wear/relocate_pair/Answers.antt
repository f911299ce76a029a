use Rattle.lfs_operations.proofs.Common.{ap, address_of_array, ThreadView}
use Rattle.lfs_operations.proofs.MakingReported.{reports_first}
use Rattle.lfs_operations.proofs.WornMoves.{can_move, moved_at, move_survives}
use Rattle.lfs_operations.proofs.wear.relocate_pair.Goals as goal

pub move_next-requires-clause-can : goal.move_next-requires-clause-can
move_next-requires-clause-can g c = can_move c.args.thread.now.kept c.args.index (address_of_array c.args.fresh) c.requires.can (ap (λ (s : ThreadView). s.kept) c.mark_blocks_allocated.ensures)

pub returns-in_err-move_next-clause-errors : goal.returns-in_err-move_next-clause-errors
returns-in_err-move_next-clause-errors g c = reports_first c.from_residual.result (ap (λ (s : ThreadView). s.kept) c.mark_blocks_allocated.ensures) c.in_err-move_next.was c.from_residual.ensures.1 c.move_next.ensures.failed c.move_next.ensures.errors

pub returns-in_err-move_next-clause-survives : goal.returns-in_err-move_next-clause-survives
returns-in_err-move_next-clause-survives g c = move_survives c.args.thread.now.kept c.args.index (address_of_array c.args.fresh) c.requires.can (ap (λ (s : ThreadView). s.kept) c.mark_blocks_allocated.ensures) c.move_next.ensures.stops

pub returns-clause-moved : goal.returns-clause-moved
returns-clause-moved g c = moved_at c.args.thread.now.kept c.args.index (address_of_array c.args.fresh) c.requires.can (ap (λ (s : ThreadView). s.kept) c.mark_blocks_allocated.ensures) c.in_ok-move_next.ensures.done c.move_next.ensures.device.only

pub returns-clause-survives : goal.returns-clause-survives
returns-clause-survives g c = move_survives c.args.thread.now.kept c.args.index (address_of_array c.args.fresh) c.requires.can (ap (λ (s : ThreadView). s.kept) c.mark_blocks_allocated.ensures) c.move_next.ensures.stops
