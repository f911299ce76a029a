use Rattle.std.proofs.Common.{rules, sym, subst}
use Rattle.lfs_file.proofs.Common.{err_from_is_err_and, Blocks, AreUsedAmong, stored_blocks}
use Rattle.lfs_file.specs.declared.stored_list.StoredList.{StoredList}
use Rattle.lfs_file.proofs.Owning.{owned_all}
use Rattle.lfs_file.proofs.ContentsCalled.{used_reads, writes_as, writes_fail, writes_on}
use Rattle.lfs_file.proofs.Spared.{KeepsUsedBlocks-refl}
use Rattle.lfs_file.proofs.reposition.reposition_draft.Goals as goal

pub returns-in_err-base-clause-writing : goal.returns-in_err-base-clause-writing
returns-in_err-base-clause-writing g c =
    let p = err_from_is_err_and c.from_residual.result c.from_residual.ensures.1 in
    rw (p.1, p.2) (writes_as g.D.BlockDevice c.in_err-base.ensures.writing)

pub returns-in_err-hand-clause-writing : goal.returns-in_err-hand-clause-writing
returns-in_err-hand-clause-writing g c =
    let p = err_from_is_err_and c.from_residual-in_err-hand.result c.from_residual-in_err-hand.ensures.1 in
    rw (p.1, p.2) (writes_fail g.D.BlockDevice c.in_ok-base.ensures.writing (KeepsUsedBlocks-refl _) (used_reads g.D.BlockDevice _ c.start_draft.ensures.device) c.in_err-hand.ensures.reports)

pub returns-clause-writing : goal.returns-clause-writing
returns-clause-writing g c = writes_on g.D.BlockDevice c.in_ok-base.ensures.writing (KeepsUsedBlocks-refl _) (used_reads g.D.BlockDevice _ c.start_draft.ensures.device) c.in_ok-hand.ensures.reports

pub returns-then-size-place-clause-over : goal.returns-then-size-place-clause-over
returns-then-size-place-clause-over g c = record { over = search rules; owned = owned_all _ _ }

pub returns-clause-over : goal.returns-clause-over
returns-clause-over g c =
    let hand = c.args.hand in
    let d = g.D.BlockDevice.blocks c.args.dev.now in
    let n = (g.D.BlockDevice.geometry c.args.dev.now).block_size in
    let m = c.complete_draft.new.map in
    record {
      over = search rules;
      owned = subst (λ (x : Blocks). AreUsedAmong m (stored_blocks d n hand.base) (stored_blocks x n c.in_ok-hand.hand.base)) (sym c.start_draft.ensures.device.same)
          (subst (λ (v : StoredList). AreUsedAmong m (stored_blocks d n hand.base) (stored_blocks (g.D.BlockDevice.blocks c.complete_draft.new.dev) n v)) (sym c.in_ok-hand.ensures.base) c.in_ok-base.ensures.own.owned);
    }
