use Rattle.std.proofs.Common.{sym, subst}
use Rattle.lfs_file.proofs.Common.{AreUsedAmong, contents_blocks, stored_blocks}
use Rattle.lfs_file.specs.declared.contents.WriterContents.{WriterContents}
use Rattle.lfs_file.proofs.Owning.{owned_right}
use Rattle.lfs_file.proofs.completion.finish_contents.Goals as goal

pub returns-in_ok-stored-in-InHand-clause-owned : goal.returns-in_ok-stored-in-InHand-clause-owned
returns-in_ok-stored-in-InHand-clause-owned g c =
    let n = (g.D.BlockDevice.geometry c.args.dev.now).block_size in
    subst (λ (x : WriterContents). AreUsedAmong c.complete_draft.new.map (contents_blocks (g.D.BlockDevice.blocks c.args.dev.now) n x) (stored_blocks (g.D.BlockDevice.blocks c.complete_draft.new.dev) n c.in_ok-stored-in-InHand.stored)) (sym c.in-InHand.is)
    (owned_right _ c.in_ok-stored-in-InHand.ensures.own.owned)
