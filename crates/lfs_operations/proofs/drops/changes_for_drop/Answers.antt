use Rattle.lfs_operations.proofs.Common.{ℕ, ◌≡◌, ◌+◌, ◌-◌, [], ◌∷◌, subst, ap, ap₂, ◌∙◌, arith, ContentChange, PutMove, Disk, complete_after, thread_pair, tail_change, AreByteBlocks, move_view, predecessor_tail_after_drop}
use Rattle.lfs_operations.proofs.DroppedTails.{taking_made}
use Rattle.lfs_operations.proofs.drops.changes_for_drop.Goals as goal

pub returns-clause-made : goal.returns-clause-made
returns-clause-made g c =
    let a = c.requires.can.above in
    let index : c.args.index ≡ c.args.index - 1 + 1 = omega arith in
    let bytes = subst (λ (d : Disk). AreByteBlocks d.blocks) c.device-device.ensures.disk (g.met.D.BlockDevice.bytes c.device-device.result.now) in
    let are = ap₂ (λ (x : ContentChange) m. x ∷ PutMove m ∷ [])
    (c.predecessor_tail_change.ensures ∙ ap₂ (λ f h. tail_change (predecessor_tail_after_drop f h)) c.tail_of_pair.ensures (c.tail_of_pair-2.ensures ∙ ap (λ (i : ℕ). (thread_pair c.args.thread.now.kept i).content.tail) index)) c.predecessor_new_delta.ensures in
    ap (complete_after c.args.thread.now.kept (c.args.index - 1)) are
    ∙ taking_made c.args.thread.now.kept c.args.index (move_view c.args.state.now) c.requires.can bytes
