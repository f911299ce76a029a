use Rattle.std.proofs.Common.{◌≡◌, ◌+◌, ◌-◌, ◌*◌, ◌++◌, length, take, drop, ap, ◌∙◌, refl, arith}
use Rattle.lfs_file.proofs.Common.{pointer_count, growing_view, GrowingList}
use Rattle.lfs_file.proofs.Filling.{rest_more}
use Rattle.lfs_file.proofs.Rests.{lent}
use Rattle.lfs_file.proofs.extender.Extender.push_within_block.Goals as goal

pub returns-clause-pushed : goal.returns-clause-pushed
returns-clause-pushed c =
    let e = c.deref_mut-state.result.now in
    let has = lent c.deref_mut-state.ensures.value c.self.invariant in
    let bytes = c.args.bytes.now in
    let few = c.if-bytes-state.false in
    let pointers = 4 * pointer_count e.front.count in
    let rest : take (e.filled + length bytes - pointers) (drop pointers c.overwrite_buffer_bytes.new.all.items) ≡ (growing_view e).rest ++ bytes =
    ap (λ l. take (e.filled + length bytes - pointers) (drop pointers l)) c.overwrite_buffer_bytes.ensures
    ∙ rest_more e.buffer.items bytes pointers e.filled (length bytes) has.in_step.low refl (omega (arith, has.one_block, has.in_step.high)) in
    ap (λ r. record (growing_view e) { rest = r }) rest
    ∙ ap (λ (g : GrowingList). record g { rest = g.rest ++ bytes }) (ap growing_view c.deref_mut-state.ensures.value ∙ c.self.view_is)
