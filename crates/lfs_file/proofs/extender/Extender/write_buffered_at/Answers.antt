use Rattle.std.proofs.Common.{refl, ℕ, ◌≡◌, ◌+◌, ◌-◌, ◌<◌, List, length, max, take, replicate, sym, ap, subst, ◌∙◌, arith}
use Rattle.lfs_file.proofs.Common.{length-take, overwritten_at, pointer_count, HasBufferedBytes, IsExtender, growing_view, GrowingList, IsAllBuffered}
use Rattle.lfs_model.specs.session.Writers.{written_contents as with_bytes}
use Rattle.lfs_file.specs.declared.extender.ExtenderState.{ExtenderState}
use Rattle.lfs_file.proofs.Memories.{put_bytes, rest_at}
use Rattle.lfs_file.proofs.Stands.{is_holding}
use Rattle.lfs_file.proofs.extender.Extender.write_buffered_at.Goals as goal

put_is : (e : ExtenderState) (at from end : ℕ) (bytes padded new : List ℕ) → IsExtender e → e.front.count ≡ 0 → at + length bytes < e.geometry.block_size → from ≡ max e.filled at → end ≡ max e.filled (at + length bytes)
    → padded ≡ overwritten_at e.buffer.items e.filled (replicate (from - e.filled) 0) → new ≡ overwritten_at padded at bytes → take end new ≡ with_bytes (growing_view e).rest at bytes
put_is e at from end bytes padded new has none room is ends before after =
    ap (λ k. take k new) ends
    ∙ put_bytes e.buffer.items bytes e.filled at (omega (arith, has.one_block, has.in_step.high)) (omega (arith, has.one_block, room)) new
    (after ∙ ap (λ (l : List ℕ). overwritten_at l at bytes) (before ∙ ap (λ k. overwritten_at e.buffer.items e.filled (replicate (k - e.filled) 0)) is))
    ∙ ap (λ (l : List ℕ). with_bytes l at bytes) (sym (rest_at e.buffer.items e.front.count e.filled none))

pub returns : goal.returns
returns c =
    let e = c.deref_mut-state.result.now in
    let same = c.deref_mut-state.ensures.value in
    let shown = ap growing_view same ∙ c.self.view_is in
    let has = subst IsExtender (sym same) c.self.invariant in
    let held = subst IsAllBuffered (sym shown) c.requires.held in
    let room = subst (λ (v : GrowingList). c.args.at + length c.args.bytes.now < v.geometry.block_size) (sym shown) c.requires.room in
    let filled : ℕ = c.max-state.result in
    let new : GrowingList = growing_view (record e { buffer = c.overwrite_buffer_bytes.new.all; filled = filled; size = filled }) in
    let front = rest_at c.overwrite_buffer_bytes.new.all.items e.front.count filled held.none in
    let rest = front ∙ put_is e c.args.at _ _ c.args.bytes.now _ _ has held.none room c.max-from.ensures c.max-state.ensures c.fill_buffer_range.ensures c.overwrite_buffer_bytes.ensures in
    subst (λ (v : GrowingList). HasBufferedBytes v.geometry new (with_bytes v.rest c.args.at c.args.bytes.now)) shown
    (is_holding e.geometry new _ refl (omega (arith, ap length front, ap pointer_count held.none, length-take filled c.overwrite_buffer_bytes.new.all.items, c.max-state.ensures, has.in_step.high, room)) rest (record { held = held.held; none = held.none }))
