use Rattle.std.proofs.Common.{refl, ℕ, ◌-◌, ◌*◌, take, drop, ◌<◌, length, ap, subst, sym, ◌∙◌, arith}
use Rattle.lfs_file.proofs.Common.{pointer_count, HasBufferedBytes, growing_view, GrowingList}
use Rattle.lfs_file.specs.declared.block.FullBlocks.{FullBlocks}
use Rattle.lfs_file.specs.declared.rest.RestLocation.TheVariants.{Held}
use Rattle.lfs_file.proofs.Memories.{held_front}
use Rattle.lfs_file.proofs.Stands.{is_holding}
use Rattle.lfs_file.proofs.extender.Extender.replace_buffered.Goals as goal

pub returns : goal.returns
returns c =
    let e = c.deref_mut-state.result.now in
    let shown = ap growing_view c.deref_mut-state.ensures.value ∙ c.self.view_is in
    let room = subst (λ (v : GrowingList). length c.args.bytes.now < v.geometry.block_size) (sym shown) c.requires in
    let none = ap (λ (f : FullBlocks). f.count) c.new-state.ensures.made in
    let items = c.overwrite_buffer_bytes.new.all.items in
    let size : ℕ = length c.args.bytes.now in
    let rest =
    ap (λ n. take (size - 4 * pointer_count n) (drop (4 * pointer_count n) items)) none
    ∙ held_front e.buffer.items c.overwrite_buffer_bytes.new.all.items c.args.bytes.now c.overwrite_buffer_bytes.ensures in
    let new : GrowingList = growing_view (record e { buffer = c.overwrite_buffer_bytes.new.all; front = c.new-state.result; filled = length c.args.bytes.now; size = length c.args.bytes.now; stand = Held }) in
    subst (λ (v : GrowingList). HasBufferedBytes v.geometry new c.args.bytes.now) shown
    (is_holding e.geometry new _ refl (omega (arith, ap length rest, room, ap pointer_count none)) rest (record { held = refl; none = none }))
