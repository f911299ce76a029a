use Rattle.std.proofs.Common.{Global, Vec, ℕ, ◌≡◌, ◌≤◌, ◌-◌, ◌*◌, List, length, take, drop, sym, ap, subst, ◌∙◌, arith, length-drop, replicate, rules}
use Rattle.lfs_file.proofs.Common.{common_steps, with_items, length-take-le, length-replicate, take-take, with_items_is, length-overwritten, block_bytes, overwritten_at, blocks_to_head, pointer_count, IsExtender, growing_view, GrowingList, AreKnownBlocks}
use Rattle.lfs_file.specs.declared.extender.ExtenderState.{ExtenderState}
use Rattle.lfs_file.specs.FewReads.{WritesLastFew}
use Rattle.lfs_file.proofs.Rests.{after_write, lent}
use Rattle.lfs_file.proofs.Filling.{rest_kept}
use Rattle.lfs_file.proofs.extender.Extender.write_last_block.Goals as goal

pub write_block-requires : goal.write_block-requires
write_block-requires g c = record {
  follows = search rules;
  known = subst (λ (v : GrowingList). AreKnownBlocks (blocks_to_head (g.D.BlockDevice.blocks c.args.dev.now) v.full v.head) v.known) (sym (ap growing_view c.deref_mut-state.ensures.value ∙ c.self.view_is)) c.requires.known;
  size = grind (arith, common_steps);
  large = grind (arith, common_steps);
  pages = search rules;
  room = search rules;
  pointers = search rules;
}

-- the buffer is one block still
one_block : (e : ExtenderState) (all : Vec ℕ Global) (buf : List ℕ) (end : ℕ) → IsExtender e → e.filled ≤ end → end ≤ e.geometry.block_size → all.items ≡ overwritten_at e.buffer.items e.filled (replicate (end - e.filled) 255)
    → length buf ≡ length all.items → length (with_items all buf).items ≡ e.geometry.block_size
one_block e all buf end has low within is long =
    let padding = length-overwritten e.buffer.items e.filled (replicate (end - e.filled) 255) (omega (arith, length-replicate {A = ℕ} (end - e.filled) 255, has.one_block)) in
    ap length (with_items_is all buf (omega (arith, long, all.ok.0))) ∙ omega (arith, long, ap length is, padding, has.one_block)

pub invariant_of-self : goal.invariant_of-self
invariant_of-self g c =
    let e = c.deref_mut-state.result.now in
    let has = lent c.deref_mut-state.ensures.value c.self.invariant in
    let end : ℕ = c.next_multiple_of-end.result in
    let low = c.next_multiple_of-end.ensures.lower_bound in
    let within : end ≤ e.geometry.block_size = search rules in
    after_write e _ c.write_block.new.front has
    (one_block e c.fill_buffer_range.new.all c.write_block.new.buf end has low within c.fill_buffer_range.ensures (omega (arith, c.write_block.auto.buf, ap length c.as_mut_slice-buffer.ensures.value)))
    c.write_block.ensures.front.count c.write_block.ensures.front.below

pub invariant_of-self-2 : goal.invariant_of-self-2
invariant_of-self-2 g c =
    let e = c.deref_mut-state.result.now in
    let has = lent c.deref_mut-state.ensures.value c.self.invariant in
    let end : ℕ = c.next_multiple_of-end.result in
    let low = c.next_multiple_of-end.ensures.lower_bound in
    let within : end ≤ e.geometry.block_size = search rules in
    after_write e _ c.write_block.new.front has
    (one_block e c.fill_buffer_range.new.all c.write_block.new.buf end has low within c.fill_buffer_range.ensures (omega (arith, c.write_block.auto.buf, ap length c.as_mut_slice-buffer.ensures.value)))
    c.write_block.ensures.front.count c.write_block.ensures.front.below

pub returns-clause-few : goal.returns-clause-few
returns-clause-few g c =
    let read = c.in_ok-write_block.ensures.calls.few in
    subst (λ (v : GrowingList). WritesLastFew v (g.D.BlockDevice.history c.args.dev.now) (g.D.BlockDevice.history c.write_block.new.dev)) (ap growing_view c.deref_mut-state.ensures.value ∙ c.self.view_is)
    (record { few = read.few; none = λ all. (read.none all).1 })

pub returns-clause-block : goal.returns-clause-block
returns-clause-block g c = record {
  appended = search rules;
  held =
      let e = c.deref_mut-state.result.now in
      let same = c.deref_mut-state.ensures.value in
      let has = lent same c.self.invariant in
      let p : ℕ = 4 * pointer_count e.front.count in
      let k : ℕ = e.filled - p in
      let end : ℕ = c.next_multiple_of-end.result in
      let low = c.next_multiple_of-end.ensures.lower_bound in
      let within : end ≤ e.geometry.block_size = search rules in
      let rest = length-take-le k (drop p e.buffer.items) (omega (arith, has.one_block, has.in_step.high, length-drop p e.buffer.items)) in
      let padding : List ℕ = replicate (end - e.filled) 255 in
      let block : List ℕ = block_bytes (g.D.BlockDevice.blocks c.write_block.new.dev) c.args.block in
      subst (λ (v : GrowingList). take (length v.rest) (drop (4 * pointer_count v.full) block) ≡ v.rest) (ap growing_view same ∙ c.self.view_is)
      (ap (λ n. take n (drop p block)) rest
      ∙ sym (take-take k (end - p) (drop p block) (omega arith))
      ∙ ap (take k) (c.in_ok-write_block.ensures.block.held ∙ ap (λ (l : List ℕ). take (end - p) (drop p l)) (c.as_mut_slice-buffer.ensures.value ∙ c.fill_buffer_range.ensures))
      ∙ take-take k (end - p) _ (omega arith)
      ∙ rest_kept e.buffer.items padding p e.filled has.in_step.low (omega (arith, length-replicate {A = ℕ} (end - e.filled) 255, has.one_block)));
}
