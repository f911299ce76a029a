use Rattle.std.proofs.Common.{refl, ℕ, ◌≡◌, ◌≤◌, length, take, sym, ◌∙◌, ap, subst, arith}
use Rattle.lfs_file.proofs.Common.{length-take-le, pointer_count, HasBufferedBytes, IsExtender, growing_view, GrowingList, IsAllBuffered}
use Rattle.lfs_file.specs.declared.extender.ExtenderState.{ExtenderState}
use Rattle.lfs_file.proofs.Memories.{cut_bytes, rest_at}
use Rattle.lfs_file.proofs.Rests.{rest_long}
use Rattle.lfs_file.proofs.Stands.{is_holding}
use Rattle.lfs_file.proofs.extender.Extender.truncate_buffered.Goals as goal

-- the first bytes
module _ (e : ExtenderState) (has : IsExtender e) (len : ℕ) (held : IsAllBuffered (growing_view e)) (within : len ≤ length (growing_view e).rest) where
  fits : len ≤ e.filled
  fits = omega (arith, rest_long e has)

  front : take len e.buffer.items ≡ take len (growing_view e).rest
  front = cut_bytes e.buffer.items e.filled len fits ∙ ap (take len) (sym (rest_at e.buffer.items e.front.count e.filled held.none))

  pub is_cut : HasBufferedBytes e.geometry (growing_view (record e { filled = len; size = len })) (take len (growing_view e).rest)
  is_cut =
      let rest = rest_at e.buffer.items e.front.count len held.none ∙ front in
      is_holding e.geometry (growing_view (record e { filled = len; size = len })) _ refl
      (omega (arith, ap length rest, length-take-le len (growing_view e).rest within, fits, has.in_step.high, ap pointer_count held.none)) rest (record { held = held.held; none = held.none })

pub returns : goal.returns
returns c =
    let e = c.deref_mut-state.result.now in
    let same = c.deref_mut-state.ensures.value in
    let shown = ap growing_view same ∙ c.self.view_is in
    subst (λ (v : GrowingList). HasBufferedBytes v.geometry (growing_view (record e { filled = c.args.len; size = c.args.len })) (take c.args.len v.rest)) shown
    (is_cut e (subst IsExtender (sym same) c.self.invariant) c.args.len (subst IsAllBuffered (sym shown) c.requires.held) (subst (λ (v : GrowingList). c.args.len ≤ length v.rest) (sym shown) c.requires.within))
