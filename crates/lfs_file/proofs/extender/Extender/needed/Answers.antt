use Rattle.std.proofs.Common.{ℕ, suc, ◌≡◌, ◌+◌, ◌-◌, ◌*◌, ◌<◌, ◌≤◌, length, drop, sym, ap, subst, ◌∙◌, arith}
use Rattle.lfs_file.proofs.Common.{length-take, pointer_count, IsExtender, growing_view, GrowingList, growing_size, appended_count, unwritten_rest_block}
use Rattle.lfs_file.proofs.Sizes.{bytes_before_block-least, skip_list_block_count-above, skip_list_block_count-within}
use Rattle.lfs_file.specs.declared.extender.ExtenderState.{ExtenderState}
use Rattle.lfs_file.specs.declared.rest.RestLocation.{RestLocation}
use Rattle.lfs_file.specs.declared.rest.RestLocation.TheVariants.{Closed, Shared, Handed, Held}
use Rattle.lfs_file.proofs.extender.Extender.needed.Goals as goal
use Rattle.lfs_file.proofs.extender.Extender.needed.Goals.{in-Handed, in_default}

few_pending : (t : RestLocation) (full all : ℕ) → full < all → full + length (unwritten_rest_block t) ≤ all
few_pending Closed full all lt = omega arith
few_pending (Shared b) full all lt = omega arith
few_pending (Handed b) full all lt = omega arith
few_pending Held full all lt = omega arith

pub overflow_add-result : goal.overflow_add-result
overflow_add-result c =
    let e = c.deref-state.result.now in
    let step = (subst IsExtender (sym c.deref-state.ensures) c.self.invariant).in_step in
    let few = bytes_before_block-least e.geometry.block_size e.front.count e.geometry.valid.no_smaller in
    let sum = step.sum in
    let fits = step.fits in
    elim c.match-state.branch [ in-Handed w ↦ omega arith | in_default w ↦ omega arith ]

pub overflow_sub-result : goal.overflow_sub-result
overflow_sub-result c =
    let e = c.deref-state.result.now in
    let sum = (subst IsExtender (sym c.deref-state.ensures) c.self.invariant).in_step.sum in
    let some = c.requires.some in
    let more = skip_list_block_count-above e.geometry.block_size (e.size + c.args.n) e.front.count e.geometry.valid.no_smaller (omega arith) in
    elim c.match-state.branch [ in-Handed w ↦ omega (arith, c.blocks_for.ensures) | in_default w ↦ omega (arith, c.blocks_for.ensures) ]

pub returns-clause-within : goal.returns-clause-within
returns-clause-within c =
    let v : GrowingList = c.args.self.now in
    few_pending v.stand v.full _ (skip_list_block_count-above v.geometry.block_size (growing_size v + c.args.n) v.full v.geometry.valid.no_smaller (let some = c.requires.some in omega arith))

none_needed : (e : ExtenderState) (n : ℕ) → IsExtender e → length (unwritten_rest_block e.stand) ≡ 1 → n ≤ e.geometry.block_size - e.filled → 0 ≡ appended_count (growing_view e) n
none_needed e n has one fits =
    let step = has.in_step in
    let low = step.low in
    let high = step.high in
    let rest = length-take (e.filled - 4 * pointer_count e.front.count) (drop (4 * pointer_count e.front.count) e.buffer.items) in
    let within = skip_list_block_count-within e.geometry.block_size (growing_size (growing_view e) + n) (suc e.front.count) e.geometry.valid.no_smaller (omega arith) in
    omega arith

pub returns-then-n-state-clause-count : goal.returns-then-n-state-clause-count
returns-then-n-state-clause-count c =
    let test = c.if-begun-eq1.true in
    let same = c.deref-state.ensures in
    subst (λ (g : GrowingList). 0 ≡ appended_count g c.args.n) (ap growing_view same ∙ c.self.view_is)
    (none_needed c.deref-state.result.now c.args.n (subst IsExtender (sym same) c.self.invariant) (elim c.match-state.branch [ in-Handed w ↦ ap (λ t. length (unwritten_rest_block t)) w.in-Handed.is | in_default w ↦ absurd (omega (arith, w.begun-is)) ]) c.if-n-state.true)

pub returns-then-n-state-clause-within : goal.returns-then-n-state-clause-within
returns-then-n-state-clause-within c =
    let v : GrowingList = c.args.self.now in
    few_pending v.stand v.full _ (skip_list_block_count-above v.geometry.block_size (growing_size v + c.args.n) v.full v.geometry.valid.no_smaller (let some = c.requires.some in omega arith))
