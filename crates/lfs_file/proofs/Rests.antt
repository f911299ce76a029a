-- The bytes of an extender's partial block.
use Rattle.std.proofs.Common.{Global, Vec, ℕ, ◌≡◌, ◌<◌, ◌+◌, ◌-◌, ◌*◌, ◌^◌, length, drop, sym, subst, arith, length-drop}
use Rattle.lfs_file.proofs.Common.{length-take-le, pointer_count, IsExtender, growing_view, CountsAgree, OnlyBelowKnown, GrowingList, IsRestShort, growing_size}
use Rattle.lfs_file.specs.declared.block.FullBlocks.{FullBlocks}
use Rattle.lfs_file.specs.declared.extender.ExtenderState.{ExtenderState}

-- how many there are
pub rest_long : (e : ExtenderState) → IsExtender e → length (growing_view e).rest + 4 * pointer_count e.front.count ≡ e.filled
rest_long e has =
    let p : ℕ = 4 * pointer_count e.front.count in
    omega (arith, length-take-le (e.filled - p) (drop p e.buffer.items) (omega (arith, has.one_block, has.in_step.high, length-drop p e.buffer.items)), has.in_step.low)

-- the invariant of a state that is lent
pub lent : {e f : ExtenderState} → e ≡ f → IsExtender f → IsExtender e
lent same has = subst IsExtender (sym same) has

-- and of one from whose buffer a block was written
pub after_write : (e : ExtenderState) (buffer : Vec ℕ Global) (front : FullBlocks) → IsExtender e → length buffer.items ≡ e.geometry.block_size → front.count ≡ e.front.count
    → (OnlyBelowKnown e.front.count e.front.known → OnlyBelowKnown front.count front.known) → IsExtender (record e { buffer = buffer; front = front })
after_write e buffer front has size same below = record {
  one_block = size;
  in_step = subst (λ n. CountsAgree e.geometry.block_size n e.filled e.size) (sym same) has.in_step;
  known = below has.known;
}

-- they do not fill a block, and the size counts them
pub record IsCounted (g : GrowingList) (size : ℕ) : Type 0 where
  pub short : IsRestShort g.geometry.block_size g
  pub sum : size ≡ growing_size g
  pub fits : size < 2 ^ 31

pub counted : (e : ExtenderState) (g : GrowingList) → IsExtender e → growing_view e ≡ g → IsCounted g e.size
counted e g has is =
    let rest = rest_long e has in
    subst (λ (v : GrowingList). IsCounted v e.size) is
    (record { short = omega (arith, rest, has.in_step.high); sum = omega (arith, rest, has.in_step.sum); fits = has.in_step.fits })
