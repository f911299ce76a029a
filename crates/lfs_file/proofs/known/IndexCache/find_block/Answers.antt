use Rattle.std.proofs.Common.{ℕ, ◌≡◌, ◌≤◌, ◌<◌, ◌+◌, ◌-◌, ◌*◌, ◌%◌, ◌^◌, min, length, slice_index, refl, sym, ap, subst, ◌∙◌, arith}
use Rattle.lfs_file.proofs.Common.{w32, trailing_zeros, one_shl, one-le-pow, err_from_is_err_and, Blocks, block_bytes, AreListBlocks, word_at, blocks_to_head, AreKnownBlocks}
use Rattle.lfs_device.specs.declared.geometry.Geometry.{Geometry}
use lib.Pow.{pow_mono}
use Rattle.lfs_file.proofs.Back.{FewSteps, no_steps, step_back, few_steps}
use Rattle.lfs_file.proofs.Called.{list_as, list_on, not_read, read_on, quiet}
use Rattle.lfs_file.proofs.Chains.{head_of_back, in_range_at, length_back, pointer_at}
use Rattle.lfs_file.proofs.known.IndexCache.find_block.Goals as goal

-- a block of a list is one of the device
outside : (d : Blocks) (last head at block count : ℕ) → length d ≡ count → AreListBlocks d (last + 1) head → at ≤ last → block ≡ slice_index (blocks_to_head d (last + 1) head) at → count ≤ block → ⊥
outside d last head at block count len chain le is past = let lt = in_range_at d (last + 1) head at chain (omega arith) in omega (arith, lt, is)

pub loop-at-init : goal.loop-at-init
loop-at-init g c = record {
  low = c.nearest_known_block-at.ensures.low;
  high = c.nearest_known_block-at.ensures.high;
  found = λ chain known. c.nearest_known_block-at.ensures.block (blocks_to_head (g.D.BlockDevice.blocks c.args.dev.now) (c.args.last + 1) c.args.head) known (length_back (g.D.BlockDevice.blocks c.args.dev.now) (c.args.last + 1) c.args.head)
      (sym (head_of_back (g.D.BlockDevice.blocks c.args.dev.now) c.args.last c.args.head));
  known = λ chain known. known;
  device = not_read g.D.BlockDevice c.args.dev.now;
  quiet = refl;
  few = λ m lt. (0, (omega arith, no_steps m c.nearest_known_block-at.result.0 c.args.index));
  far = (let k = c.nearest_known_block-at.ensures.high in omega arith);
  near = λ i known low high. (c.nearest_known_block-at.ensures.near i known low high, (let k = c.nearest_known_block-at.ensures.near i known low high in omega arith));
}

pub returns-in_err-block-clause-reading : goal.returns-in_err-block-clause-reading
returns-in_err-block-clause-reading g c =
    let p = err_from_is_err_and c.from_residual.result c.from_residual.ensures.1 in
    rw (p.1, p.2) (list_on g.D.BlockDevice c.loop-at.invariant.device c.loop-at.invariant.quiet (list_as g.D.BlockDevice c.in_err-block.ensures.reading))

pub returns-in_err-block-clause-corrupt : goal.returns-in_err-block-clause-corrupt
returns-in_err-block-clause-corrupt g c =
    let p = err_from_is_err_and c.from_residual.result c.from_residual.ensures.1 in
    rw (p.1, p.2) (λ is chain known.
    let inv = c.loop-at.invariant in
    let past = c.in_err-block.ensures.corrupt is in
    outside _ _ _ c.loop-at.at _ _ (g.met.D.BlockDevice.shape c.args.dev.now).count chain inv.high (inv.found chain known) (omega (arith, past, ap (λ (k : Geometry). k.block_count) inv.device.geometry)))

-- the step
stride : (at skip log : ℕ) → skip ≡ min (trailing_zeros w32 at) log → skip < 32 → 1 * 2 ^ skip % 4294967296 ≡ 2 ^ min (trailing_zeros w32 at) log
stride at skip log is small = one_shl skip 32 small ∙ ap (λ k. 2 ^ k) is

stride-le : (at log way : ℕ) → 2 ^ log ≤ way → 2 ^ min (trailing_zeros w32 at) log ≤ way
stride-le at log way le =
    let least : 2 ^ min (trailing_zeros w32 at) log ≤ 2 ^ log = pow_mono (omega arith) in
    omega arith

pub overflow_sub-at-in-loop-at : goal.overflow_sub-at-in-loop-at
overflow_sub-at-in-loop-at g c =
    let s = stride c.loop-at.at c.min-skip.result c.ilog2.result c.min-skip.ensures (let k = c.ilog2.ensures.bound in omega arith) in
    let l = stride-le c.loop-at.at c.ilog2.result (c.loop-at.at - c.args.index) c.ilog2.ensures.power_le in
    omega arith

pub loop-at-preserved : goal.loop-at-preserved
loop-at-preserved g c =
    let s = stride c.loop-at.at c.min-skip.result c.ilog2.result c.min-skip.ensures (let k = c.ilog2.ensures.bound in omega arith) in
    let l = stride-le c.loop-at.at c.ilog2.result (c.loop-at.at - c.args.index) c.ilog2.ensures.power_le in
    let inv = c.loop-at.invariant in
    let old : Blocks = g.D.BlockDevice.blocks c.args.dev.now in
    let at : ℕ = c.loop-at.at in
    let k : ℕ = min (trailing_zeros w32 at) c.ilog2.result in
    let one = c.read_block_pointer.ensures.few in
    let less : 1 ≤ 2 ^ k = one-le-pow k 2 (omega arith) in
    let next : AreListBlocks old (c.args.last + 1) c.args.head → AreKnownBlocks (blocks_to_head old (c.args.last + 1) c.args.head) c.args.self.now → c.in_ok-block.block ≡ slice_index (blocks_to_head old (c.args.last + 1) c.args.head) (at - 1 * 2 ^ c.min-skip.result % 4294967296) = λ chain known.
    c.in_ok-block.ensures.word
    ∙ ap (λ d. word_at (block_bytes d c.loop-at.block) (4 * c.min-skip.result)) inv.device.same
    ∙ pointer_at old c.args.last c.args.head at c.min-skip.result chain (omega arith) inv.high (let e = c.min-skip.ensures in omega arith) c.loop-at.block (inv.found chain known)
    ∙ ap (λ n. slice_index (blocks_to_head old (c.args.last + 1) c.args.head) (at - n)) (ap (λ n. 2 ^ n) c.min-skip.ensures ∙ sym s) in
    record {
      low = omega arith;
      high = (let h = inv.high in omega arith);
      found = next;
      known = λ chain known. c.note.ensures.blocks (blocks_to_head old (c.args.last + 1) c.args.head) (inv.known chain known) (next chain known);
      device = read_on g.D.BlockDevice inv.device c.read_block_pointer.ensures.reading.device;
      quiet = quiet g.D.BlockDevice c.in_ok-block.ensures.reading.faults ∙ inv.quiet;
      few = λ m lt.
          let steps = inv.few m lt in
          let next = step_back m at c.args.index steps.0 (omega arith) (let h = inv.high in omega arith) c.ilog2.result steps.1.1 (omega arith) c.ilog2.ensures.power_le c.ilog2.ensures.next_power_gt in
          (steps.0 + 1, (omega arith, subst (λ n. FewSteps m (at - n) c.args.index (steps.0 + 1)) (sym s) next));
      far = (let so_far = inv.far in omega (arith, so_far, one, s, l, less));
      near = λ i known low high.
          let so_far = inv.near i known low high in
          (omega (arith, so_far.0), omega (arith, so_far.0, so_far.1, one, s, l, less));
    }

pub returns-then-block-geometry-clause-corrupt : goal.returns-then-block-geometry-clause-corrupt
returns-then-block-geometry-clause-corrupt g c is chain known =
    let inv = c.loop-at.invariant in
    outside _ _ _ c.loop-at.at _ _ (g.met.D.BlockDevice.shape c.args.dev.now).count chain inv.high (inv.found chain known) (omega (arith, ap (λ (k : Geometry). k.block_count) c.geometry.ensures, ap (λ (k : Geometry). k.block_count) inv.device.geometry))

pub returns-clause-few : goal.returns-clause-few
returns-clause-few g c =
    let inv = c.loop-at.invariant in
    record {
      now = c.note-2.ensures.known;
      far = (let so_far = inv.far in omega (arith, so_far, inv.low));
      few = λ m lt.
          let steps = inv.few m lt in
          let few = few_steps m c.loop-at.at c.args.index steps.0 (omega arith) (let h = inv.high in omega arith) steps.1.1 in
          omega arith;
      near = λ i known low high. (let so_far = inv.near i known low high in omega (arith, so_far.0, so_far.1, inv.low));
    }

pub returns-clause-found : goal.returns-clause-found
returns-clause-found g c =
    let inv = c.loop-at.invariant in
    let old : Blocks = g.D.BlockDevice.blocks c.args.dev.now in
    let there : c.loop-at.at ≡ c.args.index = (let low = inv.low in omega arith) in
    let found : AreListBlocks old (c.args.last + 1) c.args.head → AreKnownBlocks (blocks_to_head old (c.args.last + 1) c.args.head) c.args.self.now → c.loop-at.block ≡ slice_index (blocks_to_head old (c.args.last + 1) c.args.head) c.args.index =
    λ chain known. inv.found chain known ∙ ap (slice_index (blocks_to_head old (c.args.last + 1) c.args.head)) there in
    record {
      found = found;
      known = λ chain known. c.note-2.ensures.blocks (blocks_to_head old (c.args.last + 1) c.args.head) (inv.known chain known) (found chain known);
    }
