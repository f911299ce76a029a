use Rattle.std.proofs.Common.{rules, ℕ, ◌≡◌, ◌≤◌, ◌+◌, ◌-◌, ◌*◌, ◌%◌, ◌^◌, ◌++◌, length, take, drop, slice_index, slice_set, refl, sym, ap, subst, ◌∙◌, arith}
use Rattle.lfs_file.proofs.Common.{w32, trailing_zeros, one_shl, one-le-pow, length-set, err_from_is_err_and, Blocks, block_bytes, AreListBlocks, blocks_to_head, word_at, IsIndexVisited, HasNotedWalk}
use Rattle.lfs_device.specs.declared.geometry.Geometry.{Geometry}
use Rattle.lfs_file.specs.declared.way.WalkedBlocks.{WalkedBlocks}
use Rattle.lfs_file.proofs.Called.{list_corrupt, list_io, list_ok, not_read, quiet, read_on, reported_on}
use Rattle.lfs_file.proofs.Chains.{head_of_back, in_range_at, pointer_at}
use Rattle.lfs_file.proofs.Walked.{power_small}
use Rattle.lfs_file.proofs.Ways.{goes_on, note_more, nothing_noted, visit_count-le, one_on}
use Rattle.lfs_file.proofs.way.find_first_block.Goals as goal

pub loop-at-init : goal.loop-at-init
loop-at-init g c = record {
  high = omega arith;
  on = λ some. (let one : 1 ≤ 2 ^ trailing_zeros w32 c.args.last = one-le-pow (trailing_zeros w32 c.args.last) 2 (omega arith) in omega arith);
  found = λ chain. sym (head_of_back (g.D.BlockDevice.blocks c.args.dev.now) c.args.last c.args.head);
  noted = nothing_noted (g.D.BlockDevice.blocks c.args.dev.now) c.args.head c.args.last c.args.way.now;
  blocks_room = search rules;
  words_room = search rules;
  device = not_read g.D.BlockDevice c.args.dev.now;
  quiet = refl;
  few = omega arith;
}

-- a block of a list is one of the device
there : (d : Blocks) (last head at block count : ℕ) → length d ≡ count → AreListBlocks d (last + 1) head → at ≤ last → block ≡ slice_index (blocks_to_head d (last + 1) head) at → count ≤ block → ⊥
there d last head at block count len chain le is past = let lt = in_range_at d (last + 1) head at chain (omega arith) in omega (arith, lt, is)

pub returns-then-block-count-clause-corrupt : goal.returns-then-block-count-clause-corrupt
returns-then-block-count-clause-corrupt g c is chain =
    let inv = c.loop-at.invariant in
    let shape = g.met.D.BlockDevice.shape c.args.dev.now in
    there _ _ _ c.loop-at.at _ _ (shape.count ∙ ap (λ (k : Geometry). k.block_count) (sym c.geometry-count.ensures)) chain inv.high (inv.found chain) c.if-block-count.true

pub returns-then-block-count-clause-reading : goal.returns-then-block-count-clause-reading
returns-then-block-count-clause-reading g c = list_corrupt g.D.BlockDevice c.loop-at.invariant.device c.loop-at.invariant.quiet

pub read_into_range-requires-clause-in_device : goal.read_into_range-requires-clause-in_device
read_into_range-requires-clause-in_device g c =
    omega (arith, ap (λ (k : Geometry). k.block_count) c.geometry-count.ensures, ap (λ (k : Geometry). k.block_count) c.loop-at.invariant.device.geometry)

pub returns-in_err-read_into_range-clause-reading : goal.returns-in_err-read_into_range-clause-reading
returns-in_err-read_into_range-clause-reading g c =
    let inv = c.loop-at.invariant in
    let read = c.in_err-read_into_range.ensures in
    let p = err_from_is_err_and c.from_residual.result c.from_residual.ensures.1 in
    rw (p.1, p.2) (list_io g.D.BlockDevice (read_on g.D.BlockDevice inv.device c.read_into_range.ensures.reading.device) (reported_on g.D.BlockDevice inv.quiet read.reading.reports.faults) read.reading.reports.errors)

-- the step
stride : (g : _) (c : goal.After-word_of_slice-block g) → 1 * 2 ^ trailing_zeros w32 c.loop-at.at % 4294967296 ≡ 2 ^ trailing_zeros w32 c.loop-at.at
stride g c = one_shl (trailing_zeros w32 c.loop-at.at) 32 (power_small c.loop-at.at (trailing_zeros w32 c.loop-at.at) (omega arith) (omega arith) (omega arith)).1

pub overflow_sub-at : goal.overflow_sub-at
overflow_sub-at g c =
    let s = stride g c in
    let small = power_small c.loop-at.at (trailing_zeros w32 c.loop-at.at) (omega arith) (omega arith) (omega arith) in
    omega (arith, small.0)

pub loop-at-preserved : goal.loop-at-preserved
loop-at-preserved g c =
    let inv = c.loop-at.invariant in
    let old : Blocks = g.D.BlockDevice.blocks c.args.dev.now in
    let at : ℕ = c.loop-at.at in
    let z : ℕ = trailing_zeros w32 at in
    let last : ℕ = c.args.last in
    let s = stride g c in
    let small = power_small at z (omega arith) (omega arith) (omega arith) in
    let shape = g.met.D.BlockDevice.shape c.args.dev.now in
    let on : IsIndexVisited last at = inv.on (omega arith) in
    let next : at - 1 * 2 ^ z % 4294967296 ≡ at - 2 ^ z = ap (λ n. at - n) s in
    let room : 4 * (z + 1) ≤ length (block_bytes old c.loop-at.block) =
    (let count = ap (λ (k : Geometry). k.block_count) c.geometry-count.ensures in
    omega (arith, small.1, shape.sizes c.loop-at.block (omega (arith, count)), (g.D.BlockDevice.geometry c.args.dev.now).valid.no_smaller)) in
    let is = c.in_ok-read_into_range.ensures.bytes ∙ ap (λ d. take (128 * z) c.loop-at.way.words ++ (take (4 * (z + 1)) (drop 0 (block_bytes d c.loop-at.block)) ++ drop (128 * z + 4 * (z + 1)) c.loop-at.way.words)) inv.device.same in
    let more = note_more old c.args.head last at c.loop-at.block c.loop-at.way c.read_into_range.new.buf (drop (128 * z + 4 * (z + 1)) c.loop-at.way.words) (omega arith) (omega arith) inv.high on inv.noted
    inv.blocks_room inv.words_room room is inv.found in
    let way : WalkedBlocks = record { blocks = slice_set c.loop-at.way.blocks z c.loop-at.block; words = c.read_into_range.new.buf } in
    record {
      high = (let h = inv.high in omega arith);
      on = λ some. subst (IsIndexVisited last) (sym next) (goes_on last at (omega arith) (omega arith) inv.high on (omega (arith, next)));
      found = λ chain. c.word_of_slice-block.ensures
          ∙ more.words at z (omega (arith, small.0)) inv.high on (omega arith)
          ∙ ap (λ b. word_at (block_bytes old b) (4 * z)) (more.blocks chain at (omega (arith, small.0)) inv.high on)
          ∙ pointer_at old last c.args.head at z chain (omega arith) inv.high (omega arith) (slice_index (blocks_to_head old (last + 1) c.args.head) at) refl
          ∙ ap (slice_index (blocks_to_head old (last + 1) c.args.head)) (sym next);
      noted = subst (λ k. HasNotedWalk old c.args.head last k way) (sym next) more;
      blocks_room = length-set c.loop-at.way.blocks z c.loop-at.block ∙ inv.blocks_room;
      words_room = c.read_into_range.auto.buf ∙ inv.words_room;
      device = read_on g.D.BlockDevice inv.device c.read_into_range.ensures.reading.device;
      quiet = quiet g.D.BlockDevice c.in_ok-read_into_range.ensures.reading.reports.faults ∙ inv.quiet;
      few =
          let one = one_on last at (omega arith) on in
          let less = visit_count-le last (at - 1 * 2 ^ z % 4294967296) (at - 1) (omega (arith, next, small.0, one-le-pow z 2 (omega arith))) in
          let once = c.read_into_range.ensures.few in
          let so_far = inv.few in
          omega arith;
    }

pub returns-then-block-count-2-clause-corrupt : goal.returns-then-block-count-2-clause-corrupt
returns-then-block-count-2-clause-corrupt g c is chain =
    let inv = c.loop-at.invariant in
    let shape = g.met.D.BlockDevice.shape c.args.dev.now in
    there _ _ _ c.loop-at.at _ _ (shape.count ∙ ap (λ (k : Geometry). k.block_count) (sym c.geometry-count.ensures)) chain inv.high (inv.found chain) c.if-block-count-2.true

pub returns-then-block-count-2-clause-reading : goal.returns-then-block-count-2-clause-reading
returns-then-block-count-2-clause-reading g c = list_corrupt g.D.BlockDevice c.loop-at.invariant.device c.loop-at.invariant.quiet

pub returns-clause-found : goal.returns-clause-found
returns-clause-found g c chain = c.loop-at.invariant.found chain ∙ ap (slice_index _) (let e : c.loop-at.at ≡ 0 = omega arith in e)

pub returns-clause-noted : goal.returns-clause-noted
returns-clause-noted g c =
    subst (λ k. HasNotedWalk (g.D.BlockDevice.blocks c.args.dev.now) c.args.head c.args.last k c.loop-at.way) (let e : c.loop-at.at ≡ 0 = omega arith in e) c.loop-at.invariant.noted

pub returns-clause-reading : goal.returns-clause-reading
returns-clause-reading g c = list_ok g.D.BlockDevice c.loop-at.invariant.device c.loop-at.invariant.quiet

pub returns-clause-few : goal.returns-clause-few
returns-clause-few g c = let few = c.loop-at.invariant.few in omega arith
