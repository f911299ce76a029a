use Rattle.std.proofs.Common.{rules, ℕ, ◌≡◌, ◌≤◌, ◌<◌, ◌+◌, ◌-◌, ◌*◌, ◌%◌, ◌^◌, List, length, slice_index, refl, sym, ap, ◌∙◌, arith, below_more, subst, add-one}
use Rattle.lfs_file.proofs.Common.{w32, trailing_zeros, pow-suc, one-le-pow, pow_mono, mul-le, bit_at-trailing_zeros, err_from_is_err_and, IsKnownIndex, Blocks, block_bytes, AreListBlocks, blocks_to_head, pointer_count, word_at}
use Rattle.std.proofs.Common.{drop, Result, Err, ◌⊎◌, inl, inr}
use Rattle.lfs_device.specs.declared.error.Error.{Error}
use Rattle.lfs_file.specs.declared.block.FullBlocks.{FullBlocks}
use Rattle.lfs_file.specs.declared.known.IndexCache.{IndexCache}
use Rattle.lfs_file.proofs.Called.{not_read, read_on, quiet, reported_as, reported_on}
use Rattle.lfs_file.proofs.Sizes.{pointer_count-le}
use Rattle.lfs_device.specs.declared.geometry.Geometry.{Geometry}
use Rattle.lfs_file.proofs.Chains.{head_of_back, in_range_at, length_back, pointer_count-pos}
use Rattle.lfs_file.proofs.Words.{with_word, word_at-with_word, word_at-with_word_above, drop-with_word}
use Rattle.lfs_file.proofs.TrailingZeros.{factor-pos, multiple_of_power, zeros32_before}
use Rattle.lfs_file.proofs.block.write_pointers.Goals as goal

-- the head is the block before one at that index
head_is : (d : Blocks) (n head : ℕ) → 0 < n → head ≡ slice_index (blocks_to_head d n head) (n - 1)
head_is d n head some =
    let e : n - 1 + 1 ≡ n = omega arith in
    sym (subst (λ k. slice_index (blocks_to_head d k head) (n - 1) ≡ head) e (head_of_back d (n - 1) head))

-- each further pointer is found where the one before it leads
next_pointer : (d : Blocks) (n head k to : ℕ) → AreListBlocks d n head → 0 < n → n < 2 ^ 32 → k < trailing_zeros w32 n → to ≡ slice_index (blocks_to_head d n head) (n - 2 ^ k)
    → word_at (block_bytes d to) (4 * k) ≡ slice_index (blocks_to_head d n head) (n - 2 ^ (k + 1))
next_pointer d n head k to chain some low less is =
    let zeros = zeros32_before n k some low less in
    let power = one-le-pow k 2 (omega arith) in
    let many = pointer_count-pos (n - 2 ^ k) zeros.0 in
    let twice : n - 2 ^ k - 2 ^ k ≡ n - 2 ^ (k + 1) = omega (arith, pow-suc 2 k, ap (λ e. 2 ^ e) (add-one k)) in
    ap (λ b. word_at (block_bytes d b) (4 * k)) is ∙ chain.pointers (n - 2 ^ k) k (omega arith) (omega arith) ∙ ap (slice_index (blocks_to_head d n head)) twice

-- a word more
words_more : (buf new : List ℕ) (to k : ℕ) (f : ℕ → ℕ) → new ≡ with_word buf (4 * k) to → 4 * k + 4 ≤ length buf → to < 2 ^ 32 → to ≡ f k → ((j : ℕ) → j < k → word_at buf (4 * j) ≡ f j) → (j : ℕ) → j < k + 1 → word_at new (4 * j) ≡ f j
words_more buf new to k f is room fits here so_far =
    below_more (λ j. word_at new (4 * j) ≡ f j) k
    (λ j less. ap (λ (b : List ℕ). word_at b (4 * j)) is ∙ word_at-with_word_above buf (4 * k) to (4 * j) room (omega arith) ∙ so_far j less)
    (ap (λ (b : List ℕ). word_at b (4 * k)) is ∙ word_at-with_word buf (4 * k) to room fits ∙ here)

only_io : (x : Error) → (x ≡ Error.Io) ⊎ (x ≡ Error.Corrupt) → (◌≡◌ {A = Result ℕ Error} (Err x) (Err Error.Corrupt) → ⊥) → x ≡ Error.Io
only_io x (inl is) other = is
only_io x (inr is) other = absurd (other (ap Err is))

pub loop-k-init : goal.loop-k-init
loop-k-init g c =
    let old : Blocks = g.D.BlockDevice.blocks c.args.dev.now in
    let index : ℕ = c.args.front.now.count in
    let head : ℕ = c.args.front.now.head in
    let is = head_is old index head (omega arith) in
    let many = pointer_count-pos index (omega arith) in
    record {
      at = is;
      words = λ j less. words_more c.args.buf.now c.write_word.new.buf head 0 (λ i. slice_index (blocks_to_head old index head) (index - 2 ^ i)) c.write_word.ensures (omega (arith, c.requires.room)) (omega arith) is (λ i none. absurd (omega arith)) j (omega arith);
      rest = ap (λ (b : List ℕ). drop (4 * pointer_count index) b) c.write_word.ensures ∙ drop-with_word c.args.buf.now 0 head (4 * pointer_count index) (omega (arith, c.requires.room)) (omega arith);
      len = c.write_word.auto.buf;
      front = record { count = refl; head = refl; known = c.requires.known; below = λ below. below };
      few = omega arith;
      none = λ all. (refl, refl);
      device = not_read g.D.BlockDevice c.args.dev.now;
      quiet = refl;
    }

-- how far the next pointer leads back
stride : (n k : ℕ) → 0 < n → n < 2 ^ 32 → k < trailing_zeros w32 n → (2 * 2 ^ k % 4294967296 ≡ 2 ^ (k + 1)) × ((2 ^ (k + 1) ≤ n) × (1 ≤ 2 ^ (k + 1)))
stride n k some low less =
    let few = (bit_at-trailing_zeros w32 n some low).0 in
    let small : 2 ^ (k + 1) ≤ 2 ^ 31 = pow_mono (let le : k + 1 ≤ 31 = omega arith in le) in
    let twice : 2 ^ (k + 1) ≡ 2 ^ k * 2 = ap (λ e. 2 ^ e) (add-one k) ∙ pow-suc 2 k in
    let multiple = multiple_of_power n (k + 1) some low (omega arith) in
    let factor = mul-le 1 (2 ^ (k + 1)) multiple.0 (2 ^ (k + 1)) (factor-pos multiple.0 (2 ^ (k + 1)) n multiple.1 some) (omega arith) in
    let power = one-le-pow (k + 1) 2 (omega arith) in
    (omega arith, (omega (arith, factor, multiple.1), power))

pub overflow_sub-index : goal.overflow_sub-index
overflow_sub-index g c = (let back = stride c.args.front.now.count c.loop-k.k (omega arith) (omega arith) (omega arith) in omega (arith, back.0, back.1.0))

pub block_at_pointer-requires : goal.block_at_pointer-requires
block_at_pointer-requires g c = record {
  pointer = search rules;
  index = (let back = stride c.args.front.now.count c.loop-k.k (omega arith) (omega arith) (omega arith) in omega (arith, back.0, back.1.1));
}

-- what the block that was known or read shows
module _ (d now : Blocks) (front : FullBlocks) (to k back : ℕ) (chain : AreListBlocks d front.count front.head) (low : front.count < 2 ^ 32) (less : k < trailing_zeros w32 front.count) (some : 0 < front.count) (same : now ≡ d) (steps : back ≡ 2 ^ (k + 1))
    (at : to ≡ slice_index (blocks_to_head d front.count front.head) (front.count - 2 ^ k)) where
  abbrev pub all : List ℕ
  all = blocks_to_head d front.count front.head

  pub inside : front.count - back < length all
  inside = (let far = stride front.count k some low less in omega (arith, steps, far.1.1, length_back d front.count front.head))

  pub leads : word_at (block_bytes now to) (4 * k) ≡ slice_index all (front.count - back)
  leads = ap (λ x. word_at (block_bytes x to) (4 * k)) same ∙ next_pointer d front.count front.head k to chain some low less at ∙ ap (λ n. slice_index all (front.count - n)) (sym steps)

pub returns-in_err-to-clause-device : goal.returns-in_err-to-clause-device
returns-in_err-to-clause-device g c = read_on g.D.BlockDevice c.loop-k.invariant.device c.block_at_pointer.ensures.reading.device

pub returns-in_err-to-clause-front : goal.returns-in_err-to-clause-front
returns-in_err-to-clause-front g c =
    let inv = c.loop-k.invariant in
    let old : Blocks = g.D.BlockDevice.blocks c.args.dev.now in
    let far = stride c.args.front.now.count c.loop-k.k (omega arith) (omega arith) (omega arith) in
    let within = inside old _ c.args.front.now c.loop-k.to c.loop-k.k _ c.requires.chain (omega arith) (omega arith) (omega arith) inv.device.same far.0 inv.at in
    record {
      count = inv.front.count;
      head = inv.front.head;
      known = (c.block_at_pointer.ensures.found _ inv.front.known within (leads old _ c.args.front.now c.loop-k.to c.loop-k.k _ c.requires.chain (omega arith) (omega arith) (omega arith) inv.device.same far.0 inv.at)).1;
      below = λ below. c.block_at_pointer.ensures.below c.loop-k.front.count (omega (arith, within, length_back old c.args.front.now.count c.args.front.now.head, inv.front.count)) (inv.front.below below);
    }

pub returns-in_err-to-clause-io : goal.returns-in_err-to-clause-io
returns-in_err-to-clause-io g c =
    let inv = c.loop-k.invariant in
    let p = err_from_is_err_and c.from_residual.result c.from_residual.ensures.1 in
    let shape = g.met.D.BlockDevice.shape c.args.dev.now in
    let index : ℕ = c.args.front.now.count in
    let zeros = zeros32_before index c.loop-k.k (omega arith) (omega arith) (omega arith) in
    let power = one-le-pow c.loop-k.k 2 (omega arith) in
    let lt = in_range_at (g.D.BlockDevice.blocks c.args.dev.now) index c.args.front.now.head (index - 2 ^ c.loop-k.k) c.requires.chain (omega arith) in
    let count = ap (λ (k : Geometry). k.block_count) inv.device.geometry in
    let reported = c.in_err-to.ensures.reading in
    rw (p.1, p.2) (record {
      faults = reported_on g.D.BlockDevice inv.quiet (reported_as g.D.BlockDevice reported.faults);
      errors = only_io _ reported.errors (λ is. let out = c.in_err-to.ensures.corrupt is in omega (arith, out, count, lt, inv.at, shape.count));
    })

pub loop-k-preserved : goal.loop-k-preserved
loop-k-preserved g c =
    let inv = c.loop-k.invariant in
    let old : Blocks = g.D.BlockDevice.blocks c.args.dev.now in
    let index : ℕ = c.args.front.now.count in
    let head : ℕ = c.args.front.now.head in
    let k : ℕ = c.loop-k.k in
    let many = pointer_count-pos index (omega arith) in
    let few = pointer_count-le index in
    let far = stride index k (omega arith) (omega arith) (omega arith) in
    let within = inside old _ c.args.front.now c.loop-k.to k _ c.requires.chain (omega arith) (omega arith) (omega arith) inv.device.same far.0 inv.at in
    let found = c.in_ok-to.ensures.found _ inv.front.known within (leads old _ c.args.front.now c.loop-k.to k _ c.requires.chain (omega arith) (omega arith) (omega arith) inv.device.same far.0 inv.at) in
    let is : c.in_ok-to.to ≡ slice_index (blocks_to_head old index head) (index - 2 ^ (k + 1)) = found.0 ∙ ap (λ n. slice_index (blocks_to_head old index head) (index - n)) far.0 in
    let room = c.requires.room in
    let len = inv.len in
    let one = c.block_at_pointer.ensures.calls.few in
    record {
      at = is;
      words = words_more c.loop-k.buf c.write_word-in-loop-k.new.buf c.in_ok-to.to (k + 1) (λ i. slice_index (blocks_to_head old index head) (index - 2 ^ i)) c.write_word-in-loop-k.ensures (omega arith) (omega arith) is inv.words;
      rest = ap (λ (b : List ℕ). drop (4 * pointer_count index) b) c.write_word-in-loop-k.ensures ∙ drop-with_word c.loop-k.buf (4 * (k + 1)) c.in_ok-to.to (4 * pointer_count index) (omega arith) (omega arith) ∙ inv.rest;
      len = c.write_word-in-loop-k.auto.buf ∙ inv.len;
      front = record {
        count = inv.front.count;
        head = inv.front.head;
        known = found.1;
        below = λ below. c.block_at_pointer.ensures.below c.loop-k.front.count (omega (arith, within, length_back old index head, inv.front.count)) (inv.front.below below);
      };
      few = (let so_far = inv.few in omega arith);
      none = λ all.
          let so_far = inv.none all in
          let known = all (k + 1) (omega arith) in
          let here = c.block_at_pointer.ensures.calls.known (subst (λ n. IsKnownIndex c.loop-k.front.known (index - n)) (sym far.0) (subst (λ (x : IndexCache). IsKnownIndex x (index - 2 ^ (k + 1))) (sym so_far.0) known)) in
          (here.0 ∙ so_far.0, here.1 ∙ so_far.1);
      device = read_on g.D.BlockDevice inv.device c.block_at_pointer.ensures.reading.device;
      quiet = quiet g.D.BlockDevice c.in_ok-to.ensures.reading.faults ∙ inv.quiet;
    }
