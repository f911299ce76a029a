use Rattle.std.proofs.Common.{ℕ, slice_index, ◌≡◌, ◌≢◌, ◌<◌, ◌-◌, ◌*◌, ◌%◌, ◌^◌, ap, subst, sym, ◌∙◌, arith, below_more}
use Rattle.lfs_file.proofs.Common.{one_shl, IsKnownIndex, AreKnownBlocks, OnlyBelowKnown, index_row, word_at}
use Rattle.lfs_file.specs.declared.block.FullBlocks.{FullBlocks}
use Rattle.lfs_file.specs.declared.known.IndexCache.{IndexCache}
use Rattle.lfs_file.proofs.Pointed.{pointer_reach, pointers_apart}
use Rattle.lfs_file.proofs.block.FullBlocks.begin_before_block.Goals as goal
use Rattle.lfs_file.proofs.block.FullBlocks.begin_before_block.Goals.{then-k-eq0, else-k-eq0}

pub overflow_sub-index : goal.overflow_sub-index
overflow_sub-index c =
    let far = pointer_reach c.args.index c.loop-k.k (omega arith) (omega arith) in
    omega (arith, one_shl c.loop-k.k 32 (omega (arith, far.1.1)), far.1.0)

pub loop-k-preserved : goal.loop-k-preserved
loop-k-preserved c =
    let inv = c.loop-k.invariant in
    let k : ℕ = c.loop-k.k in
    let index : ℕ = c.args.index in
    let far = pointer_reach index k (omega arith) (omega arith) in
    let back : 1 * 2 ^ k % 4294967296 ≡ 2 ^ k = one_shl k 32 (omega (arith, far.1.1)) in
    let word : c.read_u32-block.result ≡ word_at c.args.bytes.now (4 * k) = omega (arith, c.read_u32-block.ensures) in
    let count : c.if-k-eq0.self.count ≡ c.loop-k.self.count = elim c.if-k-eq0.branch [
      | then-k-eq0 w ↦ ap (λ (f : FullBlocks). f.count) w.self-is
      | else-k-eq0 w ↦ ap (λ (f : FullBlocks). f.count) w.self-is
    ] in
    let known : c.if-k-eq0.self.known ≡ c.loop-k.self.known = elim c.if-k-eq0.branch [
      | then-k-eq0 w ↦ ap (λ (f : FullBlocks). f.known) w.self-is
      | else-k-eq0 w ↦ ap (λ (f : FullBlocks). f.known) w.self-is
    ] in
    let head : c.if-k-eq0.self.head ≡ word_at c.args.bytes.now 0 = elim c.if-k-eq0.branch [
      | then-k-eq0 w ↦ ap (λ (f : FullBlocks). f.head) w.self-is ∙ word ∙ ap (λ n. word_at c.args.bytes.now (4 * n)) (let first : k ≡ 0 = omega (arith, w.if-k-eq0.true) in first)
      | else-k-eq0 w ↦ ap (λ (f : FullBlocks). f.head) w.self-is ∙ inv.head (omega (arith, w.if-k-eq0.false))
    ] in
    let same : (P : IndexCache → Type 0) → P c.loop-k.self.known → P c.if-k-eq0.self.known = λ P. subst P (sym known) in
    let lower = λ (j : ℕ) (less : j < k).
    c.note.ensures.others (index - 2 ^ j) (subst (λ n. index_row (index - 2 ^ j) ≢ index_row (index - n)) (sym back) (pointers_apart index j k (omega arith) less (omega arith)))
    (same (λ v. IsKnownIndex v (index - 2 ^ j)) (inv.pointers j less)) in
    record {
      count = count ∙ inv.count;
      head = λ some. head;
      known = λ all leads. c.note.ensures.blocks all (same (AreKnownBlocks all) (inv.known all leads)) ((let here : c.read_u32-block.result ≡ slice_index all (index - 2 ^ k) = omega (arith, leads k (omega arith), word) in here) ∙ ap (λ n. slice_index all (index - n)) (sym back));
      below = c.note.ensures.below index (omega (arith, back, far.0, far.1.0)) (same (OnlyBelowKnown index) inv.below);
      pointers = below_more (λ j. IsKnownIndex c.note.new.self (index - 2 ^ j)) k lower (subst (λ n. IsKnownIndex c.note.new.self (index - n)) back c.note.ensures.known);
    }
