use Rattle.std.proofs.Common.{ℕ, ◌≡◌, ◌≤◌, ◌+◌, ◌-◌, ◌*◌, ◌++◌, List, length, take, drop, ap, ◌∙◌, arith}
use Rattle.lfs_file.proofs.Common.{length-take-le, w32, from_le_bytes, Blocks, block_bytes, pointer_count, word_at, ArePointersCopied}
use Rattle.std.proofs.lemmas.Slice.{drop-append-drop}
use Rattle.lfs_file.proofs.Sizes.{pointer_count-le}
use Rattle.lfs_file.proofs.Words.{word_at-written}
use Rattle.lfs_file.proofs.way.copy_pointers.Goals as goal

noted : (d : Blocks) (block index n : ℕ) (old new : List ℕ) → n ≡ pointer_count index → 4 * n ≤ length (block_bytes d block) → new ≡ take 0 old ++ (take (4 * n) (drop 0 (block_bytes d block)) ++ drop (0 + 4 * n) old)
    → ArePointersCopied d block index old new
noted d block index n old new is room read = record {
  own = λ k less. ap (λ (l : List ℕ). word_at l (4 * k)) read ∙ word_at-written (block_bytes d block) (drop (0 + 4 * n) old) (4 * n) (4 * k) room (omega arith);
  others = λ k more less. ap (λ (l : List ℕ). word_at l (4 * k)) read
      ∙ ap (λ e. word_at (take (4 * n) (block_bytes d block) ++ drop e old) (4 * k)) (let s : 0 + 4 * n ≡ 4 * n = omega arith in s)
      ∙ ap (λ (l : List ℕ). from_le_bytes w32 (take (4 * k + 4 - 4 * k) l)) (drop-append-drop (4 * n) old (take (4 * n) (block_bytes d block)) (4 * k) (omega arith) (length-take-le (4 * n) (block_bytes d block) room));
}

pub returns-clause-noted : goal.returns-clause-noted
returns-clause-noted g c =
    let shape = g.met.D.BlockDevice.shape c.args.dev.now in
    let few = pointer_count-le c.args.index in
    let sizes = shape.sizes c.args.block (omega (arith, c.requires.in_device, shape.count)) in
    let room : 4 * c.pointer_count_at.result ≤ length (block_bytes (g.D.BlockDevice.blocks c.args.dev.now) c.args.block) =
    omega (arith, sizes, (g.D.BlockDevice.geometry c.args.dev.now).valid.no_smaller, few, c.pointer_count_at.ensures) in
    noted (g.D.BlockDevice.blocks c.args.dev.now) c.args.block c.args.index c.pointer_count_at.result c.args.words.now _ c.pointer_count_at.ensures room c.in_ok-read_into_range.ensures.bytes
