use Rattle.std.proofs.Common.{ℕ, ◌≡◌, ◌+◌, ◌-◌, ◌≤◌, ◌++◌, List, length, take, drop, ap, ap₂, ◌∙◌, arith, length-drop}
use Rattle.lfs_file.proofs.Common.{append-nil, drop_all, drop-drop}
use Rattle.std.proofs.lemmas.List.{take_rest}
use Rattle.byteorder.specs.Endian.{little_bytes}
use borrow.Rule.Slice.PartMut.{put_mid}
use Rattle.lfs_file.proofs.block.write_word.Goals as goal

put_is : (at word : ℕ) (buf new : List ℕ) → at + 4 ≤ length buf → new ≡ little_bytes 4 word ++ drop 4 (take (length buf - at) (drop at buf))
    → put_mid at (length buf - at) buf new ≡ take at buf ++ (little_bytes 4 word ++ drop (at + 4) buf)
put_is at word buf new room is =
    ap₂ (λ (x y : List ℕ). take at buf ++ (x ++ y)) (is ∙ ap (λ (l : List ℕ). little_bytes 4 word ++ drop 4 l) (take_rest buf at) ∙ ap (λ (l : List ℕ). little_bytes 4 word ++ l) (drop-drop 4 at buf))
    (drop_all (length buf - at) (drop at buf) (omega (arith, length-drop at buf)))
    ∙ ap (λ (l : List ℕ). take at buf ++ l) (append-nil (little_bytes 4 word ++ drop (at + 4) buf))

pub returns : goal.returns
returns c = put_is c.args.at c.args.word c.args.buf.now c.write_u32.new.buf c.requires c.write_u32.ensures
