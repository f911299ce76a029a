-- Words in a block's bytes.
use Rattle.std.proofs.Common.{ℕ, ◌≡◌, ◌+◌, ◌-◌, ◌≤◌, ◌<◌, ◌^◌, ◌++◌, List, length, take, drop, refl, sym, ap, ◌∙◌, arith}
use Rattle.lfs_file.proofs.Common.{w32, from_le_bytes, drop_at, drop-drop, drop-take, length-take-le, take-append-le, drop-append-le, take-append-drop, take-take, Blocks, block_bytes, overwritten_at, drop-put_mid, word_at}
use Rattle.std.proofs.Common.{length-drop}
use Rattle.lfs_model.proofs.Overwrites.{block_bytes-set}
use Rattle.lfs_model.specs.format.Blocks.{programmed}
use Rattle.std.proofs.lemmas.Slice.{between_is}
use Rattle.std.proofs.lemmas.Nat.{from_le_bytes-to_le_bytes_4}
use Rattle.byteorder.specs.Endian.{little_bytes}

-- bytes with a word over four of them
abbrev pub with_word : List ℕ → ℕ → ℕ → List ℕ
with_word buf at word = take at buf ++ (little_bytes 4 word ++ drop (at + 4) buf)

pub word_at-with_word : (buf : List ℕ) (at word : ℕ) → at + 4 ≤ length buf → word < 2 ^ 32 → word_at (with_word buf at word) at ≡ word
word_at-with_word buf at word room fits =
    let four : at + 4 - at ≡ 4 = omega arith in
    ap (λ k. from_le_bytes w32 (take k (drop at (with_word buf at word)))) four
    ∙ ap (λ (l : List ℕ). from_le_bytes w32 (take 4 l)) (drop_at (take at buf) (little_bytes 4 word ++ drop (at + 4) buf) at (length-take-le at buf (omega arith)))
    ∙ from_le_bytes-to_le_bytes_4 word fits

-- a word before that one stays
pub word_at-with_word_above : (buf : List ℕ) (at word i : ℕ) → at + 4 ≤ length buf → i + 4 ≤ at → word_at (with_word buf at word) i ≡ word_at buf i
word_at-with_word_above buf at word i room below =
    ap (from_le_bytes w32)
    (between_is (with_word buf at word) i (i + 4)
    ∙ ap (drop i) (take-append-le (i + 4) (take at buf) (little_bytes 4 word ++ drop (at + 4) buf) (omega (arith, length-take-le at buf (omega arith))) ∙ take-take (i + 4) at buf below)
    ∙ sym (between_is buf i (i + 4)))

-- and so do the bytes after it
pub drop-with_word : (buf : List ℕ) (at word n : ℕ) → at + 4 ≤ length buf → at + 4 ≤ n → drop n (with_word buf at word) ≡ drop n buf
drop-with_word buf at word n room le =
    ap (λ (l : List ℕ). drop n (take at buf ++ (little_bytes 4 word ++ l))) (sym (drop-drop 4 at buf))
    ∙ drop-put_mid at 4 buf (little_bytes 4 word) n le (omega arith) refl

-- words within bytes that a block begins with
pub word_at-take : (bytes more : List ℕ) (i : ℕ) → i + 4 ≤ length bytes → word_at (bytes ++ more) i ≡ word_at bytes i
word_at-take bytes more i room =
    ap (from_le_bytes w32)
    (between_is (bytes ++ more) i (i + 4) ∙ ap (drop i) (take-append-le (i + 4) bytes more room) ∙ sym (between_is bytes i (i + 4)))

-- a block that was written from its beginning on
pub block_bytes-written : (mid new : Blocks) (block end : ℕ) (bytes buf : List ℕ) → block < length mid → end ≤ length buf → bytes ≡ take end buf → new ≡ programmed mid block 0 bytes
    → block_bytes new block ≡ take end buf ++ drop end (block_bytes mid block)
block_bytes-written mid new block end bytes buf lt room is written =
    let len : length bytes ≡ end = ap length is ∙ length-take-le end buf room in
    ap (λ d. block_bytes d block) written
    ∙ block_bytes-set mid block (overwritten_at (block_bytes mid block) 0 bytes) lt
    ∙ ap (λ n. bytes ++ drop n (block_bytes mid block)) (let s : 0 + length bytes ≡ end = omega arith in s)
    ∙ ap (λ (l : List ℕ). l ++ drop end (block_bytes mid block)) is

word_at-front : (buf : List ℕ) (end i : ℕ) → end ≤ length buf → i + 4 ≤ end → word_at (take end buf) i ≡ word_at buf i
word_at-front buf end i room within =
    sym (word_at-take (take end buf) (drop end buf) i (omega (arith, length-take-le end buf room))) ∙ ap (λ (l : List ℕ). word_at l i) (take-append-drop end buf)

pub word_at-written : (buf more : List ℕ) (end i : ℕ) → end ≤ length buf → i + 4 ≤ end → word_at (take end buf ++ more) i ≡ word_at buf i
word_at-written buf more end i room within = word_at-take (take end buf) more i (omega (arith, length-take-le end buf room)) ∙ word_at-front buf end i room within

pub data-written : (buf more : List ℕ) (end p : ℕ) → end ≤ length buf → p ≤ end → take (end - p) (drop p (take end buf ++ more)) ≡ take (end - p) (drop p buf)
data-written buf more end p room low =
    let split : end ≡ p + (end - p) = omega arith in
    ap (take (end - p)) (drop-append-le p (take end buf) more (omega (arith, length-take-le end buf room)))
    ∙ take-append-le (end - p) (drop p (take end buf)) more (omega (arith, length-drop p (take end buf), length-take-le end buf room))
    ∙ ap (λ k. take (end - p) (drop p (take k buf))) split
    ∙ ap (take (end - p)) (drop-take p (end - p) buf)
    ∙ take-take (end - p) (end - p) (drop p buf) (omega arith)
