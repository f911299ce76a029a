-- Bytes cut into blocks: where a block lies, and what a write to it does.
use Rattle.std.proofs.Common.{◌≡◌, ℕ, zero, suc, ◌+◌, ◌-◌, ◌*◌, ◌<◌, ◌≤◌, List, ◌∷◌, ◌++◌, length, take, drop, refl, sym, ◌∙◌, ap, arith, length-drop, length-append, append_assoc}
use Rattle.std.specs.Prelude.{slice_range}
use Rattle.std.proofs.Math.Nat.{mul-le-mul_left}
use Rattle.lfs_model.proofs.Common.{drop-append-add, take-take, drop-drop, drop-take, take-append-le, drop-append-le, length-take-le, HasBlockSizes, block_bytes, overwritten_at, programmed}
use Rattle.std.proofs.Math.Seq.{take-append-add}
use Rattle.lfs_model.specs.format.Blocks.{cut}

pub length-cut : (size count : ℕ) (bytes : List ℕ) → length (cut size count bytes) ≡ count
length-cut size zero bytes = refl
length-cut size (suc count) bytes = ap suc (length-cut size count (drop size bytes))

-- a block's place
pub block_bytes-cut : (size count : ℕ) (bytes : List ℕ) (block : ℕ) → block < count → block_bytes (cut size count bytes) block ≡ take size (drop (size * block) bytes)
block_bytes-cut size zero bytes block lt = absurd (omega arith)
block_bytes-cut size (suc count) bytes zero lt =
    let none : 0 ≡ size * 0 = omega arith in ap (λ n. take size (drop n bytes)) none
block_bytes-cut size (suc count) bytes (suc block) lt =
    let next : size + size * block ≡ size * suc block = omega arith in
    block_bytes-cut size count (drop size bytes) block (omega arith)
    ∙ ap (λ (l : List ℕ). take size l) (drop-drop (size * block) size bytes ∙ ap (λ n. drop n bytes) next)

pub size_fits : (size count block n : ℕ) → block < count → n ≡ size * count → size * block + size ≤ n
size_fits size count block n lt is =
    let more : block + 1 ≤ count = omega arith in omega (arith, mul-le-mul_left size more)

pub HasBlockSizes-cut : (size count : ℕ) (bytes : List ℕ) → length bytes ≡ size * count → HasBlockSizes size count (cut size count bytes)
HasBlockSizes-cut size count bytes is = record {
  count = length-cut size count bytes;
  sizes = λ block lt. ap length (block_bytes-cut size count bytes block lt)
      ∙ length-take-le size (drop (size * block) bytes) (omega (arith, length-drop (size * block) bytes, size_fits size count block (length bytes) lt is));
}

-- a write above leaves the front
take-overwritten_above : (size at : ℕ) (bytes new : List ℕ) → size ≤ at → at ≤ length bytes → take size (overwritten_at bytes at new) ≡ take size bytes
take-overwritten_above size at bytes new le fits =
    ap (take size) (append_assoc (take at bytes) new (drop (at + length new) bytes))
    ∙ take-append-le size (take at bytes) (new ++ drop (at + length new) bytes) (omega (arith, length-take-le at bytes fits))
    ∙ take-take size at bytes le

-- and is a write to the rest
drop-overwritten_above : (size at : ℕ) (bytes new : List ℕ) → size + at ≤ length bytes → drop size (overwritten_at bytes (size + at) new) ≡ overwritten_at (drop size bytes) at new
drop-overwritten_above size at bytes new fits =
    ap (drop size) (append_assoc (take (size + at) bytes) new (drop (size + at + length new) bytes))
    ∙ drop-append-le size (take (size + at) bytes) (new ++ drop (size + at + length new) bytes) (omega (arith, length-take-le (size + at) bytes fits))
    ∙ ap (λ (l : List ℕ). l ++ (new ++ drop (size + at + length new) bytes)) (drop-take size at bytes)
    ∙ ap (λ (l : List ℕ). take at (drop size bytes) ++ (new ++ l)) (ap (λ n. drop n bytes) same ∙ sym (drop-drop (at + length new) size bytes))
    ∙ sym (append_assoc (take at (drop size bytes)) new (drop (at + length new) (drop size bytes)))
  where
    same : size + at + length new ≡ size + (at + length new)
    same = omega arith

-- a write within the front
take-overwritten : (size at : ℕ) (bytes new : List ℕ) (more : ℕ) → at + length new + more ≡ size → size ≤ length bytes → take size (overwritten_at bytes at new) ≡ overwritten_at (take size bytes) at new
take-overwritten size at bytes new more is fits =
    ap (λ n. take n (overwritten_at bytes at new)) (sym split)
    ∙ take-append-add (take at bytes ++ new) (drop (at + length new) bytes) more
    ∙ ap (λ (l : List ℕ). l ++ new ++ take more (drop (at + length new) bytes)) (sym (take-take at size bytes (omega arith)))
    ∙ ap (λ (l : List ℕ). take at (take size bytes) ++ new ++ l) (sym (drop-take (at + length new) more bytes) ∙ ap (λ n. drop (at + length new) (take n bytes)) is)
  where
    split : length (take at bytes ++ new) + more ≡ size
    split = omega (arith, is, length-append (take at bytes) new, length-take-le at bytes (omega arith))

-- leaves what comes after it
drop-overwritten : (size at : ℕ) (bytes new : List ℕ) (more : ℕ) → at + length new + more ≡ size → size ≤ length bytes → drop size (overwritten_at bytes at new) ≡ drop size bytes
drop-overwritten size at bytes new more is fits =
    ap (λ n. drop n (overwritten_at bytes at new)) (sym split)
    ∙ drop-append-add (take at bytes ++ new) (drop (at + length new) bytes) more
    ∙ drop-drop more (at + length new) bytes
    ∙ ap (λ n. drop n bytes) is
  where
    split : length (take at bytes ++ new) + more ≡ size
    split = omega (arith, is, length-append (take at bytes) new, length-take-le at bytes (omega arith))

same_front : {A : Type 0} {x y : A} {xs ys : List A} → x ≡ y → xs ≡ ys → x ∷ xs ≡ y ∷ ys
same_front first others = cc

-- a write to a block
pub cut-overwritten_at : (size count : ℕ) (bytes : List ℕ) (block off : ℕ) (new : List ℕ) → length bytes ≡ size * count → block < count → off + length new ≤ size
    → cut size count (overwritten_at bytes (size * block + off) new) ≡ programmed (cut size count bytes) block off new
cut-overwritten_at size zero bytes block off new is lt fits = absurd (omega arith)
cut-overwritten_at size (suc count) bytes zero off new is lt fits =
    let here : size * 0 + off ≡ off = omega arith in
    let whole : size ≤ length bytes = omega arith in
    let more : ℕ = size - (off + length new) in
    let ends : off + length new + more ≡ size = omega arith in
    ap (λ at. cut size (suc count) (overwritten_at bytes at new)) here
    ∙ same_front (take-overwritten size off bytes new more ends whole) (ap (cut size count) (drop-overwritten size off bytes new more ends whole))
cut-overwritten_at size (suc count) bytes (suc block) off new is lt fits =
    let there : size * suc block + off ≡ size + (size * block + off) = omega arith in
    let rest : length (drop size bytes) ≡ size * count = omega (arith, length-drop size bytes) in
    let room : size * block + size ≤ size * count = size_fits size count block (size * count) (omega arith) refl in
    ap (λ at. cut size (suc count) (overwritten_at bytes at new)) there
    ∙ same_front
    (take-overwritten_above size (size + (size * block + off)) bytes new (omega arith) (omega arith))
    (ap (cut size count) (drop-overwritten_above size (size * block + off) bytes new (omega arith))
    ∙ cut-overwritten_at size count (drop size bytes) block off new rest (omega arith) fits)

-- a read from a block
pub slice_range-block_bytes : (size count : ℕ) (bytes : List ℕ) (block off n : ℕ) → block < count → off + n ≤ size
    → slice_range bytes (size * block + off) (size * block + off + n) ≡ slice_range (block_bytes (cut size count bytes) block) off (off + n)
slice_range-block_bytes size count bytes block off n lt fits =
    let left : size * block + off + n - (size * block + off) ≡ n = omega arith in
    let right : off + n - off ≡ n = omega arith in
    ap (λ k. take k (drop (size * block + off) bytes)) left
    ∙ ap (take n) (sym (drop-drop off (size * block) bytes))
    ∙ sym (drop-take off n (drop (size * block) bytes))
    ∙ ap (drop off) (sym (take-take (off + n) size (drop (size * block) bytes) fits))
    ∙ drop-take off n (take size (drop (size * block) bytes))
    ∙ ap (λ (b : List ℕ). take n (drop off b)) (sym (block_bytes-cut size count bytes block lt))
    ∙ ap (λ k. take k (drop off (block_bytes (cut size count bytes) block))) (sym right)
