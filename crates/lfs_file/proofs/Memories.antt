-- Bytes in memory, written over the first bytes of a buffer.
use Rattle.std.proofs.Common.{ℕ, ◌≡◌, ◌+◌, ◌*◌, ◌-◌, ◌≤◌, ◌<◌, max, List, ◌++◌, length, take, drop, replicate, refl, sym, ap, ap₂, ⊎_elim, ◌∙◌, arith, length-append}
use Rattle.lfs_file.proofs.Common.{cases_lt, append-nil, take_at, drop_all, drop-take, take-append-le, take-append-drop, take-take, length-replicate, length-take-le, take-append-add, overwritten_at, pointer_count}
use Rattle.lfs_model.specs.session.Writers.{written_contents as with_bytes}

-- after no full block the rest stands where the buffer begins
pub rest_at : (items : List ℕ) (full filled : ℕ) → full ≡ 0 → take (filled - 4 * pointer_count full) (drop (4 * pointer_count full) items) ≡ take filled items
rest_at items full filled none =
    ap (λ k. take (filled - 4 * pointer_count k) (drop (4 * pointer_count k) items)) none ∙ ap (λ k. take k items) (let all : filled - 4 * pointer_count 0 ≡ filled = omega arith in all)

-- bytes that were written over the first ones
pub held_front : (items new bytes : List ℕ) → new ≡ overwritten_at items 0 bytes → take (length bytes - 4 * 0) (drop (4 * 0) new) ≡ bytes
held_front items new bytes is = rest_at new 0 (length bytes) refl ∙ ap (take (length bytes)) is ∙ take_at bytes (drop (0 + length bytes) items) (length bytes) refl

module _ (items bytes : List ℕ) (filled at : ℕ) (has : filled ≤ length items) (room : at + length bytes ≤ length items) where
  abbrev zeros : List ℕ
  zeros = replicate (max filled at - filled) 0

  abbrev rest : List ℕ
  rest = take filled items

  abbrev padded : List ℕ
  padded = overwritten_at items filled zeros

  rest_long : length rest ≡ filled
  rest_long = length-take-le filled items has

  zeros_long : length zeros ≡ max filled at - filled
  zeros_long = length-replicate {A = ℕ} (max filled at - filled) 0

  front_long : length (rest ++ zeros) ≡ filled + (max filled at - filled)
  front_long = omega (arith, length-append rest zeros, rest_long, zeros_long)

  -- the bytes before the place, with the gap
  before : take at padded ≡ take at (rest ++ replicate (at - length rest) 0)
  before =
      let gap : max filled at - filled ≡ at - length rest = omega (arith, rest_long) in
      take-append-le at (rest ++ zeros) (drop (filled + length zeros) items) (omega (arith, front_long)) ∙ ap (λ k. take at (rest ++ replicate k 0)) gap

  before_long : length (take at padded) ≡ at
  before_long =
      ap length (take-append-le at (rest ++ zeros) (drop (filled + length zeros) items) (omega (arith, front_long)))
      ∙ length-take-le at (rest ++ zeros) (omega (arith, front_long))

  -- and those after
  behind : take (max filled (at + length bytes) - (at + length bytes)) (drop (at + length bytes) padded) ≡ drop (at + length bytes) rest
  behind = ⊎_elim past within (cases_lt filled (at + length bytes))
    where
      past : filled < at + length bytes → take (max filled (at + length bytes) - (at + length bytes)) (drop (at + length bytes) padded) ≡ drop (at + length bytes) rest
      past lt =
          let none : max filled (at + length bytes) - (at + length bytes) ≡ 0 = omega arith in
          ap (λ k. take k (drop (at + length bytes) padded)) none ∙ sym (drop_all (at + length bytes) rest (omega (arith, rest_long)))

      within : at + length bytes ≤ filled → take (max filled (at + length bytes) - (at + length bytes)) (drop (at + length bytes) padded) ≡ drop (at + length bytes) rest
      within le =
          let none : max filled at - filled ≡ 0 = omega arith in
          let same : padded ≡ items =
          ap (λ k. overwritten_at items filled (replicate k 0)) none ∙ ap₂ (λ (l : List ℕ) k. l ++ drop k items) (append-nil rest) (let s : filled + 0 ≡ filled = omega arith in s) ∙ take-append-drop filled items in
          let left : max filled (at + length bytes) - (at + length bytes) ≡ filled - (at + length bytes) = omega arith in
          let whole : at + length bytes + (filled - (at + length bytes)) ≡ filled = omega arith in
          ap₂ (λ k (l : List ℕ). take k (drop (at + length bytes) l)) left same
          ∙ sym (drop-take (at + length bytes) (filled - (at + length bytes)) items)
          ∙ ap (λ k. drop (at + length bytes) (take k items)) whole

  pub put_bytes : (new : List ℕ) → new ≡ overwritten_at padded at bytes → take (max filled (at + length bytes)) new ≡ with_bytes rest at bytes
  put_bytes new is =
      let long : length (take at padded ++ bytes) ≡ at + length bytes = omega (arith, length-append (take at padded) bytes, before_long) in
      let split : max filled (at + length bytes) ≡ length (take at padded ++ bytes) + (max filled (at + length bytes) - (at + length bytes)) = omega (arith, long) in
      ap₂ (λ k (l : List ℕ). take k l) split is
      ∙ take-append-add (take at padded ++ bytes) (drop (at + length bytes) padded) (max filled (at + length bytes) - (at + length bytes))
      ∙ ap₂ (λ (x y : List ℕ). x ++ bytes ++ y) before behind

pub cut_bytes : (items : List ℕ) (filled len : ℕ) → len ≤ filled → take len items ≡ take len (take filled items)
cut_bytes items filled len le = sym (take-take len filled items le)
