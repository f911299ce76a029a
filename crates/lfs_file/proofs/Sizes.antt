-- The number of bytes in a list's blocks, by the number of ones of an index.
use Rattle.std.proofs.Common.{ℕ, zero, suc, ◌≡◌, ◌+◌, ◌*◌, ◌-◌, ◌/◌, ◌%◌, ◌<◌, ◌≤◌, ◌^◌, refl, sym, ap, ap₂, subst, ◌∙◌, arith}
use Rattle.std.proofs.Common.{⊎_elim, add-one, if◌then◌else◌, ◌==◌, false}
use Rattle.lfs_file.proofs.Common.{nat_tests, mul-le, cases_lt, pointer_count, block_capacity, bytes_before_block, IsByteInListBlock, skip_list_block_count}
use Rattle.std.proofs.Math.Nat.{mul-suc, div-add-mod}
use Rattle.std.proofs.lemmas.Nat.{mod_below}
use lib.Count.{ones, ones_step, ones-le, count_trailing_zeros, trailing_le}
pub use Rattle.lfs_model.proofs.ListSizes.{block_capacity-pos, pointer_count-le}
pub use Rattle.lfs_model.proofs.ListParts.{bytes_before_block-more, place-lt, place-mono}
use Rattle.lfs_file.proofs.TrailingZeros.{zeros_even, zeros_odd}
use Rattle.lfs_model.specs.format.SkipLists.{list_block_count_from}

-- ---- the ones of a number and of the next one differ by its zeros behind

ones_even : (n p : ℕ) → n % 2 ≡ 0 → n / 2 ≡ p → ones n ≡ ones p
ones_even n p e f = ones_step n ∙ ap₂ (λ r q. r + ones q) e f ∙ omega arith

ones_odd : (n p : ℕ) → n % 2 ≡ 1 → n / 2 ≡ p → ones n ≡ 1 + ones p
ones_odd n p e f = ones_step n ∙ ap₂ (λ r q. r + ones q) e f

ones_next : (k n : ℕ) → suc n < 2 ^ k → ones (suc n) + count_trailing_zeros k (suc n) ≡ ones n + 1
ones_next zero n h = absurd (omega arith)
ones_next (suc k) n h = go (λ p l. ones_next k p l) (suc n % 2) (suc n / 2) refl refl
  where
    go : ((p : ℕ) → suc p < 2 ^ k → ones (suc p) + count_trailing_zeros k (suc p) ≡ ones p + 1)
        → (r q : ℕ) → suc n % 2 ≡ r → suc n / 2 ≡ q → ones (suc n) + count_trailing_zeros (suc k) (suc n) ≡ ones n + 1
    go before zero zero e f = absurd (omega arith)
    go before zero (suc p) e f =
        let half : suc p < 2 ^ k = omega arith in
        let ih = before p half in
        let odd : ones n ≡ 1 + ones p = ones_odd n p (omega arith) (omega arith) in
        let even = ones_even (suc n) (suc p) e f in
        let zeros = zeros_even k (suc n) (suc p) e f in
        omega arith
    go before (suc zero) q e f =
        let even : ones n ≡ ones q = ones_even n q (omega arith) (omega arith) in
        let odd = ones_odd (suc n) q e f in
        let zeros = zeros_odd k (suc n) e in
        omega arith
    go before (suc (suc r)) q e f = absurd (omega arith)

-- ---- the bytes before a block

-- blocks 0 to n hold so many
pub bytes_before_block-suc : (block_size n : ℕ) → 1024 ≤ block_size → n < 2 ^ 32 → bytes_before_block block_size (suc n) ≡ (block_size - 8) * n + block_size + 4 * ones n
bytes_before_block-suc block_size zero le h =
    let none = ones-le 0 0 (omega arith) in
    omega arith
bytes_before_block-suc block_size (suc n) le h =
    let ih = bytes_before_block-suc block_size n le (omega arith) in
    let next = ones_next 32 n h in
    let few = trailing_le 32 (suc n) in
    let product = mul-suc (block_size - 8) n in
    omega arith

-- ---- the place of a byte

module _ (block_size pos : ℕ) (large : 1024 ≤ block_size) where
  place_at : (i : ℕ) → i < 2 ^ 32 → bytes_before_block block_size i ≤ pos → pos < (block_size - 8) * i + block_size + 4 * ones i
      → (4 * ones i ≤ pos - (block_size - 8) * i) × IsByteInListBlock block_size pos i (pos - (block_size - 8) * i - 4 * ones i)
  place_at zero h from below =
      let none = ones-le 0 0 (omega arith) in
      (omega arith, record { from = omega arith; below = omega arith; at = omega arith })
  place_at (suc n) h from below =
      let before = bytes_before_block-suc block_size n large (omega arith) in
      let next = ones_next 32 n h in
      let few = trailing_le 32 (suc n) in
      let product = mul-suc (block_size - 8) n in
      (omega arith, record { from = omega arith; below = omega arith; at = omega arith })

  abbrev pub IsPlaceBy : ℕ → Type 0
  IsPlaceBy i = (4 * ones i ≤ pos - (block_size - 8) * i) × IsByteInListBlock block_size pos i (pos - (block_size - 8) * i - 4 * ones i)

  bytes_before_block-le : (g : ℕ) → suc g < 2 ^ 32 → (block_size - 8) * suc g ≤ pos → bytes_before_block block_size g ≤ pos
  bytes_before_block-le zero h le = omega arith
  bytes_before_block-le (suc n) h le =
      let before = bytes_before_block-suc block_size n large (omega arith) in
      let few = ones-le 32 n (omega arith) in
      let product = mul-suc (block_size - 8) n in
      let product_next = mul-suc (block_size - 8) (suc n) in
      omega arith

  -- a guess that is one too great, or right
  place_by : pos < 2 ^ 32 → (g : ℕ) → pos / (block_size - 8) ≡ suc g
      → (pos % (block_size - 8) < 4 * (ones g + 2) → IsPlaceBy g) × (4 * (ones g + 2) ≤ pos % (block_size - 8) → IsPlaceBy (suc g))
  place_by low g e = go (pos % (block_size - 8)) (ap (λ q. (block_size - 8) * q + pos % (block_size - 8)) (sym e) ∙ div-add-mod pos (block_size - 8)) (mod_below pos (block_size - 8) (omega arith))
    where
      go : (r : ℕ) → (block_size - 8) * suc g + r ≡ pos → r < block_size - 8 → (r < 4 * (ones g + 2) → IsPlaceBy g) × (4 * (ones g + 2) ≤ r → IsPlaceBy (suc g))
      go r split lt =
          let product = mul-suc (block_size - 8) g in
          let product_next = mul-suc (block_size - 8) (suc g) in
          let guess : suc g < 2 ^ 32 = omega (arith, mul-le 1 (suc g) (block_size - 8) (suc g) (omega arith) (omega arith)) in
          let few = ones-le 32 g (omega arith) in
          let before = bytes_before_block-suc block_size g large (omega arith) in
          ((λ less. place_at g (omega arith) (bytes_before_block-le g guess (omega arith)) (omega arith)), (λ more. place_at (suc g) guess (omega arith) (omega arith)))

  module _ (low : pos < 2 ^ 32) (some : pos / (block_size - 8) ≡ 0 → ⊥) where
    guessed : pos / (block_size - 8) ≡ suc (pos / (block_size - 8) - 1)
    guessed = omega arith

    pub place_before_guess : pos % (block_size - 8) < 4 * (ones (pos / (block_size - 8) - 1) + 2) → IsPlaceBy (pos / (block_size - 8) - 1)
    place_before_guess less = (place_by low (pos / (block_size - 8) - 1) guessed).0 less

    pub place_at_guess : 4 * (ones (pos / (block_size - 8) - 1) + 2) ≤ pos % (block_size - 8) → IsPlaceBy (pos / (block_size - 8))
    place_at_guess more = subst IsPlaceBy (sym guessed) ((place_by low (pos / (block_size - 8) - 1) guessed).1 more)

-- ---- the blocks that hold so many bytes

pub bytes_before_block-least : (block_size i : ℕ) → 1024 ≤ block_size → 892 * i ≤ bytes_before_block block_size i
bytes_before_block-least block_size zero large = omega arith
bytes_before_block-least block_size (suc i) large =
    let before = bytes_before_block-least block_size i large in
    let one = block_capacity-pos block_size i large in
    omega arith

list_block_count_from-none : (steps block_size i : ℕ) → list_block_count_from steps block_size i 0 ≡ 0
list_block_count_from-none zero block_size i = refl
list_block_count_from-none (suc steps) block_size i = refl

list_block_count_from-some : (steps block_size i size : ℕ) → 1 ≤ size → list_block_count_from (suc steps) block_size i size ≡ 1 + list_block_count_from steps block_size (i + 1) (size - block_capacity block_size i)
list_block_count_from-some steps block_size i size some =
    let no : (size == 0) ≡ false = grind (arith, nat_tests) in
    ap (λ t. if t then 0 else 1 + list_block_count_from steps block_size (i + 1) (size - block_capacity block_size i)) no

-- counted from block i on, up to the block n in which the last byte stands
list_block_count_from-last : (block_size n total : ℕ) → 1024 ≤ block_size → bytes_before_block block_size n < total → total ≤ bytes_before_block block_size n + block_capacity block_size n
    → (steps i rest : ℕ) → i ≤ n → rest ≤ steps → bytes_before_block block_size i + rest ≡ total → i + list_block_count_from steps block_size i rest ≡ suc n
list_block_count_from-last block_size n total large above within steps i zero le enough is = let more = bytes_before_block-more block_size i n le in absurd (omega arith)
list_block_count_from-last block_size n total large above within zero i (suc rest) le enough is = absurd (omega arith)
list_block_count_from-last block_size n total large above within (suc steps) i (suc rest) le enough is =
    ⊎_elim
    (λ inside.
    let more = bytes_before_block-more block_size (suc i) n (omega arith) in
    let one = block_capacity-pos block_size i large in
    let next : suc i + list_block_count_from steps block_size (suc i) (suc rest - block_capacity block_size i) ≡ suc n =
    list_block_count_from-last block_size n total large above within steps (suc i) (suc rest - block_capacity block_size i) (omega arith) (omega arith) (omega arith) in
    omega (arith, list_block_count_from-some steps block_size i (suc rest) (omega arith), ap (λ k. list_block_count_from steps block_size k (suc rest - block_capacity block_size i)) (add-one i)))
    (λ last.
    let same : i ≡ n = omega arith in
    let here : suc rest ≤ block_capacity block_size i = subst (λ k. bytes_before_block block_size k + suc rest ≡ total → suc rest ≤ block_capacity block_size k) (sym same) (λ e. omega arith) is in
    let none : suc rest - block_capacity block_size i ≡ 0 = omega arith in
    omega (arith, list_block_count_from-some steps block_size i (suc rest) (omega arith), ap (list_block_count_from steps block_size (i + 1)) none, list_block_count_from-none steps block_size (i + 1)))
    (cases_lt i n)

-- the byte before the end is in the last block
pub skip_list_block_count-place : (block_size size index offset : ℕ) → 1024 ≤ block_size → 1 ≤ size → IsByteInListBlock block_size (size - 1) index offset → skip_list_block_count block_size size ≡ index + 1
skip_list_block_count-place block_size size index offset large some is =
    let counted = list_block_count_from-last block_size index size large (omega arith) (omega arith) size 0 size (omega arith) (omega arith) (omega arith) in
    omega arith

-- a list has fewer blocks than bytes
pub place-le : (block_size pos index offset : ℕ) → 1024 ≤ block_size → IsByteInListBlock block_size pos index offset → 892 * index ≤ pos
place-le block_size pos index offset large is = let k = bytes_before_block-least block_size index large in omega arith

-- ---- places in order

-- each byte has a place
pub placed : (block_size pos : ℕ) → 1024 ≤ block_size → (i : ℕ) × ((off : ℕ) × IsByteInListBlock block_size pos i off)
placed block_size zero large = (0, (0, record { from = omega arith; below = omega arith; at = omega arith }))
placed block_size (suc pos) large =
    let before = placed block_size pos large in
    let i : ℕ = before.0 in
    let low = before.1.1.from in
    let high = before.1.1.below in
    let one = block_capacity-pos block_size (suc i) large in
    ⊎_elim
    (λ same. (i, (4 * pointer_count i + (suc pos - bytes_before_block block_size i), record { from = omega arith; below = same; at = refl })))
    (λ next. (suc i, (4 * pointer_count (suc i) + (suc pos - bytes_before_block block_size (suc i)), record { from = omega arith; below = omega arith; at = refl })))
    (cases_lt (suc pos) (bytes_before_block block_size i + block_capacity block_size i))

pub place_unique : (block_size p i j off end : ℕ) → IsByteInListBlock block_size p i off → IsByteInListBlock block_size p j end → i ≡ j
place_unique block_size p i j off end is there =
    let a = place-mono block_size p p i j off end is there (omega arith) in
    let b = place-mono block_size p p j i end off there is (omega arith) in
    omega arith

-- the last byte before a block is in the block before it
pub place_before : (block_size p i j off : ℕ) → 1024 ≤ block_size → IsByteInListBlock block_size p j off → suc p ≡ bytes_before_block block_size i → i ≡ suc j
place_before block_size p i j off large is e =
    let low = is.from in
    let high = is.below in
    ⊎_elim
    (λ above. ⊎_elim
    (λ past. let more = bytes_before_block-more block_size (suc (suc j)) i (omega arith) in let one = block_capacity-pos block_size (suc j) large in absurd (omega arith))
    (λ le. omega arith)
    (cases_lt (suc j) i))
    (λ below. let more = bytes_before_block-more block_size i j (omega arith) in absurd (omega arith))
    (cases_lt j i)

-- the last byte is in the last block
pub blocks_for-last : (block_size size : ℕ) → 1024 ≤ block_size → 1 ≤ size
    → (n : ℕ) × ((skip_list_block_count block_size size ≡ suc n) × ((bytes_before_block block_size n < size) × (size ≤ bytes_before_block block_size n + block_capacity block_size n)))
blocks_for-last block_size size large some =
    let last = placed block_size (size - 1) large in
    let low = last.1.1.from in
    let high = last.1.1.below in
    (last.0, (skip_list_block_count-place block_size size last.0 last.1.0 large some last.1.1 ∙ add-one last.0, (omega arith, omega arith)))

-- more bytes than the blocks before one hold need that one
pub skip_list_block_count-above : (block_size total n : ℕ) → 1024 ≤ block_size → bytes_before_block block_size n < total → n < skip_list_block_count block_size total
skip_list_block_count-above block_size total n large above =
    let last = blocks_for-last block_size total large (omega arith) in
    let count = last.1.0 in
    let within = last.1.1.1 in
    ⊎_elim
    (λ less. let more = bytes_before_block-more block_size (suc last.0) n (omega arith) in absurd (omega arith))
    (λ ge. omega arith)
    (cases_lt last.0 n)

-- and those that it holds need no further one
pub skip_list_block_count-within : (block_size total n : ℕ) → 1024 ≤ block_size → total ≤ bytes_before_block block_size n → skip_list_block_count block_size total ≤ n
skip_list_block_count-within block_size zero n large within = omega arith
skip_list_block_count-within block_size (suc total) n large within =
    let last = blocks_for-last block_size (suc total) large (omega arith) in
    let count = last.1.0 in
    let above = last.1.1.0 in
    ⊎_elim
    (λ less. let more = bytes_before_block-more block_size n last.0 (omega arith) in absurd (omega arith))
    (λ ge. omega arith)
    (cases_lt n (suc last.0))
