-- Blocks that a walk from the head back has checked are a list's.
use Rattle.std.proofs.Common.{ℕ, zero, suc, ◌≡◌, ◌≢◌, ◌+◌, ◌*◌, ◌-◌, ◌<◌, ◌≤◌, ◌^◌, ⊎_elim, nat_eq, false, List, [], ◌∷◌, ◌++◌, length, drop, slice_index, sym, ap, subst, ◌∙◌, arith, eqb-true}
use Rattle.std.specs.List.{IsDistinct}
use Rattle.lfs_file.proofs.Common.{mul_assoc, add-mul, one-le-pow, mul-le, pow-add, FoldsTo, get_or_default, drop_more, nat_tests, cases_lt, IsDistinct-from_apart, apart_from_distinct, Blocks, block_bytes, word_at, pointer_count, blocks_to_head, AreListBlocks, LaterPointersName, ArePointersCopied, w32, trailing_zeros}
use Rattle.std.proofs.Common.{get_or}
use Rattle.std.proofs.Common.{reverse}
use Rattle.std.proofs.lemmas.Fn.{FoldsTo-push}
use Rattle.std.proofs.lemmas.List.{reverse-append}
use Rattle.std.proofs.lemmas.List.Folds.{Any-from_list_any}
use Rattle.std.proofs.lemmas.Map.Steps.{length-le_from_distinct_below}
use Rattle.lfs_file.proofs.Back.{power_below}
use lib.Count.{count_trailing_zeros}
use Rattle.lfs_file.proofs.TrailingZeros.{zeros32-multiple, zeros-le, factor-pos}
use Rattle.lfs_file.proofs.Chains.{length_back, pointer_count-pos, back-pointer0}

module _ (d : Blocks) (n head : ℕ) where
  abbrev bs : List ℕ
  bs = blocks_to_head d n head

  -- ---- where the first block comes once

  -- where two of them are the same, so are the first one and another
  same_first : (i j : ℕ) → i < j → j < n → slice_index bs i ≡ slice_index bs j → slice_index bs 0 ≡ slice_index bs (j - i)
  same_first zero j less lt e = e ∙ ap (slice_index bs) (let k : j ≡ j - 0 = omega arith in k)
  same_first (suc i) zero less lt e = absurd (omega arith)
  same_first (suc i) (suc j) less lt e =
      same_first i j (omega arith) (omega arith)
      (sym (back-pointer0 d n head i (omega arith)) ∙ ap (λ b. word_at (block_bytes d b) 0) e ∙ back-pointer0 d n head j lt)
      ∙ ap (slice_index bs) (let k : j - i ≡ suc j - suc i = omega arith in k)

  apart : (x y : ℕ) → x ≢ y → nat_eq x y ≡ false
  apart x y ne = grind (arith, nat_tests)

  pub distinct_of_first : ((j : ℕ) → 0 < j → j < n → slice_index bs j ≢ slice_index bs 0) → IsDistinct nat_eq bs
  distinct_of_first once = IsDistinct-from_apart nat_eq bs (λ i j x less lt.
      let len = length_back d n head in
      apart (get_or bs i x) (get_or bs j x)
      (λ e. once (j - i) (omega arith) (omega arith)
      (sym (same_first i j less (omega arith) (get_or_default bs i 0 x (omega arith) ∙ e ∙ get_or_default bs j x 0 lt)))))

  pub first_of_distinct : IsDistinct nat_eq bs → (j : ℕ) → 0 < j → j < n → slice_index bs j ≢ slice_index bs 0
  first_of_distinct distinct j some lt e =
      let len = length_back d n head in
      let other : nat_eq (slice_index bs 0) (slice_index bs j) ≡ false = apart_from_distinct nat_eq bs 0 j 0 distinct some (omega arith) in
      grind (arith, nat_tests)

-- ---- multiples of powers of two

multiple : (j k : ℕ) → 0 < j → j < 2 ^ 32 → k ≤ trailing_zeros w32 j → (c : ℕ) × (j ≡ c * 2 ^ k)
multiple j k some low le =
    let odd = zeros32-multiple j some low in
    let z : ℕ = trailing_zeros w32 j in (
      (2 * odd.half + 1) * 2 ^ (z - k),
      odd.is ∙ ap (λ p. (2 * odd.half + 1) * p) (ap (λ e. 2 ^ e) (let s : z ≡ (z - k) + k = omega arith in s) ∙ pow-add 2 (z - k) k) ∙ sym (mul_assoc (2 * odd.half + 1) (2 ^ (z - k)) (2 ^ k)),
    )

-- a power of two that divides a number is no greater, and its exponent is below 32
pub power_small : (j k : ℕ) → 0 < j → j < 2 ^ 32 → k ≤ trailing_zeros w32 j → (2 ^ k ≤ j) × (k < 32)
power_small j k some low le =
    let m = multiple j k some low le in
    let one = factor-pos m.0 (2 ^ k) j m.1 some in
    let large : 2 ^ k ≤ j = omega (arith, m.1, mul-le 1 (2 ^ k) m.0 (2 ^ k) one (omega arith)) in
    (large, power_below k 32 j large low)

none_zeros : 32 ≤ trailing_zeros w32 0
unfolding count_trailing_zeros
none_zeros = omega arith

-- it divides the number less it, and the number and it
zeros_less : (j k i : ℕ) → 0 < j → j < 2 ^ 32 → k ≤ trailing_zeros w32 j → j - 2 ^ k ≡ i → k ≤ trailing_zeros w32 i
zeros_less j k zero some low le is = let small = power_small j k some low le in omega (arith, none_zeros, small.1)
zeros_less j k (suc i) some low le is =
    let m = multiple j k some low le in
    let one = factor-pos m.0 (2 ^ k) j m.1 some in
    let less : m.0 * 2 ^ k ≡ (m.0 - 1) * 2 ^ k + 1 * 2 ^ k = ap (λ x. x * 2 ^ k) (let s : m.0 ≡ (m.0 - 1) + 1 = omega arith in s) ∙ add-mul (m.0 - 1) 1 (2 ^ k) in
    zeros-le 32 (suc i) (m.0 - 1) k (omega arith) (omega arith) (omega (arith, less, m.1, is))

zeros_more : (i k : ℕ) → i + 2 ^ k < 2 ^ 32 → k ≤ trailing_zeros w32 i → k ≤ trailing_zeros w32 (i + 2 ^ k)
zeros_more zero k low le = let one = one-le-pow k 2 (omega arith) in zeros-le 32 (0 + 2 ^ k) 1 k (omega arith) low (omega arith)
zeros_more (suc i) k low le =
    let m = multiple (suc i) k (omega arith) (omega arith) le in
    zeros-le 32 (suc i + 2 ^ k) (m.0 + 1) k (omega arith) low (omega (arith, m.1, add-mul m.0 1 (2 ^ k)))

-- between two multiples that follow one another there is none
pub between_none : (i j k : ℕ) → 0 < i → i < j → j < 2 ^ 32 → j - 2 ^ k < i → k ≤ trailing_zeros w32 j → k ≤ trailing_zeros w32 i → ⊥
between_none i j k some less low above here there =
    let a = multiple i k some (omega arith) there in
    let b = multiple j k (omega arith) low here in
    ⊎_elim
    (λ lt. let le = mul-le (a.0 + 1) (2 ^ k) b.0 (2 ^ k) (omega arith) (omega arith) in omega (arith, le, a.1, b.1, add-mul a.0 1 (2 ^ k)))
    (λ ge. let le = mul-le b.0 (2 ^ k) a.0 (2 ^ k) ge (omega arith) in omega (arith, le, a.1, b.1))
    (cases_lt a.0 b.0)

-- ---- what a walk tells

-- what it has checked of the blocks after a place
pub record IsChecked (d : Blocks) (last head first count index : ℕ) (words : List ℕ) : Type 0 where
  pub in_range : (j : ℕ) → index < j → j ≤ last → slice_index (blocks_to_head d (last + 1) head) j < count
  pub other : (j : ℕ) → index < j → j ≤ last → slice_index (blocks_to_head d (last + 1) head) j ≢ first
  -- their pointers to one another are right, and the others are noted
  pub right : (j k : ℕ) → index < j → j ≤ last → k < pointer_count j → index < j - 2 ^ k
      → word_at (block_bytes d (slice_index (blocks_to_head d (last + 1) head) j)) (4 * k) ≡ slice_index (blocks_to_head d (last + 1) head) (j - 2 ^ k)
  pub noted : (j k : ℕ) → index < j → j ≤ last → k < pointer_count j → j - 2 ^ k ≤ index → word_at words (4 * k) ≡ word_at (block_bytes d (slice_index (blocks_to_head d (last + 1) head) j)) (4 * k)

pub none_checked : (d : Blocks) (last head first count : ℕ) (words : List ℕ) → IsChecked d last head first count last words
none_checked d last head first count words = record {
  in_range = λ j above le. absurd (omega arith);
  other = λ j above le. absurd (omega arith);
  right = λ j k above le. absurd (omega arith);
  noted = λ j k above le. absurd (omega arith);
}

one_more : (P : ℕ → Type 0) (index last : ℕ) → ((j : ℕ) → index < j → j ≤ last → P j) → P index → (j : ℕ) → index - 1 < j → j ≤ last → P j
one_more P index last checked here j above le = ⊎_elim (λ more. checked j more le) (λ most. subst P (let e : index ≡ j = omega arith in e) here) (cases_lt index j)

module _ (d : Blocks) (last head first count index block : ℕ) (words new : List ℕ) (low : last < 2 ^ 32) (some : 0 < index) (checked : IsChecked d last head first count index words)
    (is : block ≡ slice_index (blocks_to_head d (last + 1) head) index) (named : LaterPointersName words block index last) (notes : ArePointersCopied d block index words new) where
  abbrev all : List ℕ
  all = blocks_to_head d (last + 1) head

  right_before : (j k : ℕ) → index < j → j ≤ last → k < pointer_count j → index - 1 < j - 2 ^ k → word_at (block_bytes d (slice_index all j)) (4 * k) ≡ slice_index all (j - 2 ^ k)
  right_before j k above le few over =
      let many = pointer_count-pos j (omega arith) in
      let small = power_small j k (omega arith) (omega arith) (omega arith) in
      ⊎_elim (λ more. checked.right j k above le few more)
      (λ most.
      let here : j - 2 ^ k ≡ index = omega arith in
      sym (checked.noted j k above le few (omega arith)) ∙ named k (omega (arith, small.0)) (zeros_less j k index (omega arith) (omega arith) (omega arith) here) ∙ is ∙ ap (slice_index all) (sym here))
      (cases_lt index (j - 2 ^ k))

  noted_before : (j k : ℕ) → index < j → j ≤ last → k < pointer_count j → j - 2 ^ k ≤ index - 1 → word_at new (4 * k) ≡ word_at (block_bytes d (slice_index all j)) (4 * k)
  noted_before j k above le few under =
      let many = pointer_count-pos j (omega arith) in
      let own = pointer_count-pos index some in
      let small = power_small j k (omega arith) (omega arith) (omega arith) in
      ⊎_elim (λ less. absurd (between_none index j k some above (omega arith) (omega arith) (omega arith) (omega arith)))
      (λ more. notes.others k more small.1 ∙ checked.noted j k above le few (omega arith))
      (cases_lt k (pointer_count index))

  pub more_checked : index ≤ last → block < count → block ≢ first → IsChecked d last head first count (index - 1) new
  more_checked within lt other = record {
    in_range = one_more (λ j. slice_index all j < count) index last checked.in_range (omega (arith, is, lt));
    other = one_more (λ j. slice_index all j ≢ first) index last checked.other (subst (λ b. b ≢ first) is other);
    right = λ j k above le few over. ⊎_elim (λ more. right_before j k more le few over)
        (λ most. absurd (let power = one-le-pow k 2 (omega arith) in omega arith))
        (cases_lt index j);
    noted = λ j k above le few under. ⊎_elim (λ more. noted_before j k more le few under)
        (λ most.
        let here : index ≡ j = omega arith in
        notes.own k (subst (λ i. k < pointer_count i) (sym here) few) ∙ ap (λ b. word_at (block_bytes d b) (4 * k)) (is ∙ ap (slice_index all) here))
        (cases_lt index j);
  }

pub chain_of_walk : (d : Blocks) (last head first : ℕ) (words : List ℕ) → last < 2 ^ 32 → IsChecked d last head first (length d) 0 words → slice_index (blocks_to_head d (last + 1) head) 0 ≡ first → first < length d
    → LaterPointersName words first 0 last → AreListBlocks d (last + 1) head
chain_of_walk d last head first words low checked is lt named = record {
  in_range = λ k x l.
      let len = length_back d (last + 1) head in
      let same = get_or_default (blocks_to_head d (last + 1) head) k x 0 l in
      ⊎_elim (λ some. let there = checked.in_range k some (omega arith) in omega (arith, there, same))
      (λ none. let here : slice_index (blocks_to_head d (last + 1) head) k ≡ first = ap (slice_index (blocks_to_head d (last + 1) head)) (let e : k ≡ 0 = omega arith in e) ∙ is in omega (arith, here, same, lt))
      (cases_lt 0 k);
  distinct = distinct_of_first d (last + 1) head (λ j some l e. checked.other j some (omega arith) (e ∙ is));
  pointers = points;
}
  where
    points : (i k : ℕ) → i < last + 1 → k < pointer_count i → word_at (block_bytes d (slice_index (blocks_to_head d (last + 1) head) i)) (4 * k) ≡ slice_index (blocks_to_head d (last + 1) head) (i - 2 ^ k)
    points zero k l few = absurd (omega arith)
    points (suc i) k l few =
        let many = pointer_count-pos (suc i) (omega arith) in
        let small = power_small (suc i) k (omega arith) (omega arith) (omega arith) in
        ⊎_elim (λ more. checked.right (suc i) k (omega arith) (omega arith) few more)
        (λ none.
        let here : suc i - 2 ^ k ≡ 0 = omega arith in
        sym (checked.noted (suc i) k (omega arith) (omega arith) few (omega arith)) ∙ named k (omega (arith, small.0)) (omega (arith, none_zeros, small.1)) ∙ sym is ∙ ap (slice_index (blocks_to_head d (last + 1) head)) (sym here))
        (cases_lt 0 (suc i - 2 ^ k))

-- and what it would have found in a list
pub named_of_chain : (d : Blocks) (last head first count index : ℕ) (words : List ℕ) → last < 2 ^ 32 → IsChecked d last head first count index words → AreListBlocks d (last + 1) head → index ≤ last
    → (block : ℕ) → block ≡ slice_index (blocks_to_head d (last + 1) head) index → LaterPointersName words block index last
named_of_chain d last head first count index words low checked chain within block is k fits le =
    let power = one-le-pow k 2 (omega arith) in
    let more = zeros_more index k (omega arith) le in
    let many = pointer_count-pos (index + 2 ^ k) (omega arith) in
    let back : index + 2 ^ k - 2 ^ k ≡ index = omega arith in
    checked.noted (index + 2 ^ k) k (omega arith) (omega arith) (omega arith) (omega arith) ∙ chain.pointers (index + 2 ^ k) k (omega arith) (omega arith) ∙ ap (slice_index (blocks_to_head d (last + 1) head)) back ∙ sym is

-- a list has at most as many blocks as the disk
pub chain_fits : (d : Blocks) (n head : ℕ) → AreListBlocks d n head → n ≤ length d
chain_fits d n head chain =
    let len = length_back d n head in
    let le = length-le_from_distinct_below (blocks_to_head d n head) (length d) chain.distinct (λ q there.
    let found = Any-from_list_any (nat_eq q) (blocks_to_head d n head) there in
    let same = eqb-true q found.1 found.4 in
    let low = chain.in_range found.0 found.1 found.2 in
    omega (arith, same, low, found.3)) in
    omega arith

-- one block more is visited
reverse-cons : (x : ℕ) (xs : List ℕ) → reverse xs ++ x ∷ [] ≡ reverse (x ∷ xs)
reverse-cons x xs = sym (reverse-append (x ∷ []) xs)

pub visited_more : {P : Type 0} (R : P → ℕ → P → Type 0) (p q u : P) (xs : List ℕ) (index block next : ℕ) → index < length xs → block ≡ slice_index xs index → next ≡ index
    → FoldsTo R p (reverse (drop (index + 1) xs)) q → R q block u → FoldsTo R p (reverse (drop next xs)) u
visited_more R p q u xs index block next lt is e so_far step =
    let there : drop next xs ≡ block ∷ drop (index + 1) xs = ap (λ k. drop k xs) e ∙ drop_more xs index 0 lt ∙ ap (λ b. b ∷ drop (index + 1) xs) (sym is) in
    subst (λ ys. FoldsTo R p ys u)
    (reverse-cons block (drop (index + 1) xs) ∙ ap reverse (sym there))
    (FoldsTo-push R p (reverse (drop (index + 1) xs)) q block u so_far step)
