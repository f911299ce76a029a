-- The walk from a list's last block to its first, as it is noted and as it is counted.
use Rattle.std.proofs.Common.{ℕ, zero, suc, ◌≡◌, ◌+◌, ◌*◌, ◌-◌, ◌<◌, ◌≤◌, ◌^◌, ⊎_elim, nat_lt, true, false, List, ◌++◌, length, take, drop, slice_index, slice_set, refl, sym, ap, subst, ◌∙◌, arith}
use Rattle.lfs_file.proofs.Common.{pow-suc, cases_lt, nat_tests, drop_at, drop-drop, length-take-le, w32, from_le_bytes, trailing_zeros, Blocks, block_bytes, AreListBlocks, blocks_to_head, word_at, HasNotedPointers, IsIndexVisited, HasNotedWalk, visit_count}
use Rattle.std.proofs.lemmas.List.{get_or-set_same, get_or-set_other}
use lib.Pow.{pow_mono}
use Rattle.lfs_file.specs.declared.way.WalkedBlocks.{WalkedBlocks}
use Rattle.lfs_file.proofs.Walked.{between_none, power_small}
use Rattle.lfs_file.proofs.Words.{word_at-written}
use Rattle.lfs_file.proofs.TrailingZeros.{zeros32-more}

-- ---- where it goes

-- after an index of it no other one ends in as many zeros
pub fewer_behind : (last i j : ℕ) → last < 2 ^ 32 → 0 < i → i < j → j ≤ last → IsIndexVisited last i → trailing_zeros w32 j < trailing_zeros w32 i
fewer_behind last i j low some less within on =
    ⊎_elim (λ fewer. fewer)
    (λ more. absurd (between_none i j (trailing_zeros w32 i) some less (omega arith) (omega arith) more (omega arith)))
    (cases_lt (trailing_zeros w32 j) (trailing_zeros w32 i))

-- it goes by the highest pointers, and so leaves out what lies between
pub left_out : (last i at : ℕ) → last < 2 ^ 32 → 0 < i → i < at → at ≤ last → at - 2 ^ trailing_zeros w32 at < i → IsIndexVisited last i → ⊥
left_out last i at low some less within behind on =
    let fewer = fewer_behind last i at low some less within on in
    between_none i at (trailing_zeros w32 at) some less (omega arith) behind (omega arith) (omega arith)

pub goes_on : (last at : ℕ) → last < 2 ^ 32 → 0 < at → at ≤ last → IsIndexVisited last at → 0 < at - 2 ^ trailing_zeros w32 at → IsIndexVisited last (at - 2 ^ trailing_zeros w32 at)
goes_on last at low some within on more =
    let z : ℕ = trailing_zeros w32 at in
    let zeros = zeros32-more at (omega arith) (omega arith) in
    let power : 2 ^ (z + 1) ≤ 2 ^ trailing_zeros w32 (at - 2 ^ z) = pow_mono zeros in
    let twice : 2 ^ (z + 1) ≡ 2 ^ z * 2 = ap (λ e. 2 ^ e) (let s : z + 1 ≡ suc z = omega arith in s) ∙ pow-suc 2 z in
    let small = power_small at z some (omega arith) (omega arith) in
    omega (arith, small.0)

-- ---- how many blocks it goes through

pub one_on : (last i : ℕ) → 0 < i → IsIndexVisited last i → visit_count last i ≡ visit_count last (i - 1) + 1
one_on last zero some on = absurd (omega arith)
one_on last (suc i) some on = let test : nat_lt (last - suc i) (2 ^ trailing_zeros w32 (suc i)) ≡ true = grind (arith, nat_tests) in rw test (ap (λ k. visit_count last k + 1) (let e : i ≡ suc i - 1 = omega arith in e))

pub none_off : (last i : ℕ) → 0 < i → (IsIndexVisited last i → ⊥) → visit_count last i ≡ visit_count last (i - 1)
none_off last zero some off = refl
none_off last (suc i) some off =
    let more : 2 ^ trailing_zeros w32 (suc i) ≤ last - suc i = ⊎_elim (λ on. absurd (off on)) (λ past. past) (cases_lt (last - suc i) (2 ^ trailing_zeros w32 (suc i))) in
    let test : nat_lt (last - suc i) (2 ^ trailing_zeros w32 (suc i)) ≡ false = grind (arith, nat_tests) in rw test (omega (arith, ap (visit_count last) (let e : i ≡ suc i - 1 = omega arith in e)))

pub visit_count-le : (last i j : ℕ) → i ≤ j → visit_count last i ≤ visit_count last j
visit_count-le last i zero le = let e : i ≡ 0 = omega arith in omega (arith, ap (visit_count last) e)
visit_count-le last i (suc j) le =
    ⊎_elim (λ less. let before = visit_count-le last i j (omega arith) in omega arith)
    (λ same. let e : i ≡ suc j = omega arith in omega (arith, ap (visit_count last) e))
    (cases_lt i (suc j))

-- ---- what is noted of it

row_word : (old block rest : List ℕ) (row len p : ℕ) → row ≤ length old → len ≤ length block → p + 4 ≤ len → word_at (take row old ++ (take len block ++ rest)) (row + p) ≡ word_at block p
row_word old block rest row len p room fits within =
    ap (λ k. from_le_bytes w32 (take k (drop (row + p) (take row old ++ (take len block ++ rest))))) (let four : row + p + 4 - (row + p) ≡ p + 4 - p = omega arith in four)
    ∙ ap (λ (l : List ℕ). from_le_bytes w32 (take (p + 4 - p) l))
    (sym (drop-drop p row (take row old ++ (take len block ++ rest))) ∙ ap (drop p) (drop_at (take row old) (take len block ++ rest) row (length-take-le row old room)))
    ∙ word_at-written block rest len p fits within

pub nothing_noted : (d : Blocks) (head last : ℕ) (way : WalkedBlocks) → HasNotedWalk d head last last way
nothing_noted d head last way = record { words = λ i k above le. absurd (omega arith); blocks = λ chain i above le. absurd (omega arith) }

-- one block more, with its pointers
module _ (d : Blocks) (head last at block : ℕ) (way : WalkedBlocks) (words rest : List ℕ) (low : last < 2 ^ 32) (some : 0 < at) (within : at ≤ last) (on : IsIndexVisited last at) (noted : HasNotedWalk d head last at way)
    (blocks_room : length way.blocks ≡ 32) (words_room : length way.words ≡ 4096) (fits : 4 * (trailing_zeros w32 at + 1) ≤ length (block_bytes d block))
    (is : words ≡ take (128 * trailing_zeros w32 at) way.words ++ (take (4 * (trailing_zeros w32 at + 1)) (block_bytes d block) ++ rest)) where
  abbrev z : ℕ
  z = trailing_zeros w32 at

  abbrev more : WalkedBlocks
  more = record { blocks = slice_set way.blocks z block; words = words }

  zeros_low : z < 32
  zeros_low = (power_small at z some (omega arith) (omega arith)).1

  here_words : (k : ℕ) → k ≤ z → word_at words (128 * z + 4 * k) ≡ word_at (block_bytes d (slice_index more.blocks z)) (4 * k)
  here_words k le =
      ap (λ (l : List ℕ). word_at l (128 * z + 4 * k)) is
      ∙ row_word way.words (block_bytes d block) rest (128 * z) (4 * (z + 1)) (4 * k) (let l = zeros_low in omega arith) fits (omega arith)
      ∙ ap (λ b. word_at (block_bytes d b) (4 * k)) (sym here_block)
    where
      here_block : slice_index more.blocks z ≡ block
      here_block = get_or-set_same way.blocks z block 0 (let l = zeros_low in omega arith)

  pub note_more : (AreListBlocks d (last + 1) head → block ≡ slice_index (blocks_to_head d (last + 1) head) at) → HasNotedWalk d head last (at - 2 ^ z) more
  note_more found = record { words = ws; blocks = bs }
    where
      other : (i : ℕ) → at < i → i ≤ last → trailing_zeros w32 i < z
      other i above le = fewer_behind last at i low some above le on

      ws : HasNotedPointers d last (at - 2 ^ z) more
      ws i k above le on_i few =
          ⊎_elim (λ less. absurd (left_out last i at low (omega arith) less within above on_i))
          (λ ge. ⊎_elim
          (λ behind.
          let fewer = other i behind le in
          let same : slice_index more.blocks (trailing_zeros w32 i) ≡ slice_index way.blocks (trailing_zeros w32 i) = get_or-set_other way.blocks z (trailing_zeros w32 i) block 0 (λ e. absurd (omega arith)) in
          let lz = zeros_low in
          ap (λ (l : List ℕ). word_at l (128 * trailing_zeros w32 i + 4 * k)) is
          ∙ word_at-written way.words (take (4 * (z + 1)) (block_bytes d block) ++ rest) (128 * z) (128 * trailing_zeros w32 i + 4 * k) (omega arith) (omega arith)
          ∙ noted.words i k behind le on_i few
          ∙ ap (λ b. word_at (block_bytes d b) (4 * k)) (sym same))
          (λ here.
          let e : at ≡ i = omega arith in
          subst (λ (x : ℕ). k ≤ trailing_zeros w32 x → word_at words (128 * trailing_zeros w32 x + 4 * k) ≡ word_at (block_bytes d (slice_index more.blocks (trailing_zeros w32 x))) (4 * k)) e (here_words k) few)
          (cases_lt at i))
          (cases_lt i at)

      bs : AreListBlocks d (last + 1) head → (i : ℕ) → at - 2 ^ z < i → i ≤ last → IsIndexVisited last i → slice_index more.blocks (trailing_zeros w32 i) ≡ slice_index (blocks_to_head d (last + 1) head) i
      bs chain i above le on_i =
          ⊎_elim (λ less. absurd (left_out last i at low (omega arith) less within above on_i))
          (λ ge. ⊎_elim
          (λ behind.
          let fewer = other i behind le in
          get_or-set_other way.blocks z (trailing_zeros w32 i) block 0 (λ e. absurd (omega arith)) ∙ noted.blocks chain i behind le on_i)
          (λ here.
          let e : at ≡ i = omega arith in
          subst (λ (x : ℕ). slice_index more.blocks (trailing_zeros w32 x) ≡ slice_index (blocks_to_head d (last + 1) head) x) e
          (get_or-set_same way.blocks z block 0 (let l = zeros_low in omega arith) ∙ found chain))
          (cases_lt at i))
          (cases_lt i at)
