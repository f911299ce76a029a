-- How many blocks a list has, and how many bytes.
use Rattle.std.proofs.Common.{ℕ, zero, suc, ◌≡◌, ◌+◌, ◌*◌, ◌-◌, ◌<◌, ◌≤◌, Bool, if◌then◌else◌, get_or, List, [], ◌∷◌, length, refl, ap, ◌∙◌, arith, add-one, flat_map, length-append, length-drop}
use Rattle.std.specs.Prelude.{All, slice_index}
use Rattle.lfs_model.proofs.Common.{enumerate_from, ne_eqb, length-take-le, Blocks, HasBlockSizes, block_bytes, word_at, pointer_count, block_capacity, bytes_before_block, skip_list_block_count, blocks_to_head, IsSkipList, block_data, list_bytes}
use Rattle.std.proofs.lemmas.List.{get_or_at}
use lib.Count.{trailing_le}
use Rattle.lfs_model.specs.format.SkipLists.{list_block_count_from}
use Rattle.lfs_model.proofs.Files.{length_back}

-- ---- blocks

one_more : (m block_size i a : ℕ) → list_block_count_from (suc m) block_size i (suc a) ≡ 1 + list_block_count_from m block_size (i + 1) (suc a - block_capacity block_size i)
one_more m block_size i a = ap (λ (t : Bool). if t then 0 else 1 + list_block_count_from m block_size (i + 1) (suc a - block_capacity block_size i)) (ne_eqb (suc a) 0 (λ e. absurd (omega (arith, e))))

-- more bytes take no fewer blocks
fewer : (m n block_size i a b : ℕ) → m ≤ n → a ≤ b → list_block_count_from m block_size i a ≤ list_block_count_from n block_size i b
fewer zero n block_size i a b le few = omega arith
fewer (suc m) zero block_size i a b le few = absurd (omega arith)
fewer (suc m) (suc n) block_size i zero b le few = omega arith
fewer (suc m) (suc n) block_size i (suc a) zero le few = absurd (omega arith)
fewer (suc m) (suc n) block_size i (suc a) (suc b) le few =
    let behind = fewer m n block_size (i + 1) (suc a - block_capacity block_size i) (suc b - block_capacity block_size i) (omega arith) (omega arith) in
    omega (arith, behind, one_more m block_size i a, one_more n block_size i b)

pub skip_list_block_count-more : (block_size a b : ℕ) → a ≤ b → skip_list_block_count block_size a ≤ skip_list_block_count block_size b
skip_list_block_count-more block_size a b le = fewer a b block_size 0 a b le le

-- the head is the last of them
pub head_of_back : (d : Blocks) (n head : ℕ) → slice_index (blocks_to_head d (n + 1) head) n ≡ head
head_of_back d zero head = refl
head_of_back d (suc n) head =
    ap (λ k. slice_index (blocks_to_head d k head) (suc n)) (add-one (suc n))
    ∙ get_or_at (blocks_to_head d (suc n) (word_at (block_bytes d head) 0)) head [] 0 (suc n) (length_back d (suc n) (word_at (block_bytes d head) 0))

-- ---- bytes

pub pointer_count-le : (i : ℕ) → pointer_count i ≤ 33
pointer_count-le zero = omega arith
pointer_count-le (suc i) = let few = trailing_le 32 (suc i) in omega arith

pub block_capacity-pos : (block_size i : ℕ) → 1024 ≤ block_size → 892 ≤ block_capacity block_size i
block_capacity-pos block_size i large = let few = pointer_count-le i in omega arith

-- the blocks of a list, from block i on, hold all its bytes
enough_from : (block_size steps i size : ℕ) → 1024 ≤ block_size → size ≤ steps → bytes_before_block block_size i + size ≤ bytes_before_block block_size (i + list_block_count_from steps block_size i size)
enough_from block_size steps i zero large le = go steps
  where
    none : bytes_before_block block_size i + 0 ≤ bytes_before_block block_size (i + 0)
    none = let e : i + 0 ≡ i = omega arith in omega (arith, ap (bytes_before_block block_size) e)

    go : (steps : ℕ) → bytes_before_block block_size i + 0 ≤ bytes_before_block block_size (i + list_block_count_from steps block_size i 0)
    go zero = none
    go (suc n) = none
enough_from block_size zero i (suc size) large le = absurd (omega arith)
enough_from block_size (suc steps) i (suc size) large le =
    let one = block_capacity-pos block_size i large in
    let count : ℕ = list_block_count_from steps block_size (i + 1) (suc size - block_capacity block_size i) in
    let behind : bytes_before_block block_size (i + 1) + (suc size - block_capacity block_size i) ≤ bytes_before_block block_size (i + 1 + count) = enough_from block_size steps (i + 1) (suc size - block_capacity block_size i) large (omega arith) in
    let e : i + list_block_count_from (suc steps) block_size i (suc size) ≡ i + 1 + count = omega (arith, one_more steps block_size i size) in
    omega (arith, behind, ap (bytes_before_block block_size) e, ap (bytes_before_block block_size) (add-one i))

pub skip_list_block_count-enough : (block_size size : ℕ) → 1024 ≤ block_size → size ≤ bytes_before_block block_size (skip_list_block_count block_size size)
skip_list_block_count-enough block_size size large =
    omega (arith, enough_from block_size size 0 size large (omega arith), ap (bytes_before_block block_size) (let e : 0 + skip_list_block_count block_size size ≡ skip_list_block_count block_size size = omega arith in e))

-- each of the blocks has the block size
abbrev pub AllSized : Blocks → ℕ → List ℕ → Type 0
AllSized d block_size bs = All (λ b. length (block_bytes d b) ≡ block_size) bs

-- blocks from one of that index on hold as many bytes as they have room for
pub length-data : (d : Blocks) (block_size start : ℕ) (bs : List ℕ) → 1024 ≤ block_size → AllSized d block_size bs
    → bytes_before_block block_size start + length (flat_map (block_data d) (enumerate_from start bs)) ≡ bytes_before_block block_size (start + length bs)
length-data d block_size start [] large sized = omega (arith, ap (bytes_before_block block_size) (let s : start + 0 ≡ start = omega arith in s))
length-data d block_size start (b ∷ bs) large sized =
    let few = pointer_count-le start in
    let here : length (block_data d (start, b)) ≡ block_capacity block_size start = omega (arith, length-drop (4 * pointer_count start) (block_bytes d b), sized 0 0 (omega arith)) in
    let next = length-data d block_size (start + 1) bs large (λ k x l. sized (suc k) x (omega arith)) in
    let all = length-append (block_data d (start, b)) (flat_map (block_data d) (enumerate_from (start + 1) bs)) in
    omega (arith, here, next, all, ap (bytes_before_block block_size) (add-one start), ap (bytes_before_block block_size) (let s : start + 1 + length bs ≡ start + suc (length bs) = omega arith in s))

-- so do the first blocks of a list
pub length-back_data : (d : Blocks) (block_size block_count count head : ℕ) → 1024 ≤ block_size → HasBlockSizes block_size block_count d → All (λ b. b < length d) (blocks_to_head d count head)
    → length (flat_map (block_data d) (enumerate_from 0 (blocks_to_head d count head))) ≡ bytes_before_block block_size count
length-back_data d block_size block_count count head large shape in_range =
    let all = length-data d block_size 0 (blocks_to_head d count head) large (λ k x l. shape.sizes (get_or (blocks_to_head d count head) k x) (let lt = in_range k x l in omega (arith, lt, shape.count))) in
    let len = length_back d count head in
    omega (arith, all, ap (bytes_before_block block_size) (let s : 0 + length (blocks_to_head d count head) ≡ count = omega arith in s))

-- a list has as many bytes as its size says
pub length-list_bytes : (d : Blocks) (block_size block_count head size : ℕ) → 1024 ≤ block_size → HasBlockSizes block_size block_count d → IsSkipList d block_size head size → length (list_bytes d block_size head size) ≡ size
length-list_bytes d block_size block_count head size large shape list =
    length-take-le size (flat_map (block_data d) (enumerate_from 0 (blocks_to_head d (skip_list_block_count block_size size) head)))
    (omega (arith, length-back_data d block_size block_count (skip_list_block_count block_size size) head large shape list.blocks.in_range, skip_list_block_count-enough block_size size large))
