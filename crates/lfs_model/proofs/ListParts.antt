-- The bytes of a list: which block each is in, and what a part of a block has.
use Rattle.std.proofs.Common.{ℕ, zero, suc, ◌≡◌, ◌+◌, ◌*◌, ◌-◌, ◌<◌, ◌≤◌, ⊎_elim, List, [], ◌∷◌, ◌++◌, length, take, drop, slice_index, slice_range, sym, ap, subst, ◌∙◌, arith, add-one, length-drop, flat_map}
use Rattle.lfs_model.proofs.Common.{cases_lt, take-append-le, drop-append-le, drop_at, drop-drop, take-take, drop-take, enumerate_from, Blocks, HasBlockSizes, block_bytes, AreListBlocks, blocks_to_head, skip_list_block_count, bytes_before_block, list_bytes, block_capacity, block_data, pointer_count}
use Rattle.lfs_model.specs.format.SkipLists.{IsByteInListBlock}
use Rattle.lfs_model.proofs.Files.{length_back}
use Rattle.lfs_model.proofs.ListSizes.{AllSized, skip_list_block_count-enough, pointer_count-le}

-- ---- places

-- the blocks before a later one hold no fewer bytes
pub bytes_before_block-more : (block_size i j : ℕ) → i ≤ j → bytes_before_block block_size i ≤ bytes_before_block block_size j
bytes_before_block-more block_size zero zero le = omega arith
bytes_before_block-more block_size (suc i) zero le = absurd (omega arith)
bytes_before_block-more block_size i (suc j) le =
    ⊎_elim (λ here. let before = bytes_before_block-more block_size i j (omega arith) in omega arith)
    (λ past. let same : i ≡ suc j = omega arith in subst (λ n. bytes_before_block block_size n ≤ bytes_before_block block_size (suc j)) (sym same) (omega arith))
    (cases_lt i (suc j))

-- a later byte is in the same block or a later one
pub place-mono : (block_size p q i j off end : ℕ) → IsByteInListBlock block_size p i off → IsByteInListBlock block_size q j end → p ≤ q → i ≤ j
place-mono block_size p q i j off end is there le = ⊎_elim
    (λ less. let more = bytes_before_block-more block_size (suc j) i (omega arith) in let low = is.from in let high = there.below in absurd (omega arith))
    (λ ge. ge)
    (cases_lt j i)

-- each byte is in one of the blocks
pub place-lt : (block_size size p i off : ℕ) → 1024 ≤ block_size → IsByteInListBlock block_size p i off → p < size → i < skip_list_block_count block_size size
place-lt block_size size p i off large is lt = ⊎_elim
    (λ less. less)
    (λ ge.
    let more = bytes_before_block-more block_size (skip_list_block_count block_size size) i ge in
    let enough = skip_list_block_count-enough block_size size large in
    let low = is.from in
    absurd (omega arith))
    (cases_lt i (skip_list_block_count block_size size))

-- ---- parts of blocks

module _ (d : Blocks) (block_size : ℕ) (large : 1024 ≤ block_size) where
  length-data : (i b : ℕ) → length (block_bytes d b) ≡ block_size → length (block_data d (i, b)) ≡ block_capacity block_size i
  length-data i b size = omega (arith, length-drop (4 * pointer_count i) (block_bytes d b))

  abbrev joined : ℕ → List ℕ → List ℕ
  joined start bs = flat_map (block_data d) (enumerate_from start bs)

  first_part : (i b : ℕ) (rest : List ℕ) (q n : ℕ) → length (block_bytes d b) ≡ block_size → q + n ≤ block_capacity block_size i
      → take n (drop q (block_data d (i, b) ++ rest)) ≡ take n (drop (4 * pointer_count i + q) (block_bytes d b))
  first_part i b rest q n size fits =
      let len = length-data i b size in
      ap (take n) (drop-append-le q (block_data d (i, b)) rest (omega arith))
      ∙ take-append-le n (drop q (block_data d (i, b))) rest (omega (arith, length-drop q (block_data d (i, b))))
      ∙ ap (take n) (drop-drop q (4 * pointer_count i) (block_bytes d b))

  -- n bytes from place q of the data of block j on
  part : (i start j : ℕ) (bs : List ℕ) (at q n : ℕ) → start + i ≡ j → AllSized d block_size bs → i < length bs → q + n ≤ block_capacity block_size j
      → bytes_before_block block_size start + at ≡ bytes_before_block block_size j + q
      → take n (drop at (joined start bs)) ≡ take n (drop (4 * pointer_count j + q) (block_bytes d (slice_index bs i)))
  part i start j [] at q n place sized lt fits is = absurd (omega arith)
  part zero start j (b ∷ bs) at q n place sized lt fits is =
      let same : start ≡ j = omega arith in
      let here : at ≡ q = omega (arith, ap (bytes_before_block block_size) same) in
      ap (λ k. take n (drop k (joined start (b ∷ bs)))) here
      ∙ first_part start b (joined (start + 1) bs) q n (sized 0 0 (omega arith)) (omega (arith, ap (block_capacity block_size) same))
      ∙ ap (λ k. take n (drop (4 * pointer_count k + q) (block_bytes d b))) same
  part (suc i) start j (b ∷ bs) at q n place sized lt fits is =
      let len = length-data start b (sized 0 0 (omega arith)) in
      let few = pointer_count-le start in
      let more = bytes_before_block-more block_size (suc start) j (omega arith) in
      let split : at ≡ block_capacity block_size start + (at - block_capacity block_size start) = omega arith in
      ap (λ k. take n (drop k (joined start (b ∷ bs)))) split
      ∙ ap (take n) (sym (drop-drop (at - block_capacity block_size start) (block_capacity block_size start) (joined start (b ∷ bs))))
      ∙ ap (λ (l : List ℕ). take n (drop (at - block_capacity block_size start) l)) (drop_at (block_data d (start, b)) (joined (start + 1) bs) (block_capacity block_size start) len)
      ∙ part i (start + 1) j bs (at - block_capacity block_size start) q n (omega arith) (λ k x l. sized (suc k) x (omega arith)) (omega arith) fits
      (omega (arith, ap (bytes_before_block block_size) (add-one start)))

  -- so are the file's bytes from one of a block on
  module _ (head size count : ℕ) (shape : HasBlockSizes block_size count d) (chain : AreListBlocks d (skip_list_block_count block_size size) head) where
    all_sized : AllSized d block_size (blocks_to_head d (skip_list_block_count block_size size) head)
    all_sized k x l =
        let lt = chain.in_range k x l in
        shape.sizes _ (omega (arith, lt, shape.count))

    pub part_of_bytes : (j from n : ℕ) → j < skip_list_block_count block_size size → bytes_before_block block_size j ≤ from → from + n ≤ bytes_before_block block_size j + block_capacity block_size j → from + n ≤ size
        → slice_range (list_bytes d block_size head size) from (from + n)
        ≡ take n (drop (4 * pointer_count j + (from - bytes_before_block block_size j)) (block_bytes d (slice_index (blocks_to_head d (skip_list_block_count block_size size) head) j)))
    part_of_bytes j from n lt low high within =
        let len = length_back d (skip_list_block_count block_size size) head in
        let short : from + n - from ≡ n = omega arith in
        let split : size ≡ from + (size - from) = omega arith in
        ap (λ k. take k (drop from (list_bytes d block_size head size))) short
        ∙ ap (λ k. take n (drop from (take k (joined 0 (blocks_to_head d (skip_list_block_count block_size size) head))))) split
        ∙ ap (take n) (drop-take from (size - from) (joined 0 (blocks_to_head d (skip_list_block_count block_size size) head)))
        ∙ take-take n (size - from) (drop from (joined 0 (blocks_to_head d (skip_list_block_count block_size size) head))) (omega arith)
        ∙ part j 0 j (blocks_to_head d (skip_list_block_count block_size size) head) from (from - bytes_before_block block_size j) n (omega arith) all_sized (omega arith) (omega arith) (omega arith)
