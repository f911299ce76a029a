-- A file's bytes, gathered from its blocks, the last part first.
use Rattle.std.proofs.Common.{ℕ, suc, ◌≡◌, ◌+◌, ◌*◌, ◌-◌, ◌<◌, ◌≤◌, ◌^◌, min, List, ◌++◌, length, take, drop, slice_index, slice_range, sym, ap, subst, ◌∙◌, arith, append_assoc, length-drop}
use Rattle.lfs_file.proofs.Common.{drop_at, drop-drop, length-take-le, drop-put_mid, take-add, Blocks, HasBlockSizes, block_bytes, word_at, pointer_count, bytes_before_block, blocks_to_head, skip_list_block_count, IsSkipList, IsByteInListBlock, list_bytes, part_of_bytes}
use Rattle.lfs_file.proofs.Sizes.{placed, place_before, place-lt, pointer_count-le}
use Rattle.lfs_file.proofs.Chains.{in_range_at}

slices_joined : (xs : List ℕ) (a b c : ℕ) → a ≤ b → b ≤ c → slice_range xs a b ++ slice_range xs b c ≡ slice_range xs a c
slices_joined xs a b c ab bc =
    let there : a + (b - a) ≡ b = omega arith in
    let whole : b - a + (c - b) ≡ c - a = omega arith in
    ap (λ (l : List ℕ). slice_range xs a b ++ take (c - b) l) (ap (λ k. drop k xs) (sym there) ∙ sym (drop-drop (b - a) a xs))
    ∙ sym (take-add (b - a) (c - b) (drop a xs))
    ∙ ap (λ k. take k (drop a xs)) whole

-- a buffer with a part of a block in it
abbrev pub filled : List ℕ → ℕ → ℕ → ℕ → List ℕ → List ℕ
filled buf start n off block = take start buf ++ (take n (drop off block) ++ drop (start + n) buf)

pub drop-filled : (buf block : List ℕ) (start n off len : ℕ) → start + n ≤ length buf → off + n ≤ length block → start + n ≤ len → drop len (filled buf start n off block) ≡ drop len buf
drop-filled buf block start n off len room fits le =
    ap (λ (l : List ℕ). drop len (take start buf ++ (take n (drop off block) ++ l))) (sym (drop-drop n start buf))
    ∙ drop-put_mid start n buf (take n (drop off block)) len le (omega arith) (length-take-le n (drop off block) (omega (arith, length-drop off block)))

-- the part that holds the byte before `left`
pub record IsPart (block_size pos left n i off : ℕ) : Type 0 where
  pub place : IsByteInListBlock block_size (pos + left - 1) i off
  pub size : n ≡ min left (off + 1 - 4 * pointer_count i)

module _ (d : Blocks) (block_size count head size : ℕ) (large : 1024 ≤ block_size) (shape : HasBlockSizes block_size count d) where
  abbrev bs : List ℕ
  bs = blocks_to_head d (skip_list_block_count block_size size) head

  abbrev bytes : List ℕ
  bytes = list_bytes d block_size head size

  module _ (pos len left n i off block : ℕ) (part : IsPart block_size pos left n i off) (some : 1 ≤ left) (le : left ≤ len) (within : pos + len ≤ size) where
    pub part_fits : (1 ≤ n) × (n ≤ off + 1) × (off + 1 ≤ block_size)
    part_fits =
        let low = part.place.from in
        let high = part.place.below in
        let at = part.place.at in
        let is = part.size in
        let few = pointer_count-le i in
        (omega arith, omega arith, omega arith)

    index_low : i < skip_list_block_count block_size size
    index_low = place-lt block_size size (pos + left - 1) i off large part.place (omega arith)

    pub bytes_more : IsSkipList d block_size head size → block ≡ slice_index bs i → (buf rest : List ℕ) → len ≤ length buf → drop left buf ≡ slice_range bytes (pos + left) (pos + len) ++ rest
        → drop (left - n) (filled buf (left - n) n (off + 1 - n) (block_bytes d block)) ≡ slice_range bytes (pos + (left - n)) (pos + len) ++ rest
    bytes_more ok is buf rest room so_far =
        let low = part.place.from in
        let high = part.place.below in
        let at = part.place.at in
        let size_is = part.size in
        let few = pointer_count-le i in
        let from : ℕ = pos + (left - n) in
        let back : left - n + n ≡ left = omega arith in
        let end : from + n ≡ pos + left = omega arith in
        let there : 4 * pointer_count i + (from - bytes_before_block block_size i) ≡ off + 1 - n = omega arith in
        drop_at (take (left - n) buf) (take n (drop (off + 1 - n) (block_bytes d block)) ++ drop (left - n + n) buf) (left - n) (length-take-le (left - n) buf (omega arith))
        ∙ ap (λ (l : List ℕ). take n (drop (off + 1 - n) (block_bytes d block)) ++ l) (ap (λ k. drop k buf) back ∙ so_far)
        ∙ ap (λ (l : List ℕ). l ++ (slice_range bytes (pos + left) (pos + len) ++ rest))
        (ap (λ k. take n (drop k (block_bytes d block))) (sym there)
        ∙ ap (λ b. take n (drop (4 * pointer_count i + (from - bytes_before_block block_size i)) (block_bytes d b))) is
        ∙ sym (part_of_bytes d block_size large head size count shape ok.blocks i from n index_low (omega arith) (omega arith) (omega arith))
        ∙ ap (slice_range bytes from) end)
        ∙ sym (append_assoc (slice_range bytes from (pos + left)) (slice_range bytes (pos + left) (pos + len)) rest)
        ∙ ap (λ (l : List ℕ). l ++ rest) (slices_joined bytes from (pos + left) (pos + len) (omega arith) (omega arith))

    -- the block of the byte before the part
    pub index_before : (j end : ℕ) → 1 ≤ left - n → IsByteInListBlock block_size (pos + (left - n) - 1) j end → i ≡ suc j
    index_before j end more there =
        let low = part.place.from in
        let at = part.place.at in
        let size_is = part.size in
        let few = pointer_count-le i in
        place_before block_size (pos + (left - n) - 1) i j end large there (omega arith)

    pub block_before : IsSkipList d block_size head size → block ≡ slice_index bs i → 1 ≤ left - n → (j end : ℕ) → IsByteInListBlock block_size (pos + (left - n) - 1) j end
        → word_at (block_bytes d block) 0 ≡ slice_index bs j
    block_before ok is more j end there =
        let next = index_before j end more there in
        let back : i - 2 ^ 0 ≡ j = omega arith in
        let some_pointers : 0 < pointer_count i = subst (λ k. 0 < pointer_count k) (sym next) (omega arith) in
        ap (λ b. word_at (block_bytes d b) 0) is ∙ ok.blocks.pointers i 0 index_low some_pointers ∙ ap (slice_index bs) back

    pub before_in_range : IsSkipList d block_size head size → block ≡ slice_index bs i → 1 ≤ left - n → word_at (block_bytes d block) 0 < count
    before_in_range ok is more =
        let there = placed block_size (pos + (left - n) - 1) large in
        let next = index_before there.0 there.1.0 more there.1.1 in
        let low = index_low in
        let e = block_before ok is more there.0 there.1.0 there.1.1 in
        let lt = in_range_at d (skip_list_block_count block_size size) head there.0 ok.blocks (omega arith) in
        omega (arith, e, lt, shape.count)

-- a turn: a part comes to the front of what the buffer holds
pub record IsReadPass (d : Blocks) (block_size count size pos len left n i off block : ℕ) (buf new : List ℕ) : Type 0 where
  pub large : 1024 ≤ block_size
  pub shape : HasBlockSizes block_size count d
  pub part : IsPart block_size pos left n i off
  pub some : 1 ≤ left
  pub le : left ≤ len
  pub within : pos + len ≤ size
  pub room : len ≤ length buf
  pub in_range : block < count
  pub is : new ≡ filled buf (left - n) n (off + 1 - n) (block_bytes d block)

module _ {d : Blocks} {block_size count size pos len left n i off block : ℕ} {buf new : List ℕ} (turn : IsReadPass d block_size count size pos len left n i off block buf new) where
  pub turn_fits : (1 ≤ n) × (n ≤ off + 1) × (off + 1 ≤ block_size)
  turn_fits = part_fits d block_size count 0 size turn.large turn.shape pos len left n i off block turn.part turn.some turn.le turn.within

  pub turn_bytes : (head : ℕ) (rest : List ℕ) → IsSkipList d block_size head size → block ≡ slice_index (blocks_to_head d (skip_list_block_count block_size size) head) i
      → drop left buf ≡ slice_range (list_bytes d block_size head size) (pos + left) (pos + len) ++ rest
      → drop (left - n) new ≡ slice_range (list_bytes d block_size head size) (pos + (left - n)) (pos + len) ++ rest
  turn_bytes head rest ok is so_far =
      ap (drop (left - n)) turn.is ∙ bytes_more d block_size count head size turn.large turn.shape pos len left n i off block turn.part turn.some turn.le turn.within ok is buf rest turn.room so_far

  pub turn_rest : drop len new ≡ drop len buf
  turn_rest =
      let fits = turn_fits in
      let size_is = turn.part.size in
      let sized = turn.shape.sizes block turn.in_range in
      let some = turn.some in
      let le = turn.le in
      let room = turn.room in
      ap (drop len) turn.is ∙ drop-filled buf (block_bytes d block) (left - n) n (off + 1 - n) len (omega arith) (omega arith) (omega arith)

  pub turn_before : (head : ℕ) → IsSkipList d block_size head size → block ≡ slice_index (blocks_to_head d (skip_list_block_count block_size size) head) i → 1 ≤ left - n
      → (j end : ℕ) → IsByteInListBlock block_size (pos + (left - n) - 1) j end → word_at (block_bytes d block) 0 ≡ slice_index (blocks_to_head d (skip_list_block_count block_size size) head) j
  turn_before head ok is more = block_before d block_size count head size turn.large turn.shape pos len left n i off block turn.part turn.some turn.le turn.within ok is more

  pub turn_in_range : (head : ℕ) → IsSkipList d block_size head size → block ≡ slice_index (blocks_to_head d (skip_list_block_count block_size size) head) i → 1 ≤ left - n → word_at (block_bytes d block) 0 < count
  turn_in_range head ok is more = before_in_range d block_size count head size turn.large turn.shape pos len left n i off block turn.part turn.some turn.le turn.within ok is more

  pub turn_index : 1 ≤ left - n → (j end : ℕ) → IsByteInListBlock block_size (pos + (left - n) - 1) j end → i ≡ suc j
  turn_index more j end there = index_before d block_size count 0 size turn.large turn.shape pos len left n i off block turn.part turn.some turn.le turn.within j end more there
