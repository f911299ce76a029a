-- The blocks of a list, from the head back.
use Rattle.std.proofs.Common.{ℕ, zero, suc, ◌≡◌, ◌+◌, ◌*◌, ◌-◌, ◌<◌, ◌≤◌, ◌^◌, List, [], ◌∷◌, ◌++◌, length, slice_index, refl, sym, ap, ◌∙◌, arith, add-one, ⊎_elim}
use Rattle.lfs_file.proofs.Common.{cases_lt, w32, trailing_zeros, get_or_at, get_or_append_left, Blocks, block_bytes, word_at, pointer_count, blocks_to_head, AreListBlocks}
pub use Rattle.lfs_model.proofs.Files.{length_back}
pub use Rattle.lfs_model.proofs.ListSizes.{head_of_back}

pub pointer_count-pos : (i : ℕ) → 0 < i → pointer_count i ≡ trailing_zeros w32 i + 1
pointer_count-pos zero some = absurd (omega arith)
pointer_count-pos (suc i) some = refl

-- each of them is a block of the disk
pub in_range_at : (d : Blocks) (n head i : ℕ) → AreListBlocks d n head → i < n → slice_index (blocks_to_head d n head) i < length d
in_range_at d n head i chain lt =
    let l = length_back d n head in
    chain.in_range i 0 (omega arith)

-- pointer k of the block at a place names the one so far before it
pub pointer_at : (d : Blocks) (last head at k : ℕ) → AreListBlocks d (last + 1) head → 0 < at → at ≤ last → k ≤ trailing_zeros w32 at
    → (block : ℕ) → block ≡ slice_index (blocks_to_head d (last + 1) head) at → word_at (block_bytes d block) (4 * k) ≡ slice_index (blocks_to_head d (last + 1) head) (at - 2 ^ k)
pointer_at d last head at k chain some le few block is =
    let many = pointer_count-pos at some in
    ap (λ b. word_at (block_bytes d b) (4 * k)) is ∙ chain.pointers at k (omega arith) (omega arith)

-- a block's pointer 0 names the block before it
pub back-pointer0 : (d : Blocks) (n head i : ℕ) → suc i < n → word_at (block_bytes d (slice_index (blocks_to_head d n head) (suc i))) 0 ≡ slice_index (blocks_to_head d n head) i
back-pointer0 d zero head i lt = absurd (omega arith)
back-pointer0 d (suc zero) head i lt = absurd (omega arith)
back-pointer0 d (suc (suc n)) head i lt =
    let inner : List ℕ = blocks_to_head d (suc n) (word_at (block_bytes d head) 0) in
    let len : length inner ≡ suc n = length_back d (suc n) (word_at (block_bytes d head) 0) in
    ⊎_elim
    (λ less.
    ap (λ b. word_at (block_bytes d b) 0) (get_or_append_left inner (head ∷ []) 0 (suc i) (omega arith))
    ∙ back-pointer0 d (suc n) (word_at (block_bytes d head) 0) i less
    ∙ sym (get_or_append_left inner (head ∷ []) 0 i (omega arith)))
    (λ last.
    let here : suc i ≡ suc n = omega arith in
    ap (λ k. word_at (block_bytes d (slice_index (inner ++ head ∷ []) k)) 0) here
    ∙ ap (λ b. word_at (block_bytes d b) 0) (get_or_at inner head [] 0 (suc n) len)
    ∙ sym (head_of_back d n (word_at (block_bytes d head) 0))
    ∙ ap (λ k. slice_index (blocks_to_head d k (word_at (block_bytes d head) 0)) n) (add-one n)
    ∙ sym (get_or_append_left inner (head ∷ []) 0 n (omega arith))
    ∙ ap (slice_index (inner ++ head ∷ [])) (let k : n ≡ i = omega arith in k))
    (cases_lt (suc i) (suc n))
