-- The bytes of blocks, one after the other.
use Rattle.std.proofs.Common.{ℕ, zero, suc, ◌≡◌, ◌+◌, ◌*◌, ◌<◌, ◌≤◌, List, [], ◌∷◌, ◌++◌, length, take, slice_index, sym, ap, ◌∙◌, arith, add-one, append_assoc, length-append, length-drop, flat_map}
use Rattle.lfs_file.proofs.Common.{enumerate_from, take_more, Blocks, block_bytes, pointer_count, block_capacity, bytes_before_block, blocks_to_head, block_data, AllSized}
use Rattle.lfs_file.proofs.Sizes.{pointer_count-le}
use Rattle.lfs_file.proofs.Chains.{length_back, back-pointer0}

-- from a block of that index on
abbrev pub joined_from : Blocks → ℕ → List ℕ → List ℕ
joined_from d start bs = flat_map (block_data d) (enumerate_from start bs)

pub joined-append : (d : Blocks) (start : ℕ) (xs ys : List ℕ) → joined_from d start (xs ++ ys) ≡ joined_from d start xs ++ joined_from d (start + length xs) ys
joined-append d start [] ys = ap (λ k. joined_from d k ys) (let s : start ≡ start + 0 = omega arith in s)
joined-append d start (x ∷ xs) ys =
    ap (λ (l : List ℕ). block_data d (start, x) ++ l) (joined-append d (start + 1) xs ys)
    ∙ sym (append_assoc (block_data d (start, x)) (joined_from d (start + 1) xs) (joined_from d (start + 1 + length xs) ys))
    ∙ ap (λ k. joined_from d start (x ∷ xs) ++ joined_from d k ys) (let s : start + 1 + length xs ≡ start + suc (length xs) = omega arith in s)

-- they are as long as the blocks have room
pub length-joined : (d : Blocks) (block_size start : ℕ) (bs : List ℕ) → 1024 ≤ block_size → AllSized d block_size bs → bytes_before_block block_size start + length (joined_from d start bs) ≡ bytes_before_block block_size (start + length bs)
length-joined d block_size start [] large sized = omega (arith, ap (bytes_before_block block_size) (let s : start + 0 ≡ start = omega arith in s))
length-joined d block_size start (b ∷ bs) large sized =
    let few = pointer_count-le start in
    let here : length (block_data d (start, b)) ≡ block_capacity block_size start = omega (arith, length-drop (4 * pointer_count start) (block_bytes d b), sized 0 0 (omega arith)) in
    let next = length-joined d block_size (start + 1) bs large (λ k x l. sized (suc k) x (omega arith)) in
    let all = length-append (block_data d (start, b)) (joined_from d (start + 1) bs) in
    omega (arith, here, next, all, ap (bytes_before_block block_size) (add-one start), ap (bytes_before_block block_size) (let s : start + 1 + length bs ≡ start + suc (length bs) = omega arith in s))

-- the blocks before one are a list's, too
pub back_prefix : (d : Blocks) (n head m : ℕ) → m < n → blocks_to_head d (m + 1) (slice_index (blocks_to_head d n head) m) ≡ take (m + 1) (blocks_to_head d n head)
back_prefix d n head zero lt = sym (take_more (blocks_to_head d n head) 0 0 (let len = length_back d n head in omega arith))
back_prefix d n head (suc m) lt =
    let bs : List ℕ = blocks_to_head d n head in
    let len : length bs ≡ n = length_back d n head in
    ap (λ k. blocks_to_head d k (slice_index bs (suc m))) (add-one (suc m))
    ∙ ap (λ b. blocks_to_head d (suc m) b ++ slice_index bs (suc m) ∷ []) (back-pointer0 d n head m lt)
    ∙ ap (λ k. blocks_to_head d k (slice_index bs m) ++ slice_index bs (suc m) ∷ []) (sym (add-one m))
    ∙ ap (λ (l : List ℕ). l ++ slice_index bs (suc m) ∷ []) (back_prefix d n head m (omega arith))
    ∙ ap (λ k. take k bs ++ slice_index bs (suc m) ∷ []) (add-one m)
    ∙ sym (take_more bs (suc m) 0 (omega arith))
