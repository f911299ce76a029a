-- The bytes of a list when a block of it is filled.
use Rattle.std.proofs.Common.{ℕ, zero, suc, get_or, subst, ◌^◌, ◌≡◌, ◌≢◌, ◌+◌, ◌*◌, ◌-◌, ◌<◌, ◌≤◌, List, [], ◌∷◌, ◌++◌, length, take, drop, refl, sym, ap, ◌∙◌, arith, append_assoc, length-append, length-drop}
use Rattle.std.specs.Prelude.{All}
use Rattle.std.specs.List.{IsDistinct}
use Rattle.lfs_file.proofs.Common.{append-nil, take_at, take_all, take-take, drop-append-le, drop-take, length-take-le, take-append-add, Blocks, HasBlockSizes, SameExcept, block_bytes, overwritten_at, pointer_count, block_capacity, bytes_before_block, blocks_to_head, skip_list_block_count, AreListBlocks, block_data, data_same, ListHoldsBytes, blocks_data, IsRestShared}
use Rattle.lfs_file.specs.Growing.{IsRestUnwritten}
use Rattle.lfs_file.proofs.Chains.{length_back}
use Rattle.lfs_file.proofs.Grown.{same_apart}
use Rattle.lfs_file.proofs.Joined.{joined-append, length-joined}
use Rattle.lfs_file.proofs.Sizes.{block_capacity-pos, skip_list_block_count-above, skip_list_block_count-within}

-- no blocks are a chain
pub none_chain : (d : Blocks) (head : ℕ) → AreListBlocks d 0 head
unfolding IsDistinct
none_chain d head = record {
  in_range = λ k x l. absurd (omega arith);
  distinct = tt;
  pointers = λ i k l less. absurd (omega arith);
}

-- bytes over those after a part make it longer
pub rest_more : (items new : List ℕ) (p filled n : ℕ) → p ≤ filled → length new ≡ n → filled + n ≤ length items
    → take (filled + n - p) (drop p (overwritten_at items filled new)) ≡ take (filled - p) (drop p items) ++ new
rest_more items new p filled n low size room =
    let front : length (take filled items) ≡ filled = length-take-le filled items (omega arith) in
    let split : filled ≡ p + (filled - p) = omega arith in
    let rest : List ℕ = take (filled - p) (drop p items) in
    let part : drop p (take filled items) ≡ rest = ap (λ k. drop p (take k items)) split ∙ drop-take p (filled - p) items in
    let len : length (rest ++ new) ≡ filled + n - p = omega (arith, length-append rest new, length-take-le (filled - p) (drop p items) (omega (arith, length-drop p items))) in
    ap (λ (l : List ℕ). take (filled + n - p) (drop p l)) (append_assoc (take filled items) new (drop (filled + length new) items))
    ∙ ap (take (filled + n - p)) (drop-append-le p (take filled items) (new ++ drop (filled + length new) items) (omega arith))
    ∙ ap (λ (l : List ℕ). take (filled + n - p) (l ++ (new ++ drop (filled + length new) items))) part
    ∙ ap (take (filled + n - p)) (sym (append_assoc rest new (drop (filled + length new) items)))
    ∙ take_at (rest ++ new) (drop (filled + length new) items) (filled + n - p) len

-- the bytes of one block more
pub joined_grown : (d e : Blocks) (full head block : ℕ) → blocks_to_head e (full + 1) block ≡ blocks_to_head d full head ++ block ∷ [] → SameExcept block d e → All (λ c. c ≢ block) (blocks_to_head d full head)
    → blocks_data e (blocks_to_head e (full + 1) block) ≡ blocks_data d (blocks_to_head d full head) ++ block_data e (full, block)
joined_grown d e full head block back same apart =
    ap (blocks_data e) back
    ∙ joined-append e 0 (blocks_to_head d full head) (block ∷ [])
    ∙ ap (λ (l : List ℕ). l ++ (block_data e (0 + length (blocks_to_head d full head), block) ++ [])) (data_same d e 0 (blocks_to_head d full head) (same_apart d e block (blocks_to_head d full head) same apart))
    ∙ ap (λ (l : List ℕ). blocks_data d (blocks_to_head d full head) ++ l) (append-nil (block_data e (0 + length (blocks_to_head d full head), block)))
    ∙ ap (λ k. blocks_data d (blocks_to_head d full head) ++ block_data e (k, block)) (let len = length_back d full head in omega arith)

-- of a whole block
pub joined_full : (d e : Blocks) (full head block size : ℕ) (bytes : List ℕ) → blocks_to_head e (full + 1) block ≡ blocks_to_head d full head ++ block ∷ [] → SameExcept block d e
    → All (λ c. c ≢ block) (blocks_to_head d full head) → length (block_bytes e block) ≡ size → take (size - 4 * pointer_count full) (drop (4 * pointer_count full) (block_bytes e block)) ≡ bytes
    → blocks_data e (blocks_to_head e (full + 1) block) ≡ blocks_data d (blocks_to_head d full head) ++ bytes
joined_full d e full head block size bytes back same apart sized is =
    joined_grown d e full head block back same apart
    ∙ ap (λ (l : List ℕ). blocks_data d (blocks_to_head d full head) ++ l) (sym (take_all (size - 4 * pointer_count full) (block_data e (full, block)) (omega (arith, length-drop (4 * pointer_count full) (block_bytes e block)))) ∙ is)

-- ---- the end

-- of blocks that stand one after the other on a disk
pub joined_back : (d : Blocks) (full head block : ℕ) → blocks_to_head d (full + 1) block ≡ blocks_to_head d full head ++ block ∷ []
    → blocks_data d (blocks_to_head d (full + 1) block) ≡ blocks_data d (blocks_to_head d full head) ++ block_data d (full, block)
joined_back d full head block back =
    ap (blocks_data d) back
    ∙ joined-append d 0 (blocks_to_head d full head) (block ∷ [])
    ∙ ap (λ (l : List ℕ). blocks_data d (blocks_to_head d full head) ++ l) (append-nil (block_data d (0 + length (blocks_to_head d full head), block)))
    ∙ ap (λ k. blocks_data d (blocks_to_head d full head) ++ block_data d (k, block)) (let len = length_back d full head in omega arith)

-- the full blocks hold what they have room for
pub length-full : (d : Blocks) (block_size count full head : ℕ) → 1024 ≤ block_size → HasBlockSizes block_size count d → AreListBlocks d full head → length (blocks_data d (blocks_to_head d full head)) ≡ bytes_before_block block_size full
length-full d block_size count full head large shape chain =
    let all = length-joined d block_size 0 (blocks_to_head d full head) large (λ k x l. shape.sizes (get_or (blocks_to_head d full head) k x) (let lt = chain.in_range k x l in omega (arith, lt, shape.count))) in
    let len = length_back d full head in
    omega (arith, all, ap (bytes_before_block block_size) (let s : 0 + length (blocks_to_head d full head) ≡ full = omega arith in s))

-- a list of so many blocks
at_end : (d : Blocks) (block_size head size n : ℕ) (content : List ℕ) → 1 ≤ size → size < 2 ^ 31 → skip_list_block_count block_size size ≡ n → AreListBlocks d n head → take size (blocks_data d (blocks_to_head d n head)) ≡ content
    → ListHoldsBytes d block_size head size content (blocks_to_head d n head)
at_end d block_size head size n content low high count chain is =
    let whole : AreListBlocks d (skip_list_block_count block_size size) head = subst (λ k. AreListBlocks d k head) (sym count) chain in
    record {
      list = record { size_low = low; size_high = high; blocks = whole };
      bytes = ap (λ k. take size (blocks_data d (blocks_to_head d k head))) count ∙ is;
      blocks = ap (λ k. blocks_to_head d k head) count;
    }

-- with nothing after the full blocks
pub end_closed : (d : Blocks) (block_size count full head size : ℕ) → 1024 ≤ block_size → HasBlockSizes block_size count d → AreListBlocks d full head → 1 ≤ size → size < 2 ^ 31 → size ≡ bytes_before_block block_size full
    → ListHoldsBytes d block_size head size (blocks_data d (blocks_to_head d full head)) (blocks_to_head d full head)
end_closed d block_size count zero head size large shape chain low high is = absurd (omega arith)
end_closed d block_size count (suc full) head size large shape chain low high is =
    let one = block_capacity-pos block_size full large in
    let above = skip_list_block_count-above block_size size full large (omega arith) in
    let within = skip_list_block_count-within block_size size (suc full) large (omega arith) in
    at_end d block_size head size (suc full) (blocks_data d (blocks_to_head d (suc full) head)) low high (omega arith) chain
    (take_all size (blocks_data d (blocks_to_head d (suc full) head)) (omega (arith, length-full d block_size count (suc full) head large shape chain)))

-- with a block after them that begins with the rest
pub end_open : (d e : Blocks) (block_size count full head block size : ℕ) (rest : List ℕ) → 1024 ≤ block_size → HasBlockSizes block_size count d → AreListBlocks d full head → AreListBlocks e (full + 1) block
    → blocks_data e (blocks_to_head e (full + 1) block) ≡ blocks_data d (blocks_to_head d full head) ++ block_data e (full, block) → take (length rest) (block_data e (full, block)) ≡ rest
    → 1 ≤ length rest → length rest ≤ block_capacity block_size full → size < 2 ^ 31 → size ≡ bytes_before_block block_size full + length rest
    → ListHoldsBytes e block_size block size (blocks_data d (blocks_to_head d full head) ++ rest) (blocks_to_head e (full + 1) block)
end_open d e block_size count full head block size rest large shape chain more bytes begins some short high is =
    let all = length-full d block_size count full head large shape chain in
    let above = skip_list_block_count-above block_size size full large (omega arith) in
    let within = skip_list_block_count-within block_size size (suc full) large (omega arith) in
    let sum : size ≡ length (blocks_data d (blocks_to_head d full head)) + length rest = omega arith in
    at_end e block_size block size (full + 1) (blocks_data d (blocks_to_head d full head) ++ rest) (omega arith) high (omega arith) more
    (ap (take size) bytes
    ∙ ap (λ k. take k (blocks_data d (blocks_to_head d full head) ++ block_data e (full, block))) sum
    ∙ take-append-add (blocks_data d (blocks_to_head d full head)) (block_data e (full, block)) (length rest)
    ∙ ap (λ (l : List ℕ). blocks_data d (blocks_to_head d full head) ++ l) begins)

-- the ends of a list that grows
pub closed_end : (d : Blocks) (block_size count full head size : ℕ) (rest : List ℕ) → 1024 ≤ block_size → HasBlockSizes block_size count d → AreListBlocks d full head → rest ≡ []
    → 1 ≤ size → size < 2 ^ 31 → size ≡ bytes_before_block block_size full + length rest → ListHoldsBytes d block_size head size (blocks_data d (blocks_to_head d full head) ++ rest) (blocks_to_head d full head ++ [])
closed_end d block_size count full head size rest large shape chain none low high is =
    let end = end_closed d block_size count full head size large shape chain low high (omega (arith, is, ap length none)) in
    record {
      list = end.list;
      bytes = end.bytes ∙ sym (append-nil (blocks_data d (blocks_to_head d full head))) ∙ ap (λ (l : List ℕ). blocks_data d (blocks_to_head d full head) ++ l) (sym none);
      blocks = end.blocks ∙ sym (append-nil (blocks_to_head d full head));
    }

pub shared_end : (d : Blocks) (block_size count full head block size : ℕ) (rest : List ℕ) → 1024 ≤ block_size → HasBlockSizes block_size count d → AreListBlocks d full head → IsRestShared d full head rest block
    → length rest ≤ block_capacity block_size full → size < 2 ^ 31 → size ≡ bytes_before_block block_size full + length rest
    → ListHoldsBytes d block_size block size (blocks_data d (blocks_to_head d full head) ++ rest) (blocks_to_head d full head ++ block ∷ [])
shared_end d block_size count full head block size rest large shape chain shared short high is =
    let end = end_open d d block_size count full head block size rest large shape chain shared.chain (joined_back d full head block shared.back) shared.begins shared.some short high is in
    record { list = end.list; bytes = end.bytes; blocks = end.blocks ∙ shared.back }

pub handed_end : (d e : Blocks) (block_size count full head block size : ℕ) (rest : List ℕ) → 1024 ≤ block_size → HasBlockSizes block_size count d → AreListBlocks d full head → IsRestUnwritten d full head rest block
    → AreListBlocks e (full + 1) block → blocks_to_head e (full + 1) block ≡ blocks_to_head d full head ++ block ∷ [] → SameExcept block d e → take (length rest) (block_data e (full, block)) ≡ rest
    → length rest ≤ block_capacity block_size full → size < 2 ^ 31 → size ≡ bytes_before_block block_size full + length rest
    → ListHoldsBytes e block_size block size (blocks_data d (blocks_to_head d full head) ++ rest) (blocks_to_head d full head ++ block ∷ [])
handed_end d e block_size count full head block size rest large shape chain handed more back same begins short high is =
    let end = end_open d e block_size count full head block size rest large shape chain more (joined_grown d e full head block back same handed.apart) begins handed.some short high is in
    record { list = end.list; bytes = end.bytes; blocks = end.blocks ∙ back }

-- what is before the bytes that are overwritten
pub rest_kept : (items new : List ℕ) (p filled : ℕ) → p ≤ filled → filled + length new ≤ length items → take (filled - p) (drop p (overwritten_at items filled new)) ≡ take (filled - p) (drop p items)
rest_kept items new p filled low room =
    let rest : List ℕ = take (filled - p) (drop p items) in
    sym (take-take (filled - p) (filled + length new - p) (drop p (overwritten_at items filled new)) (omega arith))
    ∙ ap (take (filled - p)) (rest_more items new p filled (length new) low refl room)
    ∙ take_at rest new (filled - p) (length-take-le (filled - p) (drop p items) (omega (arith, length-drop p items)))
