-- One more block behind the blocks of a list.
use Rattle.std.proofs.Common.{ℕ, zero, suc, ◌≡◌, ◌≢◌, ◌+◌, ◌*◌, ◌-◌, ◌<◌, ◌^◌, ⊎_elim, nat_eq, get_or, List, [], ◌∷◌, ◌++◌, length, slice_index, refl, sym, ap, subst, ◌∙◌, arith, add-one, length-append}
use Rattle.std.specs.Prelude.{All}
use Rattle.std.specs.List.{IsDistinct}
use Rattle.lfs_file.proofs.Common.{one-le-pow, cases_lt, ne_eqb, eqb-false, get_or_at, get_or_append_left, recursion_from_All, IsDistinct-from_apart, apart_from_distinct, Blocks, SameExcept, block_bytes, word_at, pointer_count, blocks_to_head, AreListBlocks, Same, back_same}
use Rattle.lfs_file.proofs.Chains.{length_back, head_of_back, pointer_count-pos}

-- blocks apart from one that changes are the same
pub same_apart : (d e : Blocks) (block : ℕ) (bs : List ℕ) → SameExcept block d e → All (λ c. c ≢ block) bs → Same d e bs
same_apart d e block bs same apart =
    recursion_from_All (λ b. block_bytes e b ≡ block_bytes d b) bs (λ k x lt. same.others (get_or bs k x) (apart k x lt))

some_before : (n k : ℕ) → k < pointer_count n → n - 2 ^ k < n
some_before zero k less = absurd (omega arith)
some_before (suc n) k less = let power = one-le-pow k 2 (omega arith) in omega arith

-- the same blocks, and the new one
pub back_grown : (d e : Blocks) (n head block : ℕ) → Same d e (blocks_to_head d n head) → (0 < n → word_at (block_bytes e block) 0 ≡ slice_index (blocks_to_head d n head) (n - 1))
    → blocks_to_head e (n + 1) block ≡ blocks_to_head d n head ++ block ∷ []
back_grown d e zero head block same first = refl
back_grown d e (suc n) head block same first =
    let here : suc n - 1 ≡ n = omega arith in
    let to : word_at (block_bytes e block) 0 ≡ head =
    first (omega arith) ∙ ap (slice_index (blocks_to_head d (suc n) head)) here ∙ ap (λ k. slice_index (blocks_to_head d k head) n) (sym (add-one n)) ∙ head_of_back d n head in
    ap (λ k. blocks_to_head e k block) (add-one (suc n))
    ∙ ap (λ b. blocks_to_head e (suc n) b ++ block ∷ []) to
    ∙ ap (λ bs. bs ++ block ∷ []) (back_same d e (suc n) head same)

module _ (d e : Blocks) (n head block : ℕ) (chain : AreListBlocks d n head) (same : SameExcept block d e) (lt : block < length d) (apart : All (λ c. c ≢ block) (blocks_to_head d n head))
    (points : (k : ℕ) → k < pointer_count n → word_at (block_bytes e block) (4 * k) ≡ slice_index (blocks_to_head d n head) (n - 2 ^ k)) where
  abbrev bs : List ℕ
  bs = blocks_to_head d n head

  kept : Same d e bs
  kept = same_apart d e block bs same apart

  pub grown_back : blocks_to_head e (n + 1) block ≡ bs ++ block ∷ []
  grown_back = back_grown d e n head block kept (λ some. points 0 (let many = pointer_count-pos n some in omega arith) ∙ ap (slice_index bs) (let s : n - 2 ^ 0 ≡ n - 1 = omega arith in s))

  before_last : (i x : ℕ) → i < n → get_or (bs ++ block ∷ []) i x ≡ get_or bs i x
  before_last i x low = let len = length_back d n head in get_or_append_left bs (block ∷ []) x i (omega arith)

  at_last : (x : ℕ) → get_or (bs ++ block ∷ []) n x ≡ block
  at_last x = get_or_at bs block [] x n (length_back d n head)

  in_range_all : All (λ b. b < length e) (bs ++ block ∷ [])
  in_range_all k x l =
      let len = length_back d n head in
      let all : length (bs ++ block ∷ []) ≡ n + 1 = omega (arith, length-append bs (block ∷ [])) in
      ⊎_elim
      (λ low. let there = chain.in_range k x (omega arith) in omega (arith, there, before_last k x low, same.count))
      (λ last. let here : k ≡ n = omega arith in omega (arith, lt, ap (λ i. get_or (bs ++ block ∷ []) i x) here, at_last x, same.count))
      (cases_lt k n)

  distinct_all : IsDistinct nat_eq (bs ++ block ∷ [])
  distinct_all = IsDistinct-from_apart nat_eq (bs ++ block ∷ []) (λ i j x less l.
      let len = length_back d n head in
      let all : length (bs ++ block ∷ []) ≡ n + 1 = omega (arith, length-append bs (block ∷ [])) in
      ne_eqb (get_or (bs ++ block ∷ []) i x) (get_or (bs ++ block ∷ []) j x) (λ is. ⊎_elim
      (λ low. eqb-false (get_or bs i x) (get_or bs j x) (apart_from_distinct nat_eq bs i j x chain.distinct less (omega arith)) (sym (before_last i x (omega arith)) ∙ is ∙ before_last j x low))
      (λ last. let here : j ≡ n = omega arith in apart i x (omega arith) (sym (before_last i x (omega arith)) ∙ is ∙ ap (λ k. get_or (bs ++ block ∷ []) k x) here ∙ at_last x))
      (cases_lt j n)))

  points_all : (i k : ℕ) → i < n + 1 → k < pointer_count i → word_at (block_bytes e (slice_index (bs ++ block ∷ []) i)) (4 * k) ≡ slice_index (bs ++ block ∷ []) (i - 2 ^ k)
  points_all i k l less =
      let power = one-le-pow k 2 (omega arith) in
      ⊎_elim
      (λ low.
      ap (λ b. word_at (block_bytes e b) (4 * k)) (before_last i 0 low)
      ∙ ap (λ (b : List ℕ). word_at b (4 * k)) (same.others (slice_index bs i) (apart i 0 (let len = length_back d n head in omega arith)))
      ∙ chain.pointers i k low less
      ∙ sym (before_last (i - 2 ^ k) 0 (omega arith)))
      (λ last.
      let here : i ≡ n = omega arith in
      let there = subst (λ m. k < pointer_count m) here less in
      ap (λ m. word_at (block_bytes e (slice_index (bs ++ block ∷ []) m)) (4 * k)) here
      ∙ ap (λ b. word_at (block_bytes e b) (4 * k)) (at_last 0)
      ∙ points k there
      ∙ sym (before_last (n - 2 ^ k) 0 (some_before n k there))
      ∙ ap (λ m. slice_index (bs ++ block ∷ []) (m - 2 ^ k)) (sym here))
      (cases_lt i n)

  pub chain_grown : AreListBlocks e (n + 1) block
  chain_grown = record {
    in_range = subst (λ xs. All (λ b. b < length e) xs) (sym grown_back) in_range_all;
    distinct = subst (IsDistinct nat_eq) (sym grown_back) distinct_all;
    pointers = λ i k l less. subst (λ xs. word_at (block_bytes e (slice_index xs i)) (4 * k) ≡ slice_index xs (i - 2 ^ k)) (sym grown_back) (points_all i k l less);
  }
