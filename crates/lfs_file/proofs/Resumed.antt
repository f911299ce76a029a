-- The first bytes of a list, resumed by an extender.
use Rattle.std.proofs.Common.{ℕ, zero, suc, ◌≡◌, ◌+◌, ◌*◌, ◌-◌, ◌<◌, ◌≤◌, ◌^◌, nat_eq, false, get_or, List, [], ◌∷◌, ◌++◌, length, take, drop, slice_index, refl, sym, ap, subst, ◌∙◌, arith, add-one, length-drop}
use Rattle.std.specs.Prelude.{All}
use Rattle.std.specs.List.{IsDistinct}
use Rattle.lfs_file.proofs.Common.{one-le-pow, take-append-add, append-nil, take_at, take_more, drop_more, take-take, take-append-le, take-append-drop, get_or-take, length-take-le, IsDistinct-from_apart, apart_from_distinct, Blocks, HasBlockSizes, block_bytes, word_at, pointer_count, bytes_before_block, blocks_to_head, skip_list_block_count, AreListBlocks, IsSkipList, IsByteInListBlock, block_data, list_bytes, ListHoldsBytes, blocks_data, IsRestShared, AllSized}
use Rattle.lfs_file.proofs.Sizes.{pointer_count-le, skip_list_block_count-place, place-lt}
use Rattle.lfs_file.proofs.Chains.{length_back, back-pointer0}
use Rattle.lfs_file.proofs.Filling.{none_chain}
use Rattle.lfs_file.proofs.Pointed.{pointed_some}
use Rattle.lfs_file.proofs.Joined.{joined_from, joined-append, length-joined, back_prefix}

-- a list of blocks that is a chain's
record IsChainOf (d : Blocks) (n : ℕ) (bs : List ℕ) : Type 0 where
  in_range : All (λ b. b < length d) bs
  distinct : IsDistinct nat_eq bs
  pointers : (i k : ℕ) → i < n → k < pointer_count i → word_at (block_bytes d (slice_index bs i)) (4 * k) ≡ slice_index bs (i - 2 ^ k)

chain_of : (d : Blocks) (n head : ℕ) (bs : List ℕ) → blocks_to_head d n head ≡ bs → IsChainOf d n bs → AreListBlocks d n head
chain_of d n head bs is parts =
    let whole : IsChainOf d n (blocks_to_head d n head) = subst (IsChainOf d n) (sym is) parts in
    record { in_range = whole.in_range; distinct = whole.distinct; pointers = whole.pointers }

apart_as : (x y v w : ℕ) → v ≡ x → w ≡ y → nat_eq x y ≡ false → nat_eq v w ≡ false
apart_as x y v w e f apart = ap (λ k. nat_eq k w) e ∙ ap (nat_eq x) f ∙ apart

-- the blocks up to one of a chain's are a chain
pub chain_prefix : (d : Blocks) (n head m : ℕ) → m < n → AreListBlocks d n head → AreListBlocks d (m + 1) (slice_index (blocks_to_head d n head) m)
chain_prefix d n head m lt chain =
    let bs : List ℕ = blocks_to_head d n head in
    let len = length_back d n head in
    let front : length (take (m + 1) bs) ≡ m + 1 = length-take-le (m + 1) bs (omega arith) in
    let at : (i x : ℕ) → i < m + 1 → get_or (take (m + 1) bs) i x ≡ get_or bs i x = λ i x l. get_or-take (m + 1) bs i x l in
    let parts : IsChainOf d (m + 1) (take (m + 1) bs) = record {
      in_range = λ k x l. let low = chain.in_range k x (omega arith) in omega (arith, low, at k x (omega arith));
      distinct = IsDistinct-from_apart nat_eq (take (m + 1) bs) (λ i j x less l.
          apart_as (get_or bs i x) (get_or bs j x) (get_or (take (m + 1) bs) i x) (get_or (take (m + 1) bs) j x) (at i x (omega arith)) (at j x (omega arith)) (apart_from_distinct nat_eq bs i j x chain.distinct less (omega arith)));
      pointers = λ i k l less.
          let power = one-le-pow k 2 (omega arith) in
          ap (λ b. word_at (block_bytes d b) (4 * k)) (at i 0 l) ∙ chain.pointers i k (omega arith) less ∙ sym (at (i - 2 ^ k) 0 (omega arith));
    } in
    chain_of d (m + 1) (slice_index bs m) (take (m + 1) bs) (back_prefix d n head m lt) parts

module _ (d : Blocks) (block_size count head size keep i off block : ℕ) (large : 1024 ≤ block_size) (shape : HasBlockSizes block_size count d) (list : IsSkipList d block_size head size) (some : 1 ≤ keep) (within : keep ≤ size)
    (place : IsByteInListBlock block_size (keep - 1) i off) (is : block ≡ slice_index (blocks_to_head d (skip_list_block_count block_size size) head) i) where
  abbrev bs : List ℕ
  bs = blocks_to_head d (skip_list_block_count block_size size) head

  abbrev p : ℕ
  p = 4 * pointer_count i

  low : i < skip_list_block_count block_size size
  low = place-lt block_size size (keep - 1) i off large place (omega arith)

  pub few_blocks : skip_list_block_count block_size keep ≡ i + 1
  few_blocks = skip_list_block_count-place block_size keep i off large some place

  sized : AllSized d block_size bs
  sized k x l = shape.sizes (get_or bs k x) (let lt = list.blocks.in_range k x l in omega (arith, lt, shape.count))

  -- the front's blocks
  pub front_back : blocks_to_head d (i + 1) block ≡ take (i + 1) bs
  front_back = ap (blocks_to_head d (i + 1)) is ∙ back_prefix d (skip_list_block_count block_size size) head i low

  pub front_chain : AreListBlocks d (i + 1) block
  front_chain = subst (AreListBlocks d (i + 1)) (sym is) (chain_prefix d (skip_list_block_count block_size size) head i low list.blocks)

  joined_split : (m : ℕ) → m ≤ skip_list_block_count block_size size → (blocks_data d bs ≡ blocks_data d (take m bs) ++ joined_from d m (drop m bs)) × (length (blocks_data d (take m bs)) ≡ bytes_before_block block_size m)
  joined_split m le =
      let len = length_back d (skip_list_block_count block_size size) head in
      let front : length (take m bs) ≡ m = length-take-le m bs (omega arith) in
      let here : 0 + length (take m bs) ≡ m = omega arith in
      let all = length-joined d block_size 0 (take m bs) large (λ k x l. subst (λ b. length (block_bytes d b) ≡ block_size) (sym (get_or-take m bs k x (omega arith))) (sized k x (omega arith))) in (
        ap (blocks_data d) (sym (take-append-drop m bs)) ∙ joined-append d 0 (take m bs) (drop m bs) ∙ ap (λ k. blocks_data d (take m bs) ++ joined_from d k (drop m bs)) here,
        omega (arith, all, ap (bytes_before_block block_size) here),
      )

  -- it is a list
  pub front_end : keep < 2 ^ 31 → ListHoldsBytes d block_size block keep (take keep (list_bytes d block_size head size)) (take (skip_list_block_count block_size keep) bs)
  front_end few =
      let split = joined_split (i + 1) (let l = low in omega arith) in
      let whole : AreListBlocks d (skip_list_block_count block_size keep) block = subst (λ k. AreListBlocks d k block) (sym few_blocks) front_chain in
      let below = place.below in
      let own : blocks_to_head d (skip_list_block_count block_size keep) block ≡ take (i + 1) bs = ap (λ k. blocks_to_head d k block) few_blocks ∙ front_back in
      record {
        list = record { size_low = some; size_high = few; blocks = whole };
        bytes = ap (λ (l : List ℕ). take keep (blocks_data d l)) own
            ∙ sym (take-take keep size (blocks_data d bs) within ∙ ap (take keep) split.0
            ∙ take-append-le keep (blocks_data d (take (i + 1) bs)) (joined_from d (i + 1) (drop (i + 1) bs)) (omega (arith, split.1, ap (bytes_before_block block_size) (add-one i))));
        blocks = own ∙ ap (λ k. take k bs) (sym few_blocks);
      }

  -- ---- the front ends with a block

  module _ (ends : off + 1 ≡ block_size) where
    pub keep_full : keep ≡ bytes_before_block block_size (i + 1)
    keep_full =
        let few = pointer_count-le i in
        let at = place.at in
        let from = place.from in
        omega (arith, ap (bytes_before_block block_size) (add-one i))

    pub full_content : blocks_data d (blocks_to_head d (i + 1) block) ++ [] ≡ take keep (list_bytes d block_size head size)
    full_content =
        let split = joined_split (i + 1) (let l = low in omega arith) in
        append-nil (blocks_data d (blocks_to_head d (i + 1) block))
        ∙ ap (blocks_data d) front_back
        ∙ sym (take-take keep size (blocks_data d bs) within ∙ ap (take keep) split.0 ∙ take_at (blocks_data d (take (i + 1) bs)) (joined_from d (i + 1) (drop (i + 1) bs)) keep (omega (arith, split.1, keep_full)))

    pub full_blocks : blocks_to_head d (i + 1) block ++ [] ≡ take (skip_list_block_count block_size keep) bs
    full_blocks = append-nil (blocks_to_head d (i + 1) block) ∙ front_back ∙ ap (λ k. take k bs) (sym few_blocks)

  -- ---- or in one

  module _ (before : ℕ) (named : 0 < i → before ≡ word_at (block_bytes d block) 0) (short : off + 1 < block_size) where
    -- the blocks before that one
    before_back : (m : ℕ) → i ≡ m → blocks_to_head d i before ≡ take i bs
    before_back zero e = ap (λ k. blocks_to_head d k before) e ∙ ap (λ k. take k bs) (sym e)
    before_back (suc m) e =
        let l = low in
        let to : before ≡ slice_index bs m =
        named (omega arith) ∙ ap (λ b. word_at (block_bytes d b) 0) (is ∙ ap (slice_index bs) e) ∙ back-pointer0 d (skip_list_block_count block_size size) head m (omega arith) in
        ap (λ k. blocks_to_head d k before) (e ∙ sym (add-one m))
        ∙ ap (blocks_to_head d (m + 1)) to
        ∙ back_prefix d (skip_list_block_count block_size size) head m (omega arith)
        ∙ ap (λ k. take k bs) (add-one m ∙ sym e)

    before_chain_at : (m : ℕ) → i ≡ m → AreListBlocks d i before
    before_chain_at zero e = subst (λ k. AreListBlocks d k before) (sym e) (none_chain d before)
    before_chain_at (suc m) e =
        let l = low in
        let to : before ≡ slice_index bs m =
        named (omega arith) ∙ ap (λ b. word_at (block_bytes d b) 0) (is ∙ ap (slice_index bs) e) ∙ back-pointer0 d (skip_list_block_count block_size size) head m (omega arith) in
        subst (λ k. AreListBlocks d k before) (add-one m ∙ sym e) (subst (AreListBlocks d (m + 1)) (sym to) (chain_prefix d (skip_list_block_count block_size size) head m (omega arith) list.blocks))

    pub before_front : blocks_to_head d i before ≡ take i bs
    before_front = before_back i refl

    pub before_chain : AreListBlocks d i before
    before_chain = before_chain_at i refl

    -- its pointers lead to them
    pub before_leads : (k : ℕ) → k < pointer_count i → word_at (block_bytes d block) (4 * k) ≡ slice_index (blocks_to_head d i before) (i - 2 ^ k)
    before_leads k lt =
        let l = low in
        let power = one-le-pow k 2 (omega arith) in
        let some = pointed_some i k lt in
        ap (λ b. word_at (block_bytes d b) (4 * k)) is
        ∙ list.blocks.pointers i k l lt
        ∙ sym (ap (λ (all : List ℕ). slice_index all (i - 2 ^ k)) (before_back i refl) ∙ get_or-take i bs (i - 2 ^ k) 0 (omega arith))

    last_more : blocks_to_head d i before ++ block ∷ [] ≡ take (i + 1) bs
    last_more =
        let len = length_back d (skip_list_block_count block_size size) head in
        ap (λ (l : List ℕ). l ++ block ∷ []) (before_back i refl) ∙ ap (λ b. take i bs ++ b ∷ []) is ∙ sym (take_more bs i 0 (let l = low in omega arith))

    pub open_blocks : blocks_to_head d i before ++ block ∷ [] ≡ take (skip_list_block_count block_size keep) bs
    open_blocks = last_more ∙ ap (λ k. take k bs) (sym few_blocks)

    -- the bytes in it that are kept
    module _ (rest : List ℕ) (rest_is : rest ≡ take (off + 1 - p) (drop p (block_bytes d block))) where
      block_long : length (block_bytes d block) ≡ block_size
      block_long = shape.sizes block (let len = length_back d (skip_list_block_count block_size size) head in let lt = list.blocks.in_range i 0 (let l = low in omega arith) in omega (arith, lt, is, shape.count))

      pub rest_long : (length rest ≡ off + 1 - p) × (1 ≤ off + 1 - p) × (keep ≡ bytes_before_block block_size i + (off + 1 - p))
      rest_long =
          let at = place.at in
          let from = place.from in
          let few = pointer_count-le i in
          let size_is = length-take-le (off + 1 - p) (drop p (block_bytes d block)) (omega (arith, length-drop p (block_bytes d block), block_long)) in
          (ap length rest_is ∙ size_is, omega arith, omega arith)

      pub open_shared : IsRestShared d i before rest block
      open_shared = record {
        some = (let l = rest_long in omega arith);
        chain = front_chain;
        back = front_back ∙ sym last_more;
        begins = ap (λ k. take k (drop p (block_bytes d block))) rest_long.0 ∙ sym rest_is;
      }

      pub open_content : blocks_data d (blocks_to_head d i before) ++ rest ≡ take keep (list_bytes d block_size head size)
      open_content =
          let len = length_back d (skip_list_block_count block_size size) head in
          let split = joined_split i (let l = low in omega arith) in
          let r : ℕ = off + 1 - p in
          let sum : keep ≡ length (blocks_data d (take i bs)) + r = (let l = rest_long in omega (arith, split.1)) in
          let bytes : List ℕ = block_data d (i, slice_index bs i) in
          let more : List ℕ = joined_from d (i + 1) (drop (i + 1) bs) in
          let next : joined_from d i (drop i bs) ≡ bytes ++ more = ap (joined_from d i) (drop_more bs i 0 (let l = low in omega arith)) in
          let there : bytes ≡ drop p (block_bytes d block) = ap (λ b. drop p (block_bytes d b)) (sym is) in
          let long : length bytes ≡ block_size - p = ap length there ∙ omega (arith, length-drop p (block_bytes d block), block_long) in
          let few = pointer_count-le i in
          ap (λ (l : List ℕ). blocks_data d l ++ rest) (before_back i refl)
          ∙ ap (λ (l : List ℕ). blocks_data d (take i bs) ++ l) (rest_is ∙ ap (take r) (sym there) ∙ sym (take-append-le r bytes more (omega arith)))
          ∙ sym (take-append-add (blocks_data d (take i bs)) (bytes ++ more) r)
          ∙ ap (λ k. take k (blocks_data d (take i bs) ++ (bytes ++ more))) (sym sum)
          ∙ ap (λ (l : List ℕ). take keep (blocks_data d (take i bs) ++ l)) (sym next)
          ∙ sym (take-take keep size (blocks_data d bs) within ∙ ap (take keep) split.0)
