-- The lists of pairs that go in a recovery: they are known by the pairs' numbers, and stay on the disk.
use Rattle.lfs_operations.proofs.Common.{ℕ, zero, suc, ◌≡◌, ◌+◌, ◌≤◌, inl, inr, List, [], ◌∷◌, ◌++◌, length, Option, refl, sym, ap, subst, ◌∙◌, arith, append-nil, length-append, append_assoc, flat_map-append, All-from_recursion, SameGeometry, disk_block, continued_directory_address, Slot, Pair, pairs_blocks, pairs_gstate, IsAccepted, struct_blocks, used_blocks, SameFiles, slots_files, Each, occurrence_count, count_append, each_always, each_from_counted, each_joined, each_left, each_pieces, each_right, once_from_distinct, SameFileBlocks, HasNoMove, file_blocks, all_slots, KeptThread, ChangesThreadBlocks, empty_anchor, slice_index_or, AreUnreachedFrom, list_blocks_of_pairs, slots_of_pairs_at, All, Disk}
use Rattle.lfs_model.proofs.UsedCounts.{count_used}
use Rattle.lfs_model.proofs.Placing.{all_apart}
use Rattle.lfs_model.proofs.PairLists.{get_at}

-- ---- numbers

-- the same pairs have the same numbers
pub reported_once : (R : ℕ × ℕ → Type 0) (n : ℕ) (from : Option (ℕ × ℕ)) (xs : List Pair) (us vs : List ℕ) → AreUnreachedFrom R n from xs us → AreUnreachedFrom R n from xs vs → us ≡ vs
reported_once R n from [] us vs h k = h ∙ sym k
reported_once R n from (x ∷ xs) us vs (inl h) (inl k) = reported_once R (suc n) (continued_directory_address from x) xs us vs h.1 k.1
reported_once R n from (x ∷ xs) us vs (inl h) (inr k) = absurd (k.1.1.0 h.0)
reported_once R n from (x ∷ xs) us vs (inr h) (inl k) = absurd (h.1.1.0 k.0)
reported_once R n from (x ∷ xs) us vs (inr h) (inr k) = h.1.0 ∙ ap (λ z. n ∷ z) (reported_once R (suc n) (continued_directory_address from x) xs h.0 k.0 h.1.1.1 k.1.1.1) ∙ sym k.1.0

-- the pair behind so many
pub numbered : (ps chain seen : List Pair) (x : Pair) (todo : List Pair) (number : ℕ) → ps ≡ chain ++ (seen ++ x ∷ todo) → number ≡ length chain + length seen → slice_index_or ps number empty_anchor ≡ x
numbered ps chain seen x todo number are is =
    ap (λ z. slice_index_or ps z empty_anchor) (is ∙ sym (length-append chain seen)) ∙ ap (λ z. slice_index_or z (length (chain ++ seen)) empty_anchor) (are ∙ sym (append_assoc chain seen (x ∷ todo))) ∙ get_at (chain ++ seen) x todo empty_anchor

pub lists_more : (t : KeptThread) (took : List ℕ) (number : ℕ) (x : Pair) → slice_index_or t.pairs number empty_anchor ≡ x → list_blocks_of_pairs t (took ++ number ∷ []) ≡ list_blocks_of_pairs t took ++ file_blocks t.disk x.content.slots
lists_more t took number x is =
    ap (file_blocks t.disk) (flat_map-append (λ n. (slice_index_or t.pairs n empty_anchor).content.slots) took (number ∷ []))
    ∙ flat_map-append (λ (s : Slot). struct_blocks t.disk s.struct) (slots_of_pairs_at t.pairs took) (slots_of_pairs_at t.pairs (number ∷ []))
    ∙ ap (λ z. list_blocks_of_pairs t took ++ file_blocks t.disk z) (append-nil (slice_index_or t.pairs number empty_anchor).content.slots ∙ ap (λ (p : Pair). p.content.slots) is)

-- ---- on the disk

-- where nothing changed
pub files_itself : (disk : Disk) (slots : List Slot) → All (λ s. SameFileBlocks disk disk s.struct) slots
files_itself disk slots = All-from_recursion (λ (s : Slot). SameFileBlocks disk disk s.struct) slots
    (each_always (λ (s : Slot). SameFileBlocks disk disk s.struct) (λ s. each_always (λ b. disk_block disk b ≡ disk_block disk b) (λ b. refl) (struct_blocks disk s.struct)) slots)

-- no block of a list is a pair's
pub files_kept : (t u : KeptThread) → IsAccepted t.disk t.pairs → HasNoMove (pairs_gstate t.pairs) → ChangesThreadBlocks (pairs_blocks t.pairs) t u → SameFiles t.disk u.disk (all_slots t.pairs)
files_kept t u ok none w = go (all_slots t.pairs) (λ b. omega arith)
  where
    go : (slots : List Slot) → ((b : ℕ) → occurrence_count b (file_blocks t.disk slots) ≤ occurrence_count b (file_blocks t.disk (all_slots t.pairs))) → SameFiles t.disk u.disk slots
    go [] fewer = tt
    go (s ∷ slots) fewer = (
      each_from_counted (λ b. disk_block u.disk b ≡ disk_block t.disk b) (struct_blocks t.disk s.struct) (λ b some. w.others.others b (all_apart (pairs_blocks t.pairs) b (
          let a = count_append b (struct_blocks t.disk s.struct) (file_blocks t.disk slots) in
          let f = fewer b in
          let c = count_used b t.disk t.pairs none in
          let o = once_from_distinct (used_blocks t.disk t.pairs) ok.owned_once b in
          omega arith))),
      go slots (λ b. let a = count_append b (struct_blocks t.disk s.struct) (file_blocks t.disk slots) in let f = fewer b in omega arith),
    )

-- what holds of each slot holds of those of the pairs of some numbers
pub each_at : (P : Slot → Type 0) (ps : List Pair) (numbers : List ℕ) → Each P (all_slots ps) → Each P (slots_of_pairs_at ps numbers)
each_at P ps numbers h = each_joined P (λ n. (slice_index_or ps n empty_anchor).content.slots) numbers (each_always (λ n. Each P (slice_index_or ps n empty_anchor).content.slots) (λ n. one ps n h) numbers)
  where
    one : (ps : List Pair) (n : ℕ) → Each P (all_slots ps) → Each P (slice_index_or ps n empty_anchor).content.slots
    one [] n h = tt
    one (p ∷ ps) zero h = each_left P p.content.slots (all_slots ps) h
    one (p ∷ ps) (suc n) h = one ps n (each_right P p.content.slots (all_slots ps) h)

-- the lists of the pair behind so many are as they were
pub lists_kept : (t u : KeptThread) (chain seen : List Pair) (x : Pair) (todo : List Pair) → t.pairs ≡ chain ++ (seen ++ x ∷ todo) → IsAccepted t.disk t.pairs → HasNoMove (pairs_gstate t.pairs) → ChangesThreadBlocks (pairs_blocks t.pairs) t u
    → file_blocks u.disk x.content.slots ≡ file_blocks t.disk x.content.slots
lists_kept t u chain seen x todo are ok none w = slots_files t.disk u.disk x.content.slots geometry (each_right Q seen (x ∷ todo) (each_right Q chain (seen ++ x ∷ todo) (subst (Each Q) are
    (each_pieces (λ (s : Slot). SameFileBlocks t.disk u.disk s.struct) (λ (p : Pair). p.content.slots) t.pairs (files_kept t u ok none w))))).0
  where
    Q : Pair → Type 0
    Q p = SameFiles t.disk u.disk p.content.slots

    geometry : SameGeometry t.disk u.disk
    geometry = record { block_size = w.shape.block_size; page = w.shape.page; order = w.shape.order; profile = w.shape.profile; count = w.shape.count }
