-- The blocks of pairs that are written.
use Rattle.lfs_operations.proofs.Common.{ℕ, zero, suc, ◌≡◌, ◌≢◌, ◌<◌, ◌≤◌, List, [], ◌∷◌, length, refl, arith, recursion_from_All, Pair, pairs_blocks, address_blocks, Each, occurrence_count, OthersStayUnprogrammed-refl, KeptThread, ChangesThreadBlocks, empty_anchor, slice_index_or, cases_lt, each_counted, inl, inr, ◌⊎◌}
use Rattle.lfs_model.proofs.Overwrites.{SameExceptBlocks-refl}
use Rattle.lfs_operations.proofs.Putting.{writes_wider}
use Rattle.lfs_model.proofs.Placing.{all_apart}

none_counted : (b : ℕ) (xs : List ℕ) → Each (λ c. c ≢ b) xs → occurrence_count b xs ≡ 0
none_counted b xs h = go (cases_lt 0 (occurrence_count b xs))
  where
    go : (0 < occurrence_count b xs) ⊎ (occurrence_count b xs ≤ 0) → occurrence_count b xs ≡ 0
    go (inl some) = absurd (each_counted (λ c. c ≢ b) xs h b (omega arith) refl)
    go (inr none) = omega arith

-- of more blocks
pub writes_fewer : (bs cs : List ℕ) {old new : KeptThread} → ((b : ℕ) → occurrence_count b bs ≤ occurrence_count b cs) → ChangesThreadBlocks bs old new → ChangesThreadBlocks cs old new
writes_fewer bs cs fewer w = writes_wider cs
    (λ b apart. all_apart bs b (let k = none_counted b cs (recursion_from_All (λ (c : ℕ). c ≢ b) cs apart) in let f = fewer b in omega arith)) w

pub writes_none : (bs : List ℕ) (t : KeptThread) → ChangesThreadBlocks bs t t
writes_none bs t = record {
  others = SameExceptBlocks-refl bs t.disk.blocks;
  elsewhere = OthersStayUnprogrammed-refl bs t.history;
  shape = record { block_size = refl; page = refl; order = refl; profile = refl; count = refl };
  at_worst = record { events = []; extends = refl; each = tt };
}

pub two_fewer : (ps : List Pair) (index : ℕ) → index < length ps → (b : ℕ) → occurrence_count b (address_blocks (slice_index_or ps index empty_anchor).at) ≤ occurrence_count b (pairs_blocks ps)
two_fewer [] index low b = absurd (omega arith)
two_fewer (p ∷ ps) zero low b = omega arith
two_fewer (p ∷ ps) (suc index) low b = let k = two_fewer ps index (omega arith) b in omega arith
