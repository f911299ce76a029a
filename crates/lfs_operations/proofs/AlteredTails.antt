-- A pair whose tail named a dropped pair, or names a new one, is changed or dropped.
use Rattle.lfs_operations.proofs.Common.{ℕ, ◌≡◌, ◌⊎◌, inl, inr, true, false, nat_eq, List, [], ◌∷◌, ◌++◌, Some, sym, ap, subst, ◌∙◌, arith, IsDistinct, AreUsed, IsFree, all_unmoved_slots, used_blocks, AreLinkedByTails, Pair, superblock_pair_address, pairs_blocks, is_hard_tail, tail_target, count_append, HoldsForSome, file_blocks, KeptThread, Contains, IsRecoveredWritableImage}
use Rattle.lfs_operations.proofs.Altered.{only_there}
use Rattle.lfs_model.proofs.UsedCounts.{not_used}
use Rattle.lfs_operations.proofs.AlteredBehind.{named_there}

-- ---- what a tail names

-- a pair of the thread, so no free block
names_used : (t : KeptThread) (p : Pair) (to : ℕ × ℕ) → AreLinkedByTails (Some superblock_pair_address) t.pairs → AreUsed t.map (used_blocks t.disk t.pairs) → HoldsForSome (λ y. y ≡ p) t.pairs → tail_target p.content.tail ≡ Some to → IsFree t.map to.0 → ⊥
names_used t p to links used has e free =
    let k = named_there t.pairs p (Some superblock_pair_address) to links has e in
    let n = not_used t.map (used_blocks t.disk t.pairs) used to.0 free in
    let c = count_append to.0 (pairs_blocks t.pairs) (file_blocks t.disk (all_unmoved_slots t.pairs)) in
    absurd (omega arith)

parted : (xs : List Pair) (q : Pair) → HoldsForSome (λ y. y ≡ q) xs → (l : List Pair) × (r : List Pair) × (xs ≡ l ++ q ∷ r)
parted [] q h = absurd h
parted (x ∷ xs) q (inl e) = ([], xs, ap (λ z. z ∷ xs) e)
parted (x ∷ xs) q (inr h) = let k = parted xs q h in (x ∷ k.0, k.1, ap (λ z. x ∷ z) k.2)

-- ---- pairs with another tail

-- the last pair of a directory, where the one that stands there now names one that was free, or goes on
pub other_tail : (t : KeptThread) (z p : Pair) (fresh : ℕ × ℕ) → IsRecoveredWritableImage t → IsFree t.map fresh.0 → HoldsForSome (λ y. y ≡ p) t.pairs → is_hard_tail p.content.tail ≡ false
    → (now : List Pair) → IsDistinct nat_eq (pairs_blocks now) → HoldsForSome (λ y. y ≡ z) now → z.at ≡ p.at → (tail_target z.content.tail ≡ Some fresh) ⊎ (is_hard_tail z.content.tail ≡ true) → Contains now p → ⊥
other_tail t z p fresh ready free was soft now distinct there at tail has = go tail
  where
    k : (l : List Pair) × (r : List Pair) × (now ≡ l ++ z ∷ r)
    k = parted now z there

    same : z ≡ p
    same = only_there k.0 z k.1 p (subst (λ ps. IsDistinct nat_eq (pairs_blocks ps)) k.2 distinct) at (subst (λ ps. Contains ps p) k.2 has)

    go : (tail_target z.content.tail ≡ Some fresh) ⊎ (is_hard_tail z.content.tail ≡ true) → ⊥
    go (inl names) = names_used t p fresh ready.accepted.thread.links ready.used was (ap (λ (y : Pair). tail_target y.content.tail) (sym same) ∙ names) free
    go (inr hard) = absurd (let e = sym soft ∙ ap (λ (y : Pair). is_hard_tail y.content.tail) (sym same) ∙ hard in cc)
