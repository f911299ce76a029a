-- The pairs that the last step of a rename over a directory leaves as they were; it drops the directory's pair.
use Rattle.lfs_operations.proofs.Common.{ℕ, zero, suc, ◌≡◌, ◌+◌, ◌-◌, ◌<◌, ◌≤◌, ◌⊎◌, inl, inr, List, [], ◌∷◌, ◌++◌, length, Some, refl, sym, ap, subst, ◌∙◌, arith, get_or, cases_lt, IsFree, all_unmoved_slots, used_blocks, zero_gstate, Pair, superblock_pair_address, pairs_blocks, tail_target, address_blocks, addresses_blocks, Tree, IsAccepted, Contains-occurrence_count, occurrence_count-Contains, occurrence_count, count_append, count_here, once_from_distinct, HoldsForSome, among_right, file_blocks, KeptThread, ChangesThreadBlocks, empty_anchor, thread_pair, PathAddresses, Contains, WritesChangedPairsOrFree, IsPairChangedOrDropped, IsPairDropped}
use Rattle.lfs_operations.proofs.Altered.{among_contains}
use Rattle.lfs_operations.proofs.AlteredAcross.{IsKnown, each_known}
use Rattle.lfs_operations.proofs.AlteredBehind.{gone_alters, owner_counted, same_next, same_owner}
use Rattle.lfs_operations.proofs.DroppedTails.{over_next}
use Rattle.lfs_operations.proofs.LastDrop.{IsAllButDropped, end_gone, o_there, pairs_end, taken_end, x_there, y}

-- ---- pairs of a thread

among_at : (xs : List Pair) (i : ℕ) → i < length xs → HoldsForSome (λ z. z ≡ get_or xs i empty_anchor) xs
among_at [] i l = absurd (omega arith)
among_at (x ∷ xs) zero l = inl refl
among_at (x ∷ xs) (suc i) l = inr (among_at xs i (omega arith))

-- the number of a pair that has the block
record IsOwnedAt (xs : List Pair) (b : ℕ) : Type 0 where
  index : ℕ
  below : index < length xs
  own : 1 ≤ occurrence_count b (address_blocks (get_or xs index empty_anchor).at)

owned_at : (xs : List Pair) (b : ℕ) → 1 ≤ occurrence_count b (pairs_blocks xs) → IsOwnedAt xs b
owned_at [] b some = absurd (omega (arith, some))
owned_at (x ∷ xs) b some = go (owned_at xs b) (cases_lt 0 (occurrence_count b (address_blocks x.at)))
  where
    go : (1 ≤ occurrence_count b (pairs_blocks xs) → IsOwnedAt xs b) → (0 < occurrence_count b (address_blocks x.at)) ⊎ (occurrence_count b (address_blocks x.at) ≤ 0) → IsOwnedAt (x ∷ xs) b
    go behind (inl l) = record { index = 0; below = omega arith; own = l }
    go behind (inr l) =
        let k = behind (let c = count_append b (address_blocks x.at) (pairs_blocks xs) in omega (arith, c, l, some)) in
        record { index = suc k.index; below = (let m = k.below in omega (arith, m)); own = k.own }

module _ (t m : KeptThread) (gone n : ℕ) {change : Tree → Tree} {walk : PathAddresses → PathAddresses} (some : 0 < gone) (low : gone < length t.pairs) (k : IsAllButDropped t m (thread_pair t gone) n change walk) (new : KeptThread) (g : IsPairDropped m (n - 1) zero_gstate new) where
  accepted : IsAccepted new.disk new.pairs
  accepted = (taken_end k new g).follows.accepted

  not_there : occurrence_count (thread_pair t gone).at.0 (pairs_blocks new.pairs) ≡ 0
  not_there = end_gone k new g

  -- the pair in front of it
  pub replaced_alters : IsPairChangedOrDropped t (gone - 1) new
  replaced_alters = gone_alters t new gone some low k.ready.accepted accepted not_there

  -- the pair that the step writes, which is written then
  abbrev written : Pair
  written = y k

  written_there : HoldsForSome (λ z. z ≡ written) new.pairs
  written_there = subst (HoldsForSome (λ z. z ≡ written)) (sym (pairs_end k new g))
      (among_right (λ z. z ≡ written) k.chain (k.front ++ written ∷ k.back) (among_right (λ z. z ≡ written) k.front (written ∷ k.back) (inl refl)))

  names_same : tail_target written.content.tail ≡ tail_target (thread_pair t gone).content.tail
  names_same = over_next (thread_pair m (n - 1)).content.tail (thread_pair m (n - 1 + 1)).content.tail ∙ ap (λ (z : Pair). tail_target z.content.tail) (o_there k)

  -- a pair of before doesn't stay that has one of its blocks: else its tail named what that of the pair does that is gone
  owner_alters : (b index : ℕ) → 1 ≤ occurrence_count b (address_blocks (thread_pair m (n - 1)).at) → index < length t.pairs → 1 ≤ occurrence_count b (address_blocks (thread_pair t index).at) → IsPairChangedOrDropped t index new
  owner_alters b index own below there has =
      let p = thread_pair t index in
      let o = thread_pair t gone in
      let among = among_contains p new.pairs has in
      let shared : p ≡ written = same_owner b new.pairs p written
      (let l = once_from_distinct (used_blocks new.disk new.pairs) accepted.owned_once b in let c = count_append b (pairs_blocks new.pairs) (file_blocks new.disk (all_unmoved_slots new.pairs)) in omega (arith, l, c)) among written_there there
      (subst (λ (z : Pair). 1 ≤ occurrence_count b (address_blocks z.at)) (x_there k) own) in
      let is : p ≡ o = same_next t.pairs p o (Some superblock_pair_address) k.ready.accepted.thread.links (λ c. once_from_distinct (pairs_blocks t.pairs) k.ready.accepted.thread.distinct c)
      (among_at t.pairs index below) (among_at t.pairs gone low) (ap (λ (z : Pair). tail_target z.content.tail) shared ∙ names_same) in
      let here = owner_counted o.at.0 p new.pairs among (subst (λ (z : Pair). 1 ≤ occurrence_count o.at.0 (address_blocks z.at)) (sym is) (let h = count_here o.at.0 (o.at.1 ∷ []) in omega (arith, h))) in
      let none = not_there in
      absurd (omega (arith, here, none))

  pub last_known : (bs : List ℕ) (b : ℕ) → (1 ≤ occurrence_count b (pairs_blocks t.pairs)) ⊎ IsFree t.map b → Contains (address_blocks (thread_pair m (n - 1)).at) b → IsKnown t new bs b
  last_known bs b (inr free) own = inr (inr free)
  last_known bs b (inl there) own =
      let k = owned_at t.pairs b there in
      inr (inl (record {
        index = k.index;
        below = k.below;
        own = Contains-occurrence_count (address_blocks (thread_pair t k.index).at) b k.own;
        alters = owner_alters b k.index (occurrence_count-Contains (address_blocks (thread_pair m (n - 1)).at) b own) k.below k.own;
      }))

  -- in one pair
  pub altered_within : (pair : ℕ) → ChangesThreadBlocks (addresses_blocks (thread_pair t pair).at (thread_pair t (gone - 1)).at) t new → WritesChangedPairsOrFree t (address_blocks (thread_pair t pair).at) new
  altered_within pair w = record {
    blocks = addresses_blocks (thread_pair t pair).at (thread_pair t (gone - 1)).at;
    writes = w;
    each = each_known t new (address_blocks (thread_pair t pair).at) (thread_pair t pair).at (address_blocks (thread_pair t (gone - 1)).at) (λ b own. inl own)
        (each_known t new (address_blocks (thread_pair t pair).at) (thread_pair t (gone - 1)).at []
        (λ b own. inr (inl (record { index = gone - 1; below = (let l = low in omega (arith, l)); own = own; alters = replaced_alters }))) tt);
  }
