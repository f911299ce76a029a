-- The blocks that an image uses after a step that neither creates nor removes a file, and how many are free.
use Rattle.lfs_operations.proofs.Common.{ℕ, ◌≡◌, ◌+◌, List, [], ◌∷◌, ◌++◌, refl, sym, subst, ◌∙◌, arith, length-set, set, Bool, true, false, eqb-true, eq-eqb, nat_eq, BlockStates, IsFree, IsInFlight, Free, InFlight, Used, Disk, Slot, Pair, pairs_blocks, pairs_gstate, used_blocks, slice_get-set_other, occurrence_count, HasNoMove, Site, thread_at, IsDevice, file_blocks, all_slots, map_using, AreTwoFreeBlocks, HasTwoFreeBlocks, map_allocating_two, HasFreeBlocks}
use Rattle.lfs_model.specs.layers.BlockSets.{is_used, state_in_flight}
use Rattle.lfs_model.proofs.BlockSets.{count_by-set, counts_from_none_free}
use Rattle.lfs_operations.proofs.Owning.{elsewhere}
use Rattle.lfs_model.proofs.UsedCounts.{turned_count}
use Rattle.lfs_operations.proofs.Taking.{two_free}
use Rattle.lfs_operations.proofs.Putting.{held}

-- ---- counting

-- slots without blocks of their own came to a pair
pub used_count_now : (disk new : Disk) (w : Site) (p q : Pair) (more : List Pair) (l news r : List Slot) → HasNoMove (pairs_gstate (thread_at w (p ∷ []))) → HasNoMove (pairs_gstate (thread_at w (q ∷ more))) → IsDevice disk new (thread_at w (p ∷ [])) (thread_at w (q ∷ more))
    → q.at ≡ p.at → p.content.slots ≡ l ++ r → all_slots (q ∷ more) ≡ l ++ (news ++ r) → ((b : ℕ) → occurrence_count b (file_blocks new news) ≡ 0)
    → (b : ℕ) → occurrence_count b (used_blocks new (thread_at w (q ∷ more))) ≡ occurrence_count b (pairs_blocks more) + occurrence_count b (used_blocks disk (thread_at w (p ∷ [])))
used_count_now disk new w p q more l news r none still device at was is no_files b =
    let e = turned_count disk new w p q more l [] news r [] [] (record { none = none; still = still; device = device; at = at; was = was; is = is }) (λ b. let n = no_files b in omega arith) b in
    omega arith

-- ---- room

-- one is taken, and then used
taken_one : (n : ℕ) (sets : BlockStates) (b : ℕ) → IsFree sets b → HasFreeBlocks (1 + n) sets → HasFreeBlocks n (set sets b InFlight)
taken_one n sets b free room =
    let u = count_by-set is_used sets b Free InFlight free in
    let i = count_by-set state_in_flight sets b Free InFlight free in
    let l = length-set sets b InFlight in
    omega arith

used_one : (n : ℕ) (sets : BlockStates) (b : ℕ) → IsInFlight sets b → HasFreeBlocks n sets → HasFreeBlocks n (set sets b Used)
used_one n sets b flies room =
    let u = count_by-set is_used sets b InFlight Used flies in
    let i = count_by-set state_in_flight sets b InFlight Used flies in
    let l = length-set sets b Used in
    omega arith

-- two fewer are free
pub less_room : (n : ℕ) (sets : BlockStates) (fresh : ℕ × ℕ) → AreTwoFreeBlocks sets fresh → HasFreeBlocks (2 + n) sets → HasFreeBlocks n (map_using (map_allocating_two sets fresh) fresh)
less_room n sets fresh two room =
    let one : BlockStates = set sets fresh.0 InFlight in
    let both : BlockStates = set one fresh.1 InFlight in
    let flying = held sets fresh two in
    let second_free : IsFree one fresh.1 = slice_get-set_other sets fresh.0 fresh.1 InFlight (λ e. two.apart (sym e)) ∙ two.second in
    used_one n (set both fresh.0 Used) fresh.1 (slice_get-set_other both fresh.0 fresh.1 Used (λ e. two.apart (sym e)) ∙ flying.second)
    (used_one n both fresh.0 flying.first (taken_one n one fresh.1 second_free (taken_one (1 + n) sets fresh.0 two.first (omega arith))))

-- where nothing is free of two, there is no room for two
pub no_room : (sets : BlockStates) → (HasTwoFreeBlocks sets → ⊥) → HasFreeBlocks 2 sets → ⊥
no_room sets none room = let e = counts_from_none_free sets (λ a free. go a free) in absurd (omega arith)
  where
    go : (a : ℕ) → IsFree sets a → ⊥
    go a free =
        let e = counts_from_none_free (set sets a InFlight) (λ b other. none ((a, b), two_free sets a b free other)) in
        let l = taken_one 1 sets a free room in
        absurd (omega arith)

-- what is free then was so before
pub freed : (sets : BlockStates) (fresh : ℕ × ℕ) → AreTwoFreeBlocks sets fresh → (b : ℕ) → IsFree (map_using (map_allocating_two sets fresh) fresh) b → IsFree sets b
freed sets fresh two b free = go (nat_eq b fresh.0) (nat_eq b fresh.1) refl refl
  where
    go : (x y : Bool) → nat_eq b fresh.0 ≡ x → nat_eq b fresh.1 ≡ y → IsFree sets b
    go true y e f = subst (IsFree sets) (sym (eqb-true b fresh.0 e)) two.first
    go false true e f = subst (IsFree sets) (sym (eqb-true b fresh.1 f)) two.second
    go false false e f = sym (elsewhere sets fresh two b (λ k. absurd (let z = sym (eq-eqb b fresh.0 k) ∙ e in cc)) (λ k. absurd (let z = sym (eq-eqb b fresh.1 k) ∙ f in cc))) ∙ free
