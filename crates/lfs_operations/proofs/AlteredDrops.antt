-- A pair that is dropped: no block of it is in the thread any more, and the pair in front of it is changed or dropped.
use Rattle.lfs_operations.proofs.Common.{refl, ℕ, ◌≡◌, ◌+◌, ◌-◌, ◌≤◌, [], ◌∷◌, Some, ap, ◌∙◌, arith, Gstate, AreLinkedByTails, Pair, superblock_pair_address, pairs_blocks, address_blocks, occurrence_count, count_here, once_from_distinct, KeptThread, thread_pair, IsPairChangedOrDropped, CanDropAt, IsPairDropped, content_after_drop}
use Rattle.lfs_model.proofs.WithoutPair.{blocks_dropped}
use Rattle.lfs_operations.proofs.DroppedTails.{gone_is, two_at, without_is}
use Rattle.lfs_operations.proofs.AlteredBehind.{names_next, tail_goes}

-- its blocks go
pub fewer_blocks : (t : KeptThread) (index : ℕ) (state : Gstate) (new : KeptThread) → CanDropAt t index state → IsPairDropped t (index - 1) state new → (b : ℕ)
    → occurrence_count b (pairs_blocks new.pairs) + occurrence_count b (address_blocks (thread_pair t (index - 1 + 1)).at) ≡ occurrence_count b (pairs_blocks t.pairs)
fewer_blocks t index state new can d b =
    let above = can.above in
    let below = can.below in
    let two = two_at t.pairs (index - 1) (omega (arith, above, below)) in
    let c = content_after_drop t (index - 1) state in
    let q : Pair = record { at = two.one.at; content = c } in
    let now = ap (λ z. occurrence_count b (pairs_blocks z)) (d.pairs ∙ without_is t (index - 1) two.ahead two.one two.other two.back two.is two.number c) in
    let was = ap (λ z. occurrence_count b (pairs_blocks z)) two.is in
    let gone = ap (λ (z : Pair). occurrence_count b (address_blocks z.at)) (gone_is t (index - 1) two.ahead two.one two.other two.back two.is two.number) in
    let e = blocks_dropped two.ahead two.one two.other q two.back refl b in
    omega (arith, now, was, gone, e)

-- so the pair in front of it is changed or dropped, also after another step that allocates no block
pub drop_alters : (t : KeptThread) (index : ℕ) (state : Gstate) (m : KeptThread) → CanDropAt t index state → IsPairDropped t (index - 1) state m
    → (new : KeptThread) → AreLinkedByTails (Some superblock_pair_address) new.pairs → ((b : ℕ) → occurrence_count b (pairs_blocks new.pairs) ≤ occurrence_count b (pairs_blocks m.pairs)) → IsPairChangedOrDropped t (index - 1) new
drop_alters t index state m can d new links fewer =
    let at = (thread_pair t (index - 1 + 1)).at in
    let above = can.above in
    let below = can.below in
    let once = once_from_distinct (pairs_blocks t.pairs) can.thread.distinct at.0 in
    let c = count_here at.0 (at.1 ∷ []) in
    let f = fewer_blocks t index state m can d at.0 in
    let g = fewer at.0 in
    tail_goes t new (index - 1) at (names_next t (index - 1) (omega (arith, above, below)) can.thread.links) links (omega (arith, once, c, f, g))
