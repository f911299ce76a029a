-- The pairs that a rename across pairs over a directory leaves as they were.
use Rattle.lfs_operations.proofs.Common.{ℕ, ◌-◌, ◌<◌, ◌≤◌, ◌⊎◌, inl, inr, true, ◌∷◌, ◌++◌, arith, cases_lt, IsFree, IsPairAt, Name, zero_gstate, pairs_blocks, address_blocks, Contains-occurrence_count, occurrence_count-Contains, occurrence_count, count_append, each_counted, KeptThread, ChangesThreadBlocks, empty_anchor, thread_pair, Contains, WritesChangedPairsOrFree, IsPairDropped, WritesPairsAndTwoFree, move_ending_pair, CanReplaceDirectoryBetweenPairs, IsMovedBetweenPairs, Route, route_blocks}
use Rattle.lfs_operations.proofs.AlteredAcross.{each_known}
use Rattle.lfs_operations.proofs.AlteredLater.{onto_known}
use Rattle.lfs_operations.proofs.AlteredOnto.{last_known}
use Rattle.lfs_operations.proofs.OntoAcross.{gone_above, renamed_onto, replacing_across, can_drop_onto}
use Rattle.lfs_operations.proofs.OntoWritten.{there_counted}
use Rattle.lfs_operations.proofs.Putting.{writes_trans, writes_among}
use Rattle.lfs_operations.proofs.LastDrop.{end_fewer}

module _ {t : KeptThread} {route : Route} {name : Name} {gone : ℕ} (rename : CanReplaceDirectoryBetweenPairs t route name gone) {m : KeptThread}
    (h : IsMovedBetweenPairs true true t route name m) {n : ℕ} (at : IsPairAt m.pairs (thread_pair t gone).at n) {new : KeptThread} (g : IsPairDropped m (n - 1) zero_gstate new) where
  -- a block of the pair that the last step writes was a pair's, or free
  before : (b : ℕ) → Contains (address_blocks (thread_pair m (n - 1)).at) b → (1 ≤ occurrence_count b (pairs_blocks t.pairs)) ⊎ IsFree t.map b
  before b own = go (cases_lt 0 (occurrence_count b (pairs_blocks t.pairs)))
    where
      within : Contains (pairs_blocks t.pairs ++ h.done.blocks.written.fresh) b
      within = h.done.blocks.within b (Contains-occurrence_count (pairs_blocks m.pairs) b (
          let l = (can_drop_onto rename h at).below in
          let k = there_counted m.pairs (n - 1) empty_anchor (omega (arith, l)) b in
          let c = occurrence_count-Contains (address_blocks (thread_pair m (n - 1)).at) b own in
          omega (arith, k, c)))

      go : (0 < occurrence_count b (pairs_blocks t.pairs)) ⊎ (occurrence_count b (pairs_blocks t.pairs) ≤ 0) → (1 ≤ occurrence_count b (pairs_blocks t.pairs)) ⊎ IsFree t.map b
      go (inl l) = inl l
      go (inr l) = inr (each_counted (IsFree t.map) h.done.blocks.written.fresh h.done.blocks.written.free b
          (let k = occurrence_count-Contains (pairs_blocks t.pairs ++ h.done.blocks.written.fresh) b within in let c = count_append b (pairs_blocks t.pairs) h.done.blocks.written.fresh in omega (arith, k, c, l)))

  pub altered_onto_directory : WritesPairsAndTwoFree t (move_ending_pair t route.old_pair route.first) route.new_pair m → ChangesThreadBlocks (address_blocks (thread_pair m (n - 1)).at) m new → WritesChangedPairsOrFree t (route_blocks true t route) new
  altered_onto_directory w second =
      let y = (thread_pair m (n - 1)).at in
      let p = (thread_pair t route.new_pair).at in
      let q = (thread_pair t (move_ending_pair t route.old_pair route.first)).at in
      let bs = p.0 ∷ p.1 ∷ q.0 ∷ q.1 ∷ w.fresh in
      let k = replacing_across rename h at in
      record {
        blocks = y.0 ∷ y.1 ∷ bs;
        writes = writes_trans (writes_among (λ b some. omega (arith, some)) w.writes) (writes_among (λ b some. omega (arith, some)) second);
        each = each_known t new (route_blocks true t route) y bs
            (λ b own. last_known t m gone n (gone_above rename h) rename.below k new g (route_blocks true t route) b (before b own) own)
            (onto_known rename.onto h (renamed_onto rename h at g).now.ready.accepted (end_fewer k new g) w);
      }
