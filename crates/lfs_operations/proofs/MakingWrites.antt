-- The blocks that the two steps of a mkdir write.
use Rattle.lfs_operations.proofs.Common.{ℕ, ◌≡◌, ◌≢◌, List, [], ◌∷◌, subst, arith, All-from_recursion, recursion_from_All, IsFree, SurvivesLossSince, Tree, survives_then, each_weaker, KeptThread, ChangesThreadBlocks, thread_pair, addresses_blocks, All, WritesPairAndTwoFree, map_allocating_two, WritesPairsAndFourFree, Name}
use Rattle.lfs_operations.proofs.MakingCounts.{freed}
use Rattle.lfs_operations.proofs.Putting.{with_map, writes_trans, writes_wider}
use Rattle.lfs_operations.proofs.Mkdir.{HasLinked, IsMaking, at_still}

-- of more blocks
abbrev Covers : List ℕ → List ℕ → Type 0
Covers cs bs = (b : ℕ) → All (λ c. c ≢ b) cs → All (λ c. c ≢ b) bs

module _ {t : KeptThread} {index id : ℕ} {name : Name} (mk : IsMaking t index id name) where
  abbrev own : List ℕ → List ℕ
  own more = (thread_pair t index).at.0 ∷ (thread_pair t index).at.1 ∷ (thread_pair t mk.last).at.0 ∷ (thread_pair t mk.last).at.1 ∷ mk.fresh.0 ∷ mk.fresh.1 ∷ more

  covers_first : (more : List ℕ) → Covers (own more) (addresses_blocks (thread_pair t mk.last).at mk.fresh)
  covers_first more b apart =
      let each = recursion_from_All (λ (c : ℕ). c ≢ b) (own more) apart in
      All-from_recursion (λ c. c ≢ b) (addresses_blocks (thread_pair t mk.last).at mk.fresh) (each.1.1.0, (each.1.1.1.0, (each.1.1.1.1.0, (each.1.1.1.1.1.0, tt))))

  covers_second : (more : List ℕ) → Covers (own more) ((thread_pair t index).at.0 ∷ (thread_pair t index).at.1 ∷ more)
  covers_second more b apart =
      let each = recursion_from_All (λ (c : ℕ). c ≢ b) (own more) apart in
      All-from_recursion (λ c. c ≢ b) ((thread_pair t index).at.0 ∷ (thread_pair t index).at.1 ∷ more) (each.0, (each.1.0, each.1.1.1.1.1.1))

  first_wider : (new : KeptThread) (more : List ℕ) → ChangesThreadBlocks (addresses_blocks (thread_pair t mk.last).at mk.fresh) (with_map t (map_allocating_two t.map mk.fresh)) new → ChangesThreadBlocks (own more) t new
  first_wider new more w =
      let k = writes_wider (own more) (covers_first more) w in
      record { others = k.others; elsewhere = k.elsewhere; shape = record { block_size = k.shape.block_size; page = k.shape.page; order = k.shape.order; profile = k.shape.profile; count = k.shape.count }; at_worst = k.at_worst }

  pub writes_first : {s : KeptThread} (new : KeptThread) → s ≡ with_map t (map_allocating_two t.map mk.fresh) → ChangesThreadBlocks (addresses_blocks (thread_pair s mk.last).at mk.fresh) s new → WritesPairsAndFourFree t index new
  writes_first new taken w = record {
    last = mk.last;
    is_last = mk.is_last;
    fresh = mk.fresh.0 ∷ mk.fresh.1 ∷ [];
    few = omega arith;
    free = (mk.two.first, (mk.two.second, tt));
    writes = first_wider new [] (subst (λ (s : KeptThread). ChangesThreadBlocks (addresses_blocks (thread_pair s mk.last).at mk.fresh) s new) taken w);
  }

  module _ {mid : KeptThread} (h : HasLinked mk mid) (new : KeptThread) (second : WritesPairAndTwoFree mid index new) where
    pub writes_both : WritesPairsAndFourFree t index new
    writes_both = record {
      last = mk.last;
      is_last = mk.is_last;
      fresh = mk.fresh.0 ∷ mk.fresh.1 ∷ second.fresh;
      few = let f = second.few in omega arith;
      free = (mk.two.first, (mk.two.second, each_weaker (IsFree mid.map) (IsFree t.map) (λ b free. freed t.map mk.fresh mk.two b (subst (λ s. IsFree s b) h.threaded.map free)) second.fresh second.free));
      writes = writes_trans (first_wider mid second.fresh h.writes)
          (writes_wider (own second.fresh) (covers_second second.fresh)
          (subst (λ (a : ℕ × ℕ). ChangesThreadBlocks (a.0 ∷ a.1 ∷ second.fresh) mid new) (at_still mk h) second.writes));
    }

    -- a power loss in either step
    pub survives_both : {before after : Tree} → SurvivesLossSince t.disk t.history mid.history before after → SurvivesLossSince t.disk mid.history new.history before after → SurvivesLossSince t.disk t.history new.history before after
    survives_both {before = before} {after = after} a b = survives_then t.disk t.history mid.history new.history before after h.writes.at_worst second.writes.at_worst a b
