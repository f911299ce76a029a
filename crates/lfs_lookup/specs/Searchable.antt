-- The premises of a search.
use Rattle.std.specs.Prelude.{ℕ, ◌≡◌, ◌<◌, false, length, Option, IfSome, IsSome}
use Rattle.lfs_model.specs.format.Thread.{count_before_root}
use Rattle.lfs_model.specs.tree.View.{IsAccepted}
use Rattle.lfs_thread.specs.CachedLog.{cached_log}
use Rattle.lfs_thread.specs.Kept.{ThreadView}
use Rattle.lfs_lookup.specs.LookupPaths.{HidesMovedSlot, IsAcceptedRecovered}
use Rattle.lfs_lookup.specs.declared.search.SlotPosition.{SlotPosition}

-- the thread hasn't failed, and has a pair of that index
pub record CanReadPair (t : ThreadView) (index : ℕ) : Type 0 where
  pub works : t.failed ≡ false
  pub below : index < length t.kept.pairs

-- The thread hasn't failed. If there is a slot, its pair is in the thread, and cached.
pub record CanReadCachedSlot (t : ThreadView) (slot : Option SlotPosition) : Type 0 where
  pub works : t.failed ≡ false
  pub below : IfSome slot (λ s. s.pair < length t.kept.pairs)
  pub cached_log : IfSome slot (λ s. IsSome (cached_log t s.pair))

-- the thread hasn't failed, its image is accepted, and only that slot counts as deleted
pub record CanSearchHidingMoved (t : ThreadView) (moved : Option SlotPosition) : Type 0 where
  pub works : t.failed ≡ false
  pub hiding : HidesMovedSlot t.kept moved

-- the thread hasn't failed, and its image is accepted and has nothing to recover
pub record CanSearchRecovered (t : ThreadView) : Type 0 where
  pub works : t.failed ≡ false
  pub settled : IsAcceptedRecovered t.kept

-- the thread hasn't failed, its image is accepted, and the root directory begins with the pair of that index
pub record CanSearchFromRoot (t : ThreadView) (first : ℕ) : Type 0 where
  pub works : t.failed ≡ false
  pub accepted : IsAccepted t.kept.disk t.kept.pairs
  pub root : first ≡ count_before_root t.kept.pairs
