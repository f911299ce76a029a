-- Cached pairs: those whose logs are in cached blocks.
use Rattle.std.specs.Prelude.{ℕ, suc, ◌≡◌, ◌≤◌, ◌<◌, List, [], take, length, Result, OnOk, IfOk, IsSome}
use Rattle.std.specs.List.{AllByRecursion}
use Rattle.std.specs.Option.{option_map_or}
use Rattle.lfs_device.specs.declared.error.Error.{Error}
use Rattle.lfs_model.specs.layers.Cache.{CachedBlocks, cache_limit, cached_bytes}
use Rattle.lfs_model.specs.crash.Frame.{directory_pairs, directory_pair_count}
use Rattle.lfs_model.specs.format.Disk.{Disk}
use Rattle.lfs_model.specs.session.History.{read_count}
use Rattle.lfs_model.specs.tree.Shown.{all_entries}
use Rattle.lfs_model.specs.format.Thread.{Pair, root_address}
use Rattle.lfs_model.specs.tree.Tree.{Path, address_at_path}
use Rattle.lfs_pair.specs.Pair.{active_block_at}
use Rattle.lfs_thread.specs.Kept.{ThreadView}

-- the block is one of the n most recently used ones
abbrev pub IsRecentlyUsed : ℕ → CachedBlocks → ℕ → Type 0
IsRecentlyUsed n cache b = IsSome (cached_bytes (take n cache) b)

-- the same of the blocks with these pairs' logs
abbrev pub ArePairsRecentlyUsed : ℕ → Disk → CachedBlocks → List Pair → Type 0
ArePairsRecentlyUsed n disk cache ps = AllByRecursion (λ p. IsRecentlyUsed n cache (active_block_at disk p.at)) ps

abbrev pub ArePairsCached : ThreadView → List Pair → Type 0
ArePairsCached t ps = ArePairsRecentlyUsed cache_limit t.kept.disk t.cache ps

-- blocks that were cached still are
abbrev pub CachedBlocksStayCached : CachedBlocks → CachedBlocks → Type 0
CachedBlocksStayCached old new = (b : ℕ) → IsRecentlyUsed cache_limit old b → IsRecentlyUsed cache_limit new b

-- ---- along the pairs of a directory

-- the block is now the most recently used one, and those before it are one rank less recent
pub record BecomesMostRecent (b : ℕ) (old new : CachedBlocks) : Type 0 where
  pub first : IsRecentlyUsed 1 new b
  pub others : (n c : ℕ) → n < cache_limit → IsRecentlyUsed n old c → IsRecentlyUsed (suc n) new c

-- If all these pairs are cached, no block is read, and cached pairs stay cached. A single pair is cached afterwards.
pub record KeepsCachedPairs {X : Type 0} (ps : List Pair) (old new : ThreadView) (result : Result X Error) : Type 0 where
  pub none : ArePairsCached old ps → read_count new.kept.history ≡ read_count old.kept.history
  pub stay : ArePairsCached old ps → OnOk result (CachedBlocksStayCached old.cache new.cache)
  pub one : length ps ≡ 1 → OnOk result (AllByRecursion (λ p. BecomesMostRecent (active_block_at old.kept.disk p.at) old.cache new.cache) ps)

-- ---- down the directories of a path

-- the pairs of the directory at a path, if there is one
abbrev pub pairs_at : List Pair → Path → List Pair
pairs_at ps path = option_map_or (directory_pairs ps) (address_at_path (all_entries ps) (root_address ps) path) []

-- the pairs of the directories at these paths are among the n most recently used ones
abbrev pub AreDirectoriesRecentlyUsed : ℕ → Disk → CachedBlocks → List Pair → List Path → Type 0
AreDirectoriesRecentlyUsed n disk cache ps paths = AllByRecursion (λ p. ArePairsRecentlyUsed n disk cache (pairs_at ps p)) paths

abbrev pub AreDirectoriesCached : ThreadView → List Path → Type 0
AreDirectoriesCached t paths = AreDirectoriesRecentlyUsed cache_limit t.kept.disk t.cache t.kept.pairs paths

-- at most eight directories of one pair each
pub record AreFewOnePairDirectories (ps : List Pair) (paths : List Path) : Type 0 where
  pub few : length paths ≤ cache_limit
  pub small : AllByRecursion (λ p. directory_pair_count ps p ≡ 1) paths

-- If all pairs of these directories are cached, no block is read, and cached pairs stay cached. If the directories are few and
-- small, and the look-up went through all of them, their pairs are the most recently used ones.
pub record KeepsCachedDirectories {X : Type 0} (through : X → Type 0) (paths : List Path) (old new : ThreadView) (result : Result X Error) : Type 0 where
  pub none : AreDirectoriesCached old paths → read_count new.kept.history ≡ read_count old.kept.history
  pub stay : AreDirectoriesCached old paths → OnOk result (CachedBlocksStayCached old.cache new.cache)
  pub recent : AreFewOnePairDirectories old.kept.pairs paths → IfOk result (λ x. through x → AreDirectoriesRecentlyUsed (length paths) old.kept.disk new.cache old.kept.pairs paths)
