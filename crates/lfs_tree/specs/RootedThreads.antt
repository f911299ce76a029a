-- The thread of a mounted image.
use Rattle.std.specs.Prelude.{ℕ, ◌≡◌, Bool, false, []}
use Rattle.lfs_model.specs.format.Thread.{count_before_root}
use Rattle.lfs_thread.specs.Kept.{KeptThread, ThreadView}
use Rattle.lfs_tree.specs.TreeState.{TreeState, IsSoundState}

-- the state with an empty cache
abbrev pub uncached_state : KeptThread → Bool → Bool → TreeState
uncached_state t writable failed = record { disk = t.disk; history = t.history; pairs = t.pairs; map = t.map; writable = writable; failed = failed; cache = [] }

abbrev pub thread_state : ThreadView → Bool → TreeState
thread_state t writable = record (uncached_state t.kept writable t.failed) { cache = t.cache }

-- the thread hasn't failed, and is that of an accepted image, whose root directory begins with the pair of index `root`
pub record IsSoundWithRoot (t : ThreadView) (root : ℕ) (writable : Bool) : Type 0 where
  pub works : t.failed ≡ false
  pub sound : IsSoundState (uncached_state t.kept writable false)
  pub root_is : root ≡ count_before_root t.kept.pairs

-- the same, unless the thread has failed
abbrev pub IsSoundUnlessFailed : ThreadView → ℕ → Bool → Type 0
IsSoundUnlessFailed t root writable = t.failed ≡ false → IsSoundWithRoot t root writable
