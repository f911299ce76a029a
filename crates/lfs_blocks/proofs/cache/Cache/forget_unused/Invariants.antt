use Rattle.std.proofs.Common.{◌≡◌, ℕ, List, Some}
use Rattle.lfs_model.specs.layers.Cache.{cached_bytes}
use Rattle.lfs_blocks.proofs.cache.Cache.forget_unused.Given as goal

abbrev pub invariant-loop : goal.invariant-loop
invariant-loop l = (b : ℕ) (bytes : List ℕ) → cached_bytes l.self b ≡ Some bytes → cached_bytes l.initial.self b ≡ Some bytes
