-- The blocks that stay cached when one is forgotten.
use Rattle.std.proofs.Common.{ℕ, ◌≡◌, Bool, true, false, nat_eq, List, Some, None, refl, sym, subst, ◌∙◌, eqb-true, eq-eqb}
use Rattle.lfs_model.proofs.Cache.{cached_bytes-without_other, cached_bytes-without_same}
use Rattle.lfs_model.specs.layers.Cache.{CachedBlocks, cached_bytes, cache_without}

-- what is cached after a block was forgotten was cached before
pub cached_before : (cache : CachedBlocks) (gone b : ℕ) (bytes : List ℕ) → cached_bytes (cache_without cache gone) b ≡ Some bytes → cached_bytes cache b ≡ Some bytes
cached_before cache gone b bytes has = go (nat_eq b gone) refl
  where
    go : (t : Bool) → nat_eq b gone ≡ t → cached_bytes cache b ≡ Some bytes
    go true is =
        let there = subst (λ k. cached_bytes (cache_without cache gone) k ≡ Some bytes) (eqb-true b gone is) has in
        absurd (let none : None ≡ Some bytes = sym (cached_bytes-without_same cache gone) ∙ there in cc)
    go false is = sym (cached_bytes-without_other cache gone b (λ e. absurd (let both : true ≡ false = sym (eq-eqb b gone e) ∙ is in cc))) ∙ has
