-- Laws of the cached blocks.
use Rattle.std.proofs.Common.{ℕ, zero, suc, ◌≡◌, ◌≢◌, Bool, true, false, cond, not, nat_eq, List, [], ◌∷◌, take, Some, None, refl, sym, ap, ◌∙◌, eqb-true, eq-eqb}
use Rattle.std.proofs.lemmas.Map.Entries.{lookup-filter-keys}
use Rattle.lfs_model.specs.layers.Cache.{CachedBlocks, cache_limit, cached_bytes, cache_with, cache_without}

differ : (b other : ℕ) → other ≢ b → nat_eq other b ≡ false
differ b other ne = go (nat_eq other b) refl
  where
    go : (t : Bool) → nat_eq other b ≡ t → t ≡ false
    go true is = absurd (ne (eqb-true other b is))
    go false is = refl

-- ---- a block that goes

pub cached_bytes-without_same : (cache : CachedBlocks) (b : ℕ) → cached_bytes (cache_without cache b) b ≡ None
cached_bytes-without_same cache b = lookup-filter-keys (nat_eq b) (λ k. not (nat_eq b k)) false (λ k is. ap not is) cache

pub cached_bytes-without_other : (cache : CachedBlocks) (b other : ℕ) → other ≢ b → cached_bytes (cache_without cache b) other ≡ cached_bytes cache other
cached_bytes-without_other cache b other ne =
    lookup-filter-keys (nat_eq other) (λ k. not (nat_eq b k)) true
    (λ k is. let same : other ≡ k = eqb-true other k is in ap not (differ k b (λ e. ne (same ∙ sym e)))) cache

-- ---- a block that comes in front

pub cached_bytes-put_first_same : (cache : CachedBlocks) (b : ℕ) (bytes : List ℕ) → cached_bytes (cache_with cache b bytes) b ≡ Some bytes
cached_bytes-put_first_same cache b bytes = ap (λ t. cond t (Some bytes) (cached_bytes (take 7 (cache_without cache b)) b)) (eq-eqb b b refl)

lookup-take : (n : ℕ) (cache : CachedBlocks) (b : ℕ) (found : List ℕ) → cached_bytes (take n cache) b ≡ Some found → cached_bytes cache b ≡ Some found
lookup-take zero cache b found has = absurd (cc)
lookup-take (suc n) [] b found has = has
lookup-take (suc n) (e ∷ cache) b found has = go (nat_eq b e.0) has (lookup-take n cache b found)
  where
    go : (t : Bool) → cond t (Some e.1) (cached_bytes (take n cache) b) ≡ Some found → (cached_bytes (take n cache) b ≡ Some found → cached_bytes cache b ≡ Some found) → cond t (Some e.1) (cached_bytes cache b) ≡ Some found
    go true is next = is
    go false is next = next is

-- another is there with its old bytes, or it has gone from the end
pub cached_bytes-put_first_other : (cache : CachedBlocks) (b other : ℕ) (bytes found : List ℕ) → other ≢ b → cached_bytes (cache_with cache b bytes) other ≡ Some found → cached_bytes cache other ≡ Some found
cached_bytes-put_first_other cache b other bytes found ne has =
    sym (cached_bytes-without_other cache b other ne)
    ∙ sym (ap (λ t. cond t (Some bytes) (cached_bytes (cache_without cache b) other)) (differ b other ne))
    ∙ lookup-take cache_limit ((b, bytes) ∷ cache_without cache b) other found has

-- ---- what holds of each block
