-- A cache's entries, of distinct blocks, after its calls, and as contracts see them.
use Rattle.std.proofs.Common.{ℕ, zero, suc, ◌≡◌, ◌+◌, ◌-◌, ◌≤◌, Bool, true, false, cond, not, nat_eq, List, [], ◌∷◌, length, take, Option, Some, None, refl, sym, ap, ◌∙◌, subst, arith, eqb-true, is_some, Vec, Global}
use Rattle.std.specs.List.{AllByRecursion, IsDistinct, filter}
use Rattle.std.specs.Bool.{OnFalse, OnTrue}
use Rattle.std.specs.Option.{option_map, option_map_or, unwrap_or}
use Rattle.std.specs.Map.{keys_of, lookup, lookup_entry, remove_entry, set_value}
use Rattle.std.proofs.lemmas.List.{length-take, take_all, take-map}
use Rattle.std.proofs.lemmas.List.Sums.{count_by-le-length, length-filter}
use Rattle.std.proofs.lemmas.Option.{same_Some}
use Rattle.std.proofs.lemmas.Map.{keys-set_value, length-set_value}
use Rattle.std.proofs.lemmas.Map.Keys.{IsDistinct-cons}
use Rattle.std.proofs.lemmas.Map.Made.{IsDistinct-keys_filter}
use Rattle.lru.specs.LruCache.{LruCache, lru_cache, promoted, put_entries}
use Rattle.lfs_model.specs.layers.Cache.{cache_limit, cached_bytes, cache_with, cache_without}
use Rattle.lfs_blocks.specs.CacheView.{CachesAtMostEight, cached_view}

module _ {V : Type 0} (b : ℕ) where
  -- the entries of other blocks
  abbrev pub rest : List (ℕ × V) → List (ℕ × V)
  rest es = filter (λ e. not (nat_eq b e.0)) es

  abbrev pub IsNameAbsentFrom : List (ℕ × V) → Type 0
  IsNameAbsentFrom es = AllByRecursion (λ k. nat_eq b k ≡ false) (keys_of es)

  pub IsNameAbsentFrom-lookup : (es : List (ℕ × V)) → lookup (nat_eq b) es ≡ None → IsNameAbsentFrom es
  IsNameAbsentFrom-lookup [] none = tt
  IsNameAbsentFrom-lookup (e ∷ es) none = go (nat_eq b e.0) refl none (IsNameAbsentFrom-lookup es)
    where
      go : (t : Bool) → nat_eq b e.0 ≡ t → cond t (Some e.1) (lookup (nat_eq b) es) ≡ None → (lookup (nat_eq b) es ≡ None → IsNameAbsentFrom es) → IsNameAbsentFrom (e ∷ es)
      go true is none' next = absurd (cc)
      go false is none' next = (is, next none')

  pub IsNameAbsentFrom-take : (n : ℕ) (es : List (ℕ × V)) → IsNameAbsentFrom es → IsNameAbsentFrom (take n es)
  IsNameAbsentFrom-take zero es absent = tt
  IsNameAbsentFrom-take (suc n) [] absent = tt
  IsNameAbsentFrom-take (suc n) (e ∷ es) absent = (absent.0, IsNameAbsentFrom-take n es absent.1)

  pub IsNameAbsentFrom-rest : (es : List (ℕ × V)) → IsNameAbsentFrom (rest es)
  IsNameAbsentFrom-rest [] = tt
  IsNameAbsentFrom-rest (e ∷ es) = go (nat_eq b e.0) refl (IsNameAbsentFrom-rest es)
    where
      go : (t : Bool) → nat_eq b e.0 ≡ t → IsNameAbsentFrom (rest es) → IsNameAbsentFrom (cond (not t) (e ∷ rest es) (rest es))
      go true is next = next
      go false is next = (is, next)

  pub rest-absent : (es : List (ℕ × V)) → IsNameAbsentFrom es → rest es ≡ es
  rest-absent [] absent = refl
  rest-absent (e ∷ es) absent =
      ap (λ t. cond (not t) (e ∷ rest es) (rest es)) absent.0 ∙ ap (λ r. e ∷ r) (rest-absent es absent.1)

  -- of distinct blocks, to take out the first entry of one is to take out all
  pub remove_entry-distinct : (es : List (ℕ × V)) → IsDistinct nat_eq (keys_of es) → remove_entry (nat_eq b) es ≡ rest es
  unfolding IsDistinct
  remove_entry-distinct [] distinct = refl
  remove_entry-distinct (e ∷ es) distinct = go (nat_eq b e.0) refl (remove_entry-distinct es distinct.1)
    where
      go : (t : Bool) → nat_eq b e.0 ≡ t → remove_entry (nat_eq b) es ≡ rest es → cond t es (e ∷ remove_entry (nat_eq b) es) ≡ cond (not t) (e ∷ rest es) (rest es)
      go true is next = sym (rest-absent es (subst (λ k. AllByRecursion (λ y. nat_eq k y ≡ false) (keys_of es)) (sym (eqb-true b e.0 is)) distinct.0))
      go false is next = ap (λ r. e ∷ r) next

  -- the entry that is found
  pub lookup_entry-lookup : (es : List (ℕ × V)) (v : V) → lookup (nat_eq b) es ≡ Some v → lookup_entry (nat_eq b) es ≡ Some (b, v)
  lookup_entry-lookup [] v has = absurd (cc)
  lookup_entry-lookup (e ∷ es) v has = go (nat_eq b e.0) refl has (lookup_entry-lookup es v)
    where
      go : (t : Bool) → nat_eq b e.0 ≡ t → cond t (Some e.1) (lookup (nat_eq b) es) ≡ Some v
          → (lookup (nat_eq b) es ≡ Some v → lookup_entry (nat_eq b) es ≡ Some (b, v)) → cond t (Some e) (lookup_entry (nat_eq b) es) ≡ Some (b, v)
      go true is has' next = ap (λ k. Some (k, e.1)) (sym (eqb-true b e.0 is)) ∙ ap (λ w. Some (b, w)) (same_Some e.1 v has')
      go false is has' next = next has'

  pub lookup_entry-none : (es : List (ℕ × V)) → lookup (nat_eq b) es ≡ None → lookup_entry (nat_eq b) es ≡ None
  lookup_entry-none [] none = refl
  lookup_entry-none (e ∷ es) none = go (nat_eq b e.0) none (lookup_entry-none es)
    where
      go : (t : Bool) → cond t (Some e.1) (lookup (nat_eq b) es) ≡ None → (lookup (nat_eq b) es ≡ None → lookup_entry (nat_eq b) es ≡ None) → cond t (Some e) (lookup_entry (nat_eq b) es) ≡ None
      go true none' next = absurd (cc)
      go false none' next = next none'

  fewer : (es : List (ℕ × V)) (v : V) → lookup (nat_eq b) es ≡ Some v → length (remove_entry (nat_eq b) es) + 1 ≡ length es
  fewer [] v has = absurd (cc)
  fewer (e ∷ es) v has = go (nat_eq b e.0) has (fewer es v)
    where
      go : (t : Bool) → cond t (Some e.1) (lookup (nat_eq b) es) ≡ Some v → (lookup (nat_eq b) es ≡ Some v → length (remove_entry (nat_eq b) es) + 1 ≡ length es)
          → length (cond t es (e ∷ remove_entry (nat_eq b) es)) + 1 ≡ length (e ∷ es)
      go true has' next = omega arith
      go false has' next = let one = next has' in omega (arith, one)

  -- one entry fewer
  pub length-rest : (es : List (ℕ × V)) (v : V) → IsDistinct nat_eq (keys_of es) → lookup (nat_eq b) es ≡ Some v → length (rest es) + 1 ≡ length es
  length-rest es v distinct has = ap (λ r. length r + 1) (sym (remove_entry-distinct es distinct)) ∙ fewer es v has

  pub length-rest-le : (es : List (ℕ × V)) → length (rest es) ≤ length es
  length-rest-le es = omega (arith, length-filter (λ e. not (nat_eq b e.0)) es, count_by-le-length (λ e. not (nat_eq b e.0)) es)

pub distinct-take : {V : Type 0} (n : ℕ) (es : List (ℕ × V)) → IsDistinct nat_eq (keys_of es) → IsDistinct nat_eq (keys_of (take n es))
unfolding IsDistinct
distinct-take zero es distinct = tt
distinct-take (suc n) [] distinct = tt
distinct-take (suc n) (e ∷ es) distinct = (IsNameAbsentFrom-take e.0 n es distinct.0, distinct-take n es distinct.1)

-- ---- what is shown

pub length-shown : (es : List (ℕ × Vec ℕ Global)) → length (cached_view es) ≡ length es
length-shown [] = refl
length-shown (e ∷ es) = ap suc (length-shown es)

pub cached_bytes-shown : (es : List (ℕ × Vec ℕ Global)) (b : ℕ) → cached_bytes (cached_view es) b ≡ option_map (λ v. v.items) (lookup (nat_eq b) es)
cached_bytes-shown [] b = refl
cached_bytes-shown (e ∷ es) b = go (nat_eq b e.0) (cached_bytes-shown es b)
  where
    go : (t : Bool) → cached_bytes (cached_view es) b ≡ option_map (λ v. v.items) (lookup (nat_eq b) es)
        → cond t (Some e.1.items) (cached_bytes (cached_view es) b) ≡ option_map (λ v. v.items) (cond t (Some e.1) (lookup (nat_eq b) es))
    go true next = refl
    go false next = next

pub shown-rest : (es : List (ℕ × Vec ℕ Global)) (b : ℕ) → cached_view (rest b es) ≡ cache_without (cached_view es) b
shown-rest [] b = refl
shown-rest (e ∷ es) b = go (not (nat_eq b e.0)) (shown-rest es b)
  where
    go : (t : Bool) → cached_view (rest b es) ≡ cache_without (cached_view es) b → cached_view (cond t (e ∷ rest b es) (rest b es)) ≡ cond t ((e.0, e.1.items) ∷ cache_without (cached_view es) b) (cache_without (cached_view es) b)
    go true next = ap (λ r. (e.0, e.1.items) ∷ r) next
    go false next = next

pub shown-set_value : (es : List (ℕ × Vec ℕ Global)) (b : ℕ) (w : Vec ℕ Global) → cached_view (set_value (nat_eq b) es w) ≡ set_value (nat_eq b) (cached_view es) w.items
shown-set_value [] b w = refl
shown-set_value (e ∷ es) b w = go (nat_eq b e.0) (shown-set_value es b w)
  where
    go : (t : Bool) → cached_view (set_value (nat_eq b) es w) ≡ set_value (nat_eq b) (cached_view es) w.items
        → cached_view (cond t ((e.0, w) ∷ es) (e ∷ set_value (nat_eq b) es w)) ≡ cond t ((e.0, w.items) ∷ cached_view es) ((e.0, e.1.items) ∷ set_value (nat_eq b) (cached_view es) w.items)
    go true next = refl
    go false next = ap (λ r. (e.0, e.1.items) ∷ r) next

-- ---- what is kept

pub CachesAtMostEight-set : (recent : LruCache ℕ (Vec ℕ Global)) (b : ℕ) (w : Vec ℕ Global) → CachesAtMostEight recent → CachesAtMostEight (lru_cache (set_value (nat_eq b) recent.entries w) recent.cap)
CachesAtMostEight-set recent b w cache = record {
  capacity = cache.capacity;
  few = rw (length-set_value (nat_eq b) recent.entries w) cache.few;
  distinct = rw (keys-set_value (nat_eq b) recent.entries w) cache.distinct;
}

pub CachesAtMostEight-rest : (recent : LruCache ℕ (Vec ℕ Global)) (b : ℕ) → CachesAtMostEight recent → CachesAtMostEight (lru_cache (rest b recent.entries) recent.cap)
CachesAtMostEight-rest recent b cache = record {
  capacity = cache.capacity;
  few = omega (arith, cache.few, length-rest-le b recent.entries);
  distinct = IsDistinct-keys_filter nat_eq (λ e. not (nat_eq b e.0)) recent.entries cache.distinct;
}

-- without a block it is one too
pub CachesAtMostEight-none : (recent : LruCache ℕ (Vec ℕ Global)) → CachesAtMostEight recent → CachesAtMostEight (lru_cache [] recent.cap)
unfolding IsDistinct
CachesAtMostEight-none recent cache = record { capacity = cache.capacity; few = omega (arith); distinct = tt }

-- ---- a block that is made the most recent

found : {X : Type 0} (o : Option X) → is_some o ≡ true → (x : X) × (o ≡ Some x)
found None is = absurd (cc)
found (Some x) is = (x, refl)

not_found : {X : Type 0} (o : Option X) → is_some o ≡ false → o ≡ None
not_found None is = refl
not_found (Some x) is = absurd (cc)

is_some-option_map : {X Y : Type 0} (f : X → Y) (o : Option X) → is_some (option_map f o) ≡ is_some o
is_some-option_map f None = refl
is_some-option_map f (Some x) = refl

module _ (recent : LruCache ℕ (Vec ℕ Global)) (b : ℕ) (cache : CachesAtMostEight recent) where
  pub is_some-cached : is_some (cached_bytes (cached_view recent.entries) b) ≡ is_some (lookup (nat_eq b) recent.entries)
  is_some-cached = ap is_some (cached_bytes-shown recent.entries b) ∙ is_some-option_map (λ v. v.items) (lookup (nat_eq b) recent.entries)

  -- one that is there
  module _ (v : Vec ℕ Global) (has : lookup (nat_eq b) recent.entries ≡ Some v) where
    promoted-found : promoted (nat_eq b) recent.entries ≡ (b, v) ∷ rest b recent.entries
    promoted-found =
        ap (λ o. option_map_or (λ e. e ∷ remove_entry (nat_eq b) recent.entries) o recent.entries) (lookup_entry-lookup b recent.entries v has)
        ∙ ap (λ r. (b, v) ∷ r) (remove_entry-distinct b recent.entries cache.distinct)

    few-found : length ((b, v) ∷ rest b recent.entries) ≤ cache_limit
    few-found = omega (arith, length-rest b recent.entries v cache.distinct has, cache.few)

    IsCache-found : CachesAtMostEight (lru_cache (promoted (nat_eq b) recent.entries) recent.cap)
    IsCache-found = record {
      capacity = cache.capacity;
      few = rw promoted-found few-found;
      distinct = rw promoted-found (IsDistinct-cons nat_eq b (keys_of (rest b recent.entries)) (IsNameAbsentFrom-rest b recent.entries)
          (IsDistinct-keys_filter nat_eq (λ e. not (nat_eq b e.0)) recent.entries cache.distinct));
    }

    shown-found : (other : List ℕ) → cached_view (promoted (nat_eq b) recent.entries) ≡ cache_with (cached_view recent.entries) b (unwrap_or (cached_bytes (cached_view recent.entries) b) other)
    shown-found other =
        ap cached_view promoted-found
        ∙ sym (take_all cache_limit (cached_view ((b, v) ∷ rest b recent.entries)) (omega (arith, few-found, length-shown ((b, v) ∷ rest b recent.entries))))
        ∙ ap (λ r. take cache_limit ((b, v.items) ∷ r)) (shown-rest recent.entries b)
        ∙ ap (λ o. cache_with (cached_view recent.entries) b (unwrap_or o other)) (sym (cached_bytes-shown recent.entries b ∙ ap (option_map (λ w. w.items)) has))

  -- one that isn't
  module _ (none : lookup (nat_eq b) recent.entries ≡ None) where
    promoted-none : promoted (nat_eq b) recent.entries ≡ recent.entries
    promoted-none = ap (λ o. option_map_or (λ e. e ∷ remove_entry (nat_eq b) recent.entries) o recent.entries) (lookup_entry-none b recent.entries none)

    put_entries-none : (v : Vec ℕ Global) → put_entries nat_eq recent b v ≡ (b, v) ∷ take 7 recent.entries
    put_entries-none v =
        ap (λ o. option_map_or (λ e. (e.0, v) ∷ remove_entry (nat_eq b) recent.entries) o ((b, v) ∷ take (recent.cap - 1) recent.entries)) (lookup_entry-none b recent.entries none)
        ∙ ap (λ n. (b, v) ∷ take (n - 1) recent.entries) cache.capacity

    CachesAtMostEight-new : (v : Vec ℕ Global) → CachesAtMostEight (lru_cache (put_entries nat_eq recent b v) recent.cap)
    CachesAtMostEight-new v = record {
      capacity = cache.capacity;
      few = rw (put_entries-none v) (omega (arith, length-take 7 recent.entries));
      distinct = rw (put_entries-none v) (IsDistinct-cons nat_eq b (keys_of (take 7 recent.entries))
          (IsNameAbsentFrom-take b 7 recent.entries (IsNameAbsentFrom-lookup b recent.entries none)) (distinct-take 7 recent.entries cache.distinct));
    }

    shown-new : (v : Vec ℕ Global) → cached_view (put_entries nat_eq recent b v) ≡ cache_with (cached_view recent.entries) b v.items
    shown-new v =
        ap cached_view (put_entries-none v)
        ∙ ap (λ r. (b, v.items) ∷ r) (sym (take-map (λ (e : ℕ × Vec ℕ Global). (e.0, e.1.items)) 7 recent.entries))
        ∙ ap (λ es. take cache_limit ((b, v.items) ∷ cached_view es)) (sym (rest-absent b recent.entries (IsNameAbsentFrom-lookup b recent.entries none)))
        ∙ ap (λ r. take cache_limit ((b, v.items) ∷ r)) (shown-rest recent.entries b)

  -- after `promote`
  pub IsCache-promoted : CachesAtMostEight (lru_cache (promoted (nat_eq b) recent.entries) recent.cap)
  IsCache-promoted = go (is_some (lookup (nat_eq b) recent.entries)) refl
    where
      go : (r : Bool) → is_some (lookup (nat_eq b) recent.entries) ≡ r → CachesAtMostEight (lru_cache (promoted (nat_eq b) recent.entries) recent.cap)
      go true is = let there = found (lookup (nat_eq b) recent.entries) is in IsCache-found there.0 there.1
      go false is = rw (promoted-none (not_found (lookup (nat_eq b) recent.entries) is)) cache

  pub shown-promoted : (r : Bool) → r ≡ is_some (lookup (nat_eq b) recent.entries)
      → OnTrue r ((other : List ℕ) → cached_view (promoted (nat_eq b) recent.entries) ≡ cache_with (cached_view recent.entries) b (unwrap_or (cached_bytes (cached_view recent.entries) b) other))
  shown-promoted true is = let there = found (lookup (nat_eq b) recent.entries) (sym is) in shown-found there.0 there.1
  shown-promoted false is = tt

  pub shown-not_promoted : (r : Bool) → r ≡ is_some (lookup (nat_eq b) recent.entries) → OnFalse r (cached_view (promoted (nat_eq b) recent.entries) ≡ cached_view recent.entries)
  shown-not_promoted true is = tt
  shown-not_promoted false is = ap cached_view (promoted-none (not_found (lookup (nat_eq b) recent.entries) (sym is)))

  -- after `add_uncached_block` of a block that isn't there
  module _ (none : cached_bytes (cached_view recent.entries) b ≡ None) (v : Vec ℕ Global) where
    lookup-none : lookup (nat_eq b) recent.entries ≡ None
    lookup-none = not_found (lookup (nat_eq b) recent.entries) (sym is_some-cached ∙ ap is_some none)

    pub IsCache-put : CachesAtMostEight (lru_cache (put_entries nat_eq recent b v) recent.cap)
    IsCache-put = CachesAtMostEight-new lookup-none v

    pub shown-put : cached_view (put_entries nat_eq recent b v) ≡ cache_with (cached_view recent.entries) b v.items
    shown-put = shown-new lookup-none v

pub few-shown : (recent : LruCache ℕ (Vec ℕ Global)) → CachesAtMostEight recent → length (cached_view recent.entries) ≤ cache_limit
few-shown recent cache = omega (arith, cache.few, length-shown recent.entries)
