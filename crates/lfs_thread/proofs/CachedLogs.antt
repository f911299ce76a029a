-- Cached blocks, when other blocks change.
use Rattle.std.proofs.Common.{ℕ, ◌≡◌, ◌≢◌, ◌⊎◌, inl, inr, nat_eq, true, false, cond, eqb-true, List, Option, Some, None, Result, Ok, Err, rules, refl, sym, ap, subst, ◌∙◌}
use Rattle.std.specs.Prelude.{IfErr, IfOk, IfSome, IsSome, OnErr, OnOk, unwrap_or}
use Rattle.std.specs.Cmp.{nat_eq_equiv}
use Rattle.std.specs.Map.{set_value}
use Rattle.std.proofs.lemmas.Map.{lookup-set_value}
use Rattle.lfs_thread.proofs.Common.{same_Some, eqb_tells, All-from_recursion, Blocks, CallEvent, Disk, PairHeader, RawContent, SameExceptBlocks, block_bytes, disk_block, header_address, is_second_active, CachedBlocks, cached_bytes, cache_without, cached_bytes-without_other, IsCacheCurrent, address_blocks, addresses_blocks}
use Rattle.lfs_device.specs.declared.error.Error.{Error}
use Rattle.lfs_model.specs.layers.Cache.{cache_with}
use Rattle.lfs_pair.specs.Pair.{IsTrueHeader, opposite_block}
use Rattle.lfs_thread.proofs.Keeping.{of_two}
use Rattle.lfs_model.proofs.Cache.{cached_bytes-put_first_other, cached_bytes-put_first_same, cached_bytes-without_same}

-- a block that is still cached isn't the one that went
pub record IsAnother (cache : CachedBlocks) (gone b : ℕ) (bytes : List ℕ) : Type 0 where
  pub other : gone ≢ b
  pub was : cached_bytes cache b ≡ Some bytes

pub still_there : (cache : CachedBlocks) (gone b : ℕ) (bytes : List ℕ) → cached_bytes (cache_without cache gone) b ≡ Some bytes → IsAnother cache gone b bytes
still_there cache gone b bytes h = go (eqb_tells b gone)
  where
    go : ((nat_eq b gone ≡ true) × (b ≡ gone)) ⊎ ((nat_eq b gone ≡ false) × (b ≢ gone)) → IsAnother cache gone b bytes
    go (inl k) = absurd (let e : None ≡ Some bytes = sym (cached_bytes-without_same cache gone) ∙ ap (cached_bytes (cache_without cache gone)) (sym k.1) ∙ h in cc)
    go (inr k) = record { other = λ e. k.1 (sym e); was = sym (cached_bytes-without_other cache gone b k.1) ∙ h }

-- after one went
pub current_without : (blocks : Blocks) (cache : CachedBlocks) (gone : ℕ) → IsCacheCurrent blocks cache → IsCacheCurrent blocks (cache_without cache gone)
current_without blocks cache gone current b bytes h = let is = still_there cache gone b bytes h in current b bytes is.was

-- after two blocks went, and only they changed
pub current_but_two : (old new : Blocks) (cache now : CachedBlocks) (at : ℕ × ℕ) → IsCacheCurrent old cache → now ≡ cache_without (cache_without cache at.0) at.1 → SameExceptBlocks (address_blocks at) old new → IsCacheCurrent new now
current_but_two old new cache now at current is same b bytes h =
    let second = still_there (cache_without cache at.0) at.1 b bytes (ap (λ z. cached_bytes z b) (sym is) ∙ h) in
    let first = still_there cache at.0 b bytes second.was in
    current b bytes first.was ∙ sym (same.others b (All-from_recursion (λ k. k ≢ b) (address_blocks at) (first.other, (second.other, tt))))

-- a block isn't cached after it went, and another
pub first_gone : (cache : CachedBlocks) (first second : ℕ) → cached_bytes (cache_without (cache_without cache first) second) first ≡ None
first_gone cache first second = go (cached_bytes (cache_without (cache_without cache first) second) first) refl
  where
    go : (o : Option (List ℕ)) → cached_bytes (cache_without (cache_without cache first) second) first ≡ o → o ≡ None
    go None is = refl
    go (Some bytes) is =
        let last = still_there (cache_without cache first) second first bytes is in
        absurd (let none : None ≡ Some bytes = sym (cached_bytes-without_same cache first) ∙ last.was in cc)

-- after a block was loaded into the cache
pub current_filled : (blocks : Blocks) (cache now : CachedBlocks) (b : ℕ) (r : Result (Unit {0}) Error) → OnOk r (now ≡ cache_with cache b (unwrap_or (cached_bytes cache b) (block_bytes blocks b))) → OnErr r (now ≡ cache)
    → IsCacheCurrent blocks cache → IsCacheCurrent blocks now
current_filled blocks cache now b (Err e) filled same current other bytes h = subst (IsCacheCurrent blocks) (sym same) current other bytes h
current_filled blocks cache now b (Ok u) filled same current other bytes h = go (eqb_tells other b)
  where
    there : (o : Option (List ℕ)) → cached_bytes cache b ≡ o → unwrap_or o (block_bytes blocks b) ≡ block_bytes blocks b
    there None e = refl
    there (Some x) e = current b x e

    go : ((nat_eq other b ≡ true) × (other ≡ b)) ⊎ ((nat_eq other b ≡ false) × (other ≢ b)) → bytes ≡ block_bytes blocks other
    go (inl k) =
        let x : List ℕ = unwrap_or (cached_bytes cache b) (block_bytes blocks b) in
        let e : Some bytes ≡ Some x = sym h ∙ ap (λ z. cached_bytes z other) filled ∙ ap (cached_bytes (cache_with cache b x)) k.1 ∙ cached_bytes-put_first_same cache b x in
        same_Some bytes x e ∙ there (cached_bytes cache b) refl ∙ ap (block_bytes blocks) (sym k.1)
    go (inr k) =
        let x : List ℕ = unwrap_or (cached_bytes cache b) (block_bytes blocks b) in
        current other bytes (cached_bytes-put_first_other cache b other x bytes k.1 (sym (ap (λ z. cached_bytes z other) filled) ∙ h))

pub filled_there : (blocks : Blocks) (cache now : CachedBlocks) (b : ℕ) (r : Result (Unit {0}) Error) → OnOk r (now ≡ cache_with cache b (unwrap_or (cached_bytes cache b) (block_bytes blocks b))) → OnOk r (IsSome (cached_bytes now b))
filled_there blocks cache now b (Err e) filled = tt
filled_there blocks cache now b (Ok u) filled =
    let x : List ℕ = unwrap_or (cached_bytes cache b) (block_bytes blocks b) in
    let found : Option (List ℕ) = Some x in
    let is : IsSome found = search rules in
    subst IsSome (sym (ap (λ z. cached_bytes z b) filled ∙ cached_bytes-put_first_same cache b x)) is

-- what is loaded into the cache is as the device has it
pub filled_front : (blocks : Blocks) (cache now : CachedBlocks) (b at : ℕ) (r : Result (Unit {0}) Error) → b ≡ at → IsCacheCurrent blocks cache
    → OnOk r (now ≡ cache_with cache b (unwrap_or (cached_bytes cache b) (block_bytes blocks b))) → OnOk r (now ≡ cache_with cache at (block_bytes blocks at))
filled_front blocks cache now b at (Err e) same current filled = tt
filled_front blocks cache now b at (Ok u) same current filled = filled ∙ ap (cache_with cache b) (there (cached_bytes cache b) refl) ∙ ap (λ k. cache_with cache k (block_bytes blocks k)) same
  where
    there : (o : Option (List ℕ)) → cached_bytes cache b ≡ o → unwrap_or o (block_bytes blocks b) ≡ block_bytes blocks b
    there None e = refl
    there (Some x) e = current b x e

-- ---- reads through the cache

-- a cached block is as the device has it
pub current_at : (blocks : Blocks) (cache : CachedBlocks) (b : ℕ) → IsCacheCurrent blocks cache → IfSome (cached_bytes cache b) (λ bytes. bytes ≡ block_bytes blocks b)
current_at blocks cache b current = go (cached_bytes cache b) refl
  where
    go : (o : Option (List ℕ)) → cached_bytes cache b ≡ o → IfSome o (λ bytes. bytes ≡ block_bytes blocks b)
    go None e = tt
    go (Some x) e = current b x e

-- after a read that may have cached a block
pub current_read : (blocks : Blocks) (cache now : CachedBlocks) (b : ℕ) → (now ≡ cache) ⊎ (now ≡ cache_with cache b (block_bytes blocks b)) → IsCacheCurrent blocks cache → IsCacheCurrent blocks now
current_read blocks cache now b (inl same) current other bytes h = subst (IsCacheCurrent blocks) (sym same) current other bytes h
current_read blocks cache now b (inr put) current other bytes h = go (eqb_tells other b)
  where
    x : List ℕ
    x = block_bytes blocks b

    go : ((nat_eq other b ≡ true) × (other ≡ b)) ⊎ ((nat_eq other b ≡ false) × (other ≢ b)) → bytes ≡ block_bytes blocks other
    go (inl k) =
        let e : Some bytes ≡ Some x = sym h ∙ ap (λ z. cached_bytes z other) put ∙ ap (cached_bytes (cache_with cache b x)) k.1 ∙ cached_bytes-put_first_same cache b x in
        same_Some bytes x e ∙ ap (block_bytes blocks) (sym k.1)
    go (inr k) = current other bytes (cached_bytes-put_first_other cache b other x bytes k.1 (sym (ap (λ z. cached_bytes z other) put) ∙ h))

-- ---- a cached block that is written

abbrev pub IsUncached : CachedBlocks → ℕ → Type 0
IsUncached cache b = (bytes : List ℕ) → cached_bytes cache b ≡ Some bytes → ⊥

pub uncached : (cache : CachedBlocks) (b : ℕ) → cached_bytes cache b ≡ None → IsUncached cache b
uncached cache b none bytes h = absurd (let e : None ≡ Some bytes = sym none ∙ h in cc)

pub uncached_without : (cache : CachedBlocks) (gone b : ℕ) → IsUncached cache b → IsUncached (cache_without cache gone) b
uncached_without cache gone b none bytes h = none bytes (still_there cache gone b bytes h).was

-- a block that isn't cached isn't cached after another one is filled
pub uncached_filled : (cache now : CachedBlocks) (b other : ℕ) (x : List ℕ) → now ≡ cache_with cache b x → other ≢ b → IsUncached cache other → IsUncached now other
uncached_filled cache now b other x filled apart none bytes h = none bytes (cached_bytes-put_first_other cache b other x bytes apart (sym (ap (λ z. cached_bytes z other) filled) ∙ h))

-- after the bytes of a pair's cached block were written, if the other block isn't cached and only the pair changed
pub current_written : {old new : Blocks} (cache : CachedBlocks) (active other : ℕ) (at : ℕ × ℕ) {x : List ℕ} → IsCacheCurrent old cache → SameExceptBlocks (address_blocks at) old new → IsSome (cached_bytes cache active)
    → IsUncached cache other → ((b : ℕ) → b ≢ active → b ≢ other → (at.0 ≢ b) × (at.1 ≢ b)) → x ≡ block_bytes new active → IsCacheCurrent new (set_value (nat_eq active) cache x)
current_written {old} {new} cache active other at {x} current same some none both is b bytes h = go (eqb_tells active b) (sym (lookup-set_value nat_eq_equiv (nat_eq active) (λ k y e. ap (λ z. nat_eq z y) (eqb-true active k e)) b x cache some) ∙ h)
  where
    go : ((nat_eq active b ≡ true) × (active ≡ b)) ⊎ ((nat_eq active b ≡ false) × (active ≢ b)) → cond (nat_eq active b) (Some x) (cached_bytes cache b) ≡ Some bytes → bytes ≡ block_bytes new b
    go (inl k) e =
        let found : Some x ≡ Some bytes = sym (ap (λ t. cond t (Some x) (cached_bytes cache b)) k.0) ∙ e in
        sym (same_Some x bytes found) ∙ is ∙ ap (block_bytes new) k.1
    go (inr k) e =
        let found : cached_bytes cache b ≡ Some bytes = sym (ap (λ t. cond t (Some x) (cached_bytes cache b)) k.0) ∙ e in
        let outside = both b (λ e. k.1 (sym e)) (λ e. none bytes (subst (λ z. cached_bytes cache z ≡ Some bytes) e found)) in
        current b bytes found ∙ sym (same.others b (All-from_recursion (λ k. k ≢ b) (address_blocks at) (outside.0, (outside.1, tt))))

-- after a split, if neither the pair's other block nor the fresh pair's blocks are cached, and its active block stays
pub current_split : {old new : Blocks} (cache : CachedBlocks) (active other : ℕ) (at fresh : ℕ × ℕ) → IsCacheCurrent old cache → SameExceptBlocks (addresses_blocks at fresh) old new → block_bytes new active ≡ block_bytes old active
    → IsUncached cache other → IsUncached cache fresh.0 → IsUncached cache fresh.1 → ((b : ℕ) → b ≢ active → b ≢ other → (at.0 ≢ b) × (at.1 ≢ b)) → IsCacheCurrent new cache
current_split {old} {new} cache active other at fresh current same kept none first second both b bytes h = current b bytes h ∙ sym (go (eqb_tells active b))
  where
    isnt : {k : ℕ} → IsUncached cache k → k ≢ b
    isnt none e = none bytes (subst (λ z. cached_bytes cache z ≡ Some bytes) (sym e) h)

    go : ((nat_eq active b ≡ true) × (active ≡ b)) ⊎ ((nat_eq active b ≡ false) × (active ≢ b)) → block_bytes new b ≡ block_bytes old b
    go (inl k) = subst (λ z. block_bytes new z ≡ block_bytes old z) k.1 kept
    go (inr k) =
        let outside = both b (λ e. k.1 (sym e)) (λ e. isnt none (sym e)) in
        same.others b (All-from_recursion (λ k. k ≢ b) (addresses_blocks at fresh) (outside.0, (outside.1, (isnt first, (isnt second, tt)))))

-- ---- the two blocks of a pair

-- the other block of a pair
pub inactive_other : (at : ℕ × ℕ) (active : ℕ) → at.0 ≢ at.1 → opposite_block at active ≢ active
inactive_other at active apart = go (eqb_tells active at.0)
  where
    go : ((nat_eq active at.0 ≡ true) × (active ≡ at.0)) ⊎ ((nat_eq active at.0 ≡ false) × (active ≢ at.0)) → opposite_block at active ≢ active
    go (inl k) e = apart (sym k.1 ∙ sym e ∙ ap (λ t. cond t at.1 at.0) k.0)
    go (inr k) e = k.1 (sym e ∙ ap (λ t. cond t at.1 at.0) k.0)

-- a block that is neither is none of the pair's
pub outside_both : (at : ℕ × ℕ) (active : ℕ) → (active ≡ at.0) ⊎ (active ≡ at.1) → (b : ℕ) → b ≢ active → b ≢ opposite_block at active → (at.0 ≢ b) × (at.1 ≢ b)
outside_both at active among b not_active not_other = go (eqb_tells active at.0)
  where
    both : (first second : ℕ) → active ≡ first → opposite_block at active ≡ second → ((at.0 ≡ first) × (at.1 ≡ second)) ⊎ ((at.0 ≡ second) × (at.1 ≡ first)) → (at.0 ≢ b) × (at.1 ≢ b)
    both first second is_first is_second (inl e) = ((λ z. not_active (sym z ∙ e.0 ∙ sym is_first)), (λ z. not_other (sym z ∙ e.1 ∙ sym is_second)))
    both first second is_first is_second (inr e) = ((λ z. not_other (sym z ∙ e.0 ∙ sym is_second)), (λ z. not_active (sym z ∙ e.1 ∙ sym is_first)))

    second_is : active ≢ at.0 → (active ≡ at.0) ⊎ (active ≡ at.1) → active ≡ at.1
    second_is not (inl e) = absurd (not e)
    second_is not (inr e) = e

    go : ((nat_eq active at.0 ≡ true) × (active ≡ at.0)) ⊎ ((nat_eq active at.0 ≡ false) × (active ≢ at.0)) → (at.0 ≢ b) × (at.1 ≢ b)
    go (inl k) = both at.0 at.1 k.1 (ap (λ t. cond t at.1 at.0) k.0) (inl (refl, refl))
    go (inr k) = both at.1 at.0 (second_is k.1 among) (ap (λ t. cond t at.1 at.0) k.0) (inr (refl, refl))

-- what holds of both blocks of a pair holds of the active one
pub of_active : (P : ℕ → Type 0) {disk : Disk} {history : List CallEvent} {pair : PairHeader} {held : RawContent} → IsTrueHeader disk history pair held → P (header_address pair).0 → P (header_address pair).1 → P pair.active
of_active P {disk} {pair = pair} is first second =
    subst P (sym is.active) (of_two P (is_second_active (disk_block disk (header_address pair).0) (disk_block disk (header_address pair).1)) (header_address pair) first second)

-- ---- results

-- what follows from what holds at an error, and of a value
pub on_err : {X : Type 0} (r : Result X Error) {P Q : Error → Type 0} → ((e : Error) → P e → Q e) → IfErr r P → IfErr r Q
on_err (Ok x) then holds = tt
on_err (Err e) then holds = then e holds

pub if_ok : {X : Type 0} (r : Result X Error) {P Q : X → Type 0} → ((x : X) → P x → Q x) → IfOk r P → IfOk r Q
if_ok (Ok x) then holds = then x holds
if_ok (Err e) then holds = tt
