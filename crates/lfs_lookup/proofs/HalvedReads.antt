-- How often a search by halves reads, and what it leaves in the cache.
use Rattle.std.proofs.Common.{ℕ, zero, suc, ◌≡◌, ◌+◌, ◌-◌, ◌*◌, ◌/◌, ◌^◌, ◌<◌, ◌≤◌, List, [], ◌∷◌, ◌++◌, length, Result, Ok, refl, sym, ap, subst, ◌∙◌, arith, length-append}
use Rattle.std.specs.Prelude.{OnOk}
use Rattle.lfs_lookup.proofs.Common.{AllByRecursion, Pair, each_right, active_block_at, ThreadView, ArePairsCached, KeepsCachedPairs, BecomesMostRecent, EachPairHasSlot, halving_count}
use Rattle.std.proofs.Math.Nat.{mul-div-le, lt-div-mul-add, pow-succ'}
use Rattle.lfs_device.specs.declared.error.Error.{Error}
use Rattle.lfs_lookup.specs.Halves.{bounded_halving_count}
use Rattle.lfs_lookup.proofs.Halved.{IsAt}
use Rattle.lfs_lookup.proofs.RecentBlocks.{HasBrought, HasKept, Passes, kept_none, loads_to_here, on_ok}

-- ---- halves

-- twice the half is the number, or one less
halves_of : (n : ℕ) → (2 * (n / 2) ≤ n) × (n < 2 * (n / 2) + 2)
halves_of n = (mul-div-le n 2, (let k = lt-div-mul-add {a = n} {b = 2} (omega arith) in omega (arith, k)))

twice : (k : ℕ) → 2 ^ suc k ≡ 2 * 2 ^ k
twice k = pow-succ' 2 k

halved_power : (steps n : ℕ) → n ≤ steps → n < 2 ^ bounded_halving_count steps n
halved_power zero zero l = omega arith
halved_power zero (suc n) l = absurd (omega arith)
halved_power (suc steps) zero l = omega arith
halved_power (suc steps) (suc n) l =
    let h = halves_of (suc n) in
    let k = halved_power steps (suc n / 2) (omega (arith, h.0)) in
    let t = twice (bounded_halving_count steps (suc n / 2)) in
    let one : 1 + bounded_halving_count steps (suc n / 2) ≡ suc (bounded_halving_count steps (suc n / 2)) = omega arith in
    let p = ap (λ (e : ℕ). 2 ^ e) one in
    omega (arith, h.1, k, t, p)

pub power_of_halvings : (n : ℕ) → n < 2 ^ halving_count n
power_of_halvings n = halved_power n n (omega arith)

-- So many pairs are left, and they can be halved so often that the reads until then and these are no more than allowed.
pub record HasHalved (allowed before now size : ℕ) : Type 0 where
  pub left : ℕ
  pub fits : size < 2 ^ left
  pub spent : now + left ≤ before + allowed

pub halved_none : (before n : ℕ) → HasHalved (halving_count n) before before n
halved_none before n = record { left = halving_count n; fits = power_of_halvings n; spent = omega arith }

pub halved_on : (allowed before now later size half : ℕ) → HasHalved allowed before now size → 0 < size → half ≤ size / 2 → later ≤ now + 1 → HasHalved allowed before later half
halved_on allowed before now later size half h some small once = go h.left h.fits h.spent
  where
    go : (left : ℕ) → size < 2 ^ left → now + left ≤ before + allowed → HasHalved allowed before later half
    go zero fits spent = absurd (omega (arith, fits, some))
    go (suc left) fits spent =
        let t = twice left in
        let h = halves_of size in
        record { left = left; fits = omega (arith, t, fits, h.0, small); spent = omega (arith, spent, once) }

pub halved_to_here : (allowed before now later size : ℕ) → HasHalved allowed before now size → 0 < size → later ≤ now + 1 → later ≤ before + allowed
halved_to_here allowed before now later size h some once =
    let k = halved_on allowed before now later size 0 h some (omega arith) once in
    let s = k.spent in
    omega (arith, s)

pub halved_all : (allowed before now size : ℕ) → HasHalved allowed before now size → now ≤ before + allowed
halved_all allowed before now size h = let s = h.spent in omega (arith, s)

-- the pairs before the middle are half of them at most, and so are those behind it
pub lower_half : (low high middle : ℕ) → low < high → middle ≡ low + (high - low) / 2 → middle - low ≤ (high - low) / 2
lower_half low high middle l e = omega (arith, e)

pub upper_half : (low high middle : ℕ) → low < high → middle ≡ low + (high - low) / 2 → high - (middle + 1) ≤ (high - low) / 2
upper_half low high middle l e = let h = halves_of (high - low) in omega (arith, e, h.1)

pub middle_below : (low high : ℕ) → low < high → low + (high - low) / 2 < high
middle_below low high l = let h = halves_of (high - low) in omega (arith, h.0)

-- a pair of a directory whose pairs all have slots
pub has_slot : (run : List Pair) (first index : ℕ) (q : Pair) → IsAt run first index q → EachPairHasSlot run → 0 < length q.content.slots
has_slot run first index q a slots = (each_right (λ (p : Pair). 0 < length p.content.slots) a.before (q ∷ a.behind) (subst EachPairHasSlot a.parts slots)).0

-- ---- what is cached

-- A directory of one pair is still to be looked at, or its pair is loaded.
pub data IsLone (run : List Pair) (first low high : ℕ) (old now : ThreadView) : Type 0 where
  waits : low ≡ first → first < high → now.cache ≡ old.cache → IsLone run first low high old now
  done : high ≤ low → AllByRecursion (λ p. BecomesMostRecent (active_block_at old.kept.disk p.at) old.cache now.cache) run → IsLone run first low high old now

pub record HasLoaded (run : List Pair) (first low high : ℕ) (old now : ThreadView) : Type 0 where
  pub kept : HasKept run run old now
  pub lone : length run ≡ 1 → IsLone run first low high old now

pub loaded_nothing : (run : List Pair) (first high : ℕ) (old : ThreadView) → first < high → HasLoaded run first first high old old
loaded_nothing run first high old some = record { kept = kept_none run old; lone = λ e. waits refl some refl }

module _ {X : Type 0} (run : List Pair) (first low high index : ℕ) (q : Pair) (old now new : ThreadView) (r : Result X Error) (a : IsAt run first index q) (h : HasLoaded run first low high old now) (some : low < high)
    (b : KeepsCachedPairs (q ∷ []) now new r) where
  -- it is one of them, and where there is one alone it is still to be loaded
  brought_to : HasBrought run (q ∷ []) old now
  brought_to = record {
    kept = record {
      disk = h.kept.disk;
      none = h.kept.none;
      stay = h.kept.stay;
      left = λ there. ((each_right _ a.before (q ∷ a.behind) (subst (ArePairsCached old) a.parts there)).0, tt);
    };
    begun = λ e. (same (h.lone e), sym (alone e));
  }
    where
      same : IsLone run first low high old now → now.cache ≡ old.cache
      same (waits e f k) = k
      same (done l k) = absurd (omega arith)

      none_of : (xs : List Pair) → length xs ≡ 0 → xs ≡ []
      none_of [] e = refl
      none_of (x ∷ xs) e = absurd (omega arith)

      alone : length run ≡ 1 → run ≡ q ∷ []
      alone e =
          let n : length a.before + (length a.behind + 1) ≡ 1 = (let k = ap length a.parts in let l = length-append a.before (q ∷ a.behind) in omega (arith, k, l, e)) in
          let before = none_of a.before (omega arith) in
          let behind = none_of a.behind (omega arith) in
          a.parts ∙ ap (λ z. z ++ q ∷ a.behind) before ∙ ap (λ z. q ∷ z) behind

  -- the search ends here
  pub loads_here : {Y : Type 0} (s : Result Y Error) → Passes r s → KeepsCachedPairs run old new s
  loads_here s pass = loads_to_here run (q ∷ []) [] q old now new r brought_to refl b s pass

  -- or goes on
  pub loaded_on : (x : X) → r ≡ Ok x → new.kept.disk ≡ now.kept.disk → (below above : ℕ) → (length run ≡ 1 → above ≤ below) → HasLoaded run first below above old new
  loaded_on x is same below above met =
      let l = loads_here r (λ P p. p) in
      record {
        kept = record { disk = same ∙ h.kept.disk; none = l.none; stay = λ there. on_ok r x _ is (l.stay there); left = λ there. there };
        lone = λ e. done (met e) (on_ok r x _ is (l.one e));
      }

-- a pair is passed that isn't the first
pub loaded_past : (run : List Pair) (first low high : ℕ) (old now : ThreadView) → HasLoaded run first low high old now → low < high → first < low → HasLoaded run first (low + 1) high old now
loaded_past run first low high old now h some later = record { kept = h.kept; lone = λ e. go (h.lone e) }
  where
    go : IsLone run first low high old now → IsLone run first (low + 1) high old now
    go (waits e f k) = absurd (omega arith)
    go (done l k) = absurd (omega arith)

-- it ends where none is left
pub loads_all : {X : Type 0} (run : List Pair) (first low high : ℕ) (old now : ThreadView) (s : Result X Error) (x : X) → s ≡ Ok x → HasLoaded run first low high old now → high ≤ low → KeepsCachedPairs run old now s
loads_all {X = X} run first low high old now s x is h none = record {
  none = h.kept.none;
  stay = λ there. back _ (h.kept.stay there);
  one = λ e. back _ (go (h.lone e));
}
  where
    back : (P : Type 0) → P → OnOk s P
    back P p = subst (λ (z : Result X Error). OnOk z P) (sym is) p

    go : IsLone run first low high old now → AllByRecursion (λ p. BecomesMostRecent (active_block_at old.kept.disk p.at) old.cache now.cache) run
    go (waits e f k) = absurd (omega arith)
    go (done l k) = k
