-- The blocks that later blocks' pointers name, by the rows in which they are cached.
use Rattle.std.proofs.Common.{ℕ, zero, suc, ◌≡◌, ◌≢◌, ◌≤◌, ◌<◌, ◌+◌, ◌-◌, ◌^◌, ⊎_elim, replicate, slice_index, add-one, refl, sym, ap, subst, arith, List}
use Rattle.lfs_file.proofs.Common.{cases_lt, get_or-replicate, pow-suc, one-le-pow, pow_mono, mul-le, bit_at-trailing_zeros, w32, trailing_zeros, pointer_count, ArePointersKnown, OnlyBelowKnown, ArePointedKnown, IsKnownIndex, index_row, AreKnownBlocks}
use Rattle.std.specs.Int.Count.{trailing_of_zero}
use Rattle.lfs_file.specs.Known.{no_known_blocks}
use Rattle.lfs_file.specs.declared.known.IndexCache.{IndexCache}
use Rattle.lfs_file.proofs.Chains.{pointer_count-pos}
use Rattle.lfs_file.proofs.TrailingZeros.{factor-pos, multiple_of_power, zeros32-back, zeros32-between}

-- only a block after the first one has a pointer
pub pointed_some : (n k : ℕ) → k < pointer_count n → 0 < n
pointed_some zero k lt = absurd (omega arith)
pointed_some (suc n) k lt = omega arith

pow_less : (j k : ℕ) → j < k → 2 ^ j < 2 ^ k
pow_less j k less =
    let more : 2 ^ (j + 1) ≤ 2 ^ k = pow_mono (let le : j + 1 ≤ k = omega arith in le) in
    let power = one-le-pow j 2 (omega arith) in
    omega (arith, more, power, pow-suc 2 j, ap (λ e. 2 ^ e) (add-one j))

pub none_below : (count : ℕ) → OnlyBelowKnown count no_known_blocks
none_below count row lt small = (let none : slice_index (replicate 32 4294967295) row ≡ 4294967295 = get_or-replicate 32 row 4294967295 0 lt in absurd (omega (arith, none, small)))

-- where no block is known, those that are known are below any index, and any list's
pub none_below_more : (count : ℕ) (known : IndexCache) → OnlyBelowKnown 0 known → OnlyBelowKnown count known
none_below_more count known none row lt small = (let low = none row lt small in absurd (omega arith))

pub none_of_list : (all : List ℕ) (known : IndexCache) → OnlyBelowKnown 0 known → AreKnownBlocks all known
none_of_list all known none row lt small within = (let low = none row lt small in absurd (omega arith))

-- the row of a block to which a later one has a pointer is past all smaller numbers of zeros
high_row : (n k i z : ℕ) → n < 2 ^ 32 → k ≤ trailing_zeros w32 n → k ≤ 31 → z < k → n - 2 ^ k ≡ i → z < index_row i
high_row n k zero z low le few less is = omega (arith, trailing_of_zero 32)
high_row n k (suc i) z low le few less is =
    let many = zeros32-back n k low le (omega arith) in
    let same = ap (trailing_zeros w32) is in
    omega arith

-- a block between them is in another row
pub other_row : (n m k : ℕ) → n < 2 ^ 32 → m < n → k < pointer_count n → n - 2 ^ k < m → index_row (n - 2 ^ k) ≢ index_row m
other_row n m k low less lt more is =
    let many = pointer_count-pos n (omega arith) in
    let few = (bit_at-trailing_zeros w32 n (omega arith) low).0 in
    let fewer = zeros32-between n m k low (omega arith) less more in
    let high = high_row n k (n - 2 ^ k) (trailing_zeros w32 m) low (omega arith) (omega arith) fewer refl in
    omega arith

-- a block's pointer leads back by no more than its index
pub pointer_reach : (n k : ℕ) → n < 2 ^ 32 → k < pointer_count n → (1 ≤ 2 ^ k) × ((2 ^ k ≤ n) × (k ≤ 31))
pointer_reach n k low lt =
    let some : 0 < n = pointed_some n k lt in
    let many = pointer_count-pos n some in
    let few = (bit_at-trailing_zeros w32 n some low).0 in
    let whole = multiple_of_power n k some low (omega arith) in
    let factor = mul-le 1 (2 ^ k) whole.0 (2 ^ k) (factor-pos whole.0 (2 ^ k) n whole.1 some) (omega arith) in
    (one-le-pow k 2 (omega arith), (omega (arith, factor, whole.1), omega arith))

-- the blocks to which a block has pointers are in different rows
pub pointers_apart : (n j k : ℕ) → n < 2 ^ 32 → j < k → k < pointer_count n → index_row (n - 2 ^ j) ≢ index_row (n - 2 ^ k)
pointers_apart n j k low less lt is =
    let far = pointer_reach n k low lt in
    let near = pointer_reach n j low (omega arith) in
    let more : 2 ^ j < 2 ^ k = pow_less j k less in
    other_row n (n - 2 ^ j) k low (omega (arith, near.0, near.1.0)) lt (omega (arith, far.1.0, more)) (sym is)

-- the pointers of the next block are among those that are known
pub next_pointers : (n : ℕ) (known : IndexCache) → n < 2 ^ 32 → ArePointedKnown n known → ArePointersKnown n known
next_pointers n known low all k lt = (let far = pointer_reach n k low lt in all n k (omega arith) low lt (omega (arith, far.0, far.1.0)))

-- with one more block that is known
pub pointed_more : (count : ℕ) (known later : IndexCache) → IsKnownIndex later count → ((i : ℕ) → index_row i ≢ index_row count → IsKnownIndex known i → IsKnownIndex later i) → ArePointedKnown count known
    → ArePointedKnown (count + 1) later
pointed_more count known later here others all n k le low lt less =
    ⊎_elim
    (λ below. others (n - 2 ^ k) (other_row n count k low (omega arith) lt below) (all n k (omega arith) low lt below))
    (λ past. let is : n - 2 ^ k ≡ count = omega arith in subst (IsKnownIndex later) (sym is) here)
    (cases_lt (n - 2 ^ k) count)
