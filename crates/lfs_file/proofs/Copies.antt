-- Bytes that are read and then appended.
use Rattle.std.proofs.Common.{ℕ, ◌≡◌, ◌+◌, ◌-◌, ◌≤◌, ◌⊎◌, inl, inr, List, ◌++◌, length, take, drop, Result, Err, sym, ap, ◌∙◌, subst, arith, append_assoc}
use Rattle.std.specs.Prelude.{All, slice_range}
use Rattle.lfs_file.proofs.Common.{enumerate_from, take-append-drop, drop-drop, length-take, drop_all, append-nil, Blocks, BlockStates, IsSkipList, blocks_to_head, skip_list_block_count, list_bytes, block_data, GrowingList, growing_size_with, GrowsInFree, IsTakenNotPending, KeepsTakenBytes, IsListOrEmpty, blocks_of_list, ChangesOnlyFree}
use Rattle.std.specs.List.{flat_map}
use Rattle.lfs_device.specs.declared.error.Error.{Error}
use Rattle.lfs_device.specs.declared.geometry.Geometry.{Geometry}
use Rattle.lfs_file.proofs.Bases.{bytes_stay, list_stays}
use Rattle.lfs_file.proofs.Growth.{GrowsInFree-trans}

-- growth, reads, and more growth
pub grown_on : (a b c : BlockStates) (d e m f : Blocks) (g h i : GrowingList) → m ≡ e → ChangesOnlyFree a b → GrowsInFree a d g b e h → GrowsInFree b m h c f i → GrowsInFree a d g c f i
grown_on a b c d e m f g h i same keeps first second = GrowsInFree-trans a b c d e f g h i keeps first (subst (λ x. GrowsInFree b x h c f i) same second)

-- what is read of a list is what it has there
pub copied : (front chunk base : List ℕ) (pos n : ℕ) → chunk ≡ slice_range base pos (pos + n) → (front ++ chunk) ++ drop (pos + n) base ≡ front ++ drop pos base
copied front chunk base pos n is =
    append_assoc front chunk (drop (pos + n) base)
    ∙ ap (λ (l : List ℕ). front ++ (l ++ drop (pos + n) base)) (is ∙ ap (λ k. take k (drop pos base)) (let k : pos + n - pos ≡ n = omega arith in k))
    ∙ ap (λ (l : List ℕ). front ++ (take n (drop pos base) ++ l)) (sym (drop-drop n pos base))
    ∙ ap (λ (l : List ℕ). front ++ l) (take-append-drop n (drop pos base))

-- a base that has bytes is a list
pub base_list : (d : Blocks) (block_size head size : ℕ) → 1 ≤ size → IsListOrEmpty d block_size head size → IsSkipList d block_size head size
base_list d block_size head size some (inl none) = absurd (omega arith)
base_list d block_size head size some (inr list) = list

few_bytes : (size : ℕ) (xs : List ℕ) → length (take size xs) ≤ size
few_bytes size xs = omega (arith, length-take size xs)

-- behind its end a base has no bytes
pub none_behind : (d : Blocks) (block_size head size end : ℕ) (content : List ℕ) → size ≤ end → content ++ drop end (list_bytes d block_size head size) ≡ content
none_behind d block_size head size end content le =
    ap (λ (l : List ℕ). content ++ l) (drop_all end (list_bytes d block_size head size) (let few = few_bytes size (flat_map (block_data d) (enumerate_from 0 (blocks_to_head d (skip_list_block_count block_size size) head))) in omega arith)) ∙ append-nil content

-- the base is a list still, with the same bytes, also by another name of the geometry
pub listed : (map : BlockStates) (pending : List ℕ) (d e : Blocks) (geometry now : Geometry) (head size : ℕ) → now ≡ geometry → KeepsTakenBytes map pending d e → All (IsTakenNotPending map pending) (blocks_of_list d geometry.block_size head size)
    → 1 ≤ size → IsListOrEmpty d geometry.block_size head size → IsSkipList e now.block_size head size
listed map pending d e geometry now head size same spared apart some base =
    subst (λ (k : Geometry). IsSkipList e k.block_size head size) (sym same) (list_stays map pending d e geometry.block_size head size spared apart (base_list d geometry.block_size head size some base))

pub read_bytes : (map : BlockStates) (pending : List ℕ) (d e : Blocks) (geometry now : Geometry) (head size from to : ℕ) (taken : List ℕ) → now ≡ geometry → KeepsTakenBytes map pending d e
    → All (IsTakenNotPending map pending) (blocks_of_list d geometry.block_size head size) → taken ≡ slice_range (list_bytes e now.block_size head size) from to → taken ≡ slice_range (list_bytes d geometry.block_size head size) from to
read_bytes map pending d e geometry now head size from to taken same spared apart is =
    is ∙ ap (λ (k : Geometry). slice_range (list_bytes e k.block_size head size) from to) same ∙ ap (λ (l : List ℕ). slice_range l from to) (bytes_stay map pending d e geometry.block_size head size spared apart)

pub sized : (geometry now : Geometry) (g : GrowingList) → now ≡ geometry → growing_size_with now.block_size g ≡ growing_size_with geometry.block_size g
sized geometry now g same = ap (λ (k : Geometry). growing_size_with k.block_size g) same

pub counted : (geometry now : Geometry) (g : GrowingList) (n : ℕ) → now ≡ geometry → n ≡ skip_list_block_count now.block_size (growing_size_with now.block_size g) → n ≡ skip_list_block_count geometry.block_size (growing_size_with geometry.block_size g)
counted geometry now g n same is = is ∙ ap (λ (k : Geometry). skip_list_block_count k.block_size (growing_size_with k.block_size g)) same

-- a list's blocks are all there
pub not_corrupt : {T : Type 0} (x : Error) → (x ≡ Error.Io) ⊎ (x ≡ Error.Corrupt) → (◌≡◌ {A = Result T Error} (Err x) (Err Error.Corrupt) → ⊥) → (x ≡ Error.Io) ⊎ (x ≡ Error.NoMemory)
not_corrupt x (inl is) other = inl is
not_corrupt x (inr is) other = absurd (other (ap Err is))
