-- How many reads a look-up makes, by its device calls.
use Rattle.std.proofs.Common.{ℕ, ◌≡◌, ◌≤◌, ◌+◌, List, [], ◌∷◌, ◌++◌, Option, Some, unwrap_or, ap, arith}
use Rattle.std.specs.Prelude.{sum_by}
use Rattle.lfs_fs.proofs.Common.{ReadsEachPairOnce, directory_pair_count, CallEvent, read_count, Operation, parse_path, path_or_root, Path, TreeState, ReadsSearchedPairsOnce}

-- a bound by the path of bytes
pub few_given : (old new : TreeState) (f : Path → List Path) (bytes : List ℕ) (p : Path) → Some p ≡ parse_path bytes → read_count new.history ≤ read_count old.history + sum_by (directory_pair_count old.pairs) (f p)
    → read_count new.history ≤ read_count old.history + sum_by (directory_pair_count old.pairs) (f (path_or_root bytes))
few_given old new f bytes p is few =
    let e = ap (λ (o : Option Path). sum_by (directory_pair_count old.pairs) (f (unwrap_or o []))) is in
    omega (arith, e, few)

pub reads_over : (calls older : List CallEvent) → read_count (calls ++ older) ≡ read_count calls + read_count older
reads_over [] older = omega arith
reads_over (e ∷ calls) older = let k = reads_over calls older in omega (arith, k)

-- by the calls that came
pub reads_few : (old new : TreeState) (op : Operation) → ReadsSearchedPairsOnce old op new → (calls : List CallEvent) → new.history ≡ calls ++ old.history → ReadsEachPairOnce old.pairs op calls
reads_few old new op few calls is looks =
    let e = ap read_count is in
    let k = reads_over calls old.history in
    omega (arith, e, k, few)
