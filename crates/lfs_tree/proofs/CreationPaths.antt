-- The look-up of the path of a file that may be created.
use Rattle.std.proofs.Common.{◌≡◌, ◌∙◌, Option, Some, None, Result, Ok, Err, sym, ap, subst}
use Rattle.std.specs.Prelude.{IfOk, IfSome}
use Rattle.lfs_device.specs.declared.error.Error.{Error}
use Rattle.lfs_tree.proofs.Common.{zero_gstate, pairs_gstate, Path, KeptThread, ThreadView, OnlyReadsThread, IsCreationResult, TreeState, kept_thread}
use Rattle.lfs_lookup.specs.declared.paths.PathLookup.{PathLookup}
use Rattle.lfs_tree.specs.declared.creation_paths.CreationLookup.{CreationLookup}
use Rattle.lfs_tree.proofs.RenamePaths.{leads_since}

-- the result of the look-up, after reads
target_since : (a b : KeptThread) (path : Path) (o : Option PathLookup) → OnlyReadsThread a b → IfSome o (IsCreationResult a path) → IfSome o (IsCreationResult b path)
target_since a b path None only k = tt
target_since a b path (Some found) only k = record { settled = ap pairs_gstate only.pairs ∙ k.settled; leads = leads_since a b path found only k.leads }

pub creation_since : (a b : KeptThread) (path : Path) (r : Result CreationLookup Error) → OnlyReadsThread a b → IfOk r (λ found. IfSome found.target (IsCreationResult a path)) → IfOk r (λ found. IfSome found.target (IsCreationResult b path))
creation_since a b path (Err e) only k = tt
creation_since a b path (Ok x) only k = target_since a b path x.target only k

-- a recovery before it did nothing
pub creation_known_behind : (old mid : TreeState) (t : ThreadView) (path : Path) (o : Option PathLookup) → (pairs_gstate old.pairs ≡ zero_gstate → mid ≡ old) → t.kept ≡ kept_thread mid → IfSome o (IsCreationResult (kept_thread old) path) → IfSome o (IsCreationResult t.kept path)
creation_known_behind old mid t path None idle is k = tt
creation_known_behind old mid t path (Some x) idle is k = subst (λ z. IsCreationResult z path x) (sym (is ∙ ap kept_thread (idle k.settled))) k
