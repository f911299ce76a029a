-- The two paths of a rename.
use Rattle.std.specs.Prelude.{ℕ, ◌≡◌, ◌==◌, ◌&&◌, ◌||◌, Bool, true, false, List, [], ◌∷◌, IfSome, IsSome, Some, is_some}
use Rattle.lfs_device.specs.declared.error.Error.{Error}
use Rattle.lfs_model.specs.session.TreeEdits.{is_beneath, without_prefix, same_path}
use Rattle.lfs_model.specs.format.Names.{slash_byte}
use Rattle.lfs_model.specs.session.Operations.{Operation}
use Rattle.lfs_model.specs.session.Refusals.{path_or_root}
use Rattle.lfs_model.specs.format.Slots.{zero_gstate}
use Rattle.lfs_model.specs.format.Thread.{pairs_gstate}
use Rattle.lfs_model.specs.tree.Tree.{Path}
use Rattle.lfs_lookup.specs.RefusalErrors.{is_refusal, error_refusal}
use Rattle.lfs_tree.specs.RenameLookup.{AreRenameResults}
use Rattle.lfs_tree.specs.TreeState.{TreeState, kept_thread}
use Rattle.lfs_fs.specs.EntryPaths.{entry_path}
use Rattle.lfs_fs.specs.FileView.{RuntimeFiles}
use Rattle.lfs_fs.specs.SessionView.{refusal_by_checks, session_view}
use Rattle.lfs_fs.specs.declared.rename_checks.RenamePaths.{RenamePaths}
use Rattle.lfs_fs.specs.declared.rename_checks.PermittedRename.{PermittedRename}

-- the second bytes begin with the first, and end there or continue with a slash
abbrev pub is_path_prefix : List ℕ → List ℕ → Bool
is_path_prefix [] [] = true
is_path_prefix [] (b ∷ ys) = b == slash_byte
is_path_prefix (a ∷ xs) [] = false
is_path_prefix (a ∷ xs) (b ∷ ys) = (a == b) && is_path_prefix xs ys

-- an open file at path `p` prevents a rename of `from` to `to`
abbrev pub prevents_rename : Path → Path → Path → Bool
prevents_rename from to p = is_some (without_prefix from p) || same_path to p

-- A rename that passes the checks without a look-up: the tree hasn't failed and may be written, no path is the root's, and the
-- new one isn't beneath the old one.
pub record PassesRenameWithoutLookup (t : TreeState) (old new : List ℕ) (paths : RenamePaths) : Type 0 where
  pub given : (paths.old.now ≡ old) × (paths.new.now ≡ new)
  pub works : t.failed ≡ false
  pub writable : t.writable ≡ true
  pub from : entry_path old ≡ Some paths.from
  pub to : entry_path new ≡ Some paths.to
  pub apart : is_beneath (path_or_root old) (path_or_root new) ≡ false
  pub same : paths.is_same ≡ same_path (path_or_root old) (path_or_root new)

-- the error is the operation's refusal, whatever files are open
abbrev pub IsFileIndependentRefusal : TreeState → Operation → Error → Type 0
IsFileIndependentRefusal t op e = (files : RuntimeFiles) → (is_refusal e ≡ true) × (refusal_by_checks (session_view t files) op ≡ Some (error_refusal e))

-- the paths of these bytes, whether they are the same, and the results of their look-ups if nothing is to recover
pub record IsPermittedRename (t : TreeState) (old new : List ℕ) (r : PermittedRename) : Type 0 where
  pub from : r.from ≡ path_or_root old
  pub to : r.to ≡ path_or_root new
  pub same : r.is_same ≡ same_path (path_or_root old) (path_or_root new)
  pub targets : IfSome r.targets (AreRenameResults (kept_thread t) r.from r.to)
  pub handed_on : pairs_gstate t.pairs ≡ zero_gstate → IsSome r.targets
