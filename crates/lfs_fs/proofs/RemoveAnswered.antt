-- What a remove leaves of the open files.
use Rattle.std.proofs.Common.{inl, nat_lt, length, arith, ℕ, ◌≡◌, true, false, List, [], ◌∷◌, Some, None, Result, is_some, refl, sym, ap, subst}
use Rattle.std.specs.Prelude.{OnErr, OnOk}
use Rattle.lfs_fs.proofs.Common.{AllByRecursion, ltb-false, directory_names, is_file, file_bytes, last_name, parent_path, tree_removing, same_path, node_with_names, names_without, has_open_file, path_or_root, Path, Tree, TreeState, OnlyReadsTree, IsFailedTree, IsOperationApplied, tree_summary, visible_tree, RuntimeFiles, files_view, readers_among, writers_among, writers_paths, IsCurrentReader, IsReady, IsWriterReady, session_view, refusal_by_checks, vacates_path, OpenFilesStayReady, UnrelatedOperationKeepsFiles, KeepsWriterFiles, AffectsNoOpenFile}
use Rattle.lfs_device.specs.declared.error.Error.{Error}
use Rattle.lfs_model.specs.session.Operations as ops
use Rattle.lfs_fs.specs.declared.files.OpenFile.TheVariants as file
use Rattle.lfs_fs.specs.declared.files.Reader.{Reader}
use Rattle.lfs_fs.specs.declared.files.Writer.{Writer}
use Rattle.lfs_fs.proofs.OpenReaders.{contents_are_file}
use Rattle.lfs_fs.proofs.Answered.{done_left}
use Rattle.lfs_fs.proofs.FilesBeside.{beside, no_reader_at, not_some, or_false}
use Rattle.lfs_fs.proofs.RemoveChecks.{remove_bare, remove_not_open}
use Rattle.lfs_fs.proofs.Staying.{SameFile, changed_same, named}

-- ---- the writers' files

-- if no file is open at a path, no writer is
not_at : (t : TreeState) (files : RuntimeFiles) (p : Path) → has_open_file (same_path p) (files_view t files) ≡ false → AllByRecursion (λ w. same_path p w.path ≡ false) (writers_among files)
not_at t [] p e = tt
not_at t (None ∷ fs) p e = not_at t fs p e
not_at t (Some (file.Reading r) ∷ fs) p e = not_at t fs p (or_false _ _ e).1
not_at t (Some (file.Writing w) ∷ fs) p e = let k = or_false _ _ e in (not_some _ _ k.0, not_at t fs p k.1)

-- every other file stays
removed_same : (p q : Path) (t : Tree) → same_path p q ≡ false → SameFile (t q) (tree_removing p t q)
removed_same p q t other e = rw other (changed_same (node_with_names (names_without (last_name p))) (parent_path p) q t (named (names_without (last_name p))) e)

writers_stay : (t s : TreeState) (p : Path) (ws : List Writer) → visible_tree s ≡ tree_removing p (visible_tree t) → AllByRecursion (IsWriterReady t) ws → AllByRecursion (λ w. same_path p w.path ≡ false) ws → KeepsWriterFiles t s ws
writers_stay t s p [] e written apart = tt
writers_stay t s p (w ∷ ws) e written apart =
    (subst (λ (z : Tree). (is_file (z w.path) ≡ true) × (file_bytes (z w.path) ≡ file_bytes (visible_tree t w.path))) (sym e) (removed_same p w.path (visible_tree t) apart.0 written.0.there), writers_stay t s p ws e written.1 apart.1)

pub remove_keeps : (old t s : TreeState) (files : RuntimeFiles) (bytes : List ℕ) → refusal_by_checks (session_view old files) (ops.Remove bytes) ≡ None → IsReady t files → IsOperationApplied t (ops.Remove bytes) s → KeepsWriterFiles t s (writers_among files)
remove_keeps old t s files bytes e ready carried =
    writers_stay t s (path_or_root bytes) (writers_among files) (carried.shows (tree_summary t) []) ready.written (not_at old files (path_or_root bytes) (remove_not_open (session_view old files) bytes e))

-- the remove is about none of them
off : (t : TreeState) (bytes : List ℕ) → length (directory_names (visible_tree t (path_or_root bytes))) ≡ 0 → (ws : List Writer) → AllByRecursion (IsWriterReady t) ws → AllByRecursion (λ w. same_path (path_or_root bytes) w.path ≡ false) ws →
    AllByRecursion (λ w. vacates_path (ops.Remove bytes) w.path ≡ false) ws
off t bytes bare [] written apart = tt
off t bytes bare (w ∷ ws) written apart = (ap is_some (beside t (path_or_root bytes) w.path bare written.0.there apart.0), off t bytes bare ws written.1 apart.1)

-- nor about a file that is read
off_read : (t : TreeState) (bytes : List ℕ) (written : List Path) → length (directory_names (visible_tree t (path_or_root bytes))) ≡ 0 → (rs : List Reader) → AllByRecursion (IsCurrentReader t.pairs written) rs → AllByRecursion (λ r. same_path (path_or_root bytes) r.path ≡ false) rs →
    AllByRecursion (λ r. vacates_path (ops.Remove bytes) r.path ≡ false) rs
off_read t bytes written bare [] read apart = tt
off_read t bytes written bare (r ∷ rs) read apart =
    (ap is_some (beside t (path_or_root bytes) r.path bare (contents_are_file t.disk t.pairs r.path r.contents read.0.contents) apart.0), off_read t bytes written bare rs read.1 apart.1)

none_in : (n : ℕ) → nat_lt 0 n ≡ false → n ≡ 0
none_in n e = let k = ltb-false 0 n e in omega (arith, k)

remove_spares : (t : TreeState) (files : RuntimeFiles) (bytes : List ℕ) → refusal_by_checks (session_view t files) (ops.Remove bytes) ≡ None → IsReady t files → AffectsNoOpenFile t (ops.Remove bytes) files
remove_spares t files bytes e ready = record {
  apart = off t bytes (none_in _ (remove_bare (session_view t files) bytes e)) (writers_among files) ready.written (not_at t files (path_or_root bytes) (remove_not_open (session_view t files) bytes e));
  unread = off_read t bytes (writers_paths files) (none_in _ (remove_bare (session_view t files) bytes e)) (readers_among files) ready.read (no_reader_at t files (same_path (path_or_root bytes)) (remove_not_open (session_view t files) bytes e));
  room = inl refl;
}

-- ---- what it leaves once no check refuses it

pub removed_left : (K : Type 0) (old mid new : TreeState) (files : RuntimeFiles) (bytes : List ℕ) (r : Result (Unit {0}) Error) → UnrelatedOperationKeepsFiles → (old.failed ≡ false → IsReady old files) → OnlyReadsTree old mid → refusal_by_checks (session_view old files) (ops.Remove bytes) ≡ None →
    OnOk r K → (K → IsOperationApplied mid (ops.Remove bytes) new) → OnErr r (IsFailedTree mid new) → new.failed ≡ false → OpenFilesStayReady old new files
removed_left K old mid new files bytes r stay ready asked e = done_left K old mid new files (ops.Remove bytes) r stay ready asked e (remove_spares old files bytes e) (remove_keeps old mid new files bytes e)
