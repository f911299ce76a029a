-- What a rename leaves of the open files.
use Rattle.std.proofs.Common.{ℕ, ◌≡◌, ◌&&◌, ◌||◌, ◌++◌, Bool, true, false, if◌then◌else◌, not, nat_lt, List, [], ◌∷◌, length, Some, None, Result, Ok, inr, is_some, refl, sym, ap, ap₂, subst, ◌∙◌, arith}
use Rattle.std.specs.Prelude.{OnErr, OnOk}
use Rattle.lfs_fs.proofs.Common.{AllByRecursion, ltb-false, file_bytes, tree_with_change, is_file, last_name, directory_names, parent_path, tree_renaming, without_prefix, same_path, names_with, node_with_names, names_without, has_open_file, path_or_root, Path, Tree, IsStep, TreeState, OnlyReadsTree, IsFailedTree, IsOperationApplied, tree_summary, visible_tree, RuntimeFiles, files_view, readers_among, writers_among, writers_paths, StepsOrFails, SessionView, IsCurrentReader, IsReady, IsWriterReady, session_view, view_with_files, system_state, refusal_by_checks, prevents_rename, vacates_path, OpenFilesStayReady, UnrelatedOperationKeepsFiles, KeepsWriterFiles, AffectsNoOpenFile}
use Rattle.lfs_device.specs.declared.error.Error.{Error}
use Rattle.lfs_model.specs.session.TreeEdits.{tree_with_subtree}
use Rattle.lfs_model.specs.session.Operations as ops
use Rattle.lfs_fs.specs.declared.files.OpenFile.TheVariants as file
use Rattle.lfs_fs.specs.declared.files.Reader.{Reader}
use Rattle.lfs_fs.specs.declared.files.Writer.{Writer}
use Rattle.lfs_fs.proofs.OpenReaders.{contents_are_file}
use Rattle.lfs_fs.proofs.Answered.{done_left, idle_answer, sound_by}
use Rattle.lfs_fs.proofs.FilesBeside.{beside, no_reader_at, none_there, not_some, or_false}
use Rattle.lfs_fs.proofs.RenameChecks.{rename_bare, rename_closed, rename_space}
use Rattle.lfs_fs.proofs.Staying.{SameFile, changed_same, named}

-- ---- every other file stays

kept_elsewhere : (p q x : Path) (t : Tree) → same_path p q ≡ false → without_prefix p x ≡ None → without_prefix q x ≡ None → SameFile (t x) (tree_renaming p q t x)
kept_elsewhere p q x t other off beside = rw (other, beside, off) both
  where
    first : Tree
    first = tree_with_change (parent_path p) (node_with_names (names_without (last_name p))) t

    both : SameFile (t x) (tree_with_change (parent_path q) (node_with_names (λ ns. names_with (last_name q) (names_without (last_name q) ns))) first x)
    both e =
        let a = changed_same (node_with_names (names_without (last_name p))) (parent_path p) x t (named (names_without (last_name p))) e in
        let b = changed_same (node_with_names (λ ns. names_with (last_name q) (names_without (last_name q) ns))) (parent_path q) x first (named (λ ns. names_with (last_name q) (names_without (last_name q) ns))) a.0 in
        (b.0, b.1 ∙ a.1)

-- where no file is open at such a path, no writer is
no_writer : (t : TreeState) (files : RuntimeFiles) (p : Path → Bool) → has_open_file p (files_view t files) ≡ false → AllByRecursion (λ w. p w.path ≡ false) (writers_among files)
no_writer t [] p e = tt
no_writer t (None ∷ fs) p e = no_writer t fs p e
no_writer t (Some (file.Reading r) ∷ fs) p e = no_writer t fs p (or_false _ _ e).1
no_writer t (Some (file.Writing w) ∷ fs) p e = let k = or_false _ _ e in (not_some _ _ k.0, no_writer t fs p k.1)

module _ (t s : TreeState) (p q : Path) (other : same_path p q ≡ false) (bare : length (directory_names (visible_tree t q)) ≡ 0) (shows : visible_tree s ≡ tree_renaming p q (visible_tree t)) where
  writers_stay : (ws : List Writer) → AllByRecursion (IsWriterReady t) ws → AllByRecursion (λ w. prevents_rename p q w.path ≡ false) ws → KeepsWriterFiles t s ws
  writers_stay [] written apart = tt
  writers_stay (w ∷ ws) written apart =
      let k = or_false _ _ apart.0 in
      let there = written.0.there in (
        subst (λ (z : Tree). (is_file (z w.path) ≡ true) × (file_bytes (z w.path) ≡ file_bytes (visible_tree t w.path))) (sym shows)
            (kept_elsewhere p q w.path (visible_tree t) other (none_there (without_prefix p w.path) k.0) (beside t q w.path bare there k.1) there),
        writers_stay ws written.1 apart.1,
      )

no_names : (same b : Bool) (n : ℕ) → same ≡ false → (not same && nat_lt 0 n) ≡ false → n ≡ 0
no_names true b n e f = absurd (cc)
no_names false b n e f = let k = ltb-false 0 n f in omega (arith, k)

pub rename_keeps : (old t s : TreeState) (files : RuntimeFiles) (a b : List ℕ) → OnlyReadsTree old t → refusal_by_checks (session_view old files) (ops.Rename a b) ≡ None → same_path (path_or_root a) (path_or_root b) ≡ false → IsReady t files → IsOperationApplied t (ops.Rename a b) s → KeepsWriterFiles t s (writers_among files)
rename_keeps old t s files a b asked e other ready carried =
    writers_stay t s (path_or_root a) (path_or_root b) other
    (no_names (same_path (path_or_root a) (path_or_root b)) true _ other (ap (λ (z : TreeState). not (same_path (path_or_root a) (path_or_root b)) && nat_lt 0 (length (directory_names (visible_tree z (path_or_root b))))) asked.same ∙ rename_bare (session_view old files) a b e))
    (carried.shows (tree_summary t) []) (writers_among files) ready.written (no_writer old files (prevents_rename (path_or_root a) (path_or_root b)) (rename_closed (session_view old files) a b e))

-- the rename is about none of them
off_both : (t : TreeState) (a b : List ℕ) → length (directory_names (visible_tree t (path_or_root b))) ≡ 0 → (ws : List Writer) → AllByRecursion (IsWriterReady t) ws → AllByRecursion (λ w. prevents_rename (path_or_root a) (path_or_root b) w.path ≡ false) ws →
    AllByRecursion (λ w. vacates_path (ops.Rename a b) w.path ≡ false) ws
off_both t a b bare [] written apart = tt
off_both t a b bare (w ∷ ws) written apart =
    let k = or_false _ _ apart.0 in
    (ap₂ (λ x y. x || y) k.0 (ap is_some (beside t (path_or_root b) w.path bare written.0.there k.1)), off_both t a b bare ws written.1 apart.1)

-- nor about a file that is read
off_read : (t : TreeState) (a b : List ℕ) (written : List Path) → length (directory_names (visible_tree t (path_or_root b))) ≡ 0 → (rs : List Reader) → AllByRecursion (IsCurrentReader t.pairs written) rs → AllByRecursion (λ r. prevents_rename (path_or_root a) (path_or_root b) r.path ≡ false) rs →
    AllByRecursion (λ r. vacates_path (ops.Rename a b) r.path ≡ false) rs
off_read t a b written bare [] read apart = tt
off_read t a b written bare (r ∷ rs) read apart =
    let k = or_false _ _ apart.0 in
    (ap₂ (λ x y. x || y) k.0 (ap is_some (beside t (path_or_root b) r.path bare (contents_are_file t.disk t.pairs r.path r.contents read.0.contents) k.1)), off_read t a b written bare rs read.1 apart.1)

rename_spares : (t : TreeState) (files : RuntimeFiles) (a b : List ℕ) → refusal_by_checks (session_view t files) (ops.Rename a b) ≡ None → same_path (path_or_root a) (path_or_root b) ≡ false → IsReady t files → AffectsNoOpenFile t (ops.Rename a b) files
rename_spares t files a b e other ready = record {
  apart = off_both t a b (no_names (same_path (path_or_root a) (path_or_root b)) true _ other (rename_bare (session_view t files) a b e)) (writers_among files) ready.written
      (no_writer t files (prevents_rename (path_or_root a) (path_or_root b)) (rename_closed (session_view t files) a b e));
  unread = off_read t a b (writers_paths files) (no_names (same_path (path_or_root a) (path_or_root b)) true _ other (rename_bare (session_view t files) a b e)) (readers_among files) ready.read
      (no_reader_at t files (prevents_rename (path_or_root a) (path_or_root b)) (rename_closed (session_view t files) a b e));
  room = inr (ltb-false _ _ (rename_space (session_view t files) a b e));
}

-- ---- what it leaves once no check refuses it

pub renamed_left : (K : Type 0) (old mid new : TreeState) (files : RuntimeFiles) (a b : List ℕ) (r : Result (Unit {0}) Error) → UnrelatedOperationKeepsFiles → (old.failed ≡ false → IsReady old files) → OnlyReadsTree old mid → refusal_by_checks (session_view old files) (ops.Rename a b) ≡ None →
    same_path (path_or_root a) (path_or_root b) ≡ false → OnOk r K → (K → IsOperationApplied mid (ops.Rename a b) new) → OnErr r (IsFailedTree mid new) → new.failed ≡ false → OpenFilesStayReady old new files
renamed_left K old mid new files a b r stay ready asked e other =
    done_left K old mid new files (ops.Rename a b) r stay ready asked e (rename_spares old files a b e other) (rename_keeps old mid new files a b asked e other)

-- ---- a path to itself

pub same_answers : (t mid : TreeState) (files : RuntimeFiles) (now : SessionView) (a b : List ℕ) → session_view t files ≡ now → (t.failed ≡ false → IsReady t files) → OnlyReadsTree t mid → refusal_by_checks (session_view t files) (ops.Rename a b) ≡ None → same_path (path_or_root a) (path_or_root b) ≡ true →
    StepsOrFails now (ops.Rename a b) (Ok ops.Done) (session_view mid files)
same_answers t mid files now a b same ready asked e itself =
    subst (λ z. IsStep (system_state z) (ops.Rename a b) ops.Done (system_state (session_view mid files))) same
    (subst (λ fs. IsStep (system_state (session_view t files)) (ops.Rename a b) ops.Done (system_state (view_with_files mid fs))) (sym (ap (λ z. files_view z files) asked.same))
    (idle_answer (session_view t files) (ops.Rename a b) mid (files_view t files) (sound_by t files ready) asked e refl
    (ap (λ c. record {
      tree = (if c then visible_tree t else tree_with_subtree (path_or_root b) (λ rest. visible_tree t (path_or_root a ++ rest)) (tree_with_subtree (path_or_root a) (λ rest. None)
          (tree_with_change (parent_path (path_or_root b)) (node_with_names (λ ns. names_with (last_name (path_or_root b)) (names_without (last_name (path_or_root b)) ns))) (tree_with_change (parent_path (path_or_root a)) (node_with_names (names_without (last_name (path_or_root a)))) (visible_tree t)))));
      files = files_view t files;
    }) itself)
    (ap not itself) (ap not itself) (λ k. absurd (cc))))
