-- A power loss during each of a session's calls.
use Rattle.std.proofs.Common.{ℕ, ◌≡◌, true, false, cond, List, [], ◌++◌, Option, Some, None, Result, Ok, Err, is_none, refl, sym, ap, ap₂, subst, ◌∙◌}
use Rattle.std.specs.Prelude.{OnOk, OnErr, if◌then◌else◌}
use Rattle.lfs_fs.proofs.Common.{option_map, tree_creating, tree_with_change, is_directory, CallEvent, OnlyReadsSince, FlagsOfOpen, file_numbered, path_or_root, tree_after_storing, node_file_size, node_with_bytes, DirectoryNode, FileNode, Node, Path, OnlyReadsSince-trans, writer_contents_bytes, OnlyReadsTree, FailedByReading, IsRemountedTree, IsSoundState, TreeState, PowerLossesLeaveEither, visible_tree, RuntimeFiles, draft_or_stored_bytes, open_file_at, file_view, files_view, is_writer_with_draft, SessionView, IsReady, session_view, view_with_files, system_state, refusal_by_checks, SurvivesStoppedCalls}
use Rattle.lfs_device.specs.declared.error.Error.{Error}
use Rattle.lfs_model.specs.session.Operations as ops
use Rattle.lfs_tree.specs.OpenContents.{kept_thread}
use Rattle.lfs_fs.specs.declared.files.OpenFile.TheVariants as file
use Rattle.lfs_fs.specs.declared.files.UnsavedContents.{UnsavedContents}
use Rattle.lfs_fs.specs.declared.files.Writer.{Writer}
use Rattle.lfs_fs.proofs.Answered.{sound_by}
use Rattle.lfs_fs.proofs.OpenFiles.{file_is}
use Rattle.lfs_fs.proofs.OpenedWriters.{open_passed}
use Rattle.lfs_fs.proofs.SavedSteps.{unsaved_writer}
use Rattle.lfs_fs.proofs.Stopping.{KeepsTree, kept_by_reads, one_changed, then_changes}

-- ---- reads in turn

pub reads_on : (t mid new : TreeState) → OnlyReadsTree t mid → OnlyReadsSince mid.disk.blocks mid.history new.history → OnlyReadsSince t.disk.blocks t.history new.history
reads_on t mid new asked reads = OnlyReadsSince-trans asked.reads reads (ap (λ (z : TreeState). z.disk.blocks) asked.same)

pub reads_of_mount : {A : Type 0} (t new : TreeState) (r : Result A Error) → OnOk r (IsRemountedTree t new) → OnErr r (FailedByReading t new) → OnlyReadsSince t.disk.blocks t.history new.history
reads_of_mount t new (Ok x) mounted broken = mounted.mounted.reads
reads_of_mount t new (Err e) mounted broken = broken.reads

-- ---- contents of a writer

-- reads, and then blocks that the image doesn't use are written
pub beside_left : (t mid new : TreeState) (calls : List CallEvent) → IsSoundState t → t.writable ≡ true → OnlyReadsTree t mid → new.history ≡ calls ++ mid.history → (mid.writable ≡ true → PowerLossesLeaveEither mid new (visible_tree mid)) →
    PowerLossesLeaveEither t new (visible_tree t)
beside_left t mid new calls sound writable asked called survives =
    let k = kept_by_reads t mid sound writable asked in
    then_changes t mid calls new.history (visible_tree t) k called (subst (λ z. PowerLossesLeaveEither mid new z) k.tree (survives k.writable))

pub store_left : (t new : TreeState) (w : Writer) (u : UnsavedContents) (path : Path) → w.unsaved ≡ Some u → path ≡ w.path → PowerLossesLeaveEither t new (tree_with_change path (node_with_bytes (writer_contents_bytes (kept_thread t) u.contents)) (visible_tree t)) →
    PowerLossesLeaveEither t new (tree_with_change w.path (node_with_bytes (draft_or_stored_bytes t w.path w.unsaved)) (visible_tree t))
store_left t new w u path is same left =
    subst (λ z. PowerLossesLeaveEither t new (tree_with_change w.path (node_with_bytes (draft_or_stored_bytes t w.path z)) (visible_tree t))) (sym is)
    (subst (λ p. PowerLossesLeaveEither t new (tree_with_change p (node_with_bytes (writer_contents_bytes (kept_thread t) u.contents)) (visible_tree t))) same left)

-- what a sync or a close makes of the tree
pub saved_tree : (t : TreeState) (fs : RuntimeFiles) (fd : ℕ) (w : Writer) → is_writer_with_draft (open_file_at fs fd) ≡ true → Some (file.Writing w) ≡ open_file_at fs fd →
    tree_with_change w.path (node_with_bytes (draft_or_stored_bytes t w.path w.unsaved)) (visible_tree t) ≡ tree_after_storing (file_numbered (files_view t fs) fd) (visible_tree t)
saved_tree t fs fd w unsaved is =
    sym (ap (λ f. tree_after_storing f (visible_tree t)) (file_is t fs fd ∙ ap (option_map (file_view t)) (sym is))
    ∙ ap (λ b. cond b (tree_with_change w.path (node_with_bytes (draft_or_stored_bytes t w.path w.unsaved)) (visible_tree t)) (visible_tree t)) (unsaved_writer (open_file_at fs fd) w unsaved is))

-- ---- a file that is opened for writing, and made

no_node : (n : Option Node) → node_file_size n ≡ None → is_directory n ≡ false → n ≡ None
no_node None e d = refl
no_node (Some (FileNode attributes bytes)) e d = absurd (cc)
no_node (Some (DirectoryNode attributes names)) e d = absurd (cc)

pub opening_keeps : (t mid : TreeState) (fs : RuntimeFiles) (bytes : List ℕ) (flags : FlagsOfOpen) → (t.failed ≡ false → IsReady t fs) → OnlyReadsTree t mid → refusal_by_checks (session_view t fs) (ops.Open bytes flags) ≡ None → flags.write ≡ true → KeepsTree t mid
opening_keeps t mid fs bytes flags ready asked e write =
    let passed = open_passed (session_view t fs) bytes flags write e in
    kept_by_reads t mid (ready passed.works).sound passed.writable asked

pub created_left : (t mid new : TreeState) (fs : RuntimeFiles) (now : SessionView) (bytes : List ℕ) (flags : FlagsOfOpen) (p : Path) → session_view t fs ≡ now → (t.failed ≡ false → IsReady t fs) → KeepsTree t mid →
    refusal_by_checks (session_view t fs) (ops.Open bytes flags) ≡ None → flags.write ≡ true → p ≡ path_or_root bytes → node_file_size (visible_tree t p) ≡ None → (calls : List CallEvent) × (new.history ≡ calls ++ mid.history) →
    PowerLossesLeaveEither mid new (tree_creating p (FileNode [] []) (visible_tree mid)) → SurvivesStoppedCalls (system_state now) (ops.Open bytes flags) (system_state (view_with_files new []))
created_left t mid new fs now bytes flags p same ready keeps e write is sizes called left =
    let passed = open_passed (session_view t fs) bytes flags write e in
    let node : visible_tree t (path_or_root bytes) ≡ None = no_node (visible_tree t (path_or_root bytes)) (sym (ap (λ q. node_file_size (visible_tree t q)) is) ∙ sizes) passed.directory in
    one_changed (session_view t fs) now (ops.Open bytes flags) mid new (tree_creating p (FileNode [] []) (visible_tree mid)) same (sound_by t fs ready) e (λ works writable. keeps) called left
    (ap₂ (λ q z. tree_creating q (FileNode [] []) z) is keeps.tree ∙ sym (ap (λ o. if is_none o then tree_creating (path_or_root bytes) (FileNode [] []) (visible_tree t) else visible_tree t) node))

-- ---- one that is there, behind a recovery

file_node : (n : Option Node) (size : ℕ) → node_file_size n ≡ Some size → (m : Node) × (n ≡ Some m)
file_node None size e = absurd (cc)
file_node (Some m) size e = (m, refl)

pub opened_left : (t mid new : TreeState) (fs : RuntimeFiles) (now : SessionView) (bytes : List ℕ) (flags : FlagsOfOpen) (p : Path) (size : ℕ) → session_view t fs ≡ now → (t.failed ≡ false → IsReady t fs) → KeepsTree t mid →
    refusal_by_checks (session_view t fs) (ops.Open bytes flags) ≡ None → p ≡ path_or_root bytes → node_file_size (visible_tree t p) ≡ Some size → (calls : List CallEvent) × (new.history ≡ calls ++ mid.history) →
    PowerLossesLeaveEither mid new (visible_tree mid) → SurvivesStoppedCalls (system_state now) (ops.Open bytes flags) (system_state (view_with_files new []))
opened_left t mid new fs now bytes flags p size same ready keeps e is sizes called left =
    let node = file_node (visible_tree t (path_or_root bytes)) size (sym (ap (λ q. node_file_size (visible_tree t q)) is) ∙ sizes) in
    one_changed (session_view t fs) now (ops.Open bytes flags) mid new (visible_tree mid) same (sound_by t fs ready) e (λ works writable. keeps) called left
    (keeps.tree ∙ sym (ap (λ o. if is_none o then tree_creating (path_or_root bytes) (FileNode [] []) (visible_tree t) else visible_tree t) node.1))
