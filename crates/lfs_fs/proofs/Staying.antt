-- Files that stay as they are while another entry changes.
use Rattle.std.proofs.Common.{inl, inr, Result, is_some, ◌≡◌, Bool, true, false, cond, ℕ, List, [], Option, Some, None, refl, sym, ap, subst, ◌∙◌}
use Rattle.lfs_fs.proofs.Common.{option_map, tree_creating, node_attributes_of, file_bytes, tree_with_change, is_file, last_name, parent_path, same_path, names_with, node_with_names, attributes_with, attributes_without, path_or_root, Node, FileNode, DirectoryNode, Path, Tree, path_from_same, ltb-false, OnlyReadsTree, IsFailedTree, IsOperationApplied, TreeState, tree_summary, visible_tree, RuntimeFiles, readers_among, writers_among, IsReady, session_view, refusal_by_checks, CanMakeDirectory, OpenFilesStayReady, UnrelatedOperationKeepsFiles}
use Rattle.lfs_model.specs.session.TreeEdits.{with_attributes}
use Rattle.lfs_model.specs.session.Operations as ops
use Rattle.std.specs.Prelude.{OnErr, OnOk}
use Rattle.lfs_device.specs.declared.error.Error.{Error}
use Rattle.lfs_fs.proofs.Answered.{KeepsFiles, done_left, keeps_writers, none_concerned}
use Rattle.lfs_fs.proofs.OpenReaders.{none_read}
use Rattle.lfs_fs.proofs.Checked.{mkdir_space}
use Rattle.lfs_fs.proofs.SetAttrChecks.{set_attr_space}

-- a file's node is one with the same bytes
abbrev pub SameFile : Option Node → Option Node → Type 0
SameFile n m = is_file n ≡ true → (is_file m ≡ true) × (file_bytes m ≡ file_bytes n)

pub changed_same : (change : Node → Node) (p q : Path) (t : Tree) → ((n : Node) → SameFile (Some n) (Some (change n))) → SameFile (t q) (tree_with_change p change t q)
changed_same change p q t keeps = go (same_path p q) (t q)
  where
    go : (b : Bool) (n : Option Node) → SameFile n (cond b (option_map change n) n)
    go false n e = (e, refl)
    go true None e = absurd (cc)
    go true (Some n) e = keeps n e

pub named : (change : List _ → List _) (n : Node) → SameFile (Some n) (Some (node_with_names change n))
named change (FileNode attributes bytes) e = (refl, refl)
named change (DirectoryNode attributes names) e = absurd (cc)

attributed : (f : Node → _) (n : Node) → SameFile (Some n) (Some (with_attributes (f n) n))
attributed f (FileNode attributes bytes) e = (refl, refl)
attributed f (DirectoryNode attributes names) e = absurd (cc)

-- where something comes, there was nothing
pub added_same : (p q : Path) (node : Node) (t : Tree) → is_some (t p) ≡ false → SameFile (t q) (tree_creating p node t q)
added_same p q node t nothing e = go (same_path p q) refl
  where
    below : (is_file (tree_with_change (parent_path p) (node_with_names (names_with (last_name p))) t q) ≡ true) × (file_bytes (tree_with_change (parent_path p) (node_with_names (names_with (last_name p))) t q) ≡ file_bytes (t q))
    below = changed_same (node_with_names (names_with (last_name p))) (parent_path p) q t (named (names_with (last_name p))) e

    none : (n : Option Node) → is_some n ≡ false → is_file n ≡ true → ⊥
    none None a b = absurd (cc)
    none (Some n) a b = absurd (cc)

    go : (b : Bool) → same_path p q ≡ b → (is_file (tree_creating p node t q) ≡ true) × (file_bytes (tree_creating p node t q) ≡ file_bytes (t q))
    go false s = rw s below
    go true s = absurd (none (t p) nothing (ap (λ z. is_file (t z)) (path_from_same p q s) ∙ e))

mkdir_keeps : (t s : TreeState) (bytes : List ℕ) (path : Path) → path ≡ path_or_root bytes → is_some (visible_tree t path) ≡ false → IsOperationApplied t (ops.Mkdir bytes) s → KeepsFiles t s
mkdir_keeps t s bytes path is nothing carried q e =
    subst (λ (z : Tree). SameFile (visible_tree t q) (z q)) (sym (carried.shows (tree_summary t) []))
    (added_same (path_or_root bytes) q (DirectoryNode [] []) (visible_tree t) (ap (λ p. is_some (visible_tree t p)) (sym is) ∙ nothing)) e

remove_attr_keeps : (t s : TreeState) (bytes : List ℕ) (kind : ℕ) → IsOperationApplied t (ops.RemoveAttr bytes kind) s → KeepsFiles t s
remove_attr_keeps t s bytes kind carried q e =
    subst (λ (z : Tree). SameFile (visible_tree t q) (z q)) (sym (carried.shows (tree_summary t) []))
    (changed_same (λ n. with_attributes (attributes_without kind (node_attributes_of (Some n))) n) (path_or_root bytes) q (visible_tree t) (attributed (λ n. attributes_without kind (node_attributes_of (Some n))))) e

set_attr_keeps : (t s : TreeState) (bytes : List ℕ) (kind : ℕ) (value : List ℕ) → IsOperationApplied t (ops.SetAttr bytes kind value) s → KeepsFiles t s
set_attr_keeps t s bytes kind value carried q e =
    subst (λ (z : Tree). SameFile (visible_tree t q) (z q)) (sym (carried.shows (tree_summary t) []))
    (changed_same (λ n. with_attributes (attributes_with kind value (node_attributes_of (Some n))) n) (path_or_root bytes) q (visible_tree t) (attributed (λ n. attributes_with kind value (node_attributes_of (Some n))))) e

-- ---- what is left of the open files once no check refuses it

pub mkdir_left : (K : Type 0) (old mid new : TreeState) (files : RuntimeFiles) (bytes : List ℕ) (path : Path) (r : Result (Unit {0}) Error) → UnrelatedOperationKeepsFiles → (old.failed ≡ false → IsReady old files) → OnlyReadsTree old mid → refusal_by_checks (session_view old files) (ops.Mkdir bytes) ≡ None →
    path ≡ path_or_root bytes → CanMakeDirectory mid path → OnOk r K → (K → IsOperationApplied mid (ops.Mkdir bytes) new) → OnErr r (IsFailedTree mid new) → new.failed ≡ false → OpenFilesStayReady old new files
mkdir_left K old mid new files bytes path r stay ready asked e is can =
    done_left K old mid new files (ops.Mkdir bytes) r stay ready asked e
    (λ was. record { apart = none_concerned (ops.Mkdir bytes) (λ p. refl) (writers_among files); unread = none_read (ops.Mkdir bytes) (λ p. refl) (readers_among files); room = inr (ltb-false _ _ (mkdir_space (session_view old files) bytes e)) })
    (λ now k. keeps_writers mid new (writers_among files) (mkdir_keeps mid new bytes path is can.nothing k) now.written)

pub set_attr_left : (K : Type 0) (old mid new : TreeState) (files : RuntimeFiles) (bytes : List ℕ) (kind : ℕ) (value : List ℕ) (r : Result (Unit {0}) Error) → UnrelatedOperationKeepsFiles → (old.failed ≡ false → IsReady old files) → OnlyReadsTree old mid →
    refusal_by_checks (session_view old files) (ops.SetAttr bytes kind value) ≡ None → OnOk r K → (K → IsOperationApplied mid (ops.SetAttr bytes kind value) new) → OnErr r (IsFailedTree mid new) → new.failed ≡ false → OpenFilesStayReady old new files
set_attr_left K old mid new files bytes kind value r stay ready asked e =
    done_left K old mid new files (ops.SetAttr bytes kind value) r stay ready asked e
    (λ was. record { apart = none_concerned (ops.SetAttr bytes kind value) (λ p. refl) (writers_among files); unread = none_read (ops.SetAttr bytes kind value) (λ p. refl) (readers_among files); room = inr (ltb-false _ _ (set_attr_space (session_view old files) bytes kind value e)) })
    (λ now k. keeps_writers mid new (writers_among files) (set_attr_keeps mid new bytes kind value k) now.written)

pub remove_attr_left : (K : Type 0) (old mid new : TreeState) (files : RuntimeFiles) (bytes : List ℕ) (kind : ℕ) (r : Result (Unit {0}) Error) → UnrelatedOperationKeepsFiles → (old.failed ≡ false → IsReady old files) → OnlyReadsTree old mid →
    refusal_by_checks (session_view old files) (ops.RemoveAttr bytes kind) ≡ None → OnOk r K → (K → IsOperationApplied mid (ops.RemoveAttr bytes kind) new) → OnErr r (IsFailedTree mid new) → new.failed ≡ false → OpenFilesStayReady old new files
remove_attr_left K old mid new files bytes kind r stay ready asked e =
    done_left K old mid new files (ops.RemoveAttr bytes kind) r stay ready asked e
    (λ was. record { apart = none_concerned (ops.RemoveAttr bytes kind) (λ p. refl) (writers_among files); unread = none_read (ops.RemoveAttr bytes kind) (λ p. refl) (readers_among files); room = inl refl })
    (λ now k. keeps_writers mid new (writers_among files) (remove_attr_keeps mid new bytes kind k) now.written)
