-- Files that an operation isn't about keep their structs.
use Rattle.std.proofs.Common.{ℕ, ◌≡◌, Bool, true, false, ◌||◌, List, [], Option, Some, None, refl, sym, ap, ◌∙◌}
use Rattle.std.specs.Prelude.{is_some}
use Rattle.lfs_model.proofs.Common.{option_map, Disk, Slot, Struct, Inline, Ctz, Branch, Attributes, Pair, Path, Node, Tree, struct_directory_address, struct_node, disk_list_bytes, all_entries, disk_tree, same_path, without_prefix, is_file, tree_creating, tree_removing, tree_renaming, tree_with_change, Operation, Session, Writing, FileWriter, file_numbered, path_or_root, node_with_bytes, slot_of_path, is_open_at, may_store_at, struct_at, KeepsOtherStructs}
use Rattle.lfs_model.specs.session.Operations as ops
use Rattle.lfs_model.specs.layers.Keeping.{vacates_path}
use Rattle.lfs_model.proofs.Paths.{Paths, path_alike, path_unlike, paths}
use Rattle.lfs_model.proofs.Trees.{not_before}
use Rattle.lfs_model.proofs.Laws.{PathAddresses}
use Rattle.lfs_model.proofs.LeftFiles.{KeepsFileBytes, KeepsStruct, added_leaves, removed_leaves, renamed_leaves, change_leaves}
use Rattle.lfs_model.proofs.Changes.{IsChangedImage}

-- what the change makes of a tree leaves the bytes of the files that the operation isn't about
abbrev pub LeavesFiles : Tree → Session → Operation → (Tree → Tree) → Type 0
LeavesFiles t s op change = (q : Path) → is_file (t q) ≡ true → vacates_path op q ≡ false → may_store_at s op q ≡ false → KeepsFileBytes change q

-- where a tree shows a file there is a file's slot
pub struct_stays : (disk : Disk) (ps qs : List Pair) (q : Path) → is_file (disk_tree disk ps q) ≡ true → KeepsStruct (slot_of_path ps q) (slot_of_path qs q) → struct_at qs q ≡ struct_at ps q
struct_stays disk ps qs q file stays = go (slot_of_path ps q) refl file
  where
    none : (attributes : Attributes) (t : Struct) → is_file (Some (struct_node (disk_list_bytes disk) (all_entries ps) attributes t)) ≡ true → struct_directory_address t ≡ None
    none attributes (Inline bytes) e = refl
    none attributes (Ctz head size) e = refl
    none attributes (Branch to) e = absurd (cc)

    go : (o : Option Slot) → slot_of_path ps q ≡ o → is_file (option_map (λ (u : Slot). struct_node (disk_list_bytes disk) (all_entries ps) u.attributes u.struct) o) ≡ true → struct_at qs q ≡ struct_at ps q
    go None e h = absurd (cc)
    go (Some u) e h =
        let k = stays u e (none u.attributes u.struct h) in
        ap (option_map (λ (z : Slot). z.struct)) k.1.0 ∙ ap Some k.1.1 ∙ sym (ap (option_map (λ (z : Slot). z.struct)) e)

pub structs_left : (disk : Disk) (ps : List Pair) (new : Disk) (qs : List Pair) (change : Tree → Tree) (walk : PathAddresses → PathAddresses) (s : Session) (op : Operation) →
    IsChangedImage disk ps new qs change walk → LeavesFiles (disk_tree disk ps) s op change → KeepsOtherStructs disk ps s op qs
structs_left disk ps new qs change walk s op follows leaves q file off elsewhere = struct_stays disk ps qs q file (follows.stays q (leaves q file off elsewhere))

-- ---- the operations

none_left : {A : Type 0} (o : Option A) → is_some o ≡ false → o ≡ None
none_left None e = refl
none_left (Some x) e = absurd (cc)

neither : (a b : Bool) → (a || b) ≡ false → (a ≡ false) × (b ≡ false)
neither true b e = absurd (cc)
neither false b e = (refl, e)

-- an entry comes where none was
pub creation_leaves : (t : Tree) (s : Session) (op : Operation) (p : Path) (node : Node) → t p ≡ None → LeavesFiles t s op (tree_creating p node)
creation_leaves t s op p node absent q file off elsewhere = go (paths p q)
  where
    go : Paths p q → KeepsFileBytes (tree_creating p node) q
    go (path_alike e f) = absurd (let k = sym (ap (λ z. is_file (t z)) (sym e) ∙ ap is_file absent) ∙ file in cc)
    go (path_unlike n f) = added_leaves p node q f

pub removal_leaves : (t : Tree) (s : Session) (path : List ℕ) (p : Path) → path_or_root path ≡ p → LeavesFiles t s (ops.Remove path) (tree_removing p)
removal_leaves t s path p is q file off elsewhere = removed_leaves p q (not_before p q (none_left (without_prefix p q) (ap (λ z. is_some (without_prefix z q)) (sym is) ∙ off)))

pub renaming_leaves : (t : Tree) (s : Session) (old_bytes new_bytes : List ℕ) (old new : Path) → path_or_root old_bytes ≡ old → path_or_root new_bytes ≡ new →
    LeavesFiles t s (ops.Rename old_bytes new_bytes) (tree_renaming old new)
renaming_leaves t s old_bytes new_bytes old new old_is new_is q file off elsewhere =
    let both = neither (is_some (without_prefix (path_or_root old_bytes) q)) (is_some (without_prefix (path_or_root new_bytes) q)) off in
    renamed_leaves old new q (none_left (without_prefix old q) (ap (λ z. is_some (without_prefix z q)) (sym old_is) ∙ both.0))
    (none_left (without_prefix new q) (ap (λ z. is_some (without_prefix z q)) (sym new_is) ∙ both.1))

-- a writer's contents come into its own slot
pub storing_leaves : (s : Session) (fd : ℕ) (writer : FileWriter) (p : Path) (bytes : List ℕ) → file_numbered s.files fd ≡ Some (Writing writer) → writer.path ≡ p →
    (q : Path) → is_open_at (file_numbered s.files fd) q ≡ false → KeepsFileBytes (tree_with_change p (node_with_bytes bytes)) q
storing_leaves s fd writer p bytes opened is q elsewhere =
    change_leaves p (node_with_bytes bytes) q (ap (λ z. same_path z q) (sym is) ∙ ap (λ o. is_open_at o q) (sym opened) ∙ elsewhere)

-- with no open file nothing is stored
pub none_stored : (t : Tree) (op : Operation) (q : Path) → may_store_at (record { tree = t; files = [] }) op q ≡ false
none_stored t (ops.Open path flags) q = refl
none_stored t (ops.Read fd count) q = refl
none_stored t (ops.Write fd bytes) q = refl
none_stored t (ops.Seek fd position) q = refl
none_stored t (ops.Truncate fd size) q = refl
none_stored t (ops.Sync fd) q = refl
none_stored t (ops.Close fd) q = refl
none_stored t (ops.Mkdir path) q = refl
none_stored t (ops.Remove path) q = refl
none_stored t (ops.Rename old new) q = refl
none_stored t (ops.ListAll path) q = refl
none_stored t (ops.Stat path) q = refl
none_stored t (ops.GetAttr path kind) q = refl
none_stored t (ops.SetAttr path kind bytes) q = refl
none_stored t (ops.RemoveAttr path kind) q = refl
none_stored t ops.AskGstate q = refl
none_stored t (ops.IsUsed block) q = refl
none_stored t ops.UsedCount q = refl
none_stored t ops.Recover q = refl
none_stored t ops.Remount q = refl
