-- Writers, just opened.
use Rattle.std.proofs.Common.{ℕ, ◌≡◌, ◌+◌, ◌*◌, ◌≤◌, Bool, true, false, cond, List, [], ◌∷◌, length, nat_lt, ◌&&◌, Option, Some, None, refl, sym, ap, ap₂, subst, ◌∙◌, arith}
use Rattle.lfs_fs.proofs.Common.{le-leb, lt-ltb, file_bytes, is_file, block_count, inline_limit, skip_list_block_count, FlagsOfOpen, zero_gstate, pairs_gstate, opened_writer, node_file_size, Node, FileNode, DirectoryNode, Path, AreTreeContents, InlineWithinLimit, writer_contents_bytes, IsOperationApplied, TreeState, tree_summary, visible_tree, contents_form, IsWriterForm, CanOpenWriter, IsOpenedWriter, draft_block_reserve, path_itself, tree_creating, tree_with_change, last_name, parent_path, names_with, node_with_names, path_or_root, Tree, CanCreateFile}
use Rattle.lfs_model.specs.session.Session as session
use Rattle.lfs_tree.specs.OpenContents.{kept_thread}
use Rattle.lfs_file.specs.Form as shape_of
use Rattle.lfs_file.specs.declared.contents.WriterContents.{WriterContents}
use Rattle.lfs_fs.specs.declared.files.Writer.{Writer}
use Rattle.lfs_model.specs.session.Operations as ops
use Rattle.std.specs.Prelude.{is_none, is_some, if◌then◌else◌}

file_there : (n : Option Node) (size : ℕ) → node_file_size n ≡ Some size → (is_file n ≡ true) × (length (file_bytes n) ≡ size)
file_there None size e = absurd (cc)
file_there (Some (FileNode attributes bytes)) size e = (refl, ap or_else e)
  where
    or_else : Option ℕ → ℕ
    or_else None = 0
    or_else (Some z) = z
file_there (Some (DirectoryNode attributes names)) size e = absurd (cc)

pub is_file_there : (t : TreeState) (path : Path) (size : ℕ) (truncates : Bool) → CanOpenWriter t path size truncates → is_file (visible_tree t path) ≡ true
is_file_there t path size truncates can = (file_there (visible_tree t path) size can.there).0

-- The path has a file, nothing is to recover, and two blocks are free if the file is to be truncated.
pub record IsAtRest (t : TreeState) (path : Path) (size : ℕ) (truncates : Bool) : Type 0 where
  pub writable : t.writable ≡ true
  pub settled : pairs_gstate t.pairs ≡ zero_gstate
  pub there : node_file_size (visible_tree t path) ≡ Some size
  pub room : truncates ≡ true → 1 ≤ size → length (tree_summary t).used + 2 ≤ block_count t.disk

-- the same after a recovery, which allocates no block
pub at_rest : (t new : TreeState) (path : Path) (size : ℕ) (truncates : Bool) → CanOpenWriter t path size truncates → IsOperationApplied t ops.Recover new → length (tree_summary new).used ≤ length (tree_summary t).used + 0 → IsAtRest new path size truncates
at_rest t new path size truncates can carried few = record {
  writable = carried.writable;
  settled = carried.recovered.gstate;
  there = ap (λ (z : Tree). node_file_size (z path)) (carried.shows (tree_summary t) []) ∙ can.there;
  room = λ e some. let k = can.room e some in let g = carried.geometry.count in omega (arith, k, few, g);
}

no_elements : (xs : List ℕ) → nat_lt 0 (length xs) ≡ false → xs ≡ []
no_elements [] e = refl
no_elements (x ∷ xs) e = absurd (let k = sym (lt-ltb 0 (length (x ∷ xs)) (omega arith)) ∙ e in cc)

-- one with the bytes of the file
pub begun_clean : (t : TreeState) (path : Path) (size : ℕ) (flags : FlagsOfOpen) → IsAtRest t path size flags.truncate → (flags.truncate && nat_lt 0 size) ≡ false →
    IsOpenedWriter t (opened_writer path flags (file_bytes (visible_tree t path))) (record { path = path; position = 0; size = size; appends = flags.append; unsaved = None })
begun_clean t path size flags can none = record {
  seen = seen flags.truncate none;
  written = record { writable = can.writable; settled = can.settled; there = file.0; size = file.1; changed = tt };
}
  where
    file : (is_file (visible_tree t path) ≡ true) × (length (file_bytes (visible_tree t path)) ≡ size)
    file = file_there (visible_tree t path) size can.there

    made : List ℕ → Bool → session.FileWriter
    made xs dirty = record { path = path; contents = xs; position = 0; append = flags.append; dirty = dirty; turned = false; last_end = None }

    seen : (b : Bool) → (b && nat_lt 0 size) ≡ false → made (file_bytes (visible_tree t path)) false ≡ made (cond b [] (file_bytes (visible_tree t path))) (b && nat_lt 0 (length (file_bytes (visible_tree t path))))
    seen false e = refl
    seen true e =
        let few = ap (nat_lt 0) file.1 ∙ e in
        ap₂ made (no_elements (file_bytes (visible_tree t path)) few) (sym few)

-- a writer that truncates a file with bytes
pub begun_anew : (t : TreeState) (path : Path) (size : ℕ) (flags : FlagsOfOpen) (c : WriterContents) → IsAtRest t path size flags.truncate → flags.truncate ≡ true → 1 ≤ size → AreTreeContents t path c → writer_contents_bytes (kept_thread t) c ≡ [] → contents_form c ≡ shape_of.InMemory 0 →
    IsOpenedWriter t (opened_writer path flags (file_bytes (visible_tree t path))) (record { path = path; position = 0; size = 0; appends = flags.append; unsaved = Some (record { contents = c; has_turned = false; last_end = None }) })
begun_anew t path size flags c can truncates some over none shape = record {
  seen = seen;
  written = record {
    writable = can.writable;
    settled = can.settled;
    there = file.0;
    size = ap (λ xs. length xs) none;
    changed = record {
      over = over;
      kept = subst (λ f. IsWriterForm t.disk.profile t.disk.block_size f (made (writer_contents_bytes (kept_thread t) c) true)) (sym shape) kept;
      form = subst (InlineWithinLimit (inline_limit t.disk.profile t.disk.block_size)) (sym shape) (omega arith);
      room = subst (λ n. length (tree_summary t).used + n ≤ block_count t.disk) (sym two) (can.room truncates some);
    };
  };
}
  where
    file : (is_file (visible_tree t path) ≡ true) × (length (file_bytes (visible_tree t path)) ≡ size)
    file = file_there (visible_tree t path) size can.there

    made : List ℕ → Bool → session.FileWriter
    made xs dirty = record { path = path; contents = xs; position = 0; append = flags.append; dirty = dirty; turned = false; last_end = None }

    small : 0 ≤ inline_limit t.disk.profile t.disk.block_size
    small = omega arith

    kept : IsWriterForm t.disk.profile t.disk.block_size (shape_of.InMemory 0) (made (writer_contents_bytes (kept_thread t) c) true)
    kept = record { size = sym (ap (λ xs. length xs) none); fits = small }

    two : draft_block_reserve t.disk.profile t.disk.block_size false 0 ≡ 2
    two = ap (λ z. 2 + 1 * cond z 0 (skip_list_block_count t.disk.block_size 0)) (le-leb 0 (inline_limit t.disk.profile t.disk.block_size) (omega arith))

    seen : made (writer_contents_bytes (kept_thread t) c) true ≡ made (cond flags.truncate [] (file_bytes (visible_tree t path))) (flags.truncate && nat_lt 0 (length (file_bytes (visible_tree t path))))
    seen =
        ap (λ xs. made xs true) none
        ∙ ap (λ b. made [] b) (sym (lt-ltb 0 (length (file_bytes (visible_tree t path))) (omega (arith, file.1, some))))
        ∙ sym (ap (λ z. made (cond z [] (file_bytes (visible_tree t path))) (z && nat_lt 0 (length (file_bytes (visible_tree t path))))) truncates)

-- ---- once the image is recovered

pub begun_as_is : (t new : TreeState) (path : Path) (size : ℕ) (flags : FlagsOfOpen) (appends : Bool) → CanOpenWriter t path size flags.truncate → IsOperationApplied t ops.Recover new → length (tree_summary new).used ≤ length (tree_summary t).used + 0 →
    (flags.truncate && nat_lt 0 size) ≡ false → appends ≡ flags.append →
    IsOpenedWriter new (opened_writer path flags (file_bytes (visible_tree t path))) (record { path = path; position = 0; size = size; appends = appends; unsaved = None })
begun_as_is t new path size flags appends can carried few none are =
    subst (λ (z : Tree). IsOpenedWriter new (opened_writer path flags (file_bytes (z path))) (record { path = path; position = 0; size = size; appends = appends; unsaved = None })) (carried.shows (tree_summary t) [])
    (subst (λ b. IsOpenedWriter new (opened_writer path flags (file_bytes (visible_tree new path))) (record { path = path; position = 0; size = size; appends = b; unsaved = None })) (sym are)
    (begun_clean new path size flags (at_rest t new path size flags.truncate can carried few) none))

pub begun_empty : (t new : TreeState) (path : Path) (size : ℕ) (flags : FlagsOfOpen) (appends : Bool) (c : WriterContents) → CanOpenWriter t path size flags.truncate → IsOperationApplied t ops.Recover new → length (tree_summary new).used ≤ length (tree_summary t).used + 0 →
    flags.truncate ≡ true → 1 ≤ size → appends ≡ flags.append → AreTreeContents new path c → writer_contents_bytes (kept_thread new) c ≡ writer_contents_bytes (kept_thread t) c → writer_contents_bytes (kept_thread t) c ≡ [] → contents_form c ≡ shape_of.InMemory 0 →
    IsOpenedWriter new (opened_writer path flags (file_bytes (visible_tree t path))) (record { path = path; position = 0; size = 0; appends = appends; unsaved = Some (record { contents = c; has_turned = false; last_end = None }) })
begun_empty t new path size flags appends c can carried few truncates some are over same none shape =
    subst (λ (z : Tree). IsOpenedWriter new (opened_writer path flags (file_bytes (z path))) (begun appends)) (carried.shows (tree_summary t) [])
    (subst (λ b. IsOpenedWriter new (opened_writer path flags (file_bytes (visible_tree new path))) (begun b)) (sym are)
    (begun_anew new path size flags c (at_rest t new path size flags.truncate can carried few) truncates some over (same ∙ none) shape))
  where
    begun : Bool → Writer
    begun b = record { path = path; position = 0; size = 0; appends = b; unsaved = Some (record { contents = c; has_turned = false; last_end = None }) }

-- a file that is made is empty
made_node : (t new : TreeState) (bytes : List ℕ) (flags : FlagsOfOpen) (path : Path) → path_or_root bytes ≡ path → CanCreateFile t path → IsOperationApplied t (ops.Open bytes flags) new → visible_tree new path ≡ Some (FileNode [] [])
made_node t new bytes flags path is can carried =
    ap (λ (z : Tree). z path) (carried.shows (tree_summary t) [] ∙ ap (λ p. if is_none (visible_tree t p) then tree_creating p (FileNode [] []) (visible_tree t) else visible_tree t) is)
    ∙ ap (λ b. (if b then tree_creating path (FileNode [] []) (visible_tree t) else visible_tree t) path) (nothing (visible_tree t path) can.nothing)
    ∙ ap (λ b. if b then Some (FileNode [] []) else tree_with_change (parent_path path) (node_with_names (names_with (last_name path))) (visible_tree t) path) (path_itself path)
  where
    nothing : (n : Option Node) → is_some n ≡ false → is_none n ≡ true
    nothing None e = refl
    nothing (Some n) e = absurd (cc)

none_dirty : (b : Bool) → false ≡ (b && nat_lt 0 0)
none_dirty true = refl
none_dirty false = refl

no_bytes : (b : Bool) (xs : List ℕ) → xs ≡ [] → xs ≡ (if b then [] else [])
no_bytes true xs e = e
no_bytes false xs e = e

pub begun_made : (t new : TreeState) (bytes : List ℕ) (given : FlagsOfOpen) (path : Path) (flags : FlagsOfOpen) (appends : Bool) → path_or_root bytes ≡ path → CanCreateFile t path → IsOperationApplied t (ops.Open bytes given) new → appends ≡ flags.append →
    IsOpenedWriter new (opened_writer path flags []) (record { path = path; position = 0; size = 0; appends = appends; unsaved = None })
begun_made t new bytes given path flags appends is can carried appends_is = record {
  seen = ap₂ (λ xs b. made xs b false) (ap file_bytes node) appends_is ∙ ap₂ (λ xs d. made xs flags.append d) (no_bytes flags.truncate [] refl) (none_dirty flags.truncate);
  written = record {
    writable = carried.writable;
    settled = carried.recovered.gstate;
    there = ap is_file node;
    size = ap (λ n. length (file_bytes n)) node;
    changed = tt;
  };
}
  where
    node : visible_tree new path ≡ Some (FileNode [] [])
    node = made_node t new bytes given path is can carried

    made : List ℕ → Bool → Bool → session.FileWriter
    made xs append dirty = record { path = path; contents = xs; position = 0; append = append; dirty = dirty; turned = false; last_end = None }
