-- Checks of operations on the entry at a path.
use Rattle.std.proofs.Common.{ℕ, ◌≡◌, Bool, true, false, not, cond, List, [], ◌∷◌, Option, Some, None, Result, Ok, length, ◌==◌, unwrap_or, is_none, is_some, refl, sym, ap, subst, ◌∙◌, arith}
use Rattle.lfs_fs.proofs.Common.{option_map, onto_first, slice_split, list_all, lt-ltb, is_component, slash_byte, node_attributes_of, attribute_bytes, Refusal, parse_path, first_refusal, refuse_if, path_or_root, path_unusable, is_root_path, Path, IsFoundNode, is_absent, is_file_node, TreeState, visible_tree, OnlyReadsTree, entry_path, result_unless_refused, SessionView, refusal_by_checks, IsChecksResult}
use Rattle.lfs_device.specs.declared.error.Error.{Error}
use Rattle.lfs_model.specs.session.Effects.{listed_entries_at}
use Rattle.lfs_model.specs.session.Operations as ops
use Rattle.lfs_tree.specs.Permissions.{CanRemoveAttr}
use Rattle.lfs_lookup.specs.declared.found_entries.FoundNode.{FoundNode}
use Rattle.lfs_fs.proofs.Answered.{not_failed, not_refused}
use Rattle.lfs_fs.proofs.EntryPaths.{is_entry, root_false}
use Rattle.lfs_fs.proofs.Late.{get_late, list_late, remove_attr_late}
use Rattle.lfs_fs.proofs.Checked.{both, when, decided, negated, neither, unrefused}

-- ---- paths of entries

parts_root : (p : ℕ → Bool) (xs : List ℕ) → is_root_path (slice_split p xs) ≡ false
parts_root p [] = refl
parts_root p (x ∷ xs) = go (p x) (slice_split p xs)
  where
    go : (b : Bool) (parts : List (List ℕ)) → is_root_path (cond b ([] ∷ parts) (onto_first x parts)) ≡ false
    go true parts = refl
    go false [] = refl
    go false (q ∷ qs) = refl

pub other_entry : (bytes : List ℕ) → (length bytes ≡ 1 → ⊥) → parse_path bytes ≡ entry_path bytes
other_entry [] h = refl
other_entry (b ∷ []) h = absurd (h refl)
other_entry (b ∷ c ∷ bytes) h = path_is ∙ go (b == slash_byte) (list_all is_component parts) parts (parts_root (λ x. x == slash_byte) (c ∷ bytes)) ∙ sym (ap (λ o. cond (path_unusable o) None o) path_is)
  where
    parts : Path
    parts = slice_split (λ x. x == slash_byte) (c ∷ bytes)

    made : Bool → Bool → Path → Option Path
    made s l q = cond (not s) None (cond l (Some q) None)

    path_is : parse_path (b ∷ c ∷ bytes) ≡ made (b == slash_byte) (list_all is_component parts) parts
    path_is = ap (λ z. cond (not (b == slash_byte)) None (cond z (cond (list_all is_component parts) (Some parts) None) (Some []))) (lt-ltb 0 (length (c ∷ bytes)) (omega arith))

    go : (s l : Bool) (q : Path) → is_root_path q ≡ false → made s l q ≡ cond (path_unusable (made s l q)) None (made s l q)
    go false l q r = refl
    go true false q r = refl
    go true true q r = sym (ap (λ b. cond b None (Some q)) r)

-- ---- a list

list_refused : (h : SessionView) (bytes : List ℕ) (p : Path) (found : FoundNode) → h.tree.failed ≡ false → parse_path bytes ≡ Some p → IsFoundNode (visible_tree h.tree) p found →
    refusal_by_checks h (ops.ListAll bytes) ≡ first_refusal (found.fault ∷ refuse_if (is_absent found.node) ops.NoEnt ∷ refuse_if (is_file_node found.node) ops.NotDir ∷ [])
list_refused h bytes p found works is f = rw (works, is, f.parents, f.nothing, f.files) refl

pub list_checked : {A : Type 0} (items : A → List ops.ListedEntry) (h : SessionView) (bytes : List ℕ) (p : Path) (found : FoundNode) (tree : TreeState) (absent file : Bool) (a b : Option Refusal) (x : A) (r : Result A Error) →
    false ≡ h.tree.failed → Some p ≡ parse_path bytes → OnlyReadsTree h.tree tree → IsFoundNode (visible_tree h.tree) p found → items x ≡ listed_entries_at (visible_tree h.tree) p →
    absent ≡ is_absent found.node → a ≡ refuse_if absent ops.NoEnt → file ≡ is_file_node found.node → b ≡ refuse_if file ops.NotDir →
    r ≡ result_unless_refused (first_refusal (found.fault ∷ a ∷ b ∷ [])) x →
    IsChecksResult h (ops.ListAll bytes) (λ z. listed_entries_at (visible_tree h.tree) (path_or_root bytes) ≡ items z) r tree
list_checked items h bytes p found tree absent file a b x r works is asked f are absent_is a_is file_is b_is r_is =
    decided h (ops.ListAll bytes) (λ z. listed_entries_at (visible_tree h.tree) (path_or_root bytes) ≡ items z) x _ tree r asked (list_late h bytes p works is)
    (list_refused h bytes p found (sym works) (sym is) f ∙ ap first_refusal (sym lists))
    (λ none. ap (λ z. listed_entries_at (visible_tree h.tree) (unwrap_or z [])) (sym is) ∙ sym are) r_is
  where
    lists : (found.fault ∷ a ∷ b ∷ []) ≡ (found.fault ∷ refuse_if (is_absent found.node) ops.NoEnt ∷ refuse_if (is_file_node found.node) ops.NotDir ∷ [])
    lists = both refl (both (when ops.NoEnt a_is absent_is) (both (when ops.NotDir b_is file_is) refl))

-- ---- attributes

missing : {A : Type 0} (f : A → List ℕ) (x : Option A) (y : Option (List ℕ)) (b : Bool) → option_map f x ≡ y → b ≡ is_none x → b ≡ is_none y
missing f None y b e is = is ∙ ap is_none e
missing f (Some x) y b e is = is ∙ ap is_none e

get_refused : (h : SessionView) (bytes : List ℕ) (kind : ℕ) (p : Path) (found : FoundNode) → h.tree.failed ≡ false → parse_path bytes ≡ Some p → is_root_path p ≡ false → IsFoundNode (visible_tree h.tree) p found →
    refusal_by_checks h (ops.GetAttr bytes kind) ≡ first_refusal (found.fault ∷ refuse_if (is_absent found.node) ops.NoEnt ∷ refuse_if (is_none (attribute_bytes kind (node_attributes_of (visible_tree h.tree p)))) ops.NoAttr ∷ [])
get_refused h bytes kind p found works is entry f = rw (works, is, entry, f.parents, f.nothing) refl

pub got : {A : Type 0} (f : A → List ℕ) (o : Option A) (y : Option (List ℕ)) (none got : A) → option_map f o ≡ y → f none ≡ [] → got ≡ unwrap_or o none → unwrap_or y [] ≡ f got
got f None y none x e empty is = ap (λ z. unwrap_or z []) (sym e) ∙ sym empty ∙ ap f (sym is)
got f (Some v) y none x e empty is = ap (λ z. unwrap_or z []) (sym e) ∙ ap f (sym is)

pub get_checked : {A : Type 0} (items : A → List ℕ) (h : SessionView) (bytes : List ℕ) (kind : ℕ) (p : Path) (found : FoundNode) (tree : TreeState) (attribute : Option A) (absent none : Bool) (a b : Option Refusal) (x : A) (r : Result A Error) →
    false ≡ h.tree.failed → Some p ≡ entry_path bytes → OnlyReadsTree h.tree tree → IsFoundNode (visible_tree h.tree) p found →
    option_map items attribute ≡ attribute_bytes kind (node_attributes_of (visible_tree h.tree p)) → unwrap_or (attribute_bytes kind (node_attributes_of (visible_tree h.tree p))) [] ≡ items x →
    absent ≡ is_absent found.node → a ≡ refuse_if absent ops.NoEnt → none ≡ is_none attribute → b ≡ refuse_if none ops.NoAttr →
    r ≡ result_unless_refused (first_refusal (found.fault ∷ a ∷ b ∷ [])) x → IsChecksResult h (ops.GetAttr bytes kind) (λ v. unwrap_or (attribute_bytes kind (node_attributes_of (visible_tree h.tree (path_or_root bytes)))) [] ≡ items v) r tree
get_checked items h bytes kind p found tree attribute absent none a b x r works is asked f attr given absent_is a_is none_is b_is r_is =
    decided h (ops.GetAttr bytes kind) (λ v. unwrap_or (attribute_bytes kind (node_attributes_of (visible_tree h.tree (path_or_root bytes)))) [] ≡ items v) x _ tree r asked (get_late h bytes kind p works is)
    (get_refused h bytes kind p found (sym works) (is_entry bytes p is).0 (root_false bytes p is) f ∙ ap first_refusal (sym lists))
    (λ n. ap (λ q. unwrap_or (attribute_bytes kind (node_attributes_of (visible_tree h.tree (unwrap_or q [])))) []) (is_entry bytes p is).0 ∙ given) r_is
  where
    lists : (found.fault ∷ a ∷ b ∷ []) ≡ (found.fault ∷ refuse_if (is_absent found.node) ops.NoEnt ∷ refuse_if (is_none (attribute_bytes kind (node_attributes_of (visible_tree h.tree p)))) ops.NoAttr ∷ [])
    lists = both refl (both (when ops.NoEnt a_is absent_is) (both (when ops.NoAttr b_is (missing items attribute _ none attr none_is)) refl))

remove_attr_refused : (h : SessionView) (bytes : List ℕ) (kind : ℕ) (p : Path) (found : FoundNode) → h.tree.failed ≡ false → h.tree.writable ≡ true → parse_path bytes ≡ Some p → is_root_path p ≡ false → IsFoundNode (visible_tree h.tree) p found →
    refusal_by_checks h (ops.RemoveAttr bytes kind) ≡ first_refusal (found.fault ∷ refuse_if (is_absent found.node) ops.NoEnt ∷ refuse_if (is_none (attribute_bytes kind (node_attributes_of (visible_tree h.tree p)))) ops.NoAttr ∷ [])
remove_attr_refused h bytes kind p found works writable is entry f = rw (works, writable, is, entry, f.parents, f.nothing) refl

pub remove_attr_checked : {A : Type 0} (items : A → List ℕ) (h : SessionView) (bytes : List ℕ) (kind : ℕ) (p : Path) (found : FoundNode) (tree : TreeState) (attribute : Option A) (absent none : Bool) (a b : Option Refusal) (r : Result Path Error) →
    false ≡ h.tree.failed → true ≡ h.tree.writable → Some p ≡ entry_path bytes → OnlyReadsTree h.tree tree → IsFoundNode (visible_tree h.tree) p found →
    option_map items attribute ≡ attribute_bytes kind (node_attributes_of (visible_tree h.tree p)) →
    absent ≡ is_absent found.node → a ≡ refuse_if absent ops.NoEnt → none ≡ is_none attribute → b ≡ refuse_if none ops.NoAttr →
    r ≡ result_unless_refused (first_refusal (found.fault ∷ a ∷ b ∷ [])) p → IsChecksResult h (ops.RemoveAttr bytes kind) (λ path. path ≡ path_or_root bytes) r tree
remove_attr_checked items h bytes kind p found tree attribute absent none a b r works writable is asked f attr absent_is a_is none_is b_is r_is =
    decided h (ops.RemoveAttr bytes kind) (λ path. path ≡ path_or_root bytes) p _ tree r asked (remove_attr_late h bytes kind p works writable is)
    (remove_attr_refused h bytes kind p found (sym works) (sym writable) (is_entry bytes p is).0 (root_false bytes p is) f ∙ ap first_refusal (sym lists))
    (λ n. ap (λ z. unwrap_or z []) (sym (is_entry bytes p is).0)) r_is
  where
    lists : (found.fault ∷ a ∷ b ∷ []) ≡ (found.fault ∷ refuse_if (is_absent found.node) ops.NoEnt ∷ refuse_if (is_none (attribute_bytes kind (node_attributes_of (visible_tree h.tree p)))) ops.NoAttr ∷ [])
    lists = both refl (both (when ops.NoEnt a_is absent_is) (both (when ops.NoAttr b_is (missing items attribute _ none attr none_is)) refl))

pub good_root : (o : Option Path) → path_unusable o ≡ false → is_root_path (unwrap_or o []) ≡ false
good_root None e = absurd (cc)
good_root (Some p) e = e

pub remove_attr_can : (h : SessionView) (bytes : List ℕ) (kind : ℕ) (path : Path) (tree : TreeState) → IsChecksResult h (ops.RemoveAttr bytes kind) (λ p. p ≡ path_or_root bytes) (Ok path) tree → CanRemoveAttr tree path kind
remove_attr_can h bytes kind path tree c =
    let e = c.1 in
    let a = neither _ _ (not_refused h (ops.RemoveAttr bytes kind) e) in
    let b = neither _ _ a.1 in
    let d = neither _ _ b.1 in
    let i = neither _ _ d.1 in
    let j = neither _ _ i.1 in
    subst (λ t. CanRemoveAttr t path kind) (sym c.0.same) (subst (λ z. CanRemoveAttr (record h.tree { history = tree.history; cache = tree.cache }) z kind) (sym c.2) (record {
      works = not_failed h (ops.RemoveAttr bytes kind) e;
      writable = negated h.tree.writable (unrefused _ _ a.0);
      entry = good_root (parse_path bytes) (unrefused _ _ b.0);
      parents = d.0;
      something = unrefused _ _ i.0;
      there = unrefused _ _ j.0;
    }))

pub some_path : (bytes : List ℕ) (p : Path) → Some p ≡ entry_path bytes → is_some (parse_path bytes) ≡ true
some_path bytes p e = ap is_some (is_entry bytes p e).0

-- ---- no entry's path

pub none_from_some : {A : Type 0} (o : Option A) (b : Bool) → is_some o ≡ not b → b ≡ is_none o
none_from_some None true e = refl
none_from_some None false e = absurd (cc)
none_from_some (Some x) true e = absurd (cc)
none_from_some (Some x) false e = refl
