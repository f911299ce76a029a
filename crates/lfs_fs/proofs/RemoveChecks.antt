-- Checks of a remove.
use Rattle.std.proofs.Common.{ℕ, ◌≡◌, Bool, true, false, List, [], ◌∷◌, length, nat_lt, Option, Some, None, Result, Ok, unwrap_or, is_none, refl, sym, ap, subst, ◌∙◌, not}
use Rattle.lfs_device.specs.declared.error.Error.{Error}
use Rattle.lfs_fs.proofs.Common.{directory_names, same_path, Refusal, parse_path, first_refusal, has_open_file, refuse_if, parents_refusal, path_or_root, is_root_path, path_unusable, Path, IsFoundNode, has_entry_beneath, is_absent, TreeState, visible_tree, OnlyReadsTree, entry_path, SessionView, refusal_by_checks, IsChecksResult, result_unless_refused}
use Rattle.lfs_model.specs.session.Operations as ops
use Rattle.lfs_tree.specs.Permissions.{CanRemoveEntry}
use Rattle.lfs_lookup.specs.declared.found_entries.FoundNode.{FoundNode}
use Rattle.lfs_fs.proofs.Answered.{not_failed, not_refused}
use Rattle.lfs_fs.proofs.Late.{remove_late}
use Rattle.lfs_fs.proofs.Checked.{both, decided, negated, neither, unrefused, when}
use Rattle.lfs_fs.proofs.EntryChecks.{good_root}
use Rattle.lfs_fs.proofs.EntryPaths.{is_entry, root_false}

remove_refused : (h : SessionView) (bytes : List ℕ) (p : Path) (found : FoundNode) → h.tree.failed ≡ false → h.tree.writable ≡ true → parse_path bytes ≡ Some p → is_root_path p ≡ false → IsFoundNode (visible_tree h.tree) p found →
    refusal_by_checks h (ops.Remove bytes) ≡ first_refusal (found.fault ∷ refuse_if (is_absent found.node) ops.NoEnt ∷ refuse_if (has_entry_beneath (visible_tree h.tree) p) ops.NotEmpty ∷ refuse_if (has_open_file (same_path p) h.files) ops.Busy ∷ [])
remove_refused h bytes p found works writable is entry f = rw (works, writable, is, entry, f.parents, f.nothing) refl

pub remove_checked : (h : SessionView) (bytes : List ℕ) (p : Path) (found : FoundNode) (tree : TreeState) (absent filled busy : Bool) (a b d : Option Refusal) (r : Result Path Error) →
    false ≡ h.tree.failed → true ≡ h.tree.writable → Some p ≡ entry_path bytes → OnlyReadsTree h.tree tree → IsFoundNode (visible_tree h.tree) p found →
    absent ≡ is_absent found.node → a ≡ refuse_if absent ops.NoEnt → filled ≡ has_entry_beneath (visible_tree h.tree) p → b ≡ refuse_if filled ops.NotEmpty → busy ≡ has_open_file (same_path (path_or_root bytes)) h.files → d ≡ refuse_if busy ops.Busy →
    r ≡ result_unless_refused (first_refusal (found.fault ∷ a ∷ b ∷ d ∷ [])) p → IsChecksResult h (ops.Remove bytes) (λ path. path ≡ path_or_root bytes) r tree
remove_checked h bytes p found tree absent filled busy a b d r works writable is asked f absent_is a_is filled_is b_is busy_is d_is r_is =
    decided h (ops.Remove bytes) (λ path. path ≡ path_or_root bytes) p _ tree r asked (remove_late h bytes p works writable is)
    (remove_refused h bytes p found (sym works) (sym writable) given (root_false bytes p is) f ∙ ap first_refusal (sym lists))
    (λ n. ap (λ z. unwrap_or z []) (sym given)) r_is
  where
    given : parse_path bytes ≡ Some p
    given = (is_entry bytes p is).0

    lists : (found.fault ∷ a ∷ b ∷ d ∷ []) ≡ (found.fault ∷ refuse_if (is_absent found.node) ops.NoEnt ∷ refuse_if (has_entry_beneath (visible_tree h.tree) p) ops.NotEmpty ∷ refuse_if (has_open_file (same_path p) h.files) ops.Busy ∷ [])
    lists = both refl (both (when ops.NoEnt a_is absent_is) (both (when ops.NotEmpty b_is filled_is) (both (when ops.Busy d_is (busy_is ∙ ap (λ o. has_open_file (same_path (unwrap_or o [])) h.files) given)) refl)))

pub remove_can : (h : SessionView) (bytes : List ℕ) (path : Path) (tree : TreeState) → IsChecksResult h (ops.Remove bytes) (λ p. p ≡ path_or_root bytes) (Ok path) tree → CanRemoveEntry tree path
remove_can h bytes path tree c =
    let e = c.1 in
    let a = neither _ _ (not_refused h (ops.Remove bytes) e) in
    let b = neither _ _ a.1 in
    let d = neither _ _ b.1 in
    let i = neither _ _ d.1 in
    let j = neither _ _ i.1 in
    subst (λ t. CanRemoveEntry t path) (sym c.0.same) (subst (λ z. CanRemoveEntry (record h.tree { history = tree.history; cache = tree.cache }) z) (sym c.2) (record {
      works = not_failed h (ops.Remove bytes) e;
      writable = negated h.tree.writable (unrefused _ _ a.0);
      entry = good_root (parse_path bytes) (unrefused _ _ b.0);
      parents = d.0;
      something = unrefused _ _ i.0;
      empty = unrefused _ _ j.0;
    }))

-- no file is open at the path
pub remove_not_open : (h : SessionView) (bytes : List ℕ) → refusal_by_checks h (ops.Remove bytes) ≡ None → has_open_file (same_path (path_or_root bytes)) h.files ≡ false
remove_not_open h bytes e =
    let a = neither (refuse_if (not h.tree.writable) ops.ReadOnly) _ (not_refused h (ops.Remove bytes) e) in
    let b = neither (refuse_if (path_unusable (parse_path bytes)) ops.Invalid) _ a.1 in
    let d = neither (parents_refusal (visible_tree h.tree) [] (path_or_root bytes)) _ b.1 in
    let i = neither (refuse_if (is_none (visible_tree h.tree (path_or_root bytes))) ops.NoEnt) _ d.1 in
    let j = neither (refuse_if (nat_lt 0 (length (directory_names (visible_tree h.tree (path_or_root bytes))))) ops.NotEmpty) _ i.1 in
    let k = neither (refuse_if (has_open_file (same_path (path_or_root bytes)) h.files) ops.Busy) None j.1 in
    unrefused (has_open_file (same_path (path_or_root bytes)) h.files) ops.Busy k.0

-- nothing is in what is there
pub remove_bare : (h : SessionView) (bytes : List ℕ) → refusal_by_checks h (ops.Remove bytes) ≡ None → nat_lt 0 (length (directory_names (visible_tree h.tree (path_or_root bytes)))) ≡ false
remove_bare h bytes e =
    let a = neither (refuse_if (not h.tree.writable) ops.ReadOnly) _ (not_refused h (ops.Remove bytes) e) in
    let b = neither (refuse_if (path_unusable (parse_path bytes)) ops.Invalid) _ a.1 in
    let d = neither (parents_refusal (visible_tree h.tree) [] (path_or_root bytes)) _ b.1 in
    let i = neither (refuse_if (is_none (visible_tree h.tree (path_or_root bytes))) ops.NoEnt) _ d.1 in
    let j = neither (refuse_if (nat_lt 0 (length (directory_names (visible_tree h.tree (path_or_root bytes))))) ops.NotEmpty) _ i.1 in
    unrefused (nat_lt 0 (length (directory_names (visible_tree h.tree (path_or_root bytes))))) ops.NotEmpty j.0
