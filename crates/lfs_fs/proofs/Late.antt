-- If the checks without a look-up pass, any refusal needs a look-up.
use Rattle.std.proofs.Common.{ℕ, ◌≡◌, ◌&&◌, ◌||◌, Bool, true, false, not, List, [], ◌∷◌, ◌++◌, Option, Some, None, is_none, is_some, length, nat_le, nat_lt, refl, sym, subst, ◌∙◌}
use Rattle.lfs_fs.proofs.Common.{list_any, option_or, attribute_bytes, attributes_with, refused_before_search, profile_attr_max, FlagsOfOpen, Operation, Refusal, parse_path, path_or_root, writes_or_truncates, first_refusal, flags_allowed, has_long_name, has_open_file, exceeds_half_pair, lacks_room, overfills_disk, parents_refusal, all_readers, refuse_if, all_writers, Node, FileNode, DirectoryNode, Path, Tree, node_attributes_of, file_bytes, is_beneath, is_directory, is_file, last_name, directory_names, without_prefix, same_path, opened_writer, tree_summary, visible_tree, entry_path, PassesReadlessChecks, SessionView, refusal_by_checks}
use Rattle.lfs_model.specs.session.Operations as ops
use Rattle.lfs_model.specs.session.Session.{directory_refusal}
use Rattle.lfs_fs.proofs.EntryPaths.{is_entry, root_false}

-- refusals, if any, that need a look-up
abbrev IsLate : Operation → Option Refusal → Type 0
IsLate op None = Unit {0}
IsLate op (Some r) = refused_before_search op r ≡ false

abbrev AreLate : Operation → List (Option Refusal) → Type 0
AreLate op [] = Unit {0}
AreLate op (r ∷ rs) = IsLate op r × AreLate op rs

first_late : (op : Operation) (rs : List (Option Refusal)) → AreLate op rs → IsLate op (first_refusal rs)
first_late op [] h = tt
first_late op (None ∷ rs) h = first_late op rs h.1
first_late op (Some r ∷ rs) h = h.0

-- a check
late : (op : Operation) (b : Bool) (e : Refusal) → refused_before_search op e ≡ false → IsLate op (refuse_if b e)
late op true e h = h
late op false e h = tt

-- and the check of a path's parents
parents : (op : Operation) (t : Tree) (above p : Path) → writes_or_truncates op ≡ false → IsLate op (parents_refusal t above p)
parents op t above [] h = tt
parents op t above (name ∷ []) h = tt
parents op t above (name ∷ next ∷ rest) h = go (t (above ++ name ∷ [])) (parents op t (above ++ name ∷ []) (next ∷ rest) h)
  where
    go : (n : Option Node) → IsLate op (parents_refusal t (above ++ name ∷ []) (next ∷ rest)) → IsLate op (option_or (directory_refusal n) (parents_refusal t (above ++ name ∷ []) (next ∷ rest)))
    go None k = h
    go (Some (FileNode attributes bytes)) k = h
    go (Some (DirectoryNode attributes names)) k = k

told_late : (h : SessionView) (op : Operation) (rs : List (Option Refusal)) → refusal_by_checks h op ≡ first_refusal rs → AreLate op rs → PassesReadlessChecks h op
told_late h op rs are late r e = subst (IsLate op) (sym are ∙ e) (first_late op rs late)

-- ---- questions

pub stat_late : (h : SessionView) (bytes : List ℕ) (p : Path) → false ≡ h.tree.failed → Some p ≡ parse_path bytes → PassesReadlessChecks h (ops.Stat bytes)
stat_late h bytes p works is = let op = ops.Stat bytes in
    told_late h op
    (parents_refusal (visible_tree h.tree) [] p ∷ refuse_if (is_none (visible_tree h.tree p)) ops.NoEnt ∷ [])
    (rw (sym works, sym is) refl)
    (parents op (visible_tree h.tree) [] p refl, (late op _ _ refl, tt))

pub list_late : (h : SessionView) (bytes : List ℕ) (p : Path) → false ≡ h.tree.failed → Some p ≡ parse_path bytes → PassesReadlessChecks h (ops.ListAll bytes)
list_late h bytes p works is = let op = ops.ListAll bytes in
    told_late h op
    (parents_refusal (visible_tree h.tree) [] p ∷ refuse_if (is_none (visible_tree h.tree p)) ops.NoEnt ∷ refuse_if (is_file (visible_tree h.tree p)) ops.NotDir ∷ [])
    (rw (sym works, sym is) refl)
    (parents op (visible_tree h.tree) [] p refl, (late op _ _ refl, (late op _ _ refl, tt)))

pub get_late : (h : SessionView) (bytes : List ℕ) (kind : ℕ) (p : Path) → false ≡ h.tree.failed → Some p ≡ entry_path bytes → PassesReadlessChecks h (ops.GetAttr bytes kind)
get_late h bytes kind p works is = let op = ops.GetAttr bytes kind in
    told_late h op
    (parents_refusal (visible_tree h.tree) [] p ∷ refuse_if (is_none (visible_tree h.tree p)) ops.NoEnt ∷ refuse_if (is_none (attribute_bytes kind (node_attributes_of (visible_tree h.tree p)))) ops.NoAttr ∷ [])
    (rw (sym works, (is_entry bytes p is).0, root_false bytes p is) refl)
    (parents op (visible_tree h.tree) [] p refl, (late op _ _ refl, (late op _ _ refl, tt)))

-- ---- changes

pub mkdir_late : (h : SessionView) (bytes : List ℕ) (p : Path) → false ≡ h.tree.failed → true ≡ h.tree.writable → Some p ≡ parse_path bytes → PassesReadlessChecks h (ops.Mkdir bytes)
mkdir_late h bytes p works writable is = let op = ops.Mkdir bytes in
    told_late h op
    (parents_refusal (visible_tree h.tree) [] p ∷ refuse_if (has_long_name (tree_summary h.tree) p) ops.NameTooLong ∷ refuse_if (is_some (visible_tree h.tree p)) ops.Exist ∷ refuse_if (exceeds_half_pair (tree_summary h.tree) (last_name p) []) ops.EntryFull ∷ refuse_if (lacks_room (tree_summary h.tree) h.files 4) ops.NoSpace ∷ [])
    (rw (sym works, sym writable, sym is) refl)
    (parents op (visible_tree h.tree) [] p refl, (late op _ _ refl, (late op _ _ refl, (late op _ _ refl, (late op _ _ refl, tt)))))

pub remove_late : (h : SessionView) (bytes : List ℕ) (p : Path) → false ≡ h.tree.failed → true ≡ h.tree.writable → Some p ≡ entry_path bytes → PassesReadlessChecks h (ops.Remove bytes)
remove_late h bytes p works writable is = let op = ops.Remove bytes in
    told_late h op
    (parents_refusal (visible_tree h.tree) [] p ∷ refuse_if (is_none (visible_tree h.tree p)) ops.NoEnt ∷ refuse_if (nat_lt 0 (length (directory_names (visible_tree h.tree p)))) ops.NotEmpty ∷ refuse_if (has_open_file (same_path p) h.files) ops.Busy ∷ [])
    (rw (sym works, sym writable, (is_entry bytes p is).0, root_false bytes p is) refl)
    (parents op (visible_tree h.tree) [] p refl, (late op _ _ refl, (late op _ _ refl, (late op _ _ refl, tt))))

pub set_late : (h : SessionView) (bytes : List ℕ) (kind : ℕ) (value : List ℕ) (p : Path) → false ≡ h.tree.failed → true ≡ h.tree.writable → Some p ≡ entry_path bytes → PassesReadlessChecks h (ops.SetAttr bytes kind value)
set_late h bytes kind value p works writable is = let op = ops.SetAttr bytes kind value in
    told_late h op
    (parents_refusal (visible_tree h.tree) [] p ∷ refuse_if (is_none (visible_tree h.tree p)) ops.NoEnt ∷ refuse_if (nat_lt (profile_attr_max h.tree.disk.profile) (length value)) ops.TooBig ∷ refuse_if (exceeds_half_pair (tree_summary h.tree) (last_name p) (attributes_with kind value (node_attributes_of (visible_tree h.tree p)))) ops.EntryFull ∷ refuse_if (lacks_room (tree_summary h.tree) h.files 2) ops.NoSpace ∷ [])
    (rw (sym works, sym writable, (is_entry bytes p is).0, root_false bytes p is) refl)
    (parents op (visible_tree h.tree) [] p refl, (late op _ _ refl, (late op _ _ refl, (late op _ _ refl, (late op _ _ refl, tt)))))

pub remove_attr_late : (h : SessionView) (bytes : List ℕ) (kind : ℕ) (p : Path) → false ≡ h.tree.failed → true ≡ h.tree.writable → Some p ≡ entry_path bytes → PassesReadlessChecks h (ops.RemoveAttr bytes kind)
remove_attr_late h bytes kind p works writable is = let op = ops.RemoveAttr bytes kind in
    told_late h op
    (parents_refusal (visible_tree h.tree) [] p ∷ refuse_if (is_none (visible_tree h.tree p)) ops.NoEnt ∷ refuse_if (is_none (attribute_bytes kind (node_attributes_of (visible_tree h.tree p)))) ops.NoAttr ∷ [])
    (rw (sym works, sym writable, (is_entry bytes p is).0, root_false bytes p is) refl)
    (parents op (visible_tree h.tree) [] p refl, (late op _ _ refl, (late op _ _ refl, tt)))

pub rename_late : (h : SessionView) (old new : List ℕ) (p q : Path) → false ≡ h.tree.failed → true ≡ h.tree.writable → Some p ≡ entry_path old → Some q ≡ entry_path new → is_beneath (path_or_root old) (path_or_root new) ≡ false → PassesReadlessChecks h (ops.Rename old new)
rename_late h old new p q works writable from to apart = let op = ops.Rename old new in
    told_late h op
    (parents_refusal (visible_tree h.tree) [] (path_or_root old) ∷ parents_refusal (visible_tree h.tree) [] (path_or_root new) ∷ refuse_if (has_long_name (tree_summary h.tree) (path_or_root new)) ops.NameTooLong ∷ refuse_if (is_none (visible_tree h.tree (path_or_root old))) ops.NoEnt ∷ refuse_if (not (same_path (path_or_root old) (path_or_root new)) && is_directory (visible_tree h.tree (path_or_root old)) && is_file (visible_tree h.tree (path_or_root new))) ops.NotDir ∷ refuse_if (not (same_path (path_or_root old) (path_or_root new)) && is_file (visible_tree h.tree (path_or_root old)) && is_directory (visible_tree h.tree (path_or_root new))) ops.IsDir ∷ refuse_if (not (same_path (path_or_root old) (path_or_root new)) && nat_lt 0 (length (directory_names (visible_tree h.tree (path_or_root new))))) ops.NotEmpty ∷ refuse_if (has_open_file (λ x. is_some (without_prefix (path_or_root old) x) || same_path (path_or_root new) x) h.files) ops.Busy ∷ refuse_if (not (same_path (path_or_root old) (path_or_root new)) && exceeds_half_pair (tree_summary h.tree) (last_name (path_or_root new)) (node_attributes_of (visible_tree h.tree (path_or_root old)))) ops.EntryFull ∷ refuse_if (lacks_room (tree_summary h.tree) h.files 2) ops.NoSpace ∷ [])
    (rw (sym works, sym writable, (is_entry old p from).1, (is_entry new q to).1, apart) refl)
    (parents op (visible_tree h.tree) [] (path_or_root old) refl, (parents op (visible_tree h.tree) [] (path_or_root new) refl, (late op _ _ refl, (late op _ _ refl, (late op _ _ refl, (late op _ _ refl, (late op _ _ refl, (late op _ _ refl, (late op _ _ refl, (late op _ _ refl, tt))))))))))

-- ---- opens

pub reader_late : (h : SessionView) (bytes : List ℕ) (p : Path) (flags : FlagsOfOpen) → false ≡ h.tree.failed → Some p ≡ parse_path bytes → flags.write ≡ false → true ≡ flags_allowed flags → PassesReadlessChecks h (ops.Open bytes flags)
reader_late h bytes p flags works is write allowed = let op = ops.Open bytes flags in
    told_late h op
    (parents_refusal (visible_tree h.tree) [] p ∷ refuse_if (is_none (visible_tree h.tree p) && flags.create && has_long_name (tree_summary h.tree) p) ops.NameTooLong ∷ refuse_if (is_none (visible_tree h.tree p) && not flags.create) ops.NoEnt ∷ refuse_if (is_some (visible_tree h.tree p) && flags.exclusive) ops.Exist ∷ refuse_if (is_directory (visible_tree h.tree p)) ops.IsDir ∷ refuse_if (list_any (λ w. same_path p w.path) (all_writers h.files) || nat_le 16 (length (all_readers h.files))) ops.Busy ∷ refuse_if (is_none (visible_tree h.tree p) && exceeds_half_pair (tree_summary h.tree) (last_name p) []) ops.EntryFull ∷ refuse_if (is_none (visible_tree h.tree p) && lacks_room (tree_summary h.tree) h.files 2) ops.NoSpace ∷ refuse_if (flags.truncate && overfills_disk (tree_summary h.tree) (opened_writer p flags (file_bytes (visible_tree h.tree p)))) ops.NoSpace ∷ [])
    (rw (sym works, sym is, sym allowed, write) refl)
    (parents op (visible_tree h.tree) [] p refl, (late op _ _ refl, (late op _ _ refl, (late op _ _ refl, (late op _ _ refl, (late op _ _ refl, (late op _ _ refl, (late op _ _ refl, (late op _ _ refl, tt)))))))))

pub writer_late : (h : SessionView) (bytes : List ℕ) (p : Path) (flags : FlagsOfOpen) → false ≡ h.tree.failed → true ≡ h.tree.writable → Some p ≡ parse_path bytes → flags.write ≡ true → true ≡ flags_allowed flags → PassesReadlessChecks h (ops.Open bytes flags)
writer_late h bytes p flags works writable is write allowed = let op = ops.Open bytes flags in
    told_late h op
    (parents_refusal (visible_tree h.tree) [] p ∷ refuse_if (is_none (visible_tree h.tree p) && flags.create && has_long_name (tree_summary h.tree) p) ops.NameTooLong ∷ refuse_if (is_none (visible_tree h.tree p) && not flags.create) ops.NoEnt ∷ refuse_if (is_some (visible_tree h.tree p) && flags.exclusive) ops.Exist ∷ refuse_if (is_directory (visible_tree h.tree p)) ops.IsDir ∷ refuse_if (nat_lt 0 (length (all_writers h.files)) || has_open_file (same_path p) h.files) ops.Busy ∷ refuse_if (is_none (visible_tree h.tree p) && exceeds_half_pair (tree_summary h.tree) (last_name p) []) ops.EntryFull ∷ refuse_if (is_none (visible_tree h.tree p) && lacks_room (tree_summary h.tree) h.files 2) ops.NoSpace ∷ refuse_if (flags.truncate && overfills_disk (tree_summary h.tree) (opened_writer p flags (file_bytes (visible_tree h.tree p)))) ops.NoSpace ∷ [])
    (rw (sym works, sym writable, sym is, sym allowed, write) refl)
    (parents op (visible_tree h.tree) [] p refl, (late op _ _ refl, (late op _ _ refl, (late op _ _ refl, (late op _ _ refl, (late op _ _ refl, (late op _ _ refl, (late op _ _ refl, (late op _ _ refl, tt)))))))))
