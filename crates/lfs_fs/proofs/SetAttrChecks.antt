-- Checks of an attribute that is set.
use Rattle.std.proofs.Common.{is_none, not, ◌≤◌, ℕ, ◌≡◌, ◌+◌, ◌<◌, ◌^◌, Bool, true, false, List, [], ◌∷◌, length, nat_lt, Option, Some, None, Result, Ok, Vec, Global, unwrap_or, refl, sym, ap, subst, ◌∙◌, arith}
use Rattle.lfs_fs.proofs.Common.{option_map, ltb-false, node_attributes_of, last_name, in_flight_count, attribute_bytes, attributes_with, profile_attr_max, block_count, Refusal, parse_path, DiskSummary, first_refusal, reserved_for_writers, exceeds_half_pair, lacks_room, parents_refusal, refuse_if, Attributes, attributes_size, path_or_root, path_unusable, is_root_path, Path, IsAttributesSize, IsFoundNode, is_absent, TreeState, tree_summary, visible_tree, OnlyReadsTree, entry_path, SessionView, refusal_by_checks, IsChecksResult, result_unless_refused}
use Rattle.std.specs.Option.{option_map_or}
use Rattle.lfs_device.specs.declared.error.Error.{Error}
use Rattle.lfs_model.specs.session.Operations as ops
use Rattle.lfs_tree.specs.Permissions.{CanSetAttr}
use Rattle.lfs_lookup.specs.declared.found_entries.FoundNode.{FoundNode}
use Rattle.lfs_fs.specs.Replacements.{IncludesReplacedAttribute, replaced_attribute_size}
use Rattle.lfs_fs.proofs.Answered.{not_failed, not_refused}
use Rattle.lfs_fs.proofs.Late.{set_late}
use Rattle.lfs_fs.proofs.Checked.{both, decided, negated, neither, room_left, unrefused, when}
use Rattle.lfs_fs.proofs.EntryChecks.{good_root}
use Rattle.lfs_fs.proofs.EntryPaths.{is_entry, root_false}

-- ---- sizes

replaced_is : (o : Option (Vec ℕ Global)) (bytes : Option (List ℕ)) → option_map (λ (v : Vec ℕ Global). v.items) o ≡ bytes → replaced_attribute_size o ≡ option_map_or (λ b. 4 + length b) bytes 0
replaced_is None bytes e = ap (λ z. option_map_or (λ (b : List ℕ). 4 + length b) z 0) e
replaced_is (Some v) bytes e = ap (λ z. option_map_or (λ (b : List ℕ). 4 + length b) z 0) e

pub can_replace : (attributes : Attributes) (size kind : ℕ) (replaced : Option (Vec ℕ Global)) (value : List ℕ) → length value < 2 ^ 63 → IsAttributesSize attributes size → option_map (λ (v : Vec ℕ Global). v.items) replaced ≡ attribute_bytes kind attributes → IncludesReplacedAttribute size replaced (length value)
can_replace attributes size kind replaced value short is e = record {
  small = is.small;
  short = short;
  among = (let r = replaced_is replaced (attribute_bytes kind attributes) e in let p = is.put kind value in let i = is.is in omega arith);
}

pub put_size : (attributes : Attributes) (size kind n : ℕ) (replaced : Option (Vec ℕ Global)) (value : List ℕ) → IsAttributesSize attributes size → option_map (λ (v : Vec ℕ Global). v.items) replaced ≡ attribute_bytes kind attributes
    → n + replaced_attribute_size replaced ≡ size + (4 + length value) → attributes_size (attributes_with kind value attributes) ≡ n
put_size attributes size kind n replaced value is e sum =
    let r = replaced_is replaced (attribute_bytes kind attributes) e in
    let p = is.put kind value in
    let i = is.is in
    omega arith

-- ---- checks

set_refused : (h : SessionView) (bytes : List ℕ) (kind : ℕ) (value : List ℕ) (p : Path) (found : FoundNode) → h.tree.failed ≡ false → h.tree.writable ≡ true → parse_path bytes ≡ Some p → is_root_path p ≡ false → IsFoundNode (visible_tree h.tree) p found →
    refusal_by_checks h (ops.SetAttr bytes kind value) ≡ first_refusal (found.fault ∷ refuse_if (is_absent found.node) ops.NoEnt ∷ refuse_if (nat_lt (profile_attr_max h.tree.disk.profile) (length value)) ops.TooBig
    ∷ refuse_if (exceeds_half_pair (tree_summary h.tree) (last_name p) (attributes_with kind value (node_attributes_of (visible_tree h.tree p)))) ops.EntryFull ∷ refuse_if (lacks_room (tree_summary h.tree) h.files 2) ops.NoSpace ∷ [])
set_refused h bytes kind value p found works writable is entry f = rw (works, writable, is, entry, f.parents, f.nothing) refl

pub set_attr_checked : (h : SessionView) (bytes : List ℕ) (kind : ℕ) (value : List ℕ) (p : Path) (found : FoundNode) (mid tree : TreeState) (replaced : Option (Vec ℕ Global)) (size n len : ℕ) (absent long over lack : Bool) (a b d e : Option Refusal) (r : Result Path Error) →
    false ≡ h.tree.failed → true ≡ h.tree.writable → Some p ≡ entry_path bytes → OnlyReadsTree h.tree mid → OnlyReadsTree h.tree tree → IsFoundNode (visible_tree h.tree) p found →
    option_map (λ (v : Vec ℕ Global). v.items) replaced ≡ attribute_bytes kind (node_attributes_of (visible_tree h.tree p)) → IsAttributesSize (node_attributes_of (visible_tree mid p)) size → n + replaced_attribute_size replaced ≡ size + (4 + length value) →
    absent ≡ is_absent found.node → a ≡ refuse_if absent ops.NoEnt → long ≡ nat_lt (profile_attr_max tree.disk.profile) (length value) → b ≡ refuse_if long ops.TooBig →
    len ≡ length (last_name p) → ((name : List ℕ) (attributes : Attributes) → length name ≡ len → attributes_size attributes ≡ n → over ≡ exceeds_half_pair (tree_summary tree) name attributes) → d ≡ refuse_if over ops.EntryFull →
    lack ≡ lacks_room (tree_summary tree) h.files 2 → e ≡ refuse_if lack ops.NoSpace →
    r ≡ result_unless_refused (first_refusal (found.fault ∷ a ∷ b ∷ d ∷ e ∷ [])) p → IsChecksResult h (ops.SetAttr bytes kind value) (λ path. path ≡ path_or_root bytes) r tree
set_attr_checked h bytes kind value p found mid tree replaced size n len absent long over lack a b d e r works writable is first asked f replaced_was sized sum absent_is a_is long_is b_is len_is over_is d_is lack_is e_is r_is =
    decided h (ops.SetAttr bytes kind value) (λ path. path ≡ path_or_root bytes) p _ tree r asked (set_late h bytes kind value p works writable is)
    (set_refused h bytes kind value p found (sym works) (sym writable) given (root_false bytes p is) f ∙ ap first_refusal (sym lists))
    (λ none. ap (λ z. unwrap_or z []) (sym given)) r_is
  where
    given : parse_path bytes ≡ Some p
    given = (is_entry bytes p is).0

    same : tree_summary tree ≡ tree_summary h.tree
    same = ap tree_summary asked.same

    was : node_attributes_of (visible_tree mid p) ≡ node_attributes_of (visible_tree h.tree p)
    was = ap (λ (t : TreeState). node_attributes_of (visible_tree t p)) first.same

    put : attributes_size (attributes_with kind value (node_attributes_of (visible_tree h.tree p))) ≡ n
    put = put_size (node_attributes_of (visible_tree h.tree p)) size kind n replaced value (subst (λ z. IsAttributesSize z size) was sized) replaced_was sum

    lists : (found.fault ∷ a ∷ b ∷ d ∷ e ∷ []) ≡ (found.fault ∷ refuse_if (is_absent found.node) ops.NoEnt ∷ refuse_if (nat_lt (profile_attr_max h.tree.disk.profile) (length value)) ops.TooBig
        ∷ refuse_if (exceeds_half_pair (tree_summary h.tree) (last_name p) (attributes_with kind value (node_attributes_of (visible_tree h.tree p)))) ops.EntryFull ∷ refuse_if (lacks_room (tree_summary h.tree) h.files 2) ops.NoSpace ∷ [])
    lists = both refl (both (when ops.NoEnt a_is absent_is) (both (when ops.TooBig b_is (long_is ∙ ap (λ (around : DiskSummary). nat_lt (profile_attr_max around.profile) (length value)) same))
        (both (when ops.EntryFull d_is (over_is (last_name p) (attributes_with kind value (node_attributes_of (visible_tree h.tree p))) (sym len_is) put ∙ ap (λ around. exceeds_half_pair around (last_name p) (attributes_with kind value (node_attributes_of (visible_tree h.tree p)))) same))
        (both (when ops.NoSpace e_is (lack_is ∙ ap (λ around. lacks_room around h.files 2) same)) refl))))

-- enough blocks are free besides the reserved ones
pub set_attr_space : (h : SessionView) (bytes : List ℕ) (kind : ℕ) (value : List ℕ) → refusal_by_checks h (ops.SetAttr bytes kind value) ≡ None → lacks_room (tree_summary h.tree) h.files 2 ≡ false
set_attr_space h bytes kind value e =
    let a = neither (refuse_if (not h.tree.writable) ops.ReadOnly) _ (not_refused h (ops.SetAttr bytes kind value) e) in
    let b = neither (refuse_if (path_unusable (parse_path bytes)) ops.Invalid) _ a.1 in
    let d = neither (parents_refusal (visible_tree h.tree) [] (path_or_root bytes)) _ b.1 in
    let i = neither (refuse_if (is_none (visible_tree h.tree (path_or_root bytes))) ops.NoEnt) _ d.1 in
    let j = neither (refuse_if (nat_lt (profile_attr_max h.tree.disk.profile) (length value)) ops.TooBig) _ i.1 in
    let k = neither (refuse_if (exceeds_half_pair (tree_summary h.tree) (last_name (path_or_root bytes)) (attributes_with kind value (node_attributes_of (visible_tree h.tree (path_or_root bytes))))) ops.EntryFull) _ j.1 in
    let l = neither (refuse_if (lacks_room (tree_summary h.tree) h.files 2) ops.NoSpace) None k.1 in
    unrefused (lacks_room (tree_summary h.tree) h.files 2) ops.NoSpace l.0

pub set_attr_can : (h : SessionView) (bytes : List ℕ) (kind : ℕ) (value : List ℕ) (path : Path) (tree : TreeState) → (h.tree.failed ≡ false → in_flight_count h.tree.map ≤ reserved_for_writers h.tree.disk.profile h.tree.disk.block_size h.files)
    → IsChecksResult h (ops.SetAttr bytes kind value) (λ p. p ≡ path_or_root bytes) (Ok path) tree → CanSetAttr tree path kind value
set_attr_can h bytes kind value path tree idle c =
    let e = c.1 in
    let a = neither _ _ (not_refused h (ops.SetAttr bytes kind value) e) in
    let b = neither _ _ a.1 in
    let d = neither _ _ b.1 in
    let i = neither _ _ d.1 in
    let j = neither _ _ i.1 in
    let k = neither _ _ j.1 in
    let works = not_failed h (ops.SetAttr bytes kind value) e in
    subst (λ t. CanSetAttr t path kind value) (sym c.0.same) (subst (λ z. CanSetAttr (record h.tree { history = tree.history; cache = tree.cache }) z kind value) (sym c.2) (record {
      works = works;
      writable = negated h.tree.writable (unrefused _ _ a.0);
      entry = good_root (parse_path bytes) (unrefused _ _ b.0);
      parents = d.0;
      something = unrefused _ _ i.0;
      len = (let l = ltb-false (profile_attr_max h.tree.disk.profile) (length value) (unrefused _ _ j.0) in omega (arith, l));
      fits = unrefused _ _ k.0;
      room = room_left (block_count h.tree.disk) (length (tree_summary h.tree).used) (reserved_for_writers h.tree.disk.profile h.tree.disk.block_size h.files) (in_flight_count h.tree.map) 2 (idle works) (set_attr_space h bytes kind value e);
    }))
