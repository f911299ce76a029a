-- Checks of a rename.
use Rattle.std.proofs.Common.{◌≤◌, ℕ, ◌≡◌, ◌&&◌, ◌||◌, Bool, true, false, not, List, [], ◌∷◌, length, nat_lt, Option, Some, None, Result, Err, unwrap_or, refl, sym, ap, ap₂, subst, ◌∙◌}
use Rattle.std.specs.Prelude.{IfSome, IsSome}
use Rattle.lfs_device.specs.declared.error.Error.{Error}
use Rattle.lfs_fs.proofs.Common.{node_attributes_of, is_beneath, last_name, directory_names, same_path, in_flight_count, block_count, profile_name_max, Operation, Refusal, parse_path, first_refusal, reserved_for_writers, has_long_name, has_open_file, exceeds_half_pair, lacks_room, refuse_if, Attributes, attributes_size, zero_gstate, pairs_gstate, path_or_root, is_root_path, Path, IsFoundNode, has_entry_beneath, is_absent, is_directory_node, is_file_node, AreRenameFindings, TreeState, kept_thread, tree_summary, visible_tree, OnlyReadsTree, RuntimeFiles, files_view, SessionView, session_view, refusal_by_checks, IsChecksResult, FailsChecks, PassesReadlessChecks, prevents_rename, result_unless_refused}
use Rattle.lfs_model.specs.session.Operations as ops
use Rattle.lfs_tree.specs.Permissions.{CanRenamePath}
use Rattle.lfs_tree.specs.RenameLookup.{AreRenameResults}
use Rattle.lfs_lookup.specs.declared.found_entries.FoundNode.{FoundNode}
use Rattle.lfs_tree.specs.declared.rename_paths.RenameLookup.{RenameLookup}
use Rattle.lfs_fs.specs.RenamePaths.{IsFileIndependentRefusal, IsPermittedRename, PassesRenameWithoutLookup}
use Rattle.lfs_fs.specs.declared.rename_checks.RenamePaths.{RenamePaths}
use Rattle.lfs_fs.specs.declared.rename_checks.PermittedRename.{PermittedRename}
use Rattle.lfs_fs.proofs.Answered.{not_failed, not_refused, nothing_asked}
use Rattle.lfs_fs.proofs.Late.{rename_late}
use Rattle.lfs_fs.proofs.Checked.{both, decided, negated, neither, room_left, unrefused, when}
use Rattle.lfs_fs.proofs.EntryChecks.{good_root}
use Rattle.lfs_fs.proofs.EntryPaths.{is_entry, root_false}

-- ---- paths that none are an entry's, or one beneath the other

-- ---- the others

abbrev checks_of : SessionView → Path → Path → FoundNode → FoundNode → List (Option Refusal)
checks_of h p q entry target =
    entry.fault ∷ target.fault ∷ refuse_if (has_long_name (tree_summary h.tree) q) ops.NameTooLong ∷ refuse_if (is_absent entry.node) ops.NoEnt
    ∷ refuse_if (not (same_path p q) && is_directory_node entry.node && is_file_node target.node) ops.NotDir ∷ refuse_if (not (same_path p q) && is_file_node entry.node && is_directory_node target.node) ops.IsDir
    ∷ refuse_if (not (same_path p q) && has_entry_beneath (visible_tree h.tree) q) ops.NotEmpty ∷ refuse_if (has_open_file (prevents_rename p q) h.files) ops.Busy
    ∷ refuse_if (not (same_path p q) && exceeds_half_pair (tree_summary h.tree) (last_name q) (node_attributes_of (visible_tree h.tree p))) ops.EntryFull ∷ refuse_if (lacks_room (tree_summary h.tree) h.files 2) ops.NoSpace ∷ []

rename_refused : (h : SessionView) (old new : List ℕ) (p q : Path) (entry target : FoundNode) → h.tree.failed ≡ false → h.tree.writable ≡ true → parse_path old ≡ Some p → parse_path new ≡ Some q → is_root_path p ≡ false → is_root_path q ≡ false → is_beneath p q ≡ false →
    IsFoundNode (visible_tree h.tree) p entry → IsFoundNode (visible_tree h.tree) q target → refusal_by_checks h (ops.Rename old new) ≡ first_refusal (checks_of h p q entry target)
rename_refused h old new p q entry target works writable is are one two apart f g =
    rw (works, writable, is, are, one, two, apart, f.parents, g.parents, f.nothing, f.directories, g.files, f.files, g.directories) refl

-- by what is at the two paths, the checks behind the look-up are those
pub found_refused : (t : TreeState) (files : RuntimeFiles) (old new : List ℕ) (paths : RenamePaths) (found : RenameLookup) (len : ℕ) (long absent one two three over four lack busy : Bool)
    (a b c d e f i j : Option Refusal) → PassesRenameWithoutLookup t old new paths → AreRenameFindings (visible_tree t) paths.from paths.to found →
    len ≡ length (last_name paths.to) → long ≡ nat_lt (profile_name_max t.disk.profile) len → a ≡ refuse_if long ops.NameTooLong →
    absent ≡ is_absent found.entry.node → b ≡ refuse_if absent ops.NoEnt →
    one ≡ (not paths.is_same && is_directory_node found.entry.node && is_file_node found.target.finding.node) → c ≡ refuse_if one ops.NotDir →
    two ≡ (not paths.is_same && is_file_node found.entry.node && is_directory_node found.target.finding.node) → d ≡ refuse_if two ops.IsDir →
    three ≡ (not paths.is_same && found.target.has_entries) → e ≡ refuse_if three ops.NotEmpty →
    busy ≡ has_open_file (prevents_rename (path_or_root old) (path_or_root new)) (files_view t files) → f ≡ refuse_if busy ops.Busy →
    ((name : List ℕ) (attributes : Attributes) → length name ≡ len → attributes_size attributes ≡ found.attributes_size → over ≡ exceeds_half_pair (tree_summary t) name attributes) → four ≡ (not paths.is_same && over) → i ≡ refuse_if four ops.EntryFull →
    lack ≡ lacks_room (tree_summary t) (files_view t files) 2 → j ≡ refuse_if lack ops.NoSpace →
    first_refusal (found.entry.fault ∷ found.target.finding.fault ∷ a ∷ b ∷ c ∷ d ∷ e ∷ f ∷ i ∷ j ∷ []) ≡ refusal_by_checks (session_view t files) (ops.Rename old new)
found_refused t files old new paths found len long absent one two three over four lack busy a b c d e f i j
    passes there len_is long_is a_is absent_is b_is one_is c_is two_is d_is three_is e_is busy_is f_is over_is four_is i_is lack_is j_is =
    ap first_refusal lists
    ∙ sym (rename_refused h old new p q found.entry found.target.finding passes.works passes.writable from to (root_false old p (sym passes.from)) (root_false new q (sym passes.to)) (ap₂ is_beneath (sym from_path) (sym to_path) ∙ passes.apart) there.entry there.target)
  where
    h : SessionView
    h = session_view t files

    p : Path
    p = paths.from

    q : Path
    q = paths.to

    from : parse_path old ≡ Some p
    from = (is_entry old p (sym passes.from)).0

    to : parse_path new ≡ Some q
    to = (is_entry new q (sym passes.to)).0

    from_path : path_or_root old ≡ p
    from_path = ap (λ o. unwrap_or o []) from

    to_path : path_or_root new ≡ q
    to_path = ap (λ o. unwrap_or o []) to

    other_is_not : not paths.is_same ≡ not (same_path p q)
    other_is_not = ap not (passes.same ∙ ap₂ same_path from_path to_path)

    lists : (found.entry.fault ∷ found.target.finding.fault ∷ a ∷ b ∷ c ∷ d ∷ e ∷ f ∷ i ∷ j ∷ []) ≡ checks_of h p q found.entry found.target.finding
    lists = both refl (both refl (both (when ops.NameTooLong a_is (long_is ∙ ap (nat_lt (profile_name_max t.disk.profile)) len_is)) (both (when ops.NoEnt b_is absent_is)
        (both (when ops.NotDir c_is (one_is ∙ ap (λ z. z && is_directory_node found.entry.node && is_file_node found.target.finding.node) other_is_not))
        (both (when ops.IsDir d_is (two_is ∙ ap (λ z. z && is_file_node found.entry.node && is_directory_node found.target.finding.node) other_is_not))
        (both (when ops.NotEmpty e_is (three_is ∙ ap₂ (λ y z. y && z) other_is_not there.has))
        (both (when ops.Busy f_is (busy_is ∙ ap₂ (λ y z. has_open_file (prevents_rename y z) h.files) from_path to_path))
        (both (when ops.EntryFull i_is (four_is ∙ ap₂ (λ y z. y && z) other_is_not (over_is (last_name q) (node_attributes_of (visible_tree t p)) (sym len_is) (sym there.size.is))))
        (both (when ops.NoSpace j_is lack_is) refl)))))))))

-- ---- from the first checks to the last

-- they pass on the tree that was read
pub passes_later : (t tree : TreeState) (old new : List ℕ) (paths : RenamePaths) → OnlyReadsTree t tree → PassesRenameWithoutLookup t old new paths → PassesRenameWithoutLookup tree old new paths
passes_later t tree old new paths asked p =
    subst (λ z. PassesRenameWithoutLookup z old new paths) (sym asked.same) (record { given = p.given; works = p.works; writable = p.writable; from = p.from; to = p.to; apart = p.apart; same = p.same })

pub passes_late : (t : TreeState) (files : RuntimeFiles) (old new : List ℕ) (paths : RenamePaths) → PassesRenameWithoutLookup t old new paths → PassesReadlessChecks (session_view t files) (ops.Rename old new)
passes_late t files old new paths p = rename_late (session_view t files) old new paths.from paths.to (sym p.works) (sym p.writable) (sym p.from) (sym p.to) p.apart

pub refused_at_once : (t : TreeState) (files : RuntimeFiles) (op : Operation) (e : Error) (P : PermittedRename → Type 0) (r : Result PermittedRename Error) → IsFileIndependentRefusal t op e → r ≡ Err e → IsChecksResult (session_view t files) op P r t
refused_at_once t files op e P r refused is =
    subst (λ z. IsChecksResult (session_view t files) op P z t) (sym is)
    (subst (λ b. FailsChecks b (session_view t files) op e t) (sym (refused files).0) (nothing_asked t, (refused files).1, λ once. refl))

pub alone : (o : Option Refusal) → first_refusal (o ∷ []) ≡ o
alone None = refl
alone (Some x) = refl

pub rename_checked : (t : TreeState) (files : RuntimeFiles) (old new : List ℕ) (paths : RenamePaths) (tree : TreeState) (refusal : Option Refusal) (x : PermittedRename) (r : Result PermittedRename Error) → PassesRenameWithoutLookup t old new paths → OnlyReadsTree t tree →
    refusal ≡ refusal_by_checks (session_view tree files) (ops.Rename old new) → IsPermittedRename tree old new x → r ≡ result_unless_refused (first_refusal (refusal ∷ [])) x → IsChecksResult (session_view t files) (ops.Rename old new) (IsPermittedRename tree old new) r tree
rename_checked t files old new paths tree refusal x r passes asked refusal_is x_is r_is =
    decided (session_view t files) (ops.Rename old new) (IsPermittedRename tree old new) x _ tree r asked (passes_late t files old new paths passes)
    (sym (alone refusal ∙ refusal_is ∙ ap (λ z. refusal_by_checks (session_view z files) (ops.Rename old new)) asked.same)) (λ none. x_is) r_is

-- ---- what no check refuses

record HasPassed (h : SessionView) (old new : List ℕ) : Type 0 where
  can : in_flight_count h.tree.map ≤ reserved_for_writers h.tree.disk.profile h.tree.disk.block_size h.files → CanRenamePath h.tree (path_or_root old) (path_or_root new)
  closed : has_open_file (prevents_rename (path_or_root old) (path_or_root new)) h.files ≡ false
  space : lacks_room (tree_summary h.tree) h.files 2 ≡ false
  bare : (not (same_path (path_or_root old) (path_or_root new)) && nat_lt 0 (length (directory_names (visible_tree h.tree (path_or_root new))))) ≡ false

pub none_of_three : (a b c : Bool) → (a || b || c) ≡ false → (a ≡ false) × (b ≡ false) × (c ≡ false)
none_of_three true b c e = absurd (cc)
none_of_three false true c e = absurd (cc)
none_of_three false false c e = (refl, refl, e)

passed : (h : SessionView) (old new : List ℕ) → refusal_by_checks h (ops.Rename old new) ≡ None → HasPassed h old new
passed h old new e =
    let a = neither _ _ (not_refused h (ops.Rename old new) e) in
    let b = neither _ _ a.1 in
    let c = neither _ _ b.1 in
    let d = neither _ _ c.1 in
    let f = neither _ _ d.1 in
    let g = neither _ _ f.1 in
    let i = neither _ _ g.1 in
    let j = neither _ _ i.1 in
    let k = neither _ _ j.1 in
    let l = neither _ _ k.1 in
    let m = neither _ _ l.1 in
    let n = neither _ _ m.1 in
    let writable = negated h.tree.writable (unrefused _ ops.ReadOnly a.0) in
    let three = none_of_three _ _ _ (unrefused _ ops.Invalid b.0) in
    let name = unrefused _ ops.NameTooLong f.0 in
    let something = unrefused _ ops.NoEnt g.0 in
    let directory = unrefused _ ops.NotDir i.0 in
    let file = unrefused _ ops.IsDir j.0 in
    let bare = unrefused _ ops.NotEmpty k.0 in
    let closed = unrefused _ ops.Busy l.0 in
    let fits = unrefused _ ops.EntryFull m.0 in
    let some = unrefused _ ops.NoSpace n.0 in
    record {
      can = λ idle. record {
        works = not_failed h (ops.Rename old new) e;
        writable = writable;
        entry = good_root (parse_path old) three.0;
        target = good_root (parse_path new) three.1;
        apart = three.2;
        parents = c.0;
        target_parents = d.0;
        name = name;
        something = something;
        directory = directory;
        file = file;
        empty = bare;
        fits = fits;
        room = room_left (block_count h.tree.disk) (length (tree_summary h.tree).used) (reserved_for_writers h.tree.disk.profile h.tree.disk.block_size h.files) (in_flight_count h.tree.map) 2 idle some;
      };
      closed = closed;
      space = some;
      bare = bare;
    }

pub rename_space : (h : SessionView) (old new : List ℕ) → refusal_by_checks h (ops.Rename old new) ≡ None → lacks_room (tree_summary h.tree) h.files 2 ≡ false
rename_space h old new e = (passed h old new e).space

pub rename_closed : (h : SessionView) (old new : List ℕ) → refusal_by_checks h (ops.Rename old new) ≡ None → has_open_file (prevents_rename (path_or_root old) (path_or_root new)) h.files ≡ false
rename_closed h old new e = (passed h old new e).closed

pub rename_bare : (h : SessionView) (old new : List ℕ) → refusal_by_checks h (ops.Rename old new) ≡ None → (not (same_path (path_or_root old) (path_or_root new)) && nat_lt 0 (length (directory_names (visible_tree h.tree (path_or_root new))))) ≡ false
rename_bare h old new e = (passed h old new e).bare

pub rename_can : (h : SessionView) (old new : List ℕ) (from to : Path) (tree : TreeState) → (h.tree.failed ≡ false → in_flight_count h.tree.map ≤ reserved_for_writers h.tree.disk.profile h.tree.disk.block_size h.files) → OnlyReadsTree h.tree tree → refusal_by_checks h (ops.Rename old new) ≡ None → from ≡ path_or_root old → to ≡ path_or_root new → CanRenamePath tree from to
rename_can h old new from to tree idle asked e is are =
    let can = (passed h old new e).can (idle (not_failed h (ops.Rename old new) e)) in
    subst (λ z. CanRenamePath tree z to) (sym is) (subst (λ z. CanRenamePath tree (path_or_root old) z) (sym are)
    (subst (λ t. CanRenamePath t (path_or_root old) (path_or_root new)) (sym asked.same) (record {
      works = can.works;
      writable = can.writable;
      entry = can.entry;
      target = can.target;
      apart = can.apart;
      parents = can.parents;
      target_parents = can.target_parents;
      name = can.name;
      something = can.something;
      directory = can.directory;
      file = can.file;
      empty = can.empty;
      fits = can.fits;
      room = can.room;
    })))

pub renaming_is : (t tree : TreeState) (old new : List ℕ) (paths : RenamePaths) (x : PermittedRename) → PassesRenameWithoutLookup t old new paths → x.from ≡ paths.from → x.to ≡ paths.to → x.is_same ≡ paths.is_same → IfSome x.targets (AreRenameResults (kept_thread tree) x.from x.to) → (pairs_gstate tree.pairs ≡ zero_gstate → IsSome x.targets) → IsPermittedRename tree old new x
renaming_is t tree old new paths x passes from to same targets handed_on = record {
  from = from ∙ sym (ap (λ o. unwrap_or o []) (is_entry old paths.from (sym passes.from)).0);
  to = to ∙ sym (ap (λ o. unwrap_or o []) (is_entry new paths.to (sym passes.to)).0);
  same = same ∙ passes.same;
  targets = targets;
  handed_on = handed_on;
}

pub three_of : (r inner a b c d e : Bool) → r ≡ (a && inner) → inner ≡ (b && c) → b ≡ d → c ≡ e → r ≡ (a && d && e)
three_of r inner a b c d e h k l m = h ∙ ap (λ z. a && z) (k ∙ ap₂ (λ y z. y && z) l m) ∙ grouped a d e
  where
    grouped : (x y z : Bool) → (x && (y && z)) ≡ (x && y && z)
    grouped true y z = refl
    grouped false y z = refl
