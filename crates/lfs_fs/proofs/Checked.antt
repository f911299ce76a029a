-- From the result of a look-up to an operation's checks.
use Rattle.std.proofs.Common.{ℕ, ◌≡◌, ◌+◌, ◌≤◌, Bool, true, false, not, List, [], ◌∷◌, Option, Some, None, Result, Ok, Err, length, nat_lt, nat_le, ◌&&◌, ◌||◌, unwrap_or, is_some, is_none, refl, sym, ap, ap₂, subst, ◌∙◌, arith}
use Rattle.std.specs.Prelude.{if◌then◌else◌}
use Rattle.lfs_fs.proofs.Common.{list_any, option_or, nat_tests, block_count, profile_name_max, Path, is_file, last_name, same_path, Operation, Refusal, FlagsOfOpen, parse_path, DiskSummary, flags_allowed, has_long_name, parents_refusal, all_readers, all_writers, first_refusal, refuse_if, exceeds_half_pair, lacks_room, reserved_for_writers, path_or_root, operation_refusal, node_file_size, refusal_error, error_refusal, result_unless_refused, TreeState, visible_tree, tree_summary, OnlyReadsTree, FailedByReading, HasErrorCause, CanMakeDirectory, in_flight_count, IsStorageAt, IsFoundNode, is_absent, is_directory_node, is_file_node, node_size_if_file, SessionView, viewed_session, IsReadableFile, refusal_by_checks, PassesReadlessChecks, FailsChecks, IsChecksResult}
use Rattle.lfs_model.specs.session.Operations as ops
use Rattle.lfs_device.specs.declared.error.Error.{Error}
use Rattle.lfs_lookup.specs.declared.file_contents.FileContents.{FileContents}
use Rattle.lfs_lookup.specs.declared.found_entries.FoundNode.{FoundNode}
use Rattle.lfs_lookup.specs.declared.found_entries.Node.{Node}
use Rattle.lfs_lookup.specs.declared.found_entries.Node.TheVariants as node
use Rattle.lfs_fs.proofs.Answered.{not_failed, not_refused, no_refusal_io}
use Rattle.lfs_fs.proofs.Errors.{error_refuses, refusal_again}
use Rattle.lfs_fs.proofs.Late.{mkdir_late, reader_late, stat_late}

-- a call failed on the way
pub lookup_failed : {A : Type 0} (h : SessionView) (op : Operation) (P : A → Type 0) (e : Error) (tree : TreeState) (r : Result A Error) → false ≡ h.tree.failed → FailedByReading h.tree tree → HasErrorCause h.tree tree e →
    PassesReadlessChecks h op → r ≡ Err e → IsChecksResult h op P r tree
lookup_failed h op P e tree r works broken error late is =
    subst (λ z. IsChecksResult h op P z tree) (sym is)
    (subst (λ b. FailsChecks b h op e tree) (sym (no_refusal_io e error.errors)) (broken, sym works, error, late))

-- the last checks decide
pub decided : {A : Type 0} (h : SessionView) (op : Operation) (P : A → Type 0) (x : A) (first : Option Refusal) (tree : TreeState) (r : Result A Error) → OnlyReadsTree h.tree tree → PassesReadlessChecks h op → refusal_by_checks h op ≡ first → (first ≡ None → P x) →
    r ≡ result_unless_refused first x → IsChecksResult h op P r tree
decided h op P x None tree r asked late e p is = subst (λ z. IsChecksResult h op P z tree) (sym is) (asked, e, p refl)
decided h op P x (Some refusal) tree r asked late e p is =
    subst (λ z. IsChecksResult h op P z tree) (sym is)
    (subst (λ b. FailsChecks b h op (refusal_error refusal) tree) (sym (error_refuses refusal)) (asked, reported, λ once. absurd (let k = sym (late _ reported) ∙ once in cc)))
  where
    reported : refusal_by_checks h op ≡ Some (error_refusal (refusal_error refusal))
    reported = e ∙ ap (λ z. Some z) (sym (refusal_again refusal))

pub both : {A : Type 0} {x y : A} {xs ys : List A} → x ≡ y → xs ≡ ys → x ∷ xs ≡ y ∷ ys
both e es = ap₂ (λ x xs. x ∷ xs) e es

pub when : {a : Option Refusal} {b c : Bool} (error : Refusal) → a ≡ refuse_if b error → b ≡ c → a ≡ refuse_if c error
when error e f = e ∙ ap (λ b. refuse_if b error) f

pub there : {A : Type 0} → (o : Option A) → is_some o ≡ not (is_none o)
there None = refl
there (Some x) = refl

stat_refused : (h : SessionView) (bytes : List ℕ) (p : Path) (found : FoundNode) → h.tree.failed ≡ false → parse_path bytes ≡ Some p → IsFoundNode (visible_tree h.tree) p found →
    refusal_by_checks h (ops.Stat bytes) ≡ first_refusal (found.fault ∷ refuse_if (is_absent found.node) ops.NoEnt ∷ [])
stat_refused h bytes p found works is f = rw (works, is, f.parents, f.nothing) refl

size_found : (h : SessionView) (bytes : List ℕ) (p : Path) (found : FoundNode) → parse_path bytes ≡ Some p → IsFoundNode (visible_tree h.tree) p found → node_file_size (visible_tree h.tree (path_or_root bytes)) ≡ node_size_if_file found.node
size_found h bytes p found is f = ap (λ z. node_file_size (visible_tree h.tree (unwrap_or z []))) is ∙ f.sizes

pub stat_checked : {A : Type 0} (view : A → Option ℕ) (h : SessionView) (bytes : List ℕ) (p : Path) (found : FoundNode) (tree : TreeState) (absent : Bool) (a : Option Refusal) (x : A) (r : Result A Error) →
    false ≡ h.tree.failed → Some p ≡ parse_path bytes → OnlyReadsTree h.tree tree → IsFoundNode (visible_tree h.tree) p found →
    absent ≡ is_absent found.node → a ≡ refuse_if absent ops.NoEnt → view x ≡ node_size_if_file found.node → r ≡ result_unless_refused (first_refusal (found.fault ∷ a ∷ [])) x →
    IsChecksResult h (ops.Stat bytes) (λ z. node_file_size (visible_tree h.tree (path_or_root bytes)) ≡ view z) r tree
stat_checked view h bytes p found tree absent a x r works is asked f absent_is a_is size_is r_is =
    decided h (ops.Stat bytes) (λ z. node_file_size (visible_tree h.tree (path_or_root bytes)) ≡ view z) x _ tree r asked (stat_late h bytes p works is)
    (stat_refused h bytes p found (sym works) (sym is) f ∙ ap (λ z. first_refusal (found.fault ∷ z ∷ [])) (sym (a_is ∙ ap (λ b. refuse_if b ops.NoEnt) absent_is)))
    (λ none. size_found h bytes p found (sym is) f ∙ sym size_is) r_is

mkdir_refused : (h : SessionView) (bytes : List ℕ) (p : Path) (found : FoundNode) → h.tree.failed ≡ false → h.tree.writable ≡ true → parse_path bytes ≡ Some p → IsFoundNode (visible_tree h.tree) p found →
    refusal_by_checks h (ops.Mkdir bytes) ≡ first_refusal (found.fault ∷ refuse_if (has_long_name (tree_summary h.tree) p) ops.NameTooLong ∷ refuse_if (not (is_absent found.node)) ops.Exist
    ∷ refuse_if (exceeds_half_pair (tree_summary h.tree) (last_name p) []) ops.EntryFull ∷ refuse_if (lacks_room (tree_summary h.tree) h.files 4) ops.NoSpace ∷ [])
mkdir_refused h bytes p found works writable is f = rw (works, writable, is, f.parents, there (visible_tree h.tree p), f.nothing) refl

pub mkdir_checked : (h : SessionView) (bytes : List ℕ) (p : Path) (found : FoundNode) (tree : TreeState) (len other : ℕ) (long absent over lack : Bool) (a b d e : Option Refusal) (r : Result Path Error) →
    false ≡ h.tree.failed → true ≡ h.tree.writable → Some p ≡ parse_path bytes → OnlyReadsTree h.tree tree → IsFoundNode (visible_tree h.tree) p found →
    len ≡ length (last_name p) → long ≡ nat_lt (profile_name_max tree.disk.profile) len → a ≡ refuse_if long ops.NameTooLong →
    absent ≡ is_absent found.node → b ≡ refuse_if (not absent) ops.Exist →
    other ≡ length (last_name p) → ((name : List ℕ) → length name ≡ other → over ≡ exceeds_half_pair (tree_summary tree) name []) → d ≡ refuse_if over ops.EntryFull →
    lack ≡ lacks_room (tree_summary tree) h.files 4 → e ≡ refuse_if lack ops.NoSpace →
    r ≡ result_unless_refused (first_refusal (found.fault ∷ a ∷ b ∷ d ∷ e ∷ [])) p → IsChecksResult h (ops.Mkdir bytes) (λ path. path ≡ path_or_root bytes) r tree
mkdir_checked h bytes p found tree len other long absent over lack a b d e r works writable is asked f len_is long_is a_is absent_is b_is other_is over_is d_is lack_is e_is r_is =
    decided h (ops.Mkdir bytes) (λ path. path ≡ path_or_root bytes) p _ tree r asked (mkdir_late h bytes p works writable is)
    (mkdir_refused h bytes p found (sym works) (sym writable) (sym is) f ∙ ap first_refusal (sym lists))
    (λ none. ap (λ z. unwrap_or z []) is) r_is
  where
    same : tree_summary tree ≡ tree_summary h.tree
    same = ap tree_summary asked.same

    lists : (found.fault ∷ a ∷ b ∷ d ∷ e ∷ []) ≡ (found.fault ∷ refuse_if (has_long_name (tree_summary h.tree) p) ops.NameTooLong ∷ refuse_if (not (is_absent found.node)) ops.Exist
        ∷ refuse_if (exceeds_half_pair (tree_summary h.tree) (last_name p) []) ops.EntryFull ∷ refuse_if (lacks_room (tree_summary h.tree) h.files 4) ops.NoSpace ∷ [])
    lists = both refl (both (when ops.NameTooLong a_is (long_is ∙ ap₂ (λ (around : DiskSummary) n. nat_lt (profile_name_max around.profile) n) same len_is)) (both (when ops.Exist b_is (ap not absent_is))
        (both (when ops.EntryFull d_is (over_is (last_name p) (sym other_is) ∙ ap (λ around. exceeds_half_pair around (last_name p) []) same))
        (both (when ops.NoSpace e_is (lack_is ∙ ap (λ around. lacks_room around h.files 4) same)) refl))))

-- ---- what no check refuses

pub neither : (r s : Option Refusal) → option_or r s ≡ None → (r ≡ None) × (s ≡ None)
neither None s e = (refl, e)
neither (Some x) s e = absurd (let k : Some x ≡ None = e in cc)

pub unrefused : (b : Bool) (error : Refusal) → refuse_if b error ≡ None → b ≡ false
unrefused false error e = refl
unrefused true error e = absurd (let k : Some error ≡ None = e in cc)

pub negated : (b : Bool) → not b ≡ false → b ≡ true
negated true e = refl
negated false e = absurd (cc)

-- an operation that checks first whether the image may be written
pub passed_writable : (h : SessionView) (op : Operation) (rest : Option Refusal) → operation_refusal (tree_summary h.tree) (viewed_session h) op ≡ option_or (refuse_if (not h.tree.writable) ops.ReadOnly) rest → refusal_by_checks h op ≡ None → h.tree.writable ≡ true
passed_writable h op rest is e = negated h.tree.writable (unrefused (not h.tree.writable) ops.ReadOnly (neither _ rest (sym is ∙ not_refused h op e)).0)

pub room_left : (n m k f l : ℕ) → f ≤ k → nat_lt n (m + k + l) ≡ false → m + f + l ≤ n
room_left n m k f l few e = grind (arith, nat_tests)

-- enough blocks are free besides the reserved ones
pub mkdir_space : (h : SessionView) (bytes : List ℕ) → refusal_by_checks h (ops.Mkdir bytes) ≡ None → lacks_room (tree_summary h.tree) h.files 4 ≡ false
mkdir_space h bytes e =
    let a = neither (refuse_if (not h.tree.writable) ops.ReadOnly) _ (not_refused h (ops.Mkdir bytes) e) in
    let b = neither (refuse_if (is_none (parse_path bytes)) ops.Invalid) _ a.1 in
    let c = neither (parents_refusal (visible_tree h.tree) [] (path_or_root bytes)) _ b.1 in
    let d = neither (refuse_if (has_long_name (tree_summary h.tree) (path_or_root bytes)) ops.NameTooLong) _ c.1 in
    let i = neither (refuse_if (is_some (visible_tree h.tree (path_or_root bytes))) ops.Exist) _ d.1 in
    let j = neither (refuse_if (exceeds_half_pair (tree_summary h.tree) (last_name (path_or_root bytes)) []) ops.EntryFull) _ i.1 in
    let k = neither (refuse_if (lacks_room (tree_summary h.tree) h.files 4) ops.NoSpace) None j.1 in
    unrefused (lacks_room (tree_summary h.tree) h.files 4) ops.NoSpace k.0

mkdir_passed : (h : SessionView) (bytes : List ℕ) → in_flight_count h.tree.map ≤ reserved_for_writers h.tree.disk.profile h.tree.disk.block_size h.files → refusal_by_checks h (ops.Mkdir bytes) ≡ None → CanMakeDirectory h.tree (path_or_root bytes)
mkdir_passed h bytes flight e =
    let a = neither _ _ (not_refused h (ops.Mkdir bytes) e) in
    let b = neither _ _ a.1 in
    let c = neither _ _ b.1 in
    let d = neither _ _ c.1 in
    let i = neither _ _ d.1 in
    let j = neither _ _ i.1 in
    record {
      works = not_failed h (ops.Mkdir bytes) e;
      writable = negated h.tree.writable (unrefused _ _ a.0);
      parents = c.0;
      name = unrefused _ _ d.0;
      nothing = unrefused _ _ i.0;
      fits = unrefused _ _ j.0;
      room = room_left (block_count h.tree.disk) (length (tree_summary h.tree).used) (reserved_for_writers h.tree.disk.profile h.tree.disk.block_size h.files) (in_flight_count h.tree.map) 4 flight (mkdir_space h bytes e);
    }

-- the directory can be made at the path that the checks let pass
pub mkdir_can : (h : SessionView) (bytes : List ℕ) (path : Path) (tree : TreeState) → (h.tree.failed ≡ false → in_flight_count h.tree.map ≤ reserved_for_writers h.tree.disk.profile h.tree.disk.block_size h.files) → IsChecksResult h (ops.Mkdir bytes) (λ p. p ≡ path_or_root bytes) (Ok path) tree → CanMakeDirectory tree path
mkdir_can h bytes path tree ready c =
    let can = mkdir_passed h bytes (ready (not_failed h (ops.Mkdir bytes) c.1)) c.1 in
    subst (λ t. CanMakeDirectory t path) (sym c.0.same) (subst (λ z. CanMakeDirectory (record h.tree { history = tree.history; cache = tree.cache }) z) (sym c.2)
    (record { works = can.works; writable = can.writable; parents = can.parents; name = can.name; nothing = can.nothing; fits = can.fits; room = can.room }))

-- ---- an open for reading

no_writing : (f : FlagsOfOpen) → f.write ≡ false → flags_allowed f ≡ true → (f.create ≡ false) × (f.exclusive ≡ false) × (f.truncate ≡ false)
no_writing f = go f.unknown f.write f.read f.create f.exclusive f.truncate f.append
  where
    go : (u w r c e t a : Bool) → w ≡ false → (not u && (if w then not r && (c || not e) else r && not (c || e || t || a))) ≡ true → (c ≡ false) × (e ≡ false) × (t ≡ false)
    go true w r c e t a h k = absurd (cc)
    go false true r c e t a h k = absurd (cc)
    go false false false c e t a h k = absurd (cc)
    go false false true true e t a h k = absurd (cc)
    go false false true false true t a h k = absurd (cc)
    go false false true false false true a h k = absurd (cc)
    go false false true false false false a h k = (refl, refl, refl)

abbrev is_busy : SessionView → Path → Bool
is_busy h p = list_any (λ w. same_path p w.path) (all_writers h.files) || nat_le 16 (length (all_readers h.files))

open_refused : (h : SessionView) (bytes : List ℕ) (p : Path) (flags : FlagsOfOpen) (found : FoundNode) → h.tree.failed ≡ false → parse_path bytes ≡ Some p → flags.write ≡ false → flags_allowed flags ≡ true → IsFoundNode (visible_tree h.tree) p found →
    refusal_by_checks h (ops.Open bytes flags) ≡ first_refusal (found.fault ∷ refuse_if (is_absent found.node) ops.NoEnt ∷ refuse_if (is_directory_node found.node) ops.IsDir ∷ refuse_if (is_busy h p) ops.Busy ∷ [])
open_refused h bytes p flags found works is write allowed f = go (is_none (visible_tree h.tree p)) refl
  where
    plain : (flags.create ≡ false) × (flags.exclusive ≡ false) × (flags.truncate ≡ false)
    plain = no_writing flags write allowed

    go : (b : Bool) → is_none (visible_tree h.tree p) ≡ b →
        refusal_by_checks h (ops.Open bytes flags) ≡ first_refusal (found.fault ∷ refuse_if (is_absent found.node) ops.NoEnt ∷ refuse_if (is_directory_node found.node) ops.IsDir ∷ refuse_if (is_busy h p) ops.Busy ∷ [])
    go true e = rw (works, allowed, write, is, f.parents, e, sym f.nothing ∙ e, plain.0) refl
    go false e = rw (works, allowed, write, is, f.parents, e, sym f.nothing ∙ e, there (visible_tree h.tree p) ∙ ap not e, plain.1, plain.2, f.directories) refl

pub open_checked : (h : SessionView) (bytes : List ℕ) (p : Path) (flags : FlagsOfOpen) (found : FoundNode) (tree : TreeState) (absent directory busy : Bool) (a b d : Option Refusal) (x : FileContents) (r : Result FileContents Error) →
    (is_file (visible_tree h.tree p) ≡ true → IsStorageAt h.tree.pairs p x) → false ≡ h.tree.failed → Some p ≡ parse_path bytes → flags.write ≡ false → true ≡ flags_allowed flags → OnlyReadsTree h.tree tree → IsFoundNode (visible_tree h.tree) p found →
    absent ≡ is_absent found.node → a ≡ refuse_if absent ops.NoEnt → directory ≡ is_directory_node found.node → b ≡ refuse_if directory ops.IsDir → busy ≡ is_busy h p → d ≡ refuse_if busy ops.Busy →
    r ≡ result_unless_refused (first_refusal (found.fault ∷ a ∷ b ∷ d ∷ [])) x →
    IsChecksResult h (ops.Open bytes flags) (IsReadableFile h.tree h.files bytes) r tree
open_checked h bytes p flags found tree absent directory busy a b d x r has works is write allowed asked f absent_is a_is directory_is b_is busy_is d_is r_is =
    decided h (ops.Open bytes flags) (IsReadableFile h.tree h.files bytes) x _ tree r asked (reader_late h bytes p flags works is write allowed)
    (open_refused h bytes p flags found (sym works) (sym is) write (sym allowed) f ∙ ap first_refusal (sym lists))
    readable r_is
  where
    lists : (found.fault ∷ a ∷ b ∷ d ∷ []) ≡ (found.fault ∷ refuse_if (is_absent found.node) ops.NoEnt ∷ refuse_if (is_directory_node found.node) ops.IsDir ∷ refuse_if (is_busy h p) ops.Busy ∷ [])
    lists = both refl (both (when ops.NoEnt a_is absent_is) (both (when ops.IsDir b_is directory_is) (both (when ops.Busy d_is busy_is) refl)))

    second : (x y : Bool) → (x || y) ≡ false → y ≡ false
    second true y e = absurd (cc)
    second false y e = e

    first : (x y : Bool) → (x || y) ≡ false → x ≡ false
    first true y e = absurd (cc)
    first false y e = refl

    is_a_file : (n : Node) → is_absent n ≡ false → is_directory_node n ≡ false → is_file_node n ≡ true
    is_a_file node.Nothing e k = absurd (cc)
    is_a_file (node.File size) e k = refl
    is_a_file node.Directory e k = absurd (cc)

    readable : first_refusal (found.fault ∷ a ∷ b ∷ d ∷ []) ≡ None → IsReadableFile h.tree h.files bytes x
    readable none =
        let k = neither found.fault (first_refusal (a ∷ b ∷ d ∷ [])) none in
        let l = neither a (first_refusal (b ∷ d ∷ [])) k.1 in
        let m = neither b (first_refusal (d ∷ [])) l.1 in
        let n = neither d None m.1 in
        let there = unrefused (is_absent found.node) ops.NoEnt (sym (when ops.NoEnt a_is absent_is) ∙ l.0) in
        let leaf = unrefused (is_directory_node found.node) ops.IsDir (sym (when ops.IsDir b_is directory_is) ∙ m.0) in
        let free = unrefused (is_busy h p) ops.Busy (sym (when ops.Busy d_is busy_is) ∙ n.0) in
        let path : p ≡ path_or_root bytes = ap (λ z. unwrap_or z []) is in
        record {
          readable = record {
            given = ap is_some (sym is);
            there = ap (λ q. is_none (visible_tree h.tree q)) (sym path) ∙ f.nothing ∙ there;
            few = second (list_any (λ w. same_path p w.path) (all_writers h.files)) (nat_le 16 (length (all_readers h.files))) free;
            apart = ap (λ q. list_any (λ w. same_path q w.path) (all_writers h.files)) (sym path) ∙ first (list_any (λ w. same_path p w.path) (all_writers h.files)) (nat_le 16 (length (all_readers h.files))) free;
          };
          contents = subst (λ q. IsStorageAt h.tree.pairs q x) path (has (f.files ∙ is_a_file found.node there leaf));
        }
