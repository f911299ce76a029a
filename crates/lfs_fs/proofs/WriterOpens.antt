-- The checks of an open for writing.
use Rattle.std.proofs.Common.{Err, subst, is_some, ℕ, ◌≡◌, ◌+◌, ◌*◌, Bool, true, false, not, List, [], ◌∷◌, Option, Some, None, Result, length, nat_lt, nat_le, ◌&&◌, ◌||◌, unwrap_or, is_none, refl, sym, ap, ◌∙◌, arith}
use Rattle.std.specs.Prelude.{if◌then◌else◌, IfSome, IsSome}
use Rattle.lfs_fs.proofs.Common.{FailsChecks, error_refusal, is_refusal, option_or, lt-ltb, ltb-true, is_directory, parents_refusal, reserved_for_writers, session_view, le-leb, block_count, inline_limit, profile_name_max, skip_list_block_count, file_bytes, last_name, same_path, FlagsOfOpen, Refusal, parse_path, first_refusal, flags_allowed, has_long_name, has_open_file, exceeds_half_pair, lacks_room, overfills_disk, refuse_if, all_writers, opened_writer, path_or_root, node_file_size, zero_gstate, pairs_gstate, Node, FileNode, DirectoryNode, Path, IsFoundNode, node_size_if_file, IsCreationResult, TreeState, OnlyReadsTree, tree_summary, kept_thread, visible_tree, IsChecksResult, SessionView, refusal_by_checks, RuntimeFiles, files_view, writers_among, result_unless_refused}
use Rattle.lfs_model.specs.declared.limits.Profile.{Profile}
use Rattle.lfs_model.specs.session.Operations as ops
use Rattle.lfs_device.specs.declared.error.Error.{Error}
use Rattle.lfs_lookup.specs.declared.found_entries.FoundNode.{FoundNode}
use Rattle.lfs_lookup.specs.declared.paths.PathLookup.{PathLookup}
use Rattle.lfs_fs.specs.SessionView.{IsCheckedWritableFile, PassesChecksBeforeEntry}
use Rattle.lfs_fs.proofs.OpenFiles.{writer_count}
use Rattle.lfs_fs.specs.declared.checks.WritableFile.{WritableFile}
use Rattle.lfs_fs.proofs.Late.{writer_late}
use Rattle.lfs_fs.proofs.RenameChecks.{alone}
use Rattle.lfs_fs.proofs.Checked.{both, decided, there, when}

-- ---- what a file that is opened to be written anew holds

sized : (n : Option Node) → unwrap_or (node_file_size n) 0 ≡ length (file_bytes n)
sized None = refl
sized (Some (FileNode attributes bytes)) = refl
sized (Some (DirectoryNode attributes names)) = refl

abbrev needs : Bool → ℕ
needs b = if b then 2 else 0

anew : (profile : Profile) (block_size all used : ℕ) (truncate : Bool) (xs : List ℕ) →
    (truncate && nat_lt all (used + needs (nat_lt 0 (length xs))))
    ≡ (truncate && nat_lt all (used + (if not (truncate && nat_lt 0 (length xs)) then 0
    else 2 + (if false then 2 else 1) * (if nat_le (length (if truncate then [] else xs)) (inline_limit profile block_size) then 0 else skip_list_block_count block_size (length (if truncate then [] else xs))))))
anew profile block_size all used false xs = refl
anew profile block_size all used true xs = go (nat_lt 0 (length xs))
  where
    go : (b : Bool) → nat_lt all (used + needs b) ≡ nat_lt all (used + (if not b then 0 else 2 + 1 * (if nat_le 0 (inline_limit profile block_size) then 0 else skip_list_block_count block_size 0)))
    go false = refl
    go true = ap (λ z. nat_lt all (used + (2 + 1 * (if z then 0 else skip_list_block_count block_size 0)))) (sym (le-leb 0 (inline_limit profile block_size) (omega arith)))

pub writes_anew : (h : SessionView) (p : Path) (flags : FlagsOfOpen) (size : Option ℕ) (b : Bool) → node_file_size (visible_tree h.tree p) ≡ size →
    b ≡ nat_lt (block_count h.tree.disk) (length (tree_summary h.tree).used + (if nat_lt 0 (unwrap_or size 0) then 2 else 0)) →
    (flags.truncate && b) ≡ (flags.truncate && overfills_disk (tree_summary h.tree) (opened_writer p flags (file_bytes (visible_tree h.tree p))))
writes_anew h p flags size b sizes is =
    ap (λ z. flags.truncate && z) (is ∙ ap (λ n. nat_lt (block_count h.tree.disk) (length (tree_summary h.tree).used + (if nat_lt 0 n then 2 else 0))) (ap (λ s. unwrap_or s 0) (sym sizes) ∙ sized (visible_tree h.tree p)))
    ∙ anew h.tree.disk.profile h.tree.disk.block_size (block_count h.tree.disk) (length (tree_summary h.tree).used) flags.truncate (file_bytes (visible_tree h.tree p))

-- ---- the checks in order

abbrev is_busy : SessionView → Path → Bool
is_busy h p = nat_lt 0 (length (all_writers h.files)) || has_open_file (same_path p) h.files

some_path : (o : Option Path) → is_some o ≡ true → (p : Path) × (o ≡ Some p)
some_path None e = absurd (cc)
some_path (Some p) e = (p, refl)

none_there : (n : Option Node) → is_none n ≡ true → n ≡ None
none_there None e = refl
none_there (Some n) e = absurd (cc)

busy_for : (t : TreeState) (fs : RuntimeFiles) (bytes : List ℕ) (b : Bool) → ((s : TreeState) → b ≡ (nat_lt 0 (length (writers_among fs)) || has_open_file (same_path (path_or_root bytes)) (files_view s fs))) → b ≡ is_busy (session_view t fs) (path_or_root bytes)
busy_for t fs bytes b h = h t ∙ ap (λ n. nat_lt 0 n || has_open_file (same_path (path_or_root bytes)) (files_view t fs)) (sym (writer_count t fs))

-- the path that was given
abbrev at_path : {p : Path} (bytes : List ℕ) → parse_path bytes ≡ Some p → path_or_root bytes ≡ p
at_path bytes given = ap (λ z. unwrap_or z []) given

-- ---- the path has no entry

absent_refused : (h : SessionView) (bytes : List ℕ) (p : Path) (flags : FlagsOfOpen) (create : Bool) → PassesChecksBeforeEntry h.tree bytes flags → parse_path bytes ≡ Some p → visible_tree h.tree p ≡ None → flags.create ≡ create →
    refusal_by_checks h (ops.Open bytes flags) ≡ first_refusal (refuse_if (create && has_long_name (tree_summary h.tree) p) ops.NameTooLong ∷ refuse_if (not create) ops.NoEnt ∷ refuse_if (is_busy h p) ops.Busy
    ∷ refuse_if (exceeds_half_pair (tree_summary h.tree) (last_name p) []) ops.EntryFull ∷ refuse_if (lacks_room (tree_summary h.tree) h.files 2) ops.NoSpace
    ∷ refuse_if (flags.truncate && overfills_disk (tree_summary h.tree) (opened_writer p flags [])) ops.NoSpace ∷ [])
absent_refused h bytes p flags create passes given none creates =
    rw (passes.works, passes.writable, given, passes.allowed, passes.write, subst (λ q. parents_refusal (visible_tree h.tree) [] q ≡ None) (at_path bytes given) passes.parents, none, creates) refl

-- if enough blocks are free to create the file, enough are free for its contents
room_for_both : (all used held more : ℕ) (truncate : Bool) →
    option_or (refuse_if (nat_lt all (used + held + 2)) ops.NoSpace) (option_or (refuse_if (truncate && nat_lt all (used + (if not (truncate && false) then 0 else more))) ops.NoSpace) None)
    ≡ option_or (refuse_if (nat_lt all (used + held + 2)) ops.NoSpace) None
room_for_both all used held more false = refl
room_for_both all used held more true = go (nat_lt all (used + held + 2)) (nat_lt all (used + 0)) (λ e. lt-ltb all (used + held + 2) (let k = ltb-true all (used + 0) e in omega (arith, k)))
  where
    go : (a b : Bool) → (b ≡ true → a ≡ true) → option_or (refuse_if a ops.NoSpace) (option_or (refuse_if b ops.NoSpace) None) ≡ option_or (refuse_if a ops.NoSpace) None
    go true b h = refl
    go false true h = absurd (let k = h refl in cc)
    go false false h = refl

pub not_created : (h : SessionView) (bytes : List ℕ) (flags : FlagsOfOpen) → PassesChecksBeforeEntry h.tree bytes flags → is_none (visible_tree h.tree (path_or_root bytes)) ≡ true → flags.create ≡ false → refusal_by_checks h (ops.Open bytes flags) ≡ Some ops.NoEnt
not_created h bytes flags passes none creates =
    let p = some_path (parse_path bytes) passes.given in
    absent_refused h bytes p.0 flags false passes p.1 (none_there (visible_tree h.tree p.0) (subst (λ q. is_none (visible_tree h.tree q) ≡ true) (at_path bytes p.1) none)) creates

created : (h : SessionView) (bytes : List ℕ) (p : Path) (flags : FlagsOfOpen) → PassesChecksBeforeEntry h.tree bytes flags → parse_path bytes ≡ Some p → visible_tree h.tree p ≡ None → flags.create ≡ true →
    refusal_by_checks h (ops.Open bytes flags) ≡ first_refusal (refuse_if (has_long_name (tree_summary h.tree) p) ops.NameTooLong ∷ refuse_if (is_busy h p) ops.Busy
    ∷ refuse_if (exceeds_half_pair (tree_summary h.tree) (last_name p) []) ops.EntryFull ∷ refuse_if (lacks_room (tree_summary h.tree) h.files 2) ops.NoSpace ∷ [])
created h bytes p flags passes given none creates =
    absent_refused h bytes p flags true passes given none creates
    ∙ ap (λ z. option_or (refuse_if (has_long_name (tree_summary h.tree) p) ops.NameTooLong) (option_or (refuse_if (is_busy h p) ops.Busy) (option_or (refuse_if (exceeds_half_pair (tree_summary h.tree) (last_name p) []) ops.EntryFull) z)))
    (room_for_both (block_count h.tree.disk) (length (tree_summary h.tree).used) (reserved_for_writers h.tree.disk.profile h.tree.disk.block_size h.files) _ flags.truncate)

pub creation_refused : (t : TreeState) (fs : RuntimeFiles) (bytes : List ℕ) (flags : FlagsOfOpen) (len : ℕ) (long busy over lack : Bool) (r1 r2 r3 r4 : Option Refusal) → PassesChecksBeforeEntry t bytes flags → is_none (visible_tree t (path_or_root bytes)) ≡ true → flags.create ≡ true →
    length (last_name (path_or_root bytes)) ≡ len → long ≡ nat_lt (profile_name_max t.disk.profile) len → r1 ≡ refuse_if long ops.NameTooLong →
    ((s : TreeState) → busy ≡ (nat_lt 0 (length (writers_among fs)) || has_open_file (same_path (path_or_root bytes)) (files_view s fs))) → r2 ≡ refuse_if busy ops.Busy →
    ((name : List ℕ) → length name ≡ len → over ≡ exceeds_half_pair (tree_summary t) name []) → r3 ≡ refuse_if over ops.EntryFull → lack ≡ lacks_room (tree_summary t) (files_view t fs) 2 → r4 ≡ refuse_if lack ops.NoSpace →
    first_refusal (r1 ∷ r2 ∷ r3 ∷ r4 ∷ []) ≡ refusal_by_checks (session_view t fs) (ops.Open bytes flags)
creation_refused t fs bytes flags len long busy over lack r1 r2 r3 r4 passes none creates len_is long_is r1_is busy_is r2_is over_is r3_is lack_is r4_is =
    ap first_refusal lists
    ∙ sym (subst (λ q. refusal_by_checks (session_view t fs) (ops.Open bytes flags) ≡ first_refusal (refuse_if (has_long_name (tree_summary t) q) ops.NameTooLong ∷ refuse_if (is_busy (session_view t fs) q) ops.Busy
    ∷ refuse_if (exceeds_half_pair (tree_summary t) (last_name q) []) ops.EntryFull ∷ refuse_if (lacks_room (tree_summary t) (files_view t fs) 2) ops.NoSpace ∷ [])) (sym (at_path bytes p.1))
    (created (session_view t fs) bytes p.0 flags passes p.1 (none_there (visible_tree t p.0) (subst (λ q. is_none (visible_tree t q) ≡ true) (at_path bytes p.1) none)) creates))
  where
    p : (q : Path) × (parse_path bytes ≡ Some q)
    p = some_path (parse_path bytes) passes.given

    lists : (r1 ∷ r2 ∷ r3 ∷ r4 ∷ []) ≡ (refuse_if (has_long_name (tree_summary t) (path_or_root bytes)) ops.NameTooLong ∷ refuse_if (is_busy (session_view t fs) (path_or_root bytes)) ops.Busy
        ∷ refuse_if (exceeds_half_pair (tree_summary t) (last_name (path_or_root bytes)) []) ops.EntryFull ∷ refuse_if (lacks_room (tree_summary t) (files_view t fs) 2) ops.NoSpace ∷ [])
    lists = both (when ops.NameTooLong r1_is (long_is ∙ ap (λ n. nat_lt (profile_name_max t.disk.profile) n) (sym len_is)))
        (both (when ops.Busy r2_is (busy_for t fs bytes busy busy_is)) (both (when ops.EntryFull r3_is (over_is (last_name (path_or_root bytes)) len_is)) (both (when ops.NoSpace r4_is lack_is) refl)))

-- ---- the path has an entry

there_refused : (h : SessionView) (bytes : List ℕ) (p : Path) (flags : FlagsOfOpen) → PassesChecksBeforeEntry h.tree bytes flags → parse_path bytes ≡ Some p → is_none (visible_tree h.tree p) ≡ false →
    refusal_by_checks h (ops.Open bytes flags) ≡ first_refusal (refuse_if flags.exclusive ops.Exist ∷ refuse_if (is_directory (visible_tree h.tree p)) ops.IsDir ∷ refuse_if (is_busy h p) ops.Busy
    ∷ refuse_if (flags.truncate && overfills_disk (tree_summary h.tree) (opened_writer p flags (file_bytes (visible_tree h.tree p)))) ops.NoSpace ∷ [])
there_refused h bytes p flags passes given there_is =
    rw (passes.works, passes.writable, given, passes.allowed, passes.write, subst (λ q. parents_refusal (visible_tree h.tree) [] q ≡ None) (at_path bytes given) passes.parents, there_is, there (visible_tree h.tree p) ∙ ap not there_is) refl

pub reopening_refused : (t : TreeState) (fs : RuntimeFiles) (bytes : List ℕ) (flags : FlagsOfOpen) (size : Option ℕ) (directory busy full both_true : Bool) (r1 r2 r3 r4 : Option Refusal) → PassesChecksBeforeEntry t bytes flags → is_none (visible_tree t (path_or_root bytes)) ≡ false →
    r1 ≡ refuse_if flags.exclusive ops.Exist → directory ≡ is_directory (visible_tree t (path_or_root bytes)) → r2 ≡ refuse_if directory ops.IsDir → ((s : TreeState) → busy ≡ (nat_lt 0 (length (writers_among fs)) || has_open_file (same_path (path_or_root bytes)) (files_view s fs))) → r3 ≡ refuse_if busy ops.Busy →
    node_file_size (visible_tree t (path_or_root bytes)) ≡ size → full ≡ nat_lt (block_count t.disk) (length (tree_summary t).used + (if nat_lt 0 (unwrap_or size 0) then 2 else 0)) → both_true ≡ (flags.truncate && full) → r4 ≡ refuse_if both_true ops.NoSpace →
    first_refusal (r1 ∷ r2 ∷ r3 ∷ r4 ∷ []) ≡ refusal_by_checks (session_view t fs) (ops.Open bytes flags)
reopening_refused t fs bytes flags size directory busy full both_true r1 r2 r3 r4 passes there_is r1_is directory_is r2_is busy_is r3_is sizes full_is both_is r4_is =
    ap first_refusal lists
    ∙ sym (subst (λ q. refusal_by_checks (session_view t fs) (ops.Open bytes flags) ≡ first_refusal (refuse_if flags.exclusive ops.Exist ∷ refuse_if (is_directory (visible_tree t q)) ops.IsDir ∷ refuse_if (is_busy (session_view t fs) q) ops.Busy
    ∷ refuse_if (flags.truncate && overfills_disk (tree_summary t) (opened_writer q flags (file_bytes (visible_tree t q)))) ops.NoSpace ∷ [])) (sym (at_path bytes p.1))
    (there_refused (session_view t fs) bytes p.0 flags passes p.1 (subst (λ q. is_none (visible_tree t q) ≡ false) (at_path bytes p.1) there_is)))
  where
    p : (q : Path) × (parse_path bytes ≡ Some q)
    p = some_path (parse_path bytes) passes.given

    lists : (r1 ∷ r2 ∷ r3 ∷ r4 ∷ []) ≡ (refuse_if flags.exclusive ops.Exist ∷ refuse_if (is_directory (visible_tree t (path_or_root bytes))) ops.IsDir ∷ refuse_if (is_busy (session_view t fs) (path_or_root bytes)) ops.Busy
        ∷ refuse_if (flags.truncate && overfills_disk (tree_summary t) (opened_writer (path_or_root bytes) flags (file_bytes (visible_tree t (path_or_root bytes))))) ops.NoSpace ∷ [])
    lists = both r1_is (both (when ops.IsDir r2_is directory_is) (both (when ops.Busy r3_is (busy_for t fs bytes busy busy_is))
        (both (when ops.NoSpace r4_is (both_is ∙ writes_anew (session_view t fs) (path_or_root bytes) flags size full sizes full_is)) refl)))

-- ---- the parents come first

pub parents_refuse : (h : SessionView) (bytes : List ℕ) (p : Path) (flags : FlagsOfOpen) (fault : Refusal) → h.tree.failed ≡ false → h.tree.writable ≡ true → parse_path bytes ≡ Some p → flags.write ≡ true → flags_allowed flags ≡ true → parents_refusal (visible_tree h.tree) [] p ≡ Some fault →
    refusal_by_checks h (ops.Open bytes flags) ≡ Some fault
parents_refuse h bytes p flags fault works writable given write allowed parents = rw (works, writable, given, allowed, write, parents) refl

-- a parent refuses it
pub parents_checked : (h : SessionView) (bytes : List ℕ) (p : Path) (flags : FlagsOfOpen) (found : FoundNode) (e : Error) (fault : Refusal) (tree : TreeState) → false ≡ h.tree.failed → true ≡ h.tree.writable → Some p ≡ parse_path bytes → flags.write ≡ true → true ≡ flags_allowed flags →
    OnlyReadsTree h.tree tree → IsFoundNode (visible_tree h.tree) p found → found.fault ≡ Some fault → error_refusal e ≡ fault → is_refusal e ≡ true → IsChecksResult h (ops.Open bytes flags) (IsCheckedWritableFile (visible_tree h.tree) tree bytes) (Err e) tree
parents_checked h bytes p flags found e fault tree works writable is write allowed asked f faulty told refuses =
    subst (λ b. FailsChecks b h (ops.Open bytes flags) e tree) (sym refuses)
    (asked, refused, λ once. absurd (let k = sym (writer_late h bytes p flags works writable is write allowed _ refused) ∙ once in cc))
  where
    refused : refusal_by_checks h (ops.Open bytes flags) ≡ Some (error_refusal e)
    refused = parents_refuse h bytes p flags fault (sym works) (sym writable) (sym is) write (sym allowed) (f.parents ∙ faulty) ∙ ap (λ z. Some z) (sym told)

-- none does
pub passes_first : (old new : TreeState) (bytes : List ℕ) (p : Path) (flags : FlagsOfOpen) (found : FoundNode) → false ≡ old.failed → true ≡ old.writable → Some p ≡ parse_path bytes → flags.write ≡ true → true ≡ flags_allowed flags →
    OnlyReadsTree old new → IsFoundNode (visible_tree old) p found → found.fault ≡ None → PassesChecksBeforeEntry new bytes flags
passes_first old new bytes p flags found works writable is write allowed asked f none = subst (λ t. PassesChecksBeforeEntry t bytes flags) (sym asked.same) (record {
  works = sym works;
  writable = sym writable;
  given = ap is_some (sym is);
  write = write;
  allowed = sym allowed;
  parents = subst (λ q. parents_refusal (visible_tree old) [] q ≡ None) (ap (λ z. unwrap_or z []) is) (f.parents ∙ none);
})

pub writer_checked : (t tree : TreeState) (fs : RuntimeFiles) (bytes : List ℕ) (p : Path) (flags : FlagsOfOpen) (found : FoundNode) (size : Option ℕ) (target : Option PathLookup) (refusal : Option Refusal) (r : Result WritableFile Error) →
    false ≡ t.failed → true ≡ t.writable → Some p ≡ parse_path bytes → flags.write ≡ true → true ≡ flags_allowed flags → OnlyReadsTree t tree → IsFoundNode (visible_tree t) p found → refusal ≡ refusal_by_checks (session_view tree fs) (ops.Open bytes flags) →
    size ≡ node_size_if_file found.node → IfSome target (IsCreationResult (kept_thread tree) p) → (pairs_gstate tree.pairs ≡ zero_gstate → IsSome target) → r ≡ result_unless_refused (first_refusal (refusal ∷ [])) (record { path = p; size = size; target = target }) →
    IsChecksResult (session_view t fs) (ops.Open bytes flags) (IsCheckedWritableFile (visible_tree t) tree bytes) r tree
writer_checked t tree fs bytes p flags found size target refusal r works writable is write allowed asked f refusal_is size_is target_is handed_on r_is =
    decided (session_view t fs) (ops.Open bytes flags) (IsCheckedWritableFile (visible_tree t) tree bytes) (record { path = p; size = size; target = target }) _ tree r asked (writer_late (session_view t fs) bytes p flags works writable is write allowed)
    (sym (ap (λ z. refusal_by_checks (session_view z fs) (ops.Open bytes flags)) asked.same) ∙ sym refusal_is ∙ sym (alone refusal))
    (λ none. record { path = ap (λ z. unwrap_or z []) is; size = f.sizes ∙ sym size_is; target = target_is; handed_on = handed_on }) r_is
