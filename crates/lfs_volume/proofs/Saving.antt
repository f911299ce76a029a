-- The calls of a session that store a file.
use Rattle.std.proofs.Common.{inl, inr, ℕ, ◌≡◌, ◌+◌, ◌-◌, ◌*◌, ◌<◌, ◌≤◌, ◌&&◌, nat_lt, eqb, Bool, true, false, not, cond, List, [], ◌∷◌, ◌++◌, length, take, drop, replicate, Option, Some, None, Result, Ok, Err, refl, sym, ap, ap₂, subst, ◌∙◌, append_assoc, arith, unwrap_or}
use Rattle.std.specs.Prelude.{◌⊎◌, nat_le, is_err, IfErr, IfOk, IsErrAnd}
use Rattle.std.specs.Option.{option_map}
use Rattle.std.proofs.lemmas.List.{length-take, length-drop, take_all, take-append-le, length-take-le}
use Rattle.std.proofs.lemmas.Bool.{le-ltb, leb-false, leb-true, lt-ltb, ne_eqb}
use Rattle.lfs_device.specs.declared.error.Error.{Error}
use Rattle.lfs_lookup.specs.RefusalErrors as refusals
use Rattle.lfs_model.specs.format.Disk.{Disk, SameGeometry, block_count, disk_with_order, profile_file_max}
use Rattle.lfs_model.specs.format.Thread.{Pair}
use Rattle.lfs_model.specs.tree.Tree.{Path, Node, FileNode, DirectoryNode, Tree}
use Rattle.lfs_model.specs.tree.View.{DiskView, IsAccepted, disk_view}
use Rattle.lfs_model.specs.tree.Shown.{used_blocks}
use Rattle.lfs_model.specs.session.Operations as ops
use Rattle.lfs_model.specs.session.Operations.{FlagsOfOpen, Operation, Refusal, Reply, BadFile, Exist, Invalid, IsDir, NoEnt, NoSpace, NameTooLong, ReadOnly, TooBig, parse_path}
use Rattle.lfs_model.specs.session.Session.{DiskSummary, FileWriter, OpenFile, OpenFilesByNumber, Session, Writing, file_numbered, files_with_file, first_refusal, free_number_of, file_block_count, overfills_disk, refuse_if, reserved_for_writer}
use Rattle.lfs_model.specs.crash.Frame.{needs_session_alone}
use Rattle.lfs_model.specs.session.State.{IsDiskSummary, is_remount}
use Rattle.lfs_model.specs.session.Refusals.{operation_refusal, path_or_root}
use Rattle.lfs_model.specs.session.Effects.{node_with_bytes, operation_effect, tree_after_storing}
use Rattle.lfs_model.specs.session.Run.{IsStep, is_refusal, writes_or_truncates}
use Rattle.lfs_model.specs.session.TreeEdits.{file_bytes, same_path, tree_creating, tree_with_change}
use Rattle.lfs_model.specs.session.Writers.{truncated_writer, written_contents, writer_after_write, zero_padded}
use Rattle.lfs_model.proofs.OneView.{one_view}
use Rattle.lfs_model.proofs.Paths.{path_from_same}
use Rattle.lfs_tree.specs.TreeState.{visible_tree}
use Rattle.lfs_fs.specs.CallEffects.{IsCall}
use Rattle.lfs_fs.specs.FileAnswers.{IsFileQueryResult, file_size}
use Rattle.lfs_fs.specs.Replies.{reply_from}
use Rattle.lfs_fs.specs.SessionView.{SessionView, system_state, viewed_session}
use Rattle.lfs_volume.specs.declared.dirty_range.DirtyRange.{DirtyRange}
use Rattle.lfs_volume.specs.DirtyRanges.{DiffersOnlyWithinRange}
use Rattle.lfs_volume.specs.Opened.{HasNoOpenFiles, HasOneOpenFile, HasRoom, IsIdleSession, LacksFreeBlocks, session_with_file, blocks_for_save, writing_flags}
use Rattle.lfs_volume.specs.Saves.{CanSave, CanWriteDirtyRange, FailsSave, IsIdleIfRefused, IsOpenedForWriting, IsFreeBlocksAnswer, IsSaveRefused, IsSaved, IsWritten, RefusesSaveNoSpace, free_block_query_operations, dirty_bytes, open_and_seek_operations, path_bytes_of, saving_operations, writer_at, writing_operations}
use Rattle.lfs_volume.specs.SessionCalls.{AreTreePreservingCalls, EndsAtErrorOperation, IsAcceptedCall, error_result}
use Rattle.lfs_volume.proofs.DirtyRanges.{dirty_range_written, nothing_written}
use Rattle.lfs_volume.proofs.Steps.{IsDone, done, refused, refusal_step, never_refused, healthy_view, there_already}

-- ---- tests on numbers

less_test : (n m : ℕ) → n ≤ m → nat_lt m n ≡ false
less_test n m le = le-ltb m n le

more_test : (n m : ℕ) → n < m → nat_lt n m ≡ true
more_test n m lt = lt-ltb n m lt

other_test : (n m : ℕ) → n < m → eqb n m ≡ false
other_test n m lt = ne_eqb n m (λ e. omega arith)

-- ---- the session after a call

pub after_call : (old : SessionView) (op : Operation) (reply : Reply) (new : SessionView) (d : IsDone old op reply new) (s : Session) → viewed_session old ≡ s → viewed_session new ≡ (operation_effect d.around s op).1
after_call old op reply new d s is = sym (ap (λ (z : Reply × Session). z.1) d.is) ∙ ap (λ z. (operation_effect d.around z op).1) is

pub reply_of : (old : SessionView) (op : Operation) (reply : Reply) (new : SessionView) (d : IsDone old op reply new) (s : Session) → viewed_session old ≡ s → reply ≡ (operation_effect d.around s op).0
reply_of old op reply new d s is = sym (ap (λ (z : Reply × Session). z.0) d.is) ∙ ap (λ z. (operation_effect d.around z op).0) is

pub same_shown : (old new : SessionView) (s : Session) → viewed_session new ≡ s → visible_tree new.tree ≡ s.tree
same_shown old new s is = ap (λ (z : Session). z.tree) is

-- ---- calls that keep the tree

pub no_calls : (h : SessionView) → AreTreePreservingCalls h [] h
no_calls h = refl

pub one_quiet : (old new : SessionView) (op : Operation) → IsAcceptedCall old op new → visible_tree new.tree ≡ visible_tree old.tree → AreTreePreservingCalls old (op ∷ []) new
one_quiet old new op call same = (new, (call, same, refl))

pub quiet_joined : (a b c : SessionView) (xs ys : List Operation) → AreTreePreservingCalls a xs b → AreTreePreservingCalls b ys c → AreTreePreservingCalls a (xs ++ ys) c
quiet_joined a b c [] ys h k = subst (λ z. AreTreePreservingCalls z ys c) (sym h) k
quiet_joined a b c (x ∷ xs) ys (next, (call, same, rest)) k = (next, (call, same, quiet_joined next b c xs ys rest k))

-- ---- an open

-- the number of the one file that is opened
pub opened_first : (files : OpenFilesByNumber) (x : Option OpenFile) → HasNoOpenFiles files → (free_number_of files ≡ 0) × (files_with_file files (free_number_of files) x ≡ x ∷ [])
opened_first files x (inl e) = subst (λ fs. (free_number_of fs ≡ 0) × (files_with_file fs (free_number_of fs) x ≡ x ∷ [])) (sym e) (refl, refl)
opened_first files x (inr e) = subst (λ fs. (free_number_of fs ≡ 0) × (files_with_file fs (free_number_of fs) x ≡ x ∷ [])) (sym e) (refl, refl)

opened_view : (old : SessionView) (path : List ℕ) (fd : ℕ) (new : SessionView) → IsIdleSession old (visible_tree old.tree) → IsDone old (ops.Open path writing_flags) (ops.Opened fd) new →
    (fd ≡ 0) × HasOneOpenFile new (visible_tree old.tree) (Writing (writer_at (path_or_root path) (path_bytes_of old path) 0 false))
opened_view old path fd new idle d =
    let first = opened_first old.files (Some (Writing (writer_at (path_or_root path) (path_bytes_of old path) 0 false))) idle.files in
    let after = after_call old (ops.Open path writing_flags) (ops.Opened fd) new d (viewed_session old) refl in
    let there = there_already d.around (viewed_session old) path writing_flags refl d.passes in
    let number = ap number_of (reply_of old (ops.Open path writing_flags) (ops.Opened fd) new d (viewed_session old) refl) in (
      number ∙ first.0,
      record { works = d.works; is = after ∙ ap₂ build there first.1 },
    )
  where
    build : Bool → OpenFilesByNumber → Session
    build b fs = record { tree = cond b (tree_creating (path_or_root path) (FileNode [] []) (visible_tree old.tree)) (visible_tree old.tree); files = fs }

    number_of : Reply → ℕ
    number_of (ops.Opened n) = n
    number_of _ = 0

-- ---- a seek

sought_view : (old new : SessionView) (tree : Tree) (w : FileWriter) (from : ℕ) → HasOneOpenFile old tree (Writing w) → IsDone old (ops.Seek 0 from) ops.Done new → HasOneOpenFile new tree (Writing (record w { position = from }))
sought_view old new tree w from one d = record { works = d.works; is = after_call old (ops.Seek 0 from) ops.Done new d (session_with_file tree (Writing w)) one.is }

sought_passes : (old : SessionView) (tree : Tree) (f : OpenFile) (from : ℕ) → HasOneOpenFile old tree f → from ≤ profile_file_max old.tree.disk.profile → (around : DiskSummary) (ps : List Pair) → IsAccepted old.tree.disk ps → IsDiskSummary old.tree.disk ps around
    → operation_refusal around (viewed_session old) (ops.Seek 0 from) ≡ None
sought_passes old tree f from one small around ps ok sum =
    ap (λ s. operation_refusal around s (ops.Seek 0 from)) one.is
    ∙ ap (λ p. first_refusal (None ∷ refuse_if (nat_lt (profile_file_max p) from) Invalid ∷ [])) sum.profile
    ∙ ap (λ b. first_refusal (None ∷ refuse_if b Invalid ∷ [])) (less_test from (profile_file_max old.tree.disk.profile) small)

-- ---- a file that is opened, at a position

pub idle_stays : (old new : SessionView) → IsIdleSession old (visible_tree old.tree) → new.tree.failed ≡ false → viewed_session new ≡ viewed_session old → IsIdleSession new (visible_tree old.tree)
idle_stays old new idle works same = record { works = works; shows = ap (λ (z : Session). z.tree) same; files = subst HasNoOpenFiles (sym (ap (λ (z : Session). z.files) same)) idle.files }

accepted_open : (old h1 : SessionView) (path : List ℕ) (fd : ℕ) → IsIdleSession old (visible_tree old.tree) → IsCall old (ops.Open path writing_flags) (Ok (ops.Opened fd)) h1 →
    (fd ≡ 0) × HasOneOpenFile h1 (visible_tree old.tree) (Writing (writer_at (path_or_root path) (path_bytes_of old path) 0 false))
accepted_open old h1 path fd idle call = opened_view old path fd h1 idle (done old (ops.Open path writing_flags) (ops.Opened fd) h1 refl idle.works refl call.answers)

open_quiet : (old h1 : SessionView) (path : List ℕ) (fd : ℕ) → IsIdleSession old (visible_tree old.tree) → IsCall old (ops.Open path writing_flags) (Ok (ops.Opened fd)) h1 → AreTreePreservingCalls old (ops.Open path writing_flags ∷ []) h1
open_quiet old h1 path fd idle call =
    one_quiet old h1 (ops.Open path writing_flags) (record { reply = ops.Opened fd; accepted = refl; call = call; other = refl }) (same_shown old h1 _ (accepted_open old h1 path fd idle call).1.is)

pub opened_at : (old h1 new : SessionView) (path : List ℕ) (from fd : ℕ) → IsIdleSession old (visible_tree old.tree) → IsCall old (ops.Open path writing_flags) (Ok (ops.Opened fd)) h1 → IsCall h1 (ops.Seek fd from) (Ok ops.Done) new → IsOpenedForWriting old path from fd new
opened_at old h1 new path from fd idle call next =
    let one = accepted_open old h1 path fd idle call in
    let seek = subst (λ n. IsCall h1 (ops.Seek n from) (Ok ops.Done) new) one.0 next in
    let two = sought_view h1 new (visible_tree old.tree) (writer_at (path_or_root path) (path_bytes_of old path) 0 false) from one.1 (done h1 (ops.Seek 0 from) ops.Done new refl one.1.works refl seek.answers) in
    record {
      number = one.0;
      quiet = quiet_joined old h1 new (ops.Open path writing_flags ∷ []) (ops.Seek 0 from ∷ []) (open_quiet old h1 path fd idle call)
          (one_quiet h1 new (ops.Seek 0 from) (record { reply = ops.Done; accepted = refl; call = seek; other = refl }) (same_shown h1 new _ two.is ∙ sym (same_shown old h1 _ one.1.is)));
      opened = two;
    }

pub ends_at_open : (old new : SessionView) (path : List ℕ) (from : ℕ) (e : Error) → IsCall old (ops.Open path writing_flags) (error_result e) new → EndsAtErrorOperation e old (open_and_seek_operations path from) new
ends_at_open old new path from e call = record { before = []; next = ops.Open path writing_flags; others = ops.Seek 0 from ∷ []; are = refl; at = old; quiet = refl; ends = call }

pub idle_at_open : (old new : SessionView) (path : List ℕ) (e : Error) → IsIdleSession old (visible_tree old.tree) → IsCall old (ops.Open path writing_flags) (error_result e) new → IsIdleIfRefused e old new
idle_at_open old new path e idle call is =
    let r = refused old (ops.Open path writing_flags) (refusals.error_refusal e) new refl idle.works (λ around. refl) (refusal_step old (ops.Open path writing_flags) e new is call.answers) in
    idle_stays old new idle r.works r.stays

pub ends_at_seek : (old h1 new : SessionView) (path : List ℕ) (from fd : ℕ) (e : Error) → IsIdleSession old (visible_tree old.tree) → IsCall old (ops.Open path writing_flags) (Ok (ops.Opened fd)) h1 → IsCall h1 (ops.Seek fd from) (error_result e) new →
    EndsAtErrorOperation e old (open_and_seek_operations path from) new
ends_at_seek old h1 new path from fd e idle call next =
    let one = accepted_open old h1 path fd idle call in
    record {
      before = ops.Open path writing_flags ∷ [];
      next = ops.Seek 0 from;
      others = [];
      are = refl;
      at = h1;
      quiet = open_quiet old h1 path fd idle call;
      ends = subst (λ n. IsCall h1 (ops.Seek n from) (error_result e) new) one.0 next;
    }

pub seek_not_refused : (old h1 new : SessionView) (path : List ℕ) (from fd : ℕ) (e : Error) → IsIdleSession old (visible_tree old.tree) → from ≤ profile_file_max old.tree.disk.profile → IsCall old (ops.Open path writing_flags) (Ok (ops.Opened fd)) h1 →
    IsCall h1 (ops.Seek fd from) (error_result e) new → refusals.is_refusal e ≡ true → ⊥
seek_not_refused old h1 new path from fd e idle small call next is =
    let one = accepted_open old h1 path fd idle call in
    let seek = subst (λ n. IsCall h1 (ops.Seek n from) (error_result e) new) one.0 next in
    let profile = call.answers.geometry.profile in
    never_refused h1 (ops.Seek 0 from) e new refl one.1.works (λ around. refl)
    (sought_passes h1 (visible_tree old.tree) (Writing (writer_at (path_or_root path) (path_bytes_of old path) 0 false)) from one.1 (subst (λ p. from ≤ profile_file_max p) (sym profile) small)) seek.answers is

-- ---- the size that the session gives

pub size_of_one : (h : SessionView) (tree : Tree) (w : FileWriter) (fd n : ℕ) → HasOneOpenFile h tree (Writing w) → fd ≡ 0 → IsFileQueryResult file_size h fd (Ok n) → n ≡ length w.contents
size_of_one h tree w fd n one zero answer =
    let files = ap (λ (z : Session). z.files) one.is in
    let e : option_map (file_size h) (Some (Writing w)) ≡ Some n = sym (ap₂ (λ fs k. option_map (file_size h) (file_numbered fs k)) files zero) ∙ answer.1 in
    sym (ap (λ (o : Option ℕ). unwrap_or o n) e)

pub sized : (h : SessionView) (tree : Tree) (w : FileWriter) (fd : ℕ) (e : Error) → HasOneOpenFile h tree (Writing w) → fd ≡ 0 → IsFileQueryResult file_size h fd (Err e) → ⊥
sized h tree w fd e one zero (inl (failed, is)) = let k : true ≡ false = sym failed ∙ one.works in absurd (cc)
sized h tree w fd e one zero (inr (works, none, is)) =
    let files = ap (λ (z : Session). z.files) one.is in
    let k : Some (Writing w) ≡ None = sym (ap₂ (λ fs n. file_numbered fs n) files zero) ∙ none in
    absurd (cc)

-- ---- room

reserved_is : (around : DiskSummary) (v : FileWriter) (m : ℕ) → v.dirty ≡ true → v.turned ≡ false → length v.contents ≡ m → reserved_for_writer around.profile around.block_size v ≡ 2 + file_block_count around.profile around.block_size m
reserved_is around v m dirty turned len =
    ap (λ b. cond (not b) 0 (2 + cond v.turned 2 1 * file_block_count around.profile around.block_size (length v.contents))) dirty
    ∙ ap (λ b. 2 + cond b 2 1 * file_block_count around.profile around.block_size (length v.contents)) turned
    ∙ ap (λ n. 2 + 1 * file_block_count around.profile around.block_size n) len
    ∙ once (file_block_count around.profile around.block_size m)
  where
    once : (x : ℕ) → 2 + 1 * x ≡ 2 + x
    once x = omega arith

-- a writer that isn't turned has the room
fits : (h : SessionView) (around : DiskSummary) (ps : List Pair) (v : FileWriter) (m : ℕ) → IsAccepted h.tree.disk ps → IsDiskSummary h.tree.disk ps around → HasRoom h (blocks_for_save h.tree.disk m) → v.dirty ≡ true → v.turned ≡ false → length v.contents ≡ m →
    overfills_disk around v ≡ false
fits h around ps v m ok sum room dirty turned len =
    let held = reserved_is around v m dirty turned len in
    let need : 2 + file_block_count around.profile around.block_size m ≡ blocks_for_save h.tree.disk m = ap₂ (λ p b. 2 + file_block_count p b m) sum.profile sum.block_size in
    let used : length around.used ≡ length (used_blocks h.tree.disk ps) = ap length sum.used in
    less_test (length around.used + reserved_for_writer around.profile around.block_size v) around.block_count
    (subst (λ n. length around.used + reserved_for_writer around.profile around.block_size v ≤ n) (sym sum.block_count)
    (subst (λ n. n ≤ block_count h.tree.disk) (sym (ap₂ (λ x y. x + y) used (held ∙ need))) (room ps ok)))

-- a cut or a write keeps it
pub room_stays : (old new : SessionView) (op : Operation) (reply : Reply) (n : ℕ) → is_remount op ≡ false → writes_or_truncates op ≡ true → is_refusal reply ≡ false → IsStep (system_state old) op reply (system_state new) → SameGeometry old.tree.disk new.tree.disk →
    IsDone old op reply new → old.tree.failed ≡ false → HasRoom old n → HasRoom new n
room_stays old new op reply n other writes accepted step geometry d works room qs ok =
    let effect = (step.effect_on_disk accepted (viewed_session old) (healthy_view old works) d.pairs qs d.accepted ok).effect in
    let shown = (effect.fills writes).1 (disk_view old.tree.disk d.pairs) (d.pairs, (d.accepted, refl)) in
    let same = one_view new.tree.disk (disk_view old.tree.disk d.pairs) (disk_view new.tree.disk qs) shown (qs, (ok, refl)) in
    let used : length (used_blocks old.tree.disk d.pairs) ≡ length (used_blocks new.tree.disk qs) = ap (λ (v : DiskView). length v.used) same in
    subst (λ m. length (used_blocks new.tree.disk qs) + n ≤ m) (sym geometry.count) (subst (λ m. m + n ≤ block_count old.tree.disk) used (room d.pairs d.accepted))

pub need_stays : (old new : SessionView) (n : ℕ) → SameGeometry old.tree.disk new.tree.disk → blocks_for_save new.tree.disk n ≡ blocks_for_save old.tree.disk n
need_stays old new n geometry = ap₂ (λ p b. 2 + file_block_count p b n) geometry.profile geometry.block_size

-- the count of used blocks tells it
pub used_is : (h new : SessionView) (n : ℕ) → h.tree.failed ≡ false → IsCall h ops.UsedCount (Ok (ops.Count n)) new → (ps : List Pair) → IsAccepted h.tree.disk ps → n ≡ length (used_blocks h.tree.disk ps)
used_is h new n works call ps ok =
    let d = done h ops.UsedCount (ops.Count n) new refl works refl call.answers in
    let same = one_view h.tree.disk (disk_view h.tree.disk d.pairs) (disk_view h.tree.disk ps) (d.pairs, (d.accepted, refl)) (ps, (ok, refl)) in
    ap count_of (reply_of h ops.UsedCount (ops.Count n) new d (viewed_session h) refl) ∙ ap length d.surrounds.used ∙ ap (λ (v : DiskView). length v.used) same
  where
    count_of : Reply → ℕ
    count_of (ops.Count k) = k
    count_of _ = 0

-- ---- a cut

cut_writer : (path : Path) (stored : List ℕ) (from n : ℕ) → n < length stored → truncated_writer (writer_at path stored from false) n ≡ writer_at path (take n stored) from true
cut_writer path stored from n less =
    let a = other_test n (length stored) less in
    let b = less_test n (length stored) (omega arith) in
    let e = take-append-le n stored (replicate (n - length stored) 0) (omega arith) in
    ap (λ z. cond z (writer_at path stored from false) (record { path = path; contents = take n (zero_padded n stored); position = from; append = false; dirty = true; turned = false; last_end = cond (nat_lt (length stored) n) (Some n) None })) a
    ∙ ap₂ (λ x z. record { path = path; contents = x; position = from; append = false; dirty = true; turned = false; last_end = cond z (Some n) None }) e b

pub cut_view : (old new : SessionView) (tree : Tree) (path : Path) (stored : List ℕ) (from n : ℕ) → HasOneOpenFile old tree (Writing (writer_at path stored from false)) → n < length stored → IsDone old (ops.Truncate 0 n) ops.Done new → HasOneOpenFile new tree (Writing (writer_at path (take n stored) from true))
cut_view old new tree path stored from n one less d = record {
  works = d.works;
  is = after_call old (ops.Truncate 0 n) ops.Done new d (session_with_file tree (Writing (writer_at path stored from false))) one.is ∙ ap (λ w. session_with_file tree (Writing w)) (cut_writer path stored from n less);
}

and_false : (b c : Bool) → c ≡ false → (b && c) ≡ false
and_false true c e = e
and_false false c e = refl

pub cut_passes : (old : SessionView) (tree : Tree) (path : Path) (stored : List ℕ) (from n : ℕ) → HasOneOpenFile old tree (Writing (writer_at path stored from false)) → n < length stored → n ≤ profile_file_max old.tree.disk.profile → HasRoom old (blocks_for_save old.tree.disk n) →
    (around : DiskSummary) (ps : List Pair) → IsAccepted old.tree.disk ps → IsDiskSummary old.tree.disk ps around → operation_refusal around (viewed_session old) (ops.Truncate 0 n) ≡ None
cut_passes old tree path stored from n one less small room around ps ok sum =
    let v = truncated_writer (writer_at path stored from false) n in
    let is = cut_writer path stored from n less in
    let room_is = fits old around ps v n ok sum room (ap (λ (w : FileWriter). w.dirty) is) (ap (λ (w : FileWriter). w.turned) is) (ap (λ (w : FileWriter). length w.contents) is ∙ length-take-le n stored (omega arith)) in
    let short : nat_lt (profile_file_max around.profile) n ≡ false = less_test n (profile_file_max around.profile) (subst (λ p. n ≤ profile_file_max p) (sym sum.profile) small) in
    ap (λ s. operation_refusal around s (ops.Truncate 0 n)) one.is
    ∙ ap₂ (λ b c. first_refusal (refuse_if b TooBig ∷ refuse_if c NoSpace ∷ [])) short (and_false (not (eqb n (length stored))) (overfills_disk around v) room_is)

-- ---- a write

pub write_passes : (old : SessionView) (tree : Tree) (path : Path) (contents part : List ℕ) (from n : ℕ) (dirty : Bool) → HasOneOpenFile old tree (Writing (writer_at path contents from dirty)) → (part ≡ [] → ⊥) ⊎ (part ≡ []) → from + length part ≤ n → n ≤ profile_file_max old.tree.disk.profile →
    length (written_contents contents from part) ≡ n → HasRoom old (blocks_for_save old.tree.disk n) → (around : DiskSummary) (ps : List Pair) → IsAccepted old.tree.disk ps → IsDiskSummary old.tree.disk ps around → operation_refusal around (viewed_session old) (ops.Write 0 part) ≡ None
write_passes old tree path contents [] from n dirty one some within small len room around ps ok sum = ap (λ s. operation_refusal around s (ops.Write 0 [])) one.is
write_passes old tree path contents (b ∷ part) from n dirty one some within small len room around ps ok sum =
    let v = writer_after_write (writer_at path contents from dirty) (b ∷ part) in
    let room_is = fits old around ps v n ok sum room refl refl len in
    let short : nat_lt (profile_file_max around.profile) (from + length (b ∷ part)) ≡ false = less_test (from + length (b ∷ part)) (profile_file_max around.profile) (subst (λ p. from + length (b ∷ part) ≤ profile_file_max p) (sym sum.profile) (omega arith)) in
    ap (λ s. operation_refusal around s (ops.Write 0 (b ∷ part))) one.is
    ∙ ap₂ (λ x y. first_refusal (refuse_if x TooBig ∷ refuse_if y NoSpace ∷ [])) (and_false (nat_lt 0 (length (b ∷ part))) _ short) (and_false (nat_lt 0 (length (b ∷ part))) _ room_is)

pub write_view : (old new : SessionView) (tree : Tree) (w : FileWriter) (part : List ℕ) (n : ℕ) → HasOneOpenFile old tree (Writing w) → IsDone old (ops.Write 0 part) (ops.Count n) new → HasOneOpenFile new tree (Writing (writer_after_write w part))
write_view old new tree w part n one d = record { works = d.works; is = after_call old (ops.Write 0 part) (ops.Count n) new d (session_with_file tree (Writing w)) one.is }

-- ---- a close

pub closed_view : (old new : SessionView) (tree : Tree) (w : FileWriter) → HasOneOpenFile old tree (Writing w) → IsDone old (ops.Close 0) ops.Done new → IsIdleSession new (tree_after_storing (Some (Writing w)) tree)
closed_view old new tree w one d =
    let after = after_call old (ops.Close 0) ops.Done new d (session_with_file tree (Writing w)) one.is in
    record { works = d.works; shows = ap (λ (z : Session). z.tree) after; files = inr (ap (λ (z : Session). z.files) after) }

pub close_passes : (old : SessionView) (tree : Tree) (f : OpenFile) → HasOneOpenFile old tree f → (around : DiskSummary) (ps : List Pair) → IsAccepted old.tree.disk ps → IsDiskSummary old.tree.disk ps around → operation_refusal around (viewed_session old) (ops.Close 0) ≡ None
close_passes old tree f one around ps ok sum = ap (λ s. operation_refusal around s (ops.Close 0)) one.is

-- what has the bytes already stays
same_stored : (tree : Tree) (q : Path) (bytes : List ℕ) → file_bytes (tree q) ≡ bytes → tree ≡ tree_with_change q (node_with_bytes bytes) tree
same_stored tree q bytes is = λ i p. at p i
  where
    unchanged : (o : Option Node) → file_bytes o ≡ bytes → o ≡ option_map (node_with_bytes bytes) o
    unchanged None e = refl
    unchanged (Some (FileNode attributes old)) e = ap (λ b. Some (FileNode attributes b)) e
    unchanged (Some (DirectoryNode attributes names)) e = refl

    at : (p : Path) → tree p ≡ tree_with_change q (node_with_bytes bytes) tree p
    at p = go (same_path q p) refl
      where
        go : (b : Bool) → same_path q p ≡ b → tree p ≡ cond b (option_map (node_with_bytes bytes) (tree p)) (tree p)
        go false e = refl
        go true e = unchanged (tree p) (ap (λ z. file_bytes (tree z)) (sym (path_from_same q p e)) ∙ is)

pub stored_tree : (tree : Tree) (q : Path) (w : FileWriter) (stored bytes : List ℕ) → w.path ≡ q → w.contents ≡ bytes → file_bytes (tree q) ≡ stored → (w.dirty ≡ true) ⊎ (stored ≡ bytes) → tree_after_storing (Some (Writing w)) tree ≡ tree_with_change q (node_with_bytes bytes) tree
stored_tree tree q w stored bytes at is was changes = go w.dirty refl changes
  where
    go : (b : Bool) → w.dirty ≡ b → (w.dirty ≡ true) ⊎ (stored ≡ bytes) → cond b (tree_with_change w.path (node_with_bytes w.contents) tree) tree ≡ tree_with_change q (node_with_bytes bytes) tree
    go true e c = ap₂ (λ p x. tree_with_change p (node_with_bytes x) tree) at is
    go false e (inl d) = let k : true ≡ false = sym d ∙ e in absurd (cc)
    go false e (inr same) = same_stored tree q bytes (was ∙ same)

-- ---- the dirty range is written

-- what the writer has before the write: the stored bytes, cut where that is needed
pub record IsCut (old : SessionView) (tree : Tree) (path : Path) (stored bytes : List ℕ) (from : ℕ) (h : SessionView) : Type 0 where
  pub quiet : AreTreePreservingCalls old (cond (nat_lt (length bytes) (length stored)) (ops.Truncate 0 (length bytes) ∷ []) []) h
  pub dirty : Bool
  pub opened : HasOneOpenFile h tree (Writing (writer_at path (take (length bytes) stored) from dirty))
  pub changes : (dirty ≡ true) ⊎ (take (length bytes) stored ≡ stored)
  pub room : HasRoom h (blocks_for_save h.tree.disk (length bytes))
  pub small : length bytes ≤ profile_file_max h.tree.disk.profile

pub not_cut : (old : SessionView) (tree : Tree) (path : Path) (stored bytes : List ℕ) (dirty_range : DirtyRange) → CanWriteDirtyRange old tree path stored bytes dirty_range → length stored ≤ length bytes → IsCut old tree path stored bytes dirty_range.from old
not_cut old tree path stored bytes dirty_range can le =
    let same = take_all (length bytes) stored le in
    record {
      quiet = subst (λ b. AreTreePreservingCalls old (cond b (ops.Truncate 0 (length bytes) ∷ []) []) old) (sym (less_test (length stored) (length bytes) le)) refl;
      dirty = false;
      opened = subst (λ x. HasOneOpenFile old tree (Writing (writer_at path x dirty_range.from false))) (sym same) can.opened;
      changes = inr same;
      room = can.room;
      small = can.small;
    }

is_cut : (old new : SessionView) (tree : Tree) (path : Path) (stored bytes : List ℕ) (dirty_range : DirtyRange) → CanWriteDirtyRange old tree path stored bytes dirty_range → length bytes < length stored → IsCall old (ops.Truncate 0 (length bytes)) (Ok ops.Done) new → IsCut old tree path stored bytes dirty_range.from new
is_cut old new tree path stored bytes dirty_range can less call =
    let d = done old (ops.Truncate 0 (length bytes)) ops.Done new refl can.opened.works refl call.answers in
    let view = cut_view old new tree path stored dirty_range.from (length bytes) can.opened less d in
    let room = room_stays old new (ops.Truncate 0 (length bytes)) ops.Done (blocks_for_save old.tree.disk (length bytes)) refl refl refl call.answers call.answers.geometry d can.opened.works can.room in
    record {
      quiet = subst (λ b. AreTreePreservingCalls old (cond b (ops.Truncate 0 (length bytes) ∷ []) []) new) (sym (more_test (length bytes) (length stored) less))
          (one_quiet old new (ops.Truncate 0 (length bytes)) (record { reply = ops.Done; accepted = refl; call = call; other = refl }) (same_shown old new _ view.is ∙ sym (same_shown old old _ can.opened.is)));
      dirty = true;
      opened = view;
      changes = inl refl;
      room = subst (HasRoom new) (sym (need_stays old new (length bytes) call.answers.geometry)) room;
      small = subst (λ p. length bytes ≤ profile_file_max p) (sym call.answers.geometry.profile) can.small;
    }

pub cut_by : (old new : SessionView) (tree : Tree) (path : Path) (stored bytes : List ℕ) (dirty_range : DirtyRange) (fd n k : ℕ) → CanWriteDirtyRange old tree path stored bytes dirty_range → fd ≡ 0 → n ≡ length bytes → k ≡ length stored → n < k → IsCall old (ops.Truncate fd n) (Ok ops.Done) new → IsCut old tree path stored bytes dirty_range.from new
cut_by old new tree path stored bytes dirty_range fd n k can zero is was less call =
    is_cut old new tree path stored bytes dirty_range can (omega arith) (subst (λ z. IsCall old (ops.Truncate 0 z) (Ok ops.Done) new) is (subst (λ z. IsCall old (ops.Truncate z n) (Ok ops.Done) new) zero call))

pub cut_ends : (old new : SessionView) (tree : Tree) (path : Path) (stored bytes : List ℕ) (dirty_range : DirtyRange) (fd n k : ℕ) (e : Error) → CanWriteDirtyRange old tree path stored bytes dirty_range → fd ≡ 0 → n ≡ length bytes → k ≡ length stored → n < k → IsCall old (ops.Truncate fd n) (error_result e) new →
    EndsAtErrorOperation e old (writing_operations (length stored) bytes dirty_range) new × (refusals.is_refusal e ≡ true → ⊥)
cut_ends old new tree path stored bytes dirty_range fd n k e can zero is was less given =
    let call = subst (λ z. IsCall old (ops.Truncate 0 z) (error_result e) new) is (subst (λ z. IsCall old (ops.Truncate z n) (error_result e) new) zero given) in
    let lt : length bytes < length stored = omega arith in (
      record {
        before = [];
        next = ops.Truncate 0 (length bytes);
        others = ops.Write 0 (dirty_bytes dirty_range bytes) ∷ [];
        are = ap (λ b. cond b (ops.Truncate 0 (length bytes) ∷ []) [] ++ ops.Write 0 (dirty_bytes dirty_range bytes) ∷ []) (more_test (length bytes) (length stored) lt);
        at = old;
        quiet = refl;
        ends = call;
      },
      (λ refusal. never_refused old (ops.Truncate 0 (length bytes)) e new refl can.opened.works (λ around. refl) (cut_passes old tree path stored dirty_range.from (length bytes) can.opened lt can.small can.room) call.answers refusal),
    )

part_within : (bytes : List ℕ) (dirty_range : DirtyRange) → dirty_range.from ≤ dirty_range.end → dirty_range.end ≤ length bytes → dirty_range.from + length (dirty_bytes dirty_range bytes) ≡ dirty_range.end
part_within bytes dirty_range order inside = let a = length-take (dirty_range.end - dirty_range.from) (drop dirty_range.from bytes) in let b = length-drop dirty_range.from bytes in omega arith

-- no bytes, or some
pub nothing_or_some : (part : List ℕ) → (part ≡ [] → ⊥) ⊎ (part ≡ [])
nothing_or_some [] = inr refl
nothing_or_some (b ∷ part) = inl (λ e. absurd (cc))

after_write : (path : Path) (stored bytes part : List ℕ) (dirty_range : DirtyRange) (dirty : Bool) → DiffersOnlyWithinRange stored bytes dirty_range → part ≡ dirty_bytes dirty_range bytes → (dirty ≡ true) ⊎ (take (length bytes) stored ≡ stored) →
    let w = writer_after_write (writer_at path (take (length bytes) stored) dirty_range.from dirty) part in (w.path ≡ path) × (w.contents ≡ bytes) × ((w.dirty ≡ true) ⊎ (stored ≡ bytes))
after_write path stored bytes [] dirty_range dirty differs is changes =
    let same = nothing_written stored bytes dirty_range differs (sym is) in
    (refl, same, more changes same)
  where
    more : (dirty ≡ true) ⊎ (take (length bytes) stored ≡ stored) → take (length bytes) stored ≡ bytes → (dirty ≡ true) ⊎ (stored ≡ bytes)
    more (inl d) e = inl d
    more (inr s) e = inr (sym s ∙ e)
after_write path stored bytes (b ∷ part) dirty_range dirty differs is changes =
    (refl, ap (written_contents (take (length bytes) stored) dirty_range.from) is ∙ dirty_range_written stored bytes dirty_range differs, inl refl)

pub dirty_range_is_written : (old at new : SessionView) (tree : Tree) (path : Path) (stored bytes part : List ℕ) (dirty_range : DirtyRange) (n : ℕ) → IsCut old tree path stored bytes dirty_range.from at → DiffersOnlyWithinRange stored bytes dirty_range → part ≡ dirty_bytes dirty_range bytes → IsCall at (ops.Write 0 part) (Ok (ops.Count n)) new →
    IsWritten old tree path stored bytes dirty_range new
dirty_range_is_written old at new tree path stored bytes part dirty_range n cut differs is call =
    let w = writer_at path (take (length bytes) stored) dirty_range.from cut.dirty in
    let d = done at (ops.Write 0 part) (ops.Count n) new refl cut.opened.works refl call.answers in
    let view = write_view at new tree w part n cut.opened d in
    let after = after_write path stored bytes part dirty_range cut.dirty differs is cut.changes in
    record {
      quiet = quiet_joined old at new (cond (nat_lt (length bytes) (length stored)) (ops.Truncate 0 (length bytes) ∷ []) []) (ops.Write 0 (dirty_bytes dirty_range bytes) ∷ []) cut.quiet
          (subst (λ x. AreTreePreservingCalls at (ops.Write 0 x ∷ []) new) is (one_quiet at new (ops.Write 0 part) (record { reply = ops.Count n; accepted = refl; call = call; other = refl }) (same_shown at new _ view.is ∙ sym (same_shown at at _ cut.opened.is))));
      writer = writer_after_write w part;
      written = view;
      at = after.0;
      contents = after.1;
      changes = after.2;
    }

pub write_ends : (old at new : SessionView) (tree : Tree) (path : Path) (stored bytes part : List ℕ) (dirty_range : DirtyRange) (e : Error) → IsCut old tree path stored bytes dirty_range.from at → DiffersOnlyWithinRange stored bytes dirty_range → part ≡ dirty_bytes dirty_range bytes → IsCall at (ops.Write 0 part) (error_result e) new →
    EndsAtErrorOperation e old (writing_operations (length stored) bytes dirty_range) new × (refusals.is_refusal e ≡ true → ⊥)
write_ends old at new tree path stored bytes part dirty_range e cut differs is call = (
  record {
    before = cond (nat_lt (length bytes) (length stored)) (ops.Truncate 0 (length bytes) ∷ []) [];
    next = ops.Write 0 part;
    others = [];
    are = ap (λ x. cond (nat_lt (length bytes) (length stored)) (ops.Truncate 0 (length bytes) ∷ []) [] ++ ops.Write 0 x ∷ []) (sym is);
    at = at;
    quiet = cut.quiet;
    ends = call;
  },
  (λ refusal. never_refused at (ops.Write 0 part) e new refl cut.opened.works (λ around. refl)
      (write_passes at tree path (take (length bytes) stored) part dirty_range.from (length bytes) cut.dirty cut.opened (nothing_or_some part) within cut.small len cut.room) call.answers refusal),
)
  where
    within : dirty_range.from + length part ≤ length bytes
    within = let a = part_within bytes dirty_range differs.order differs.inside in let b = differs.inside in let c = ap length is in omega arith

    len : length (written_contents (take (length bytes) stored) dirty_range.from part) ≡ length bytes
    len = ap (λ x. length (written_contents (take (length bytes) stored) dirty_range.from x)) is ∙ ap length (dirty_range_written stored bytes dirty_range differs)

-- ---- the whole save

pub quiet_ends : (e : Error) (a b c : SessionView) (xs ys : List Operation) → AreTreePreservingCalls a xs b → EndsAtErrorOperation e b ys c → EndsAtErrorOperation e a (xs ++ ys) c
quiet_ends e a b c xs ys h k = record {
  before = xs ++ k.before;
  next = k.next;
  others = k.others;
  are = ap (λ z. xs ++ z) k.are ∙ sym (append_assoc xs k.before (k.next ∷ k.others));
  at = k.at;
  quiet = quiet_joined a b k.at xs k.before h k.quiet;
  ends = k.ends;
}

ends_before : (e : Error) (a c : SessionView) (xs ys : List Operation) → EndsAtErrorOperation e a xs c → EndsAtErrorOperation e a (xs ++ ys) c
ends_before e a c xs ys k = record {
  before = k.before;
  next = k.next;
  others = k.others ++ ys;
  are = ap (λ z. z ++ ys) k.are ∙ append_assoc k.before (k.next ∷ k.others) ys;
  at = k.at;
  quiet = k.quiet;
  ends = k.ends;
}

-- the room was asked for
asked_quiet : (old h1 : SessionView) (path : List ℕ) (from fd : ℕ) → IsOpenedForWriting old path from fd h1 → IsAcceptedCall h1 ops.UsedCount h1 → AreTreePreservingCalls old (free_block_query_operations path from) h1
asked_quiet old h1 path from fd o asked = quiet_joined old h1 h1 (open_and_seek_operations path from) (ops.UsedCount ∷ []) o.quiet (one_quiet h1 h1 ops.UsedCount asked refl)

pub can_write : (old h1 : SessionView) (path bytes : List ℕ) (dirty_range : DirtyRange) (fd n : ℕ) → CanSave old path bytes dirty_range → IsOpenedForWriting old path dirty_range.from fd h1 → n ≡ length bytes → HasRoom h1 (blocks_for_save h1.tree.disk n) → h1.tree.disk.profile ≡ old.tree.disk.profile →
    CanWriteDirtyRange h1 (visible_tree old.tree) (path_or_root path) (path_bytes_of old path) bytes dirty_range
can_write old h1 path bytes dirty_range fd n can o is room same = record {
  opened = o.opened;
  room = subst (λ k. HasRoom h1 (blocks_for_save h1.tree.disk k)) is room;
  small = subst (λ p. length bytes ≤ profile_file_max p) (sym same) can.small;
  differs = can.differs;
}

pub save_is_saved : (old h1 h2 new : SessionView) (path bytes : List ℕ) (dirty_range : DirtyRange) (fd : ℕ) → CanSave old path bytes dirty_range → IsOpenedForWriting old path dirty_range.from fd h1 → IsAcceptedCall h1 ops.UsedCount h1 →
    HasRoom h1 (blocks_for_save h1.tree.disk (length bytes)) → IsWritten h1 (visible_tree old.tree) (path_or_root path) (path_bytes_of old path) bytes dirty_range h2 → IsCall h2 (ops.Close fd) (Ok ops.Done) new → IsSaved old path bytes dirty_range new
save_is_saved old h1 h2 new path bytes dirty_range fd can o asked room w close =
    let call = subst (λ z. IsCall h2 (ops.Close z) (Ok ops.Done) new) o.number close in
    let idle = closed_view h2 new (visible_tree old.tree) w.writer w.written (done h2 (ops.Close 0) ops.Done new refl w.written.works refl call.answers) in
    record {
      asked_at = h1;
      asked = asked_quiet old h1 path dirty_range.from fd o asked;
      room = room;
      at = h2;
      quiet = quiet_joined old h1 h2 (free_block_query_operations path dirty_range.from) (writing_operations (length (path_bytes_of old path)) bytes dirty_range) (asked_quiet old h1 path dirty_range.from fd o asked) w.quiet;
      closed = record { reply = ops.Done; accepted = refl; call = call; other = refl };
      idle = subst (IsIdleSession new) (stored_tree (visible_tree old.tree) (path_or_root path) w.writer (path_bytes_of old path) bytes w.at w.contents refl w.changes) idle;
    }

pub lacks_room : (old h1 new : SessionView) (path bytes : List ℕ) (dirty_range : DirtyRange) (fd n : ℕ) → IsOpenedForWriting old path dirty_range.from fd h1 → IsAcceptedCall h1 ops.UsedCount h1 → n ≡ length bytes → LacksFreeBlocks h1 (blocks_for_save h1.tree.disk n) → IsCall h1 (ops.Close fd) (Ok ops.Done) new →
    RefusesSaveNoSpace old path bytes dirty_range new
lacks_room old h1 new path bytes dirty_range fd n o asked is lacks close =
    let call = subst (λ z. IsCall h1 (ops.Close z) (Ok ops.Done) new) o.number close in
    record {
      at = h1;
      asked = asked_quiet old h1 path dirty_range.from fd o asked;
      lacks = subst (λ k. LacksFreeBlocks h1 (blocks_for_save h1.tree.disk k)) is lacks;
      closed = record { reply = ops.Done; accepted = refl; call = call; other = refl };
      idle = closed_view h1 new (visible_tree old.tree) _ o.opened (done h1 (ops.Close 0) ops.Done new refl o.opened.works refl call.answers);
    }

module _ (e : Error) (old h1 new : SessionView) (path bytes : List ℕ) (dirty_range : DirtyRange) (fd : ℕ) where
  pub save_ends_at_open : EndsAtErrorOperation e old (open_and_seek_operations path dirty_range.from) new → FailsSave e old path bytes dirty_range new
  save_ends_at_open k =
      let one = ends_before e old new (open_and_seek_operations path dirty_range.from) (ops.UsedCount ∷ []) k in
      let two = ends_before e old new (free_block_query_operations path dirty_range.from) (writing_operations (length (path_bytes_of old path)) bytes dirty_range) one in
      inr (ends_before e old new (saving_operations (length (path_bytes_of old path)) path bytes dirty_range) (ops.Close 0 ∷ []) two)

  pub save_ends_at_room : IsOpenedForWriting old path dirty_range.from fd h1 → IsCall h1 ops.UsedCount (error_result e) new → FailsSave e old path bytes dirty_range new
  save_ends_at_room o call =
      let k : EndsAtErrorOperation e h1 (ops.UsedCount ∷ []) new = record { before = []; next = ops.UsedCount; others = []; are = refl; at = h1; quiet = refl; ends = call } in
      let one = quiet_ends e old h1 new (open_and_seek_operations path dirty_range.from) (ops.UsedCount ∷ []) o.quiet k in
      let two = ends_before e old new (free_block_query_operations path dirty_range.from) (writing_operations (length (path_bytes_of old path)) bytes dirty_range) one in
      inr (ends_before e old new (saving_operations (length (path_bytes_of old path)) path bytes dirty_range) (ops.Close 0 ∷ []) two)

  pub save_ends_at_write : IsOpenedForWriting old path dirty_range.from fd h1 → IsAcceptedCall h1 ops.UsedCount h1 → EndsAtErrorOperation e h1 (writing_operations (length (path_bytes_of old path)) bytes dirty_range) new → FailsSave e old path bytes dirty_range new
  save_ends_at_write o asked k =
      let one = quiet_ends e old h1 new (free_block_query_operations path dirty_range.from) (writing_operations (length (path_bytes_of old path)) bytes dirty_range) (asked_quiet old h1 path dirty_range.from fd o asked) k in
      inr (ends_before e old new (saving_operations (length (path_bytes_of old path)) path bytes dirty_range) (ops.Close 0 ∷ []) one)

pub save_ends_at_close : (e : Error) (old h1 h2 new : SessionView) (path bytes : List ℕ) (dirty_range : DirtyRange) (fd : ℕ) → IsOpenedForWriting old path dirty_range.from fd h1 → IsAcceptedCall h1 ops.UsedCount h1 → IsWritten h1 (visible_tree old.tree) (path_or_root path) (path_bytes_of old path) bytes dirty_range h2 →
    IsCall h2 (ops.Close fd) (error_result e) new → FailsSave e old path bytes dirty_range new
save_ends_at_close e old h1 h2 new path bytes dirty_range fd o asked w close =
    let call = subst (λ z. IsCall h2 (ops.Close z) (error_result e) new) o.number close in
    let k : EndsAtErrorOperation e h2 (ops.Close 0 ∷ []) new = record { before = []; next = ops.Close 0; others = []; are = refl; at = h2; quiet = refl; ends = call } in
    inr (quiet_ends e old h2 new (saving_operations (length (path_bytes_of old path)) path bytes dirty_range) (ops.Close 0 ∷ [])
    (quiet_joined old h1 h2 (free_block_query_operations path dirty_range.from) (writing_operations (length (path_bytes_of old path)) bytes dirty_range) (asked_quiet old h1 path dirty_range.from fd o asked) w.quiet) k)

-- a close is never refused
pub close_not_refused : (e : Error) (h new : SessionView) (tree : Tree) (f : OpenFile) (fd : ℕ) → HasOneOpenFile h tree f → fd ≡ 0 → IsCall h (ops.Close fd) (error_result e) new → refusals.is_refusal e ≡ true → ⊥
close_not_refused e h new tree f fd one zero close is =
    let call = subst (λ z. IsCall h (ops.Close z) (error_result e) new) zero close in
    never_refused h (ops.Close 0) e new refl one.works (λ around. refl) (close_passes h tree f one) call.answers is

pub count_not_refused : (e : Error) (h new : SessionView) → h.tree.failed ≡ false → IsCall h ops.UsedCount (error_result e) new → refusals.is_refusal e ≡ true → ⊥
count_not_refused e h new works call is = never_refused h ops.UsedCount e new refl works (λ around. refl) (λ around ps ok sum. refl) call.answers is

-- where the room isn't there, the file is closed unchanged, or the session failed in that
pub save_ends_without_room : (e : Error) (old h1 new : SessionView) (path bytes : List ℕ) (dirty_range : DirtyRange) (fd : ℕ) → IsOpenedForWriting old path dirty_range.from fd h1 → IsCall h1 (ops.Close fd) (error_result e) new → refusals.is_refusal e ≡ true → ⊥
save_ends_without_room e old h1 new path bytes dirty_range fd o close is = close_not_refused e h1 new (visible_tree old.tree) _ fd o.opened o.number close is

-- the close of a file that wasn't changed takes nothing, so it ends in no error
pub clean_close_works : (e : Error) (h new : SessionView) (tree : Tree) (path : Path) (stored : List ℕ) (from fd : ℕ) → HasOneOpenFile h tree (Writing (writer_at path stored from false)) → fd ≡ 0 → IsCall h (ops.Close fd) (error_result e) new → ⊥
clean_close_works e h new tree path stored from fd one zero close =
    let call = subst (λ z. IsCall h (ops.Close z) (error_result e) new) zero close in
    let alone : needs_session_alone (viewed_session h) (ops.Close 0) ≡ true = ap (λ s. needs_session_alone s (ops.Close 0)) one.is in
    let none = call.ends.answered (viewed_session h) (healthy_view h one.works) alone in
    go (refusals.is_refusal e) refl none
  where
    go : (b : Bool) → refusals.is_refusal e ≡ b → is_err {T = Reply} {E = Error} (cond b (Ok (ops.Refused (refusals.error_refusal e))) (Err e)) ≡ false → ⊥
    go true is none = close_not_refused e h new tree (Writing (writer_at path stored from false)) fd one zero close is
    go false is none = absurd (cc)

-- ---- the answer on room

pub room_error : (h : SessionView) (size : ℕ) (r : Result Bool Error) (e : Error) → IsErrAnd r (λ f. f ≡ e) → IsCall h ops.UsedCount (error_result e) h → IsFreeBlocksAnswer h size r
room_error h size (Ok b) e is call = absurd is
room_error h size (Err f) e is call = subst (λ z. IsCall h ops.UsedCount (error_result z) h) (sym is) call

pub room_answer : (h : SessionView) (size n k count : ℕ) (b : Bool) → h.tree.failed ≡ false → IsCall h ops.UsedCount (Ok (ops.Count n)) h → k ≡ blocks_for_save h.tree.disk size → count ≡ block_count h.tree.disk → b ≡ nat_le (n + k) count → IsFreeBlocksAnswer h size (Ok b)
room_answer h size n k count true works call need blocks is = (
  record { reply = ops.Count n; accepted = refl; call = call; other = refl },
  (λ ps ok. let used = used_is h h n works call ps ok in let le = leb-true (n + k) count (sym is) in omega arith),
)
room_answer h size n k count false works call need blocks is = (
  record { reply = ops.Count n; accepted = refl; call = call; other = refl },
  (λ ps ok le. let used = used_is h h n works call ps ok in let more = leb-false (n + k) count (sym is) in absurd (omega arith)),
)

-- ---- from what the parts of a save ensure

pub quiet_profile : (a b : SessionView) (xs : List Operation) → AreTreePreservingCalls a xs b → b.tree.disk.profile ≡ a.tree.disk.profile
quiet_profile a b [] h = ap (λ (z : SessionView). z.tree.disk.profile) (sym h)
quiet_profile a b (x ∷ xs) (next, (one, same, rest)) = quiet_profile next b xs rest ∙ one.call.answers.geometry.profile ∙ same_profile (is_remount x) a.tree.disk
  where
    same_profile : (r : Bool) (d : Disk) → (cond r (disk_with_order next.tree.disk.order d) d).profile ≡ d.profile
    same_profile true d = refl
    same_profile false d = refl

-- what is known once there is room
pub record HasBegun (old h1 : SessionView) (path bytes : List ℕ) (dirty_range : DirtyRange) (fd : ℕ) : Type 0 where
  pub o : IsOpenedForWriting old path dirty_range.from fd h1
  pub asked : IsAcceptedCall h1 ops.UsedCount h1
  pub can : CanWriteDirtyRange h1 (visible_tree old.tree) (path_or_root path) (path_bytes_of old path) bytes dirty_range

pub begun : (old h1 : SessionView) (path bytes : List ℕ) (dirty_range : DirtyRange) (fd : ℕ) (b : Bool) → CanSave old path bytes dirty_range → (IsIdleSession old (visible_tree old.tree) → IsOpenedForWriting old path dirty_range.from fd h1) → b ≡ true → (h1.tree.failed ≡ false → IsFreeBlocksAnswer h1 (length bytes) (Ok b)) →
    HasBegun old h1 path bytes dirty_range fd
begun old h1 path bytes dirty_range fd b can opened is room =
    let o = opened can.idle in
    let answer = subst (λ z. IsFreeBlocksAnswer h1 (length bytes) (Ok z)) is (room o.opened.works) in
    record { o = o; asked = answer.0; can = can_write old h1 path bytes dirty_range fd (length bytes) can o refl answer.1 (quiet_profile old h1 (open_and_seek_operations path dirty_range.from) o.quiet) }

abbrev pub Writes : SessionView → ℕ → List ℕ → DirtyRange → SessionView → Type 0
Writes h1 fd bytes dirty_range h2 = (tree : Tree) (path : Path) (stored : List ℕ) → fd ≡ 0 → CanWriteDirtyRange h1 tree path stored bytes dirty_range → IsWritten h1 tree path stored bytes dirty_range h2

written_from : (old h1 h2 : SessionView) (path bytes : List ℕ) (dirty_range : DirtyRange) (fd : ℕ) → HasBegun old h1 path bytes dirty_range fd → Writes h1 fd bytes dirty_range h2 → IsWritten h1 (visible_tree old.tree) (path_or_root path) (path_bytes_of old path) bytes dirty_range h2
written_from old h1 h2 path bytes dirty_range fd k writes = writes (visible_tree old.tree) (path_or_root path) (path_bytes_of old path) k.o.number k.can

pub closed_saved : (r : Result (Unit {0}) Error) (old h1 h2 new : SessionView) (path bytes : List ℕ) (dirty_range : DirtyRange) (fd : ℕ) → (CanSave old path bytes dirty_range → HasBegun old h1 path bytes dirty_range fd) → Writes h1 fd bytes dirty_range h2 → IsCall h2 (ops.Close fd) (reply_from (λ _. ops.Done) r) new →
    IfOk r (λ _. CanSave old path bytes dirty_range → IsSaved old path bytes dirty_range new)
closed_saved (Ok x) old h1 h2 new path bytes dirty_range fd b writes call = λ can. let k = b can in save_is_saved old h1 h2 new path bytes dirty_range fd can k.o k.asked k.can.room (written_from old h1 h2 path bytes dirty_range fd k writes) call
closed_saved (Err e) old h1 h2 new path bytes dirty_range fd b writes call = tt

pub closed_ends : (r : Result (Unit {0}) Error) (old h1 h2 new : SessionView) (path bytes : List ℕ) (dirty_range : DirtyRange) (fd : ℕ) → (CanSave old path bytes dirty_range → HasBegun old h1 path bytes dirty_range fd) → Writes h1 fd bytes dirty_range h2 → IsCall h2 (ops.Close fd) (reply_from (λ _. ops.Done) r) new →
    IfErr r (λ e. CanSave old path bytes dirty_range → FailsSave e old path bytes dirty_range new)
closed_ends (Ok x) old h1 h2 new path bytes dirty_range fd b writes call = tt
closed_ends (Err e) old h1 h2 new path bytes dirty_range fd b writes call = λ can. let k = b can in save_ends_at_close e old h1 h2 new path bytes dirty_range fd k.o k.asked (written_from old h1 h2 path bytes dirty_range fd k writes) call

pub closed_refused : (r : Result (Unit {0}) Error) (old h1 h2 new : SessionView) (path bytes : List ℕ) (dirty_range : DirtyRange) (fd : ℕ) → (CanSave old path bytes dirty_range → HasBegun old h1 path bytes dirty_range fd) → Writes h1 fd bytes dirty_range h2 → IsCall h2 (ops.Close fd) (reply_from (λ _. ops.Done) r) new →
    IfErr r (λ e. CanSave old path bytes dirty_range → IsSaveRefused e old path bytes dirty_range new)
closed_refused (Ok x) old h1 h2 new path bytes dirty_range fd b writes call = tt
closed_refused (Err e) old h1 h2 new path bytes dirty_range fd b writes call = λ can is.
    let k = b can in
    let w = written_from old h1 h2 path bytes dirty_range fd k writes in
    absurd (close_not_refused e h2 new (visible_tree old.tree) (Writing w.writer) fd w.written k.o.number call is)

-- where there is no room
pub lacking : (old h1 : SessionView) (path bytes : List ℕ) (dirty_range : DirtyRange) (fd : ℕ) (b : Bool) → CanSave old path bytes dirty_range → (IsIdleSession old (visible_tree old.tree) → IsOpenedForWriting old path dirty_range.from fd h1) → b ≡ false → (h1.tree.failed ≡ false → IsFreeBlocksAnswer h1 (length bytes) (Ok b)) →
    IsOpenedForWriting old path dirty_range.from fd h1 × IsFreeBlocksAnswer h1 (length bytes) (Ok false)
lacking old h1 path bytes dirty_range fd b can opened is room = let o = opened can.idle in (o, subst (λ z. IsFreeBlocksAnswer h1 (length bytes) (Ok z)) is (room o.opened.works))
