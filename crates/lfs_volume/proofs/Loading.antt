-- The calls of a session that load a file.
use Rattle.std.proofs.Common.{inl, inr, ℕ, ◌≡◌, ◌+◌, Bool, true, false, cond, List, [], ◌∷◌, length, take, Option, Some, None, Ok, Err, unwrap_or, refl, sym, ap, ap₂, subst, ◌∙◌, arith}
use Rattle.std.specs.Prelude.{◌&&◌, ◌||◌, not, nat_le, nat_lt, if◌then◌else◌, is_none, is_some}
use Rattle.std.specs.List.{list_any}
use Rattle.std.specs.Option.{option_map}
use Rattle.std.proofs.lemmas.List.{take_all}
use Rattle.lfs_device.specs.declared.error.Error.{Error}
use Rattle.lfs_lookup.specs.RefusalErrors as refusals
use Rattle.lfs_model.specs.tree.Tree.{DirectoryNode, FileNode, Node, Path, Tree}
use Rattle.lfs_model.specs.session.Operations as ops
use Rattle.lfs_model.specs.session.Operations.{Busy, EntryFull, Exist, Invalid, IsDir, NameTooLong, NoEnt, NoSpace, ReadOnly, Operation, Refusal, Reply, parse_path}
use Rattle.lfs_model.specs.session.Session.{DiskSummary, FileReader, OpenFilesByNumber, Session, Reading, all_readers, all_writers, exceeds_half_pair, first_refusal, flags_allowed, has_long_name, has_open_file, lacks_room, overfills_disk, parents_refusal, refuse_if}
use Rattle.lfs_model.specs.session.Writers.{opened_writer}
use Rattle.lfs_model.specs.session.Session as model
use Rattle.lfs_model.specs.session.Refusals.{operation_refusal, path_or_root}
use Rattle.lfs_model.specs.session.Effects.{operation_effect}
use Rattle.lfs_model.specs.session.Run.{is_refusal as model_refusal}
use Rattle.lfs_model.specs.session.TreeEdits.{file_bytes, is_directory, is_file, last_name, same_path, tree_creating}
use Rattle.lfs_tree.specs.TreeState.{visible_tree}
use Rattle.lfs_fs.specs.CallEffects.{IsCall}
use Rattle.lfs_fs.specs.FileAnswers.{IsFileQueryResult, file_size}
use Rattle.lfs_fs.specs.SessionView.{SessionView, viewed_session}
use Rattle.lfs_volume.specs.Opened.{HasNoOpenFiles, HasOneOpenFile, IsIdleSession, LeadsToFile, session_with_file, reading_flags}
use Rattle.lfs_volume.specs.Saves.{IsIdleIfRefused, IsLoaded, path_bytes_of}
use Rattle.lfs_volume.specs.SessionCalls.{AreTreePreservingCalls, FailsInCalls, error_result}
use Rattle.lfs_volume.proofs.Steps.{done, fails_at, refused, refusal_step, never_refused, there_already}
use Rattle.lfs_volume.proofs.Saving.{after_call, reply_of, same_shown, one_quiet, opened_first, idle_stays, quiet_joined}

pub opened_to_read : (old new : SessionView) (path : List ℕ) (fd : ℕ) → IsIdleSession old (visible_tree old.tree) → IsCall old (ops.Open path reading_flags) (Ok (ops.Opened fd)) new →
    (fd ≡ 0) × HasOneOpenFile new (visible_tree old.tree) (Reading (record { path = path_or_root path; position = 0 }))
opened_to_read old new path fd idle call =
    let d = done old (ops.Open path reading_flags) (ops.Opened fd) new refl idle.works refl call.answers in
    let first = opened_first old.files (Some (Reading (record { path = path_or_root path; position = 0 }))) idle.files in
    let after = after_call old (ops.Open path reading_flags) (ops.Opened fd) new d (viewed_session old) refl in
    let there = there_already d.around (viewed_session old) path reading_flags refl d.passes in
    let number = ap number_of (reply_of old (ops.Open path reading_flags) (ops.Opened fd) new d (viewed_session old) refl) in (
      number ∙ first.0,
      record { works = d.works; is = after ∙ ap₂ build there first.1 },
    )
  where
    build : Bool → OpenFilesByNumber → Session
    build b fs = record { tree = cond b (tree_creating (path_or_root path) (FileNode [] []) (visible_tree old.tree)) (visible_tree old.tree); files = fs }

    number_of : Reply → ℕ
    number_of (ops.Opened n) = n
    number_of _ = 0

-- the size of an opens reader's file
pub size_to_read : (h : SessionView) (tree : Tree) (r : FileReader) (fd n : ℕ) → HasOneOpenFile h tree (Reading r) → fd ≡ 0 → IsFileQueryResult file_size h fd (Ok n) → n ≡ length (file_bytes (tree r.path))
size_to_read h tree r fd n one zero answer =
    let files = ap (λ (z : Session). z.files) one.is in
    let shown = ap (λ (z : Session). z.tree) one.is in
    let e : option_map (file_size h) (Some (Reading r)) ≡ Some n = sym (ap₂ (λ fs k. option_map (file_size h) (model.file_numbered fs k)) files zero) ∙ answer.1 in
    sym (ap (λ (o : Option ℕ). unwrap_or o n) e) ∙ ap (λ t. length (file_bytes (t r.path))) shown

pub loaded : (old h1 h2 new : SessionView) (path bytes : List ℕ) (fd n : ℕ) → IsIdleSession old (visible_tree old.tree) → IsCall old (ops.Open path reading_flags) (Ok (ops.Opened fd)) h1 → IsFileQueryResult file_size h1 fd (Ok n) → IsCall h1 (ops.Read fd n) (Ok (ops.Bytes bytes)) h2 →
    IsCall h2 (ops.Close fd) (Ok ops.Done) new → IsLoaded old path bytes new
loaded old h1 h2 new path bytes fd n idle opens size given ends =
    let one = opened_to_read old h1 path fd idle opens in
    let r : FileReader = record { path = path_or_root path; position = 0 } in
    let len = size_to_read h1 (visible_tree old.tree) r fd n one.1 one.0 size in
    let read = subst (λ z. IsCall h1 (ops.Read z n) (Ok (ops.Bytes bytes)) h2) one.0 given in
    let close = subst (λ z. IsCall h2 (ops.Close z) (Ok ops.Done) new) one.0 ends in
    let d = done h1 (ops.Read 0 n) (ops.Bytes bytes) h2 refl one.1.works refl read.answers in
    let after = after_call h1 (ops.Read 0 n) (ops.Bytes bytes) h2 d (session_with_file (visible_tree old.tree) (Reading r)) one.1.is in
    let bytes_are : bytes ≡ take n (path_bytes_of old path) = ap bytes_of (reply_of h1 (ops.Read 0 n) (ops.Bytes bytes) h2 d (session_with_file (visible_tree old.tree) (Reading r)) one.1.is) in
    let is : bytes ≡ path_bytes_of old path = bytes_are ∙ take_all n (path_bytes_of old path) (omega arith) in
    let d2 = done h2 (ops.Close 0) ops.Done new refl d.works refl close.answers in
    let after2 = after_call h2 (ops.Close 0) ops.Done new d2 (session_with_file (visible_tree old.tree) (Reading (record r { position = 0 + length (take n (path_bytes_of old path)) }))) after in
    let same1 = same_shown old h1 _ one.1.is in
    let same2 = same_shown h1 h2 _ after in
    let same3 = same_shown h2 new _ after2 in
    record {
      is = is;
      calls = (
        h1,
        (
          record { reply = ops.Opened fd; accepted = refl; call = opens; other = refl },
          same1,
          (
            h2,
            (
              record { reply = ops.Bytes bytes; accepted = refl; call = subst (λ k. IsCall h1 (ops.Read 0 k) (Ok (ops.Bytes bytes)) h2) (len ∙ sym (ap length is)) read; other = refl },
              same2 ∙ sym same1,
              (new, (record { reply = ops.Done; accepted = refl; call = close; other = refl }, same3 ∙ sym same2, refl)),
            ),
          ),
        ),
      );
      idle = record { works = d2.works; shows = same3; files = inr (ap (λ (z : Session). z.files) after2) };
    }
  where
    bytes_of : Reply → List ℕ
    bytes_of (ops.Bytes bs) = bs
    bytes_of _ = []

-- ---- errors

pub load_refused : (e : Error) (old new : SessionView) (path : List ℕ) → IsIdleSession old (visible_tree old.tree) → IsCall old (ops.Open path reading_flags) (error_result e) new → IsIdleIfRefused e old new
load_refused e old new path idle call is =
    let r = refused old (ops.Open path reading_flags) (refusals.error_refusal e) new refl idle.works (λ around. refl) (refusal_step old (ops.Open path reading_flags) e new is call.answers) in
    idle_stays old new idle r.works r.stays

pub size_not_refused : (e : Error) (old h1 : SessionView) (path : List ℕ) (fd : ℕ) → IsIdleSession old (visible_tree old.tree) → IsCall old (ops.Open path reading_flags) (Ok (ops.Opened fd)) h1 → IsFileQueryResult file_size h1 fd (Err e) → ⊥
size_not_refused e old h1 path fd idle opens (inl (failed, is)) = let one = opened_to_read old h1 path fd idle opens in let k : true ≡ false = sym failed ∙ one.1.works in absurd (cc)
size_not_refused e old h1 path fd idle opens (inr (works, none, is)) =
    let one = opened_to_read old h1 path fd idle opens in
    let files = ap (λ (z : Session). z.files) one.1.is in
    let k : Some (Reading (record { path = path_or_root path; position = 0 })) ≡ None = sym (ap₂ (λ fs n. model.file_numbered fs n) files one.0) ∙ none in
    absurd (cc)

pub read_not_refused : (e : Error) (old h1 new : SessionView) (path : List ℕ) (fd n : ℕ) → IsIdleSession old (visible_tree old.tree) → IsCall old (ops.Open path reading_flags) (Ok (ops.Opened fd)) h1 → IsCall h1 (ops.Read fd n) (error_result e) new → refusals.is_refusal e ≡ true → ⊥
read_not_refused e old h1 new path fd n idle opens given is =
    let one = opened_to_read old h1 path fd idle opens in
    let call = subst (λ z. IsCall h1 (ops.Read z n) (error_result e) new) one.0 given in
    never_refused h1 (ops.Read 0 n) e new refl one.1.works (λ around. ap (λ s. model_refusal (operation_effect around s (ops.Read 0 n)).0) one.1.is)
    (λ around ps ok sum. ap (λ s. operation_refusal around s (ops.Read 0 n)) one.1.is) call.answers is

pub close_not_refused : (e : Error) (old h1 h2 new : SessionView) (path bytes : List ℕ) (fd n : ℕ) → IsIdleSession old (visible_tree old.tree) → IsCall old (ops.Open path reading_flags) (Ok (ops.Opened fd)) h1 → IsCall h1 (ops.Read fd n) (Ok (ops.Bytes bytes)) h2 → IsCall h2 (ops.Close fd) (error_result e) new →
    refusals.is_refusal e ≡ true → ⊥
close_not_refused e old h1 h2 new path bytes fd n idle opens given ends is =
    let one = opened_to_read old h1 path fd idle opens in
    let read = subst (λ z. IsCall h1 (ops.Read z n) (Ok (ops.Bytes bytes)) h2) one.0 given in
    let call = subst (λ z. IsCall h2 (ops.Close z) (error_result e) new) one.0 ends in
    let d = done h1 (ops.Read 0 n) (ops.Bytes bytes) h2 refl one.1.works refl read.answers in
    let after = after_call h1 (ops.Read 0 n) (ops.Bytes bytes) h2 d (session_with_file (visible_tree old.tree) (Reading (record { path = path_or_root path; position = 0 }))) one.1.is in
    never_refused h2 (ops.Close 0) e new refl d.works (λ around. refl) (λ around ps ok sum. ap (λ s. operation_refusal around s (ops.Close 0)) after) call.answers is

-- ---- a path that leads to a file

abbrev pub reading_checks : DiskSummary → Option Path → Option Refusal → Option Node → OpenFilesByNumber → Path → Option Refusal
reading_checks around given parents o files p = first_refusal (
    refuse_if (reading_flags.write && not around.writable) ReadOnly
    ∷ refuse_if (is_none given || not (flags_allowed reading_flags)) Invalid
    ∷ parents
    ∷ refuse_if (is_none o && reading_flags.create && has_long_name around p) NameTooLong
    ∷ refuse_if (is_none o && not reading_flags.create) NoEnt
    ∷ refuse_if (is_some o && reading_flags.exclusive) Exist
    ∷ refuse_if (is_directory o) IsDir
    ∷ refuse_if (if reading_flags.write
    then nat_lt 0 (length (all_writers files)) || has_open_file (same_path p) files
    else list_any (λ w. same_path p w.path) (all_writers files) || nat_le 16 (length (all_readers files))) Busy
    ∷ refuse_if (is_none o && exceeds_half_pair around (last_name p) []) EntryFull
    ∷ refuse_if (is_none o && lacks_room around files 2) NoSpace
    ∷ refuse_if (reading_flags.truncate && overfills_disk around (opened_writer p reading_flags (file_bytes o))) NoSpace
    ∷ [])

pass_reading : (around : DiskSummary) (given : Option Path) (parents : Option Refusal) (o : Option Node) (files : OpenFilesByNumber) (p : Path) → is_none given ≡ false → parents ≡ None → is_file o ≡ true → HasNoOpenFiles files → reading_checks around given parents o files p ≡ None
pass_reading around None parents o files p g q f n = absurd (cc)
pass_reading around (Some a) (Some r) o files p g q f n = absurd (cc)
pass_reading around (Some a) None None files p g q f n = absurd (cc)
pass_reading around (Some a) None (Some (DirectoryNode x y)) files p g q f n = absurd (cc)
pass_reading around (Some a) None (Some (FileNode x y)) files p g q f (inl e) = ap (λ fs. reading_checks around (Some a) None (Some (FileNode x y)) fs p) e
pass_reading around (Some a) None (Some (FileNode x y)) files p g q f (inr e) = ap (λ fs. reading_checks around (Some a) None (Some (FileNode x y)) fs p) e

pub reading_passes : (old : SessionView) (path : List ℕ) → IsIdleSession old (visible_tree old.tree) → LeadsToFile (visible_tree old.tree) path → (around : DiskSummary) → operation_refusal around (viewed_session old) (ops.Open path reading_flags) ≡ None
reading_passes old path idle leads around = pass_reading around (parse_path path) (parents_refusal (visible_tree old.tree) [] (path_or_root path)) (visible_tree old.tree (path_or_root path)) old.files (path_or_root path) leads.given leads.parents leads.file idle.files

pub load_fails_at_open : (e : Error) (old new : SessionView) (path : List ℕ) → IsIdleSession old (visible_tree old.tree) → LeadsToFile (visible_tree old.tree) path → IsCall old (ops.Open path reading_flags) (error_result e) new → FailsInCalls e old new
load_fails_at_open e old new path idle leads call =
    fails_at e old old new [] (ops.Open path reading_flags) refl call (never_refused old (ops.Open path reading_flags) e new refl idle.works (λ around. refl) (λ around ps ok sum. reading_passes old path idle leads around) call.answers)

opened_quietly : (old h1 : SessionView) (path : List ℕ) (fd : ℕ) → IsIdleSession old (visible_tree old.tree) → IsCall old (ops.Open path reading_flags) (Ok (ops.Opened fd)) h1 → AreTreePreservingCalls old (ops.Open path reading_flags ∷ []) h1
opened_quietly old h1 path fd idle opens =
    one_quiet old h1 (ops.Open path reading_flags) (record { reply = ops.Opened fd; accepted = refl; call = opens; other = refl }) (same_shown old h1 _ (opened_to_read old h1 path fd idle opens).1.is)

pub load_fails_at_read : (e : Error) (old h1 new : SessionView) (path : List ℕ) (fd n : ℕ) → IsIdleSession old (visible_tree old.tree) → IsCall old (ops.Open path reading_flags) (Ok (ops.Opened fd)) h1 → IsCall h1 (ops.Read fd n) (error_result e) new → FailsInCalls e old new
load_fails_at_read e old h1 new path fd n idle opens given =
    fails_at e old h1 new (ops.Open path reading_flags ∷ []) (ops.Read fd n) (opened_quietly old h1 path fd idle opens) given (read_not_refused e old h1 new path fd n idle opens given)

pub load_fails_at_close : (e : Error) (old h1 h2 new : SessionView) (path bytes : List ℕ) (fd n : ℕ) → IsIdleSession old (visible_tree old.tree) → IsCall old (ops.Open path reading_flags) (Ok (ops.Opened fd)) h1 → IsCall h1 (ops.Read fd n) (Ok (ops.Bytes bytes)) h2 → IsCall h2 (ops.Close fd) (error_result e) new → FailsInCalls e old new
load_fails_at_close e old h1 h2 new path bytes fd n idle opens given ends =
    let one = opened_to_read old h1 path fd idle opens in
    let r : FileReader = record { path = path_or_root path; position = 0 } in
    let read = subst (λ z. IsCall h1 (ops.Read z n) (Ok (ops.Bytes bytes)) h2) one.0 given in
    let d = done h1 (ops.Read 0 n) (ops.Bytes bytes) h2 refl one.1.works refl read.answers in
    let after = after_call h1 (ops.Read 0 n) (ops.Bytes bytes) h2 d (session_with_file (visible_tree old.tree) (Reading r)) one.1.is in
    let second : AreTreePreservingCalls h1 (ops.Read fd n ∷ []) h2 = one_quiet h1 h2 (ops.Read fd n) (record { reply = ops.Bytes bytes; accepted = refl; call = given; other = refl }) (same_shown h1 h2 _ after ∙ sym (same_shown old h1 _ one.1.is)) in
    fails_at e old h2 new (ops.Open path reading_flags ∷ ops.Read fd n ∷ []) (ops.Close fd) (quiet_joined old h1 h2 (ops.Open path reading_flags ∷ []) (ops.Read fd n ∷ []) (opened_quietly old h1 path fd idle opens) second) ends
    (close_not_refused e old h1 h2 new path bytes fd n idle opens given ends)
