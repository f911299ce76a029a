-- What an accepted open says of the session: its checks, and the file's number.
use Rattle.std.proofs.Common.{ℕ, ◌≡◌, ◌≤◌, Bool, true, false, not, ◌&&◌, ◌||◌, if◌then◌else◌, List, [], ◌∷◌, ◌++◌, length, get_or, Option, Some, None, is_none, is_some, refl, sym, ap, subst, ◌∙◌, arith}
use Rattle.std.specs.Prelude.{nat_lt, slice_get}
use Rattle.std.specs.Option.{option_flatten, option_or}
use Rattle.std.proofs.Math.Seq.{get_or-append_seam}
use Rattle.std.proofs.lemmas.Bool.{lt-ltb, ltb-true, ltb-false}
use Rattle.std.proofs.lemmas.List.{length-append}
use Rattle.std.proofs.lemmas.List.Sums.{prefix_len-le-length}
use Rattle.std.proofs.lemmas.Option.{slice_get-get_or, slice_get_within}
use Rattle.lfs_model.proofs.BlockSets.{slice_get-set_same}
use Rattle.lfs_model.specs.tree.Tree.{Path}
use Rattle.lfs_model.specs.session.TreeEdits.{file_bytes, is_directory}
use Rattle.lfs_model.specs.session.Operations as ops
use Rattle.lfs_model.specs.session.Operations.{Refusal, ReadOnly, Invalid, NameTooLong, NoEnt, Exist, IsDir, FlagsOfOpen, Reply, parse_path}
use Rattle.lfs_model.specs.session.Session.{Session, DiskSummary, OpenFile, OpenFilesByNumber, Reading, Writing, file_numbered, files_with_file, free_number_of, refuse_if, parents_refusal, flags_allowed, has_long_name}
use Rattle.lfs_model.specs.session.Writers.{opened_writer}
use Rattle.lfs_model.specs.session.State.{Healthy}
use Rattle.lfs_model.specs.session.Effects.{open_effect}
use Rattle.lfs_model.specs.session.Refusals.{operation_refusal, path_or_root}
use Rattle.lfs_model.specs.session.Run.{SystemState, EffectRelation, IsStepWith}
use Rattle.lfs_model.specs.session.Accepted.{IsAcceptedOpen}
use Rattle.lfs_model.proofs.Passing.{accepted_step}

-- ---- open files

free_within : (files : OpenFilesByNumber) → free_number_of files ≤ length files
free_within files = prefix_len-le-length _ files

past : (n m : ℕ) → nat_lt n m ≡ false → n ≤ m → n ≡ m
past n m e h = let k = ltb-false n m e in omega (arith, h, k)

at_end : (files : OpenFilesByNumber) (n : ℕ) (f : OpenFile) → n ≡ length files → slice_get (files ++ Some f ∷ []) n ≡ Some (Some f)
at_end files n f is =
    let long = length-append files (Some f ∷ []) in
    slice_get-get_or (files ++ Some f ∷ []) n None (omega (arith, is, long))
    ∙ ap Some (ap (get_or (files ++ Some f ∷ []) n) refl ∙ ap (λ k. get_or (files ++ Some f ∷ []) k None) is ∙ get_or-append_seam files (Some f) [] None)

pub put_first : (files : OpenFilesByNumber) (f : OpenFile) → file_numbered (files_with_file files (free_number_of files) (Some f)) (free_number_of files) ≡ Some f
put_first files f = go (nat_lt (free_number_of files) (length files)) refl
  where
    go : (b : Bool) → nat_lt (free_number_of files) (length files) ≡ b → file_numbered (files_with_file files (free_number_of files) (Some f)) (free_number_of files) ≡ Some f
    go true e = rw e (ap option_flatten (slice_get-set_same files (free_number_of files) (Some f) (ltb-true _ _ e)))
    go false e = rw e (ap option_flatten (at_end files (free_number_of files) f (past _ _ e (free_within files))))

there : (x : Option (Option OpenFile)) (g : OpenFile) → option_flatten x ≡ Some g → x ≡ Some (Some g)
there None g e = absurd (cc)
there (Some y) g e = ap Some e

pub put_again : (files : OpenFilesByNumber) (n : ℕ) (g f : OpenFile) → file_numbered files n ≡ Some g → file_numbered (files_with_file files n (Some f)) n ≡ Some f
put_again files n g f is =
    let within = slice_get_within files n (Some g) (there (slice_get files n) g is) in
    rw (lt-ltb n (length files) within) (ap option_flatten (slice_get-set_same files n (Some f) within))

-- ---- the checks

record PassesBoth (fifth seventh : Bool) : Type 0 where
  entry : fifth ≡ false
  no_directory : seventh ≡ false

passes : (a b c d : Option Refusal) (fifth : Bool) (f : Option Refusal) (is : Bool) (rest : Option Refusal) →
    option_or a (option_or b (option_or c (option_or d (option_or (refuse_if fifth NoEnt) (option_or f (option_or (refuse_if is IsDir) rest)))))) ≡ None → PassesBoth fifth is
passes None None None None false None false rest k = record { entry = refl; no_directory = refl }
passes None None None None false None true rest k = absurd (cc)
passes None None None None false (Some x) is rest k = absurd (cc)
passes None None None None true f is rest k = absurd (cc)
passes None None None (Some x) e f is rest k = absurd (cc)
passes None None (Some x) d e f is rest k = absurd (cc)
passes None (Some x) c d e f is rest k = absurd (cc)
passes (Some x) b c d e f is rest k = absurd (cc)

open_passes : (around : DiskSummary) (s : Session) (path : List ℕ) (flags : FlagsOfOpen) → operation_refusal around s (ops.Open path flags) ≡ None → PassesBoth (is_none (s.tree (path_or_root path)) && not flags.create) (is_directory (s.tree (path_or_root path)))
open_passes around s path flags k =
    let p : Path = path_or_root path in
    passes (refuse_if (flags.write && not around.writable) ReadOnly) (refuse_if (is_none (parse_path path) || not (flags_allowed flags)) Invalid) (parents_refusal s.tree [] p)
    (refuse_if (is_none (s.tree p) && flags.create && has_long_name around p) NameTooLong) (is_none (s.tree p) && not flags.create) (refuse_if (is_some (s.tree p) && flags.exclusive) Exist) (is_directory (s.tree p)) _ k

creates : (a b : Bool) → (a && not b) ≡ false → a ≡ true → b ≡ true
creates a true e f = refl
creates true false e f = absurd (cc)
creates false false e f = absurd (cc)

same_fd : (m n : ℕ) → ops.Opened m ≡ ops.Opened n → m ≡ n
same_fd m n e = ap number e
  where
    number : Reply → ℕ
    number (ops.Opened k) = k
    number _ = m

pub accepted_open : {E : EffectRelation} (from to : SystemState) (s : Session) (path : List ℕ) (flags : FlagsOfOpen) (fd : ℕ) → from.state ≡ Healthy s → IsStepWith E from (ops.Open path flags) (ops.Opened fd) to → IsAcceptedOpen s path flags fd
accepted_open from to s path flags fd healthy step =
    let a = accepted_step from to (ops.Open path flags) (ops.Opened fd) s healthy refl refl step in
    let both = open_passes a.around s path flags a.passed in
    let file : OpenFile = if flags.write then Writing (opened_writer (path_or_root path) flags (file_bytes (s.tree (path_or_root path)))) else Reading (record { path = path_or_root path; position = 0 }) in
    record {
      no_directory = both.no_directory;
      made = creates _ _ both.entry;
      file = subst (λ n. file_numbered (open_effect s (path_or_root path) flags).1.files n ≡ Some file) (sym (same_fd fd _ a.replied)) (put_first s.files file);
    }
