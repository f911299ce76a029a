-- What the calls of a read make of a session, and what a loss of power in them leaves.
use Rattle.std.proofs.Common.{ℕ, ◌≡◌, ◌+◌, Bool, true, false, if◌then◌else◌, List, length, take, drop, Option, Some, None, is_none, Result, Ok, refl, sym, ap, subst, ◌∙◌, arith}
use Rattle.std.specs.Option.{option_map}
use Rattle.std.proofs.lemmas.List.{take_all}
use Rattle.std.proofs.lemmas.Option.{same_Some}
use Rattle.lfs_device.specs.declared.error.Error.{Error}
use Rattle.lfs_model.specs.tree.Tree.{Path, Node, FileNode, DirectoryNode, Tree}
use Rattle.lfs_model.specs.session.TreeEdits.{file_bytes, is_directory}
use Rattle.lfs_model.specs.session.Operations as ops
use Rattle.lfs_model.specs.session.Operations.{Operation, Reply}
use Rattle.lfs_model.specs.session.Session.{Session, FileReader, Reading, Writing, OpenFile, file_numbered, file_reader, file_writer}
use Rattle.lfs_model.specs.session.Effects.{operation_effect, read_effect, tree_after_storing}
use Rattle.lfs_model.specs.session.Refusals.{path_or_root}
use Rattle.lfs_model.specs.session.State.{Healthy, HasFailed}
use Rattle.lfs_fs.specs.CallEffects.{IsCall}
use Rattle.lfs_fs.specs.FileAnswers.{IsFileQueryResult, file_size}
use Rattle.lfs_fs.specs.SessionView.{SessionView, system_state, viewed_session}
use Rattle.lfs_model.specs.session.Accepted.{IsAcceptedOpen}
use Rattle.lfs_model.proofs.Openings.{accepted_open, put_again}
use Rattle.lfs_model.proofs.Passing.{accepted_step}
use Rattle.lfs_model.proofs.TreesLeft.{any_summary, same_session}
use Rattle.lfs_fs.proofs.Users.{lives}
use Rattle.saved_files.specs.Writing.{HasBytesAt, ReadsFile, ReadSurvivesPowerLoss, bytes_if_file, reading_flags}
use Rattle.saved_files.proofs.Parts.{then_survives, works_then, call_survives, call_works}
use Rattle.saved_files.proofs.Written.{opened_has}

a_file : (node : Option Node) → is_directory node ≡ false → is_none node ≡ false → bytes_if_file node ≡ Some (file_bytes node)
a_file None e f = absurd (cc)
a_file (Some (FileNode attributes bytes)) e f = refl
a_file (Some (DirectoryNode attributes names)) e f = absurd (cc)

not_none : (b : Bool) → (b ≡ true → false ≡ true) → b ≡ false
not_none true f = sym (f refl)
not_none false f = refl

-- a session that works is the one that is seen
seen : (a : SessionView) (s : Session) → a.tree.failed ≡ false → (system_state a).state ≡ Healthy s → viewed_session a ≡ s
seen a s works e = same_session (viewed_session a) s (subst (λ b. (if b then HasFailed else Healthy (viewed_session a)) ≡ Healthy s) works e)

same_bytes : (xs ys : List ℕ) → ops.Bytes xs ≡ ops.Bytes ys → xs ≡ ys
same_bytes xs ys e = ap bytes e
  where
    bytes : Reply → List ℕ
    bytes (ops.Bytes zs) = zs
    bytes _ = xs

read_keeps : (s : Session) (fd n : ℕ) (x : Option FileReader) → (read_effect s fd n x).1.tree ≡ s.tree
read_keeps s fd n None = refl
read_keeps s fd n (Some r) = refl

after_read : (s : Session) (fd n : ℕ) (r : FileReader) (x : Option FileReader) → x ≡ Some r → file_numbered s.files fd ≡ Some (Reading r) → is_none (file_writer (file_numbered (read_effect s fd n x).1.files fd)) ≡ true
after_read s fd n r None e is = absurd (cc)
after_read s fd n r (Some q) e is =
    ap (λ (f : Option OpenFile). is_none (file_writer f)) (put_again s.files fd (Reading r) (Reading (record q { position = q.position + length (take n (drop q.position (file_bytes (s.tree q.path)))) })) is)

unwritten : (f : Option OpenFile) (t : Tree) → is_none (file_writer f) ≡ true → tree_after_storing f t ≡ t
unwritten None t e = refl
unwritten (Some (Reading r)) t e = refl
unwritten (Some (Writing w)) t e = absurd (cc)

-- ---- the trees

module _ (s : Session) (path : List ℕ) where
  abbrev opening : Operation
  opening = ops.Open path reading_flags

  abbrev place : Path
  place = path_or_root path

  abbrev Stays : Tree → Type 0
  Stays tree = HasBytesAt place (file_bytes (s.tree place)) s.tree tree

  stays : Stays s.tree
  stays = record { elsewhere = λ other off above. refl; has = refl }

  abbrev opened : Session
  opened = (operation_effect any_summary s opening).1

  opened_stays : Stays opened.tree
  opened_stays = opened_has place s.tree

  abbrev looked : (fd n : ℕ) → Session
  looked fd n = (operation_effect any_summary opened (ops.Read fd n)).1

  looked_stays : (fd n : ℕ) → Stays (looked fd n).tree
  looked_stays fd n = subst Stays (sym (read_keeps opened fd n (file_reader (file_numbered opened.files fd)))) opened_stays

  abbrev closed : (fd n : ℕ) → Session
  closed fd n = (operation_effect any_summary (looked fd n) (ops.Close fd)).1

  looked_file : (fd n : ℕ) → IsAcceptedOpen s path reading_flags fd → is_none (file_writer (file_numbered (looked fd n).files fd)) ≡ true
  looked_file fd n o = after_read opened fd n (record { path = place; position = 0 }) (file_reader (file_numbered opened.files fd)) (ap file_reader o.file) o.file

  closed_stays : (fd n : ℕ) → IsAcceptedOpen s path reading_flags fd → Stays (closed fd n).tree
  closed_stays fd n o = subst Stays (sym (unwritten (file_numbered (looked fd n).files fd) (looked fd n).tree (looked_file fd n o))) (looked_stays fd n)

-- ---- what a loss of power in each call leaves

module _ (h a : SessionView) (path : List ℕ) where
  pub open_reads : (r : Result Reply Error) → IsCall h (ops.Open path reading_flags) r a → ReadSurvivesPowerLoss path (system_state h) (system_state a)
  open_reads r one s healthy = call_survives (Stays s path) h a s (ops.Open path reading_flags) r healthy refl (stays s path) (opened_stays s path) one

  module _ (fd : ℕ) (one : IsCall h (ops.Open path reading_flags) (Ok (ops.Opened fd)) a) where
    accepted : (s : Session) → (system_state h).state ≡ Healthy s → IsAcceptedOpen s path reading_flags fd
    accepted s healthy = accepted_open (system_state h) (system_state a) s path reading_flags fd healthy one.answers

    at_a : (s : Session) → (system_state h).state ≡ Healthy s → (system_state a).state ≡ Healthy (opened s path)
    at_a s healthy = (accepted_step (system_state h) (system_state a) (ops.Open path reading_flags) (ops.Opened fd) s healthy refl refl one.answers).after

    pub read_reads : (n : ℕ) (b : SessionView) (r : Result Reply Error) → IsCall a (ops.Read fd n) r b → ReadSurvivesPowerLoss path (system_state h) (system_state b)
    read_reads n b r two s healthy =
        then_survives (Stays s path) (system_state h) (system_state a) (system_state b) (call_works h a (ops.Open path reading_flags) (ops.Opened fd) refl one) (lives a b (ops.Read fd n) r two)
        (open_reads (Ok (ops.Opened fd)) one s healthy)
        (λ t after. call_survives (Stays s path) a b (opened s path) (ops.Read fd n) r (at_a s healthy) refl (opened_stays s path) (looked_stays s path fd n) two)

    module _ (n : ℕ) (b : SessionView) (bytes : List ℕ) (two : IsCall a (ops.Read fd n) (Ok (ops.Bytes bytes)) b) where
      at_b : (s : Session) → (system_state h).state ≡ Healthy s → (system_state b).state ≡ Healthy (looked s path fd n)
      at_b s healthy = (accepted_step (system_state a) (system_state b) (ops.Read fd n) (ops.Bytes bytes) (opened s path) (at_a s healthy) refl refl two.answers).after

      pub close_reads : (c : SessionView) (r : Result Reply Error) → IsCall b (ops.Close fd) r c → ReadSurvivesPowerLoss path (system_state h) (system_state c)
      close_reads c r three s healthy =
          then_survives (Stays s path) (system_state h) (system_state b) (system_state c)
          (works_then (system_state h) (system_state a) (system_state b) (call_works h a (ops.Open path reading_flags) (ops.Opened fd) refl one) (call_works a b (ops.Read fd n) (ops.Bytes bytes) refl two))
          (lives b c (ops.Close fd) r three) (read_reads n b (Ok (ops.Bytes bytes)) two s healthy)
          (λ t after. call_survives (Stays s path) b c (looked s path fd n) (ops.Close fd) r (at_b s healthy) refl (looked_stays s path fd n) (closed_stays s path fd n (accepted s healthy)) three)

      -- ---- the bytes

      module _ (size : IsFileQueryResult file_size a fd (Ok n)) (s : Session) (healthy : (system_state h).state ≡ Healthy s) where
        o : IsAcceptedOpen s path reading_flags fd
        o = accepted s healthy

        there : is_none (s.tree (place s path)) ≡ false
        there = not_none (is_none (s.tree (place s path))) o.made

        kept : (opened s path).tree ≡ s.tree
        kept = rw there refl

        same : viewed_session a ≡ opened s path
        same = seen a _ size.0 (at_a s healthy)

        file : file_numbered a.files fd ≡ Some (Reading (record { path = place s path; position = 0 }))
        file = ap (λ (t : Session). file_numbered t.files fd) same ∙ o.file

        long : length (file_bytes (s.tree (place s path))) ≡ n
        long = same_Some _ n (sym (ap (option_map (file_size a)) file ∙ ap (λ (t : Session). Some (length (file_bytes (t.tree (place s path))))) same ∙ ap (λ (t : Tree). Some (length (file_bytes (t (place s path))))) kept) ∙ size.1)

        read : bytes ≡ file_bytes (s.tree (place s path))
        read =
            same_bytes bytes _ ((accepted_step (system_state a) (system_state b) (ops.Read fd n) (ops.Bytes bytes) (opened s path) (at_a s healthy) refl refl two.answers).replied
            ∙ ap (λ f. (read_effect (opened s path) fd n (file_reader f)).0) o.file)
            ∙ ap (λ (t : Tree). take n (file_bytes (t (place s path)))) kept
            ∙ take_all n (file_bytes (s.tree (place s path))) (omega (arith, long))

      pub all_read : IsFileQueryResult file_size a fd (Ok n) → (c : SessionView) → IsCall b (ops.Close fd) (Ok ops.Done) c → ReadsFile path bytes (system_state h) (system_state c)
      all_read size c three s healthy = (
        a_file (s.tree (place s path)) (accepted s healthy).no_directory (there size s healthy) ∙ ap Some (sym (read size s healthy)),
        (
          closed s path fd n,
          (
            (accepted_step (system_state b) (system_state c) (ops.Close fd) ops.Done (looked s path fd n) (at_b s healthy) refl refl three.answers).after,
            subst (λ old. HasBytesAt (place s path) old s.tree (closed s path fd n).tree) (sym (read size s healthy)) (closed_stays s path fd n (accepted s healthy)),
          ),
        ),
      )
