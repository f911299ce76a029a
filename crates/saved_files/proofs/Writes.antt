-- What the three calls of a write make of a session, and what a loss of power in them leaves.
use Rattle.std.proofs.Common.{ℕ, ◌≡◌, inl, inr, true, if◌then◌else◌, List, Some, Result, Ok, refl, ap, ◌∙◌}
use Rattle.lfs_device.specs.declared.error.Error.{Error}
use Rattle.lfs_model.specs.tree.Tree.{Tree}
use Rattle.lfs_model.specs.session.TreeEdits.{file_bytes}
use Rattle.lfs_model.specs.session.Operations as ops
use Rattle.lfs_model.specs.session.Operations.{FlagsOfOpen, Operation, Reply}
use Rattle.lfs_model.specs.session.Session.{Session, FileWriter, Reading, Writing, file_numbered}
use Rattle.lfs_model.specs.session.Writers.{opened_writer, writer_after_write}
use Rattle.lfs_model.specs.session.Effects.{operation_effect}
use Rattle.lfs_model.specs.session.Refusals.{path_or_root}
use Rattle.lfs_model.specs.session.State.{Healthy}
use Rattle.lfs_fs.specs.CallEffects.{IsCall}
use Rattle.lfs_fs.specs.SessionView.{SessionView, system_state}
use Rattle.lfs_model.specs.session.Accepted.{IsAcceptedOpen}
use Rattle.lfs_model.proofs.Openings.{accepted_open, put_again}
use Rattle.lfs_model.proofs.Passing.{accepted_step}
use Rattle.lfs_model.proofs.TreesLeft.{any_summary}
use Rattle.lfs_fs.proofs.Users.{lives}
use Rattle.saved_files.specs.Working.{LossLeavesTreeWith}
use Rattle.saved_files.specs.Writing.{bytes_if_file, IsBeforeOrAfterWrite, IsWritten}
use Rattle.saved_files.proofs.Parts.{call_survives, call_works, then_survives, works_then}
use Rattle.saved_files.proofs.Written.{opened_has, closed_has, closed_file}

module _ (s : Session) (path : List ℕ) (flags : FlagsOfOpen) (bytes : List ℕ) where
  abbrev opening : Operation
  opening = ops.Open path flags

  abbrev opened : Session
  opened = (operation_effect any_summary s opening).1

  abbrev written : ℕ → Session
  written fd = (operation_effect any_summary opened (ops.Write fd bytes)).1

  abbrev closed : ℕ → Session
  closed fd = (operation_effect any_summary (written fd) (ops.Close fd)).1

  abbrev Has : Tree → Type 0
  Has tree = IsBeforeOrAfterWrite (path_or_root path) flags bytes s.tree tree

  before : Has s.tree
  before = inl (record { elsewhere = λ other off above. refl; has = refl })

  kept : Has opened.tree
  kept = inl (opened_has (path_or_root path) s.tree)

  abbrev writer : FileWriter
  writer = opened_writer (path_or_root path) flags (file_bytes (s.tree (path_or_root path)))

  written_file : (fd : ℕ) → flags.write ≡ true → IsAcceptedOpen s path flags fd → file_numbered (written fd).files fd ≡ Some (Writing (writer_after_write writer bytes))
  written_file fd write o =
      let file : file_numbered opened.files fd ≡ Some (Writing writer) = o.file ∙ ap (λ b. Some (if b then Writing writer else Reading (record { path = path_or_root path; position = 0 }))) write in
      rw file (put_again opened.files fd (Writing writer) (Writing (writer_after_write writer bytes)) file)

  closed_kept : (fd : ℕ) → flags.write ≡ true → IsAcceptedOpen s path flags fd → Has (closed fd).tree
  closed_kept fd write o = inr (rw (written_file fd write o) (closed_has (path_or_root path) flags bytes s.tree o.no_directory))

  closed_written : (fd : ℕ) → flags.write ≡ true → IsAcceptedOpen s path flags fd → IsWritten (path_or_root path) flags bytes s.tree (closed fd).tree
  closed_written fd write o = rw (written_file fd write o) (record {
    elsewhere = (closed_has (path_or_root path) flags bytes s.tree o.no_directory).elsewhere;
    file = ap bytes_if_file (closed_file (path_or_root path) flags bytes s.tree o.no_directory).is;
  })

-- ---- what a loss of power in each call leaves

module _ (h : SessionView) (path : List ℕ) (flags : FlagsOfOpen) (bytes : List ℕ) (write : flags.write ≡ true) (s : Session) (healthy : (system_state h).state ≡ Healthy s) where
  pub open_survives : (r : Result Reply Error) (a : SessionView) → IsCall h (ops.Open path flags) r a → LossLeavesTreeWith (Has s path flags bytes) (system_state h) (system_state a)
  open_survives r a one = call_survives (Has s path flags bytes) h a s (ops.Open path flags) r healthy refl (before s path flags bytes) (kept s path flags bytes) one

  module _ (fd : ℕ) (a : SessionView) (one : IsCall h (ops.Open path flags) (Ok (ops.Opened fd)) a) where
    o : IsAcceptedOpen s path flags fd
    o = accepted_open (system_state h) (system_state a) s path flags fd healthy one.answers

    at_a : (system_state a).state ≡ Healthy (opened s path flags bytes)
    at_a = (accepted_step (system_state h) (system_state a) (ops.Open path flags) (ops.Opened fd) s healthy refl refl one.answers).after

    pub write_survives : (r : Result Reply Error) (b : SessionView) → IsCall a (ops.Write fd bytes) r b → LossLeavesTreeWith (Has s path flags bytes) (system_state h) (system_state b)
    write_survives r b two =
        then_survives (Has s path flags bytes) (system_state h) (system_state a) (system_state b) (call_works h a (ops.Open path flags) (ops.Opened fd) refl one) (lives a b (ops.Write fd bytes) r two) (open_survives (Ok (ops.Opened fd)) a one)
        (λ t after. call_survives (Has s path flags bytes) a b (opened s path flags bytes) (ops.Write fd bytes) r at_a refl (kept s path flags bytes) (kept s path flags bytes) two)

    at_b : (n : ℕ) (b : SessionView) → IsCall a (ops.Write fd bytes) (Ok (ops.Count n)) b → (system_state b).state ≡ Healthy (written s path flags bytes fd)
    at_b n b two = (accepted_step (system_state a) (system_state b) (ops.Write fd bytes) (ops.Count n) (opened s path flags bytes) at_a refl refl two.answers).after

    pub close_survives : (n : ℕ) (b : SessionView) → IsCall a (ops.Write fd bytes) (Ok (ops.Count n)) b → (r : Result Reply Error) (c : SessionView) → IsCall b (ops.Close fd) r c →
        LossLeavesTreeWith (Has s path flags bytes) (system_state h) (system_state c)
    close_survives n b two r c three =
        then_survives (Has s path flags bytes) (system_state h) (system_state b) (system_state c) (works_then (system_state h) (system_state a) (system_state b) (call_works h a (ops.Open path flags) (ops.Opened fd) refl one) (call_works a b (ops.Write fd bytes) (ops.Count n) refl two))
        (lives b c (ops.Close fd) r three) (write_survives (Ok (ops.Count n)) b two)
        (λ t after. call_survives (Has s path flags bytes) b c (written s path flags bytes fd) (ops.Close fd) r (at_b n b two) refl (kept s path flags bytes) (closed_kept s path flags bytes fd write o) three)

    -- where all are answered, the file is written
    pub all_written : (n : ℕ) (b c : SessionView) → IsCall a (ops.Write fd bytes) (Ok (ops.Count n)) b → IsCall b (ops.Close fd) (Ok ops.Done) c →
        (t : Session) × (((system_state c).state ≡ Healthy t) × IsWritten (path_or_root path) flags bytes s.tree t.tree)
    all_written n b c two three =
        (closed s path flags bytes fd, ((accepted_step (system_state b) (system_state c) (ops.Close fd) ops.Done (written s path flags bytes fd) (at_b n b two) refl refl three.answers).after, closed_written s path flags bytes fd write o))
