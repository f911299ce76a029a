-- A file that is opened for reading.
use Rattle.std.proofs.Common.{ℕ, ◌≡◌, false, List, Some, None, Result, Ok, Err, sym, ap, ap₂, subst, ◌∙◌}
use Rattle.std.specs.Prelude.{IfOk, OnOk, is_err, is_none}
use Rattle.lfs_device.specs.declared.error.Error.{Error}
use Rattle.lfs_model.specs.session.Operations as ops
use Rattle.lfs_fs.proofs.Common.{FlagsOfOpen, Reading, files_with_file, path_or_root, TreeState, OnlyReadsTree, visible_tree, RuntimeFiles, files_view, lowest_free_fd, files_with_entry, no_known_blocks, struct_blocks, contents_struct, IsStorageAt, StepsOrFails, SessionView, IsReadableFile, IsReady, session_view, refusal_by_checks, reply_from}
use Rattle.lfs_lookup.specs.declared.file_contents.FileContents.{FileContents}
use Rattle.lfs_fs.specs.declared.files.OpenFile.TheVariants as file
use Rattle.lfs_fs.proofs.Answered.{asked_ready, reader_answers, sound_by}
use Rattle.lfs_fs.proofs.ReadersKnow.{none_known}
use Rattle.lfs_fs.proofs.OpenFiles.{apart_is, free_is, put_is, ready_put}

pub reader_opened : (t mid : TreeState) (fs gs : RuntimeFiles) (now : SessionView) (bytes : List ℕ) (flags : FlagsOfOpen) (contents : FileContents) (r : Result ℕ Error) → session_view t fs ≡ now → (t.failed ≡ false → IsReady t fs) → flags.write ≡ false →
    OnlyReadsTree t mid → refusal_by_checks (session_view t fs) (ops.Open bytes flags) ≡ None → is_none (visible_tree t (path_or_root bytes)) ≡ false →
    false ≡ is_err r → IfOk r (λ fd. fd ≡ lowest_free_fd fs) → OnOk r (gs ≡ files_with_entry fs (lowest_free_fd fs) (Some (file.Reading (record { path = path_or_root bytes; position = 0; contents = contents; known = no_known_blocks })))) →
    StepsOrFails now (ops.Open bytes flags) (reply_from ops.Opened r) (session_view mid gs)
reader_opened t mid fs gs now bytes flags contents (Err e) same ready write asked e' there ok number added = absurd (cc)
reader_opened t mid fs gs now bytes flags contents (Ok fd) same ready write asked e there ok number added =
    reader_answers (session_view t fs) now bytes flags mid (files_view mid gs) (Ok fd) same (sound_by t fs ready) write asked e there ok (number ∙ free_is t fs)
    (ap (files_view mid) added ∙ put_is mid fs (lowest_free_fd fs) (Some (file.Reading (record { path = path_or_root bytes; position = 0; contents = contents; known = no_known_blocks })))
    ∙ ap₂ (λ files n. files_with_file files n (Some (Reading (record { path = path_or_root bytes; position = 0 })))) (ap (λ z. files_view z fs) asked.same) (free_is t fs))

pub reader_ready : (t mid : TreeState) (fs gs : RuntimeFiles) (bytes : List ℕ) (contents : FileContents) (r : Result ℕ Error) → (t.failed ≡ false → IsReady t fs) → OnlyReadsTree t mid → IsReadableFile t (files_view t fs) bytes contents → false ≡ is_err r →
    OnOk r (gs ≡ files_with_entry fs (lowest_free_fd fs) (Some (file.Reading (record { path = path_or_root bytes; position = 0; contents = contents; known = no_known_blocks })))) → mid.failed ≡ false → IsReady mid gs
reader_ready t mid fs gs bytes contents (Err e) ready asked may ok added works = absurd (cc)
reader_ready t mid fs gs bytes contents (Ok fd) ready asked may ok added works =
    subst (IsReady mid) (sym added) (ready_put mid fs (record { path = path_or_root bytes; position = 0; contents = contents; known = no_known_blocks })
    (record { contents = subst (λ ps. IsStorageAt ps (path_or_root bytes) contents) (sym (ap (λ (z : TreeState). z.pairs) asked.same)) may.contents; apart = apart_is t fs (path_or_root bytes) may.readable.apart })
    (none_known (struct_blocks mid.disk (contents_struct contents))) (asked_ready t mid fs ready asked works))
