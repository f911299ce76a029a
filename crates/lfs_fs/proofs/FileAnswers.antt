-- A session returns the position and the size that an open file has.
use Rattle.std.proofs.Common.{ℕ, ◌≡◌, ◌∙◌, true, false, zero, suc, length, [], ◌∷◌, Option, Some, None, inl, inr, refl, sym, ap, subst}
use Rattle.lfs_fs.proofs.Common.{AllByRecursion, option_map, same_Some, TreeState, file_position, RuntimeFiles, open_file_at, file_view, as_reader, draft_or_stored_bytes, writer_if_any, writers_among, IsWriterReady, SessionView, session_view}
use Rattle.std.specs.Prelude.{Err, Ok}
use Rattle.lfs_device.specs.declared.error.Error.TheVariants.{BadFile, Failed}
use Rattle.lfs_model.specs.session.Session as session
use Rattle.lfs_fs.specs.FileAnswers.{IsFileQueryResult}
use Rattle.lfs_fs.specs.FileView.{open_file_position}
use Rattle.lfs_fs.specs.declared.files.OpenFile.{OpenFile}
use Rattle.lfs_fs.specs.declared.files.OpenFile.TheVariants as file
use Rattle.lfs_fs.specs.declared.files.Reader.{Reader}
use Rattle.lfs_fs.specs.declared.files.Writer.{Writer}
use Rattle.lfs_fs.proofs.OpenFiles.{file_is}

-- ---- the kinds of a file

-- a file that is neither a writer nor a reader isn't open
pub no_file : (o : Option OpenFile) → None ≡ writer_if_any o → None ≡ as_reader o → o ≡ None
no_file None w r = refl
no_file (Some (file.Reading x)) w r = absurd (cc)
no_file (Some (file.Writing x)) w r = absurd (cc)

pub a_writer : (o : Option OpenFile) (w : Writer) → Some w ≡ writer_if_any o → o ≡ Some (file.Writing w)
a_writer None w e = absurd (cc)
a_writer (Some (file.Reading x)) w e = absurd (cc)
a_writer (Some (file.Writing x)) w e = ap (λ (v : Writer). Some (file.Writing v)) (sym (same_Some w x e))

pub a_reader_file : (o : Option OpenFile) (r : Reader) → Some r ≡ as_reader o → o ≡ Some (file.Reading r)
a_reader_file None r e = absurd (cc)
a_reader_file (Some (file.Reading x)) r e = ap (λ (v : Reader). Some (file.Reading v)) (sym (same_Some r x e))
a_reader_file (Some (file.Writing x)) r e = absurd (cc)

-- the writer of a number has the size of its contents
pub writer_sized : (t : TreeState) (fs : RuntimeFiles) (fd : ℕ) (w : Writer) → Some w ≡ writer_if_any (open_file_at fs fd) → AllByRecursion (IsWriterReady t) (writers_among fs) → length (draft_or_stored_bytes t w.path w.unsaved) ≡ w.size
writer_sized t [] fd w e h = absurd (cc)
writer_sized t (None ∷ fs) zero w e h = absurd (cc)
writer_sized t (Some (file.Reading q) ∷ fs) zero w e h = absurd (cc)
writer_sized t (Some (file.Writing q) ∷ fs) zero w e h = subst (λ (v : Writer). length (draft_or_stored_bytes t v.path v.unsaved) ≡ v.size) (sym (same_Some w q e)) h.0.size
writer_sized t (None ∷ fs) (suc fd) w e h = writer_sized t fs fd w e h
writer_sized t (Some (file.Reading q) ∷ fs) (suc fd) w e h = writer_sized t fs fd w e h
writer_sized t (Some (file.Writing q) ∷ fs) (suc fd) w e h = writer_sized t fs fd w e h.1

-- ---- the answers

pub answers_failed : (number : SessionView → session.OpenFile → ℕ) (t : TreeState) (fs : RuntimeFiles) (now : SessionView) (fd : ℕ) → session_view t fs ≡ now → true ≡ t.failed → IsFileQueryResult number now fd (Err Failed)
answers_failed number t fs now fd seen failed = subst (λ (h : SessionView). IsFileQueryResult number h fd (Err Failed)) seen (inl (sym failed, refl))

pub answers_none : (number : SessionView → session.OpenFile → ℕ) (t : TreeState) (fs : RuntimeFiles) (now : SessionView) (fd : ℕ) → session_view t fs ≡ now → false ≡ t.failed → open_file_at fs fd ≡ None → IsFileQueryResult number now fd (Err BadFile)
answers_none number t fs now fd seen works none =
    subst (λ (h : SessionView). IsFileQueryResult number h fd (Err BadFile)) seen (inr (sym works, (file_is t fs fd ∙ ap (option_map (file_view t)) none), refl))

pub answers_some : (number : SessionView → session.OpenFile → ℕ) (t : TreeState) (fs : RuntimeFiles) (now : SessionView) (fd n : ℕ) (o : OpenFile) → session_view t fs ≡ now → false ≡ t.failed → open_file_at fs fd ≡ Some o
    → number (session_view t fs) (file_view t o) ≡ n → IsFileQueryResult number now fd (Ok n)
answers_some number t fs now fd n o seen works some is =
    subst (λ (h : SessionView). IsFileQueryResult number h fd (Ok n)) seen
    (sym works, ap (option_map (number (session_view t fs))) (file_is t fs fd ∙ ap (option_map (file_view t)) some) ∙ ap Some is)

-- a position that was found, if there is a file
pub position_found : (o : Option OpenFile) (n : ℕ) → Some n ≡ option_map open_file_position o → (f : OpenFile) × ((o ≡ Some f) × (open_file_position f ≡ n))
position_found None n e = absurd (cc)
position_found (Some f) n e = (f, (refl, sym (same_Some n (open_file_position f) e)))

pub position_none : (o : Option OpenFile) → None ≡ option_map open_file_position o → o ≡ None
position_none None e = refl
position_none (Some f) e = absurd (cc)

pub position_seen : (h : SessionView) (t : TreeState) (f : OpenFile) → file_position h (file_view t f) ≡ open_file_position f
position_seen h t (file.Reading r) = refl
position_seen h t (file.Writing w) = refl
