-- A writer that is changed in place among the open files.
use Rattle.std.proofs.Common.{ℕ, zero, suc, ◌≡◌, ◌≤◌, List, [], ◌∷◌, length, Option, Some, sym, ap, subst, ◌∙◌, arith, slice_index_or}
use Rattle.std.specs.Prelude.{slice_set}
use Rattle.lfs_fs.proofs.Common.{same_Some, RuntimeFiles, draft_or_stored_bytes, open_file_at, writer_if_any, CanChangeWriter, IsDraftOrFileForm, TreeState, contents_form}
use Rattle.lfs_fs.specs.WriterChanges.{IsWritablePath, ChangesWriterAt}
use Rattle.lfs_fs.specs.declared.files.OpenFile.{OpenFile}
use Rattle.lfs_fs.specs.declared.files.OpenFile.TheVariants as file
use Rattle.lfs_fs.specs.declared.files.UnsavedContents.{UnsavedContents}
use Rattle.lfs_fs.specs.declared.files.Writer.{Writer}
use Rattle.lfs_fs.proofs.OpenFiles.{one_of}
use Rattle.lfs_fs.proofs.Writing.{changed_in}
use Rattle.lfs_file.specs.declared.contents.WriterContents.{WriterContents}

entry_at : (fs : RuntimeFiles) (fd : ℕ) (x : OpenFile) (other : Option OpenFile) → open_file_at fs fd ≡ Some x → slice_index_or fs fd other ≡ Some x
entry_at [] fd x other e = absurd (cc)
entry_at (f ∷ fs) zero x other e = e
entry_at (f ∷ fs) (suc fd) x other e = entry_at fs fd x other e

-- the entry of that number is the writer's
pub same_writer : (fs : RuntimeFiles) (fd : ℕ) (v w : Writer) (entry : Option OpenFile) (x : OpenFile) → entry ≡ slice_index_or fs fd entry → entry ≡ Some x → x ≡ file.Writing v → open_file_at fs fd ≡ Some (file.Writing w) → v ≡ w
same_writer fs fd v w entry x at is written e =
    same_Some v w (ap writer_if_any (sym (ap Some written) ∙ sym is ∙ at ∙ entry_at fs fd (file.Writing w) entry e))

pub same_files_before : {P : Writer → Type 0} (fs gs : RuntimeFiles) (fd : ℕ) (later : RuntimeFiles) → fs ≡ gs → ChangesWriterAt fs fd P later → ChangesWriterAt gs fd P later
same_files_before fs gs fd later e h = record { writer = h.writer; only = h.only ∙ ap (λ xs. slice_set xs fd (Some (file.Writing h.writer))) e; holds = h.holds }

-- one writer replaces another
pub as_many : (fs : RuntimeFiles) (fd : ℕ) (v w : Writer) → open_file_at fs fd ≡ Some (file.Writing w) → one_of (writer_if_any (Some (file.Writing v))) ≤ one_of (writer_if_any (open_file_at fs fd))
as_many fs fd v w e = subst (λ o. one_of (writer_if_any (Some (file.Writing v))) ≤ one_of (writer_if_any o)) (sym e) (omega arith)

-- the contents of a writer whose changes were taken out
pub has_contents : (t : TreeState) (w : Writer) (unsaved : Option UnsavedContents) → CanChangeWriter t w → unsaved ≡ w.unsaved → IsWritablePath t w.path unsaved
has_contents t w unsaved can is = subst (λ u. IsWritablePath t w.path u) (sym is) (record {
  works = can.works;
  writable = can.written.writable;
  settled = can.written.settled;
  file = can.written.there;
  idle = can.idle;
  over = λ u e. (changed_in t w u can.written.changed e).over;
})

pub has_size : (t : TreeState) (w : Writer) (unsaved : Option UnsavedContents) → CanChangeWriter t w → unsaved ≡ w.unsaved → length (draft_or_stored_bytes t w.path unsaved) ≡ w.size
has_size t w unsaved can is = ap (λ u. length (draft_or_stored_bytes t w.path u)) is ∙ can.written.size

pub same_form : (t : TreeState) (w : Writer) (unsaved : Option UnsavedContents) (c : WriterContents) → unsaved ≡ w.unsaved → IsDraftOrFileForm t.disk.profile t.disk.block_size unsaved (length (draft_or_stored_bytes t w.path unsaved)) (contents_form c) →
    IsDraftOrFileForm t.disk.profile t.disk.block_size w.unsaved (length (draft_or_stored_bytes t w.path w.unsaved)) (contents_form c)
same_form t w unsaved c is h = subst (λ u. IsDraftOrFileForm t.disk.profile t.disk.block_size u (length (draft_or_stored_bytes t w.path u)) (contents_form c)) is h

pub same_bytes : (t : TreeState) (w : Writer) (unsaved : Option UnsavedContents) (bytes : List ℕ) → unsaved ≡ w.unsaved → bytes ≡ draft_or_stored_bytes t w.path unsaved → bytes ≡ draft_or_stored_bytes t w.path w.unsaved
same_bytes t w unsaved bytes is e = subst (λ u. bytes ≡ draft_or_stored_bytes t w.path u) is e
