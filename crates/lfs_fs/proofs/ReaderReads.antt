-- The bytes that an open reader returns.
use Rattle.std.proofs.Common.{ℕ, ◌≡◌, ◌≤◌, ◌+◌, ◌-◌, ◌++◌, min, true, false, List, length, take, drop, Option, Some, None, is_none, Result, Ok, Err, refl, sym, ap, ap₂, subst, ◌∙◌, arith}
use Rattle.lfs_fs.proofs.Common.{option_map, file_bytes, is_file, Operation, Reply, OpenFilesByNumber, Reading, Writing, file_numbered, files_with_file, file_reader, refuse_if, repositioned_file, node_file_size, Node, FileNode, DirectoryNode, length-take, take_all, same_Some, IsStorageAt, contents_struct, CallEvent, read_count, struct_at, skip_list_block_count, Ctz, Inline, Struct, RuntimeFiles, open_file_at, files_view, as_reader, reader_view, BoundsFileReads, TreeState, IsSoundState, visible_tree, OnlyReadsTree, SessionView, session_view, view_with_files, viewed_session, refusal_by_checks, StepsOrFails, error_refusal, FailedByReading, HasErrorCause, reply_from}
use Rattle.lfs_model.specs.session.Operations as ops
use Rattle.lfs_model.specs.session.Session.{OpenFile, FileReader}
use Rattle.lfs_model.specs.session.Effects.{read_effect}
use Rattle.std.proofs.lemmas.List.{length-drop, take_at, take_min}
use Rattle.lfs_file.specs.Known.{ReadsFewPointers, ReadsKnownList}
use Rattle.lfs_file.specs.declared.known.IndexCache.{IndexCache}
use Rattle.lfs_model.specs.format.SkipLists.{IsByteInListBlock}
use Rattle.lfs_fs.specs.declared.files.Reader.{Reader}
use Rattle.lfs_fs.proofs.OpenFiles.{some_reader}
use Rattle.lfs_device.specs.declared.error.Error.{Error}
use Rattle.lfs_fs.proofs.Failing.{asking_fails}
use Rattle.lfs_fs.proofs.Answered.{error_answers, files_answers}
use Rattle.lfs_fs.proofs.Questions.{works_by}

reading_is : (f : Option OpenFile) (r : FileReader) → Some r ≡ file_reader f → f ≡ Some (Reading r)
reading_is None r e = absurd (cc)
reading_is (Some (Reading q)) r e = ap or_else (sym e)
  where
    or_else : Option FileReader → Option OpenFile
    or_else None = Some (Reading q)
    or_else (Some z) = Some (Reading z)
reading_is (Some (Writing w)) r e = absurd (cc)

pub no_reader : (h : SessionView) (fd count : ℕ) → false ≡ h.tree.failed → None ≡ file_reader (file_numbered h.files fd) → refusal_by_checks h (ops.Read fd count) ≡ Some ops.BadFile
no_reader h fd count works e = works_by h (ops.Read fd count) (Some ops.BadFile) works (ap (λ z. refuse_if (is_none z) ops.BadFile) (sym e))

pub a_reader : (h : SessionView) (fd count : ℕ) (r : FileReader) → false ≡ h.tree.failed → Some r ≡ file_reader (file_numbered h.files fd) → refusal_by_checks h (ops.Read fd count) ≡ None
a_reader h fd count r works e = works_by h (ops.Read fd count) None works (ap (λ z. refuse_if (is_none z) ops.BadFile) (sym e))

pub read_answers : (old now : SessionView) (fd count : ℕ) (r : FileReader) (tree : TreeState) (files : OpenFilesByNumber) (bytes : List ℕ) (position : ℕ) → old ≡ now → (old.tree.failed ≡ false → IsSoundState old.tree) → false ≡ old.tree.failed → OnlyReadsTree old.tree tree →
    Some r ≡ file_reader (file_numbered old.files fd) → bytes ≡ take count (drop r.position (file_bytes (visible_tree old.tree r.path))) → position ≡ r.position + length bytes →
    files ≡ files_with_file old.files fd (option_map (repositioned_file position) (file_numbered old.files fd)) → StepsOrFails now (ops.Read fd count) (Ok (ops.Bytes bytes)) (view_with_files tree files)
read_answers old now fd count r tree files bytes position same ready works asked is bytes_are at files_are =
    files_answers old now (ops.Read fd count) tree files (ops.Bytes bytes) same ready asked (a_reader old fd count r works is) refl refl refl refl refl
    (ap (read_effect (viewed_session old) fd count) (sym is) ∙ ap₂ (λ b f. (ops.Bytes b, record { tree = visible_tree old.tree; files = f })) (sym bytes_are) moved)
  where
    given : List ℕ
    given = take count (drop r.position (file_bytes (visible_tree old.tree r.path)))

    moved : files_with_file old.files fd (Some (Reading (record r { position = r.position + length given }))) ≡ files
    moved = ap (λ n. files_with_file old.files fd (Some (Reading (record r { position = n })))) (ap (λ b. r.position + length b) (sym bytes_are) ∙ sym at)
        ∙ ap (λ f. files_with_file old.files fd (option_map (repositioned_file position) f)) (sym (reading_is (file_numbered old.files fd) r is)) ∙ sym files_are

-- ---- into a buffer

-- as many bytes come as the buffer has, of a buffer of as many as the file has of those that were asked for
all_come : (buf file : List ℕ) (n room count position : ℕ) → take n buf ≡ take room (drop position file) → n ≤ room → length buf ≡ room → room ≡ min count (length file - position) → n ≡ room
all_come buf file n room count position read fits long is = omega (arith, ap length read, length-take n buf, length-take room (drop position file), length-drop position file)

-- they are the whole buffer
pub whole_buffer : (buf more file : List ℕ) (n room count position len : ℕ) → take n buf ≡ take room (drop position file) → n ≤ room → length buf ≡ room → room ≡ min count (length file - position) → len ≡ room → take len (buf ++ more) ≡ take count (drop position file)
whole_buffer buf more file n room count position len read fits long is same =
    let all : n ≡ room = all_come buf file n room count position read fits long is in
    take_at buf more len (omega (arith, long, same)) ∙ sym (take_all n buf (omega (arith, long, all))) ∙ read
    ∙ ap (λ k. take k (drop position file)) (is ∙ ap (min count) (sym (length-drop position file))) ∙ take_min count (drop position file)

-- ---- where it ends

file_there : (n : Option Node) (size : ℕ) → node_file_size n ≡ Some size → (is_file n ≡ true) × (length (file_bytes n) ≡ size)
file_there None size e = absurd (cc)
file_there (Some (FileNode attributes bytes)) size e = (refl, ap or_else e)
  where
    or_else : Option ℕ → ℕ
    or_else None = 0
    or_else (Some z) = z
file_there (Some (DirectoryNode attributes names)) size e = absurd (cc)

pub is_there : (n : Option Node) (size : ℕ) → node_file_size n ≡ Some size → is_file n ≡ true
is_there n size e = (file_there n size e).0

-- a call failed on the way
pub read_fails : {B : Type 0} (old now : SessionView) (op : Operation) (reply : B → Reply) (e : Error) (tree : TreeState) (r : Result B Error) → old ≡ now → false ≡ old.tree.failed → FailedByReading old.tree tree → HasErrorCause old.tree tree e → r ≡ Err e →
    StepsOrFails now op (reply_from reply r) (view_with_files tree old.files)
read_fails old now op reply e tree r same works broken error is =
    subst (λ z. StepsOrFails z op (reply_from reply r) (view_with_files tree old.files)) same
    (subst (λ z. StepsOrFails old op (reply_from reply z) (view_with_files tree old.files)) (sym is)
    (error_answers old op e (view_with_files tree old.files) (ops.Refused (error_refusal e)) error.errors (asking_fails e old op tree old.files (sym works) broken error)))

-- ---- how often it reads

-- as many bytes are read as the list has of those that were asked for
pub known_read : (block_size size position count room : ℕ) (known later : IndexCache) (old new : List CallEvent) → room ≡ min count (size - position) → ReadsKnownList block_size size position room known later old new → ReadsKnownList block_size size position count known later old new
known_read block_size size position count room known later old new is h first last off end at there =
    let fits : min room (size - position) ≡ min count (size - position) = omega arith in
    subst (λ k. ReadsFewPointers known (skip_list_block_count block_size size) first last k later old new) fits
    (h first last off end at (subst (λ k. IsByteInListBlock block_size (position + k - 1) last end) (sym fits) there))

-- no oftener than its known blocks say
pub few_reads : (t new : TreeState) (fs : RuntimeFiles) (files : OpenFilesByNumber) (fd count : ℕ) (r : Reader) (known later : IndexCache) → Some r ≡ as_reader (open_file_at fs fd) → IsStorageAt t.pairs r.path r.contents
    → ((own : List ℕ) → contents_struct r.contents ≡ Inline own → new.history ≡ t.history)
    → ((head size : ℕ) → contents_struct r.contents ≡ Ctz head size → ReadsKnownList t.disk.block_size size r.position count known later t.history new.history)
    → BoundsFileReads (session_view t fs) fd count (view_with_files new files)
few_reads t new fs files fd count r known later there kept none few = record {
  inline = λ q own at is. ap read_count (none own (stored q (Inline own) at is));
  list = λ q head size m first last off end at is le from to.
      let e = same q at in
      (few head size (stored q (Ctz head size) at is) first last off end (subst (λ (z : FileReader). IsByteInListBlock t.disk.block_size z.position first off) (sym e) from)
      (subst (λ (z : FileReader). IsByteInListBlock t.disk.block_size (z.position + min count (size - z.position) - 1) last end) (sym e) to)).few m le;
}
  where
    same : (q : FileReader) → file_reader (file_numbered (files_view t fs) fd) ≡ Some q → reader_view r ≡ q
    same q at = same_Some (reader_view r) q (some_reader t fs fd r there ∙ at)

    stored : (q : FileReader) (s : Struct) → file_reader (file_numbered (files_view t fs) fd) ≡ Some q → struct_at t.pairs q.path ≡ Some s → contents_struct r.contents ≡ s
    stored q s at is = same_Some (contents_struct r.contents) s (sym kept.struct ∙ ap (λ (z : FileReader). struct_at t.pairs z.path) (same q at) ∙ is)
