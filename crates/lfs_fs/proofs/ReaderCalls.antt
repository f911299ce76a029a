-- The effect of a session's read of an open file.
use Rattle.std.proofs.Common.{ℕ, ◌≡◌, ◌∙◌, ◌+◌, true, false, List, drop, length, set, take, Some, is_some, Result, Ok, Err, refl, sym, ap, subst}
use Rattle.lfs_fs.proofs.Common.{option_map, AreKnownBlocks, contents_struct, error_refusal, repositioned_file, Reply, file_numbered, files_with_file, struct_blocks, file_bytes, HasErrorCause, FailedByReading, TreeState, OnlyReadsTree, visible_tree, IsCall, HasSessionInvariant, RuntimeFiles, open_file_at, file_with_index_cache, file_with_position, files_view, writers_paths, as_reader, reader_view, reply_from, HasValidIndexCache, IsCurrentReader, IsReady, SessionView, refusal_by_checks, session_view}
use Rattle.lfs_file.specs.declared.known.IndexCache.{IndexCache}
use Rattle.lfs_device.specs.declared.error.Error.{Error}
use Rattle.lfs_model.specs.session.Operations as ops
use Rattle.lfs_fs.specs.declared.files.Reader.{Reader}
use Rattle.lfs_fs.proofs.Answered.{asked_ready, files_asked, sound_by}
use Rattle.lfs_fs.proofs.DeviceLaws.{reported_asked}
use Rattle.lfs_fs.proofs.Ending.{answer_ends, broken_ends, refused_ends}
use Rattle.lfs_fs.proofs.Moving.{moved_ready}
use Rattle.lfs_fs.proofs.OpenFiles.{moved_is, reader_there, some_reader}
use Rattle.lfs_fs.proofs.OpenReaders.{one_of_all}
use Rattle.lfs_fs.proofs.Questions.{refused_kept}
use Rattle.lfs_fs.proofs.ReaderReads.{a_reader, read_answers, read_fails}
use Rattle.lfs_fs.proofs.ReadersKnow.{known_later, ready_noted, there_noted, view_noted}
use Rattle.lfs_fs.proofs.Sparing.{asking_call, asks_not, kept_asking}
use Rattle.lfs_fs.proofs.Stopping.{only_read}

-- what a session keeps of an open reader
module _ (t : TreeState) (fs : RuntimeFiles) (fd : ℕ) (r : Reader) (ready : t.failed ≡ false → IsReady t fs) (works : false ≡ t.failed) (there : Some r ≡ as_reader (open_file_at fs fd)) where
  pub kept_reader : IsCurrentReader t.pairs (writers_paths fs) r
  kept_reader = one_of_all (IsCurrentReader t.pairs (writers_paths fs)) fs fd r there (ready (sym works)).read

  pub known_of_reader : AreKnownBlocks (struct_blocks t.disk (contents_struct r.contents)) r.known
  known_of_reader = one_of_all (HasValidIndexCache t.disk) fs fd r there (ready (sym works)).known

-- ---- it is refused, or fails

module _ (t : TreeState) (fs : RuntimeFiles) (now : SessionView) (fd count : ℕ) (same : session_view t fs ≡ now) (ready : t.failed ≡ false → IsReady t fs) where
  pub refused_read : (e : Error) → refusal_by_checks (session_view t fs) (ops.Read fd count) ≡ Some (error_refusal e) → IsCall now (ops.Read fd count) (Ok (ops.Refused (error_refusal e))) now
  refused_read e is =
      kept_asking t fs now (ops.Read fd count) _ same ready (λ s. refl) refl (refused_ends (session_view t fs) now (ops.Read fd count) (error_refusal e) same is)
      (refused_kept (session_view t fs) now (ops.Read fd count) e same (sound_by t fs ready) refl is)

  pub broken_read : {B : Type 0} (reply : B → Reply) (r : Reader) (e : Error) (tree : TreeState) (result : Result B Error) → false ≡ t.failed → Some r ≡ as_reader (open_file_at fs fd) → FailedByReading t tree → HasErrorCause t tree e → result ≡ Err e
      → IsCall now (ops.Read fd count) (reply_from reply result) (session_view tree fs)
  broken_read reply r e tree result works there broken error is =
      asking_call t fs now (ops.Read fd count) _ _ same ready (λ s. refl) (λ k. absurd (cc)) (asks_not _ _ _ _ refl)
      (broken_ends (session_view t fs) now (ops.Read fd count) reply e result _ same (a_reader (session_view t fs) fd count (reader_view r) works (some_reader t fs fd r there)) refl error.errors is)
      (files_asked now (ops.Read fd count) (reply_from reply result) t tree fs (λ f. absurd (let k = sym broken.failed ∙ f in cc)) (read_fails (session_view t fs) now (ops.Read fd count) reply e tree result same works broken error is))
      (only_read (session_view t fs) now (ops.Read fd count) tree same (sound_by t fs ready) broken.reads)

-- ---- it is done

module _ (t tree : TreeState) (fs noted moved : RuntimeFiles) (fd position : ℕ) (r : Reader) (known : IndexCache) (ready : t.failed ≡ false → IsReady t fs) (works : false ≡ t.failed) (there : Some r ≡ as_reader (open_file_at fs fd)) (asked : OnlyReadsTree t tree)
    (notes : noted ≡ set fs fd (option_map (file_with_index_cache known) (open_file_at fs fd))) (moves : moved ≡ set noted fd (option_map (file_with_position position) (open_file_at noted fd))) where
  still_there : is_some (open_file_at noted fd) ≡ true
  still_there = subst (λ gs. is_some (open_file_at gs fd) ≡ true) (sym notes) (there_noted known fs fd (reader_there (open_file_at fs fd) r there))

  -- what the session is then
  pub read_invariant : HasSessionInvariant t fs → AreKnownBlocks (struct_blocks t.disk (contents_struct r.contents)) known → HasSessionInvariant tree moved
  read_invariant held list = record {
    ready = moved_ready tree noted moved fd position (ready_noted known tree fs noted fd r there (known_later t tree r known asked list) notes (asked_ready t tree fs ready asked)) moves;
    reported = reported_asked t tree held.reported asked;
  }

  files_then : files_view tree moved ≡ files_with_file (files_view t fs) fd (option_map (repositioned_file position) (file_numbered (files_view t fs) fd))
  files_then =
      ap (files_view tree) moves ∙ moved_is tree noted fd position still_there
      ∙ ap (λ v. files_with_file v fd (option_map (repositioned_file position) (file_numbered v fd)))
      (ap (files_view tree) notes ∙ view_noted known tree fs fd ∙ ap (λ z. files_view z fs) asked.same)

  pub done_read : (now : SessionView) (count : ℕ) (bytes : List ℕ) → session_view t fs ≡ now → bytes ≡ take count (drop r.position (file_bytes (visible_tree t r.path))) → position ≡ r.position + length bytes
      → IsCall now (ops.Read fd count) (Ok (ops.Bytes bytes)) (session_view tree moved)
  done_read now count bytes same are at =
      asking_call t fs now (ops.Read fd count) _ _ same ready (λ s. refl) (λ k. absurd (cc)) (asks_not _ _ _ _ refl)
      (answer_ends (session_view t fs) now (ops.Read fd count) (ops.Bytes bytes) _ same (a_reader (session_view t fs) fd count (reader_view r) works (some_reader t fs fd r there)) asked.no_fault)
      (read_answers (session_view t fs) now fd count (reader_view r) tree (files_view tree moved) bytes position same (sound_by t fs ready) works asked (some_reader t fs fd r there) are at files_then)
      (only_read (session_view t fs) now (ops.Read fd count) tree same (sound_by t fs ready) asked.reads)
