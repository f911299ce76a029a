-- Sets the position of an open file.
use Rattle.std.proofs.Common.{ℕ, ◌≡◌, true, false, set, None, Ok, is_some, refl, sym, ap, subst, ◌∙◌}
use Rattle.lfs_fs.proofs.Common.{option_map, OpenFilesByNumber, TreeState, visible_tree, RuntimeFiles, open_file_at, files_view, file_with_position, StepsOrFails, SessionView, IsReady, session_view, refusal_by_checks}
use Rattle.lfs_model.specs.session.Operations as ops
use Rattle.lfs_fs.proofs.Answered.{kept_answer, sound_by}
use Rattle.lfs_fs.proofs.OpenFiles.{moved_is, ready_moved}

pub moved_answers : (t : TreeState) (fs gs : RuntimeFiles) (now : SessionView) (fd position : ℕ) → session_view t fs ≡ now → (t.failed ≡ false → IsReady t fs) → refusal_by_checks (session_view t fs) (ops.Seek fd position) ≡ None →
    is_some (open_file_at fs fd) ≡ true → gs ≡ set fs fd (option_map (file_with_position position) (open_file_at fs fd)) → StepsOrFails now (ops.Seek fd position) (Ok ops.Done) (session_view t gs)
moved_answers t fs gs now fd position same ready e there is =
    kept_answer (session_view t fs) now (ops.Seek fd position) (files_view t gs) ops.Done same (sound_by t fs ready) e refl refl refl
    (ap (λ (files : OpenFilesByNumber). (ops.Done, record { tree = visible_tree t; files = files })) (sym (ap (files_view t) is ∙ moved_is t fs fd position there)))

pub moved_ready : (t : TreeState) (fs gs : RuntimeFiles) (fd position : ℕ) → (t.failed ≡ false → IsReady t fs) → gs ≡ set fs fd (option_map (file_with_position position) (open_file_at fs fd)) → t.failed ≡ false → IsReady t gs
moved_ready t fs gs fd position ready is works = subst (IsReady t) (sym is) (ready_moved t fs fd position (ready works))
