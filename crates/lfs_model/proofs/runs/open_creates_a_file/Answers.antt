use Rattle.std.proofs.Common.{[], ◌∷◌, refl, sym, ap, ◌∙◌}
use Rattle.std.specs.Prelude.{codes}
use Rattle.lfs_model.proofs.Common.{append_cancel_right, block_count, content_at, Tree, disk_tree, IsStep, large_image, large_fresh_state, state_after_open}
use Rattle.lfs_model.specs.session.Operations as ops
use Rattle.lfs_model.specs.examples.Runs.{repeated_reads}
use Rattle.lfs_model.proofs.Uniqueness.{one_thread}
use Rattle.lfs_model.proofs.Fresh.{shows}
use Rattle.lfs_model.proofs.OpenedFile.{op, pair, next, opened, commit, completed, turn, sync_step}
use Rattle.lfs_model.proofs.runs.open_creates_a_file.Goals as goal

pub returns-clause-turn : goal.returns-clause-turn
returns-clause-turn c = turn

pub returns-clause-writable : goal.returns-clause-writable
returns-clause-writable c = (next ∷ [], (completed.accepted, completed.writable))

pub returns-clause-synced : goal.returns-clause-synced
returns-clause-synced c = sync_step

-- a clean file's sync has no call
pub returns-clause-no_call : goal.returns-clause-no_call
returns-clause-no_call c = λ h.
    let done = h.effect_on_disk refl opened refl (next ∷ []) (next ∷ []) completed.accepted completed.accepted in
    let none = (done.effect.silent refl).1 in
    let same = append_cancel_right (repeated_reads 1) h.calls state_after_open.calls h.called in
    absurd (let k = same ∙ none in cc)

-- the old disk doesn't show the file
unwritten : IsStep large_fresh_state op (ops.Opened 0) (record state_after_open { disk = large_image }) → ⊥
unwritten h =
    let shown = h.agrees in
    let same = one_thread (content_at large_image) (block_count large_image) (pair ∷ []) shown.0 commit.accepted.thread shown.1.0.thread in
    let k = ap (λ (t : Tree). t (codes "b" ∷ [])) (shown.1.1 ∙ sym (ap (disk_tree large_image) same) ∙ shows large_image) in
    absurd (cc)

pub returns-clause-not_unwritten : goal.returns-clause-not_unwritten
returns-clause-not_unwritten c = unwritten
