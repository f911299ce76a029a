use Rattle.std.proofs.Common.{◌∙◌, ap₂, refl, sym, ap}
use Rattle.lfs_fs.proofs.Common.{same_path, tree_renaming, session_view, path_or_root, TreeState, visible_tree}
use Rattle.lfs_model.specs.session.Operations as ops
use Rattle.lfs_fs.proofs.Errors.{given_on}
use Rattle.lfs_fs.proofs.RenameAnswered.{renamed_left, same_answers}
use Rattle.lfs_fs.proofs.RenameChecks.{rename_can}
use Rattle.lfs_fs.proofs.Checked.{passed_writable}
use Rattle.lfs_fs.proofs.Answered.{sound_by}
use Rattle.lfs_fs.proofs.Called.{done_call, ended_as_call, still_call}
use Rattle.lfs_fs.proofs.Ending.{answer_ends}
use Rattle.lfs_fs.proofs.Stopping.{only_read}
use Rattle.lfs_fs.proofs.DeviceLaws.{between_checked}
use Rattle.lfs_fs.proofs.session.Session.rename.Goals as goal

pub rename-answer-requires-clause-can : goal.rename-answer-requires-clause-can
rename-answer-requires-clause-can g c =
    let h = c.in_ok-renaming.ensures in
    rename_can (session_view c.self.inside.tree c.self.inside.files) c.args.from.now c.args.to.now _ _ c.check_rename.new.tree (λ works. c.lemma_files_stay.ensures.few c.self.inside.tree c.self.inside.files (c.self.invariant.ready works)) h.0 h.1 h.2.from h.2.to

pub rename-answer-requires-clause-apart : goal.rename-answer-requires-clause-apart
rename-answer-requires-clause-apart g c =
    let h = c.in_ok-renaming.ensures in
    ap₂ same_path h.2.from h.2.to ∙ sym h.2.same ∙ c.if-renaming.false

pub rename-answer-requires-clause-known : goal.rename-answer-requires-clause-known
rename-answer-requires-clause-known g c = c.in_ok-renaming.ensures.2.targets

pub rename-answer-requires-clause-looked_up : goal.rename-answer-requires-clause-looked_up
rename-answer-requires-clause-looked_up g c = c.in_ok-renaming.ensures.2.handed_on

pub invariant_of-self : goal.invariant_of-self
invariant_of-self g c = between_checked c.self.inside.tree c.self.inside.files (ops.Rename c.args.from.now c.args.to.now) _ c.check_rename.result c.check_rename.new.tree c.self.invariant c.check_rename.ensures

pub invariant_of-self-2 : goal.invariant_of-self-2
invariant_of-self-2 g c =
    let h = c.in_ok-renaming.ensures in
    record {
      ready = λ works. (renamed_left _ c.self.inside.tree c.check_rename.new.tree c.rename-answer.new.self c.self.inside.files c.args.from.now c.args.to.now c.rename-answer.result c.lemma_files_stay.ensures.stay c.self.invariant.ready h.0 h.1 (sym h.2.same ∙ c.if-renaming.false) c.rename-answer.ensures.done (λ f. f (ops.Rename c.args.from.now c.args.to.now) (c.args.from.now, (c.args.to.now, (refl, (sym h.2.from, sym h.2.to))))) c.rename-answer.ensures.broken works).ready;
      reported = λ works. c.lemma_calls_conform.ensures;
    }

-- a check ends it
pub returns-in_err-renaming : goal.returns-in_err-renaming
returns-in_err-renaming g c =
    ended_as_call c.self.inside.tree c.self.inside.files _ (ops.Rename c.args.from.now c.args.to.now) (λ u. ops.Done) _ c.check_rename.new.tree c.from_residual.result c.self.view_is c.self.invariant.ready refl refl refl refl c.in_err-renaming.ensures (given_on _ c.from_residual.result c.from_residual.ensures.1)

pub invariant_of-self-then-renaming : goal.invariant_of-self-then-renaming
invariant_of-self-then-renaming g c = between_checked c.self.inside.tree c.self.inside.files (ops.Rename c.args.from.now c.args.to.now) _ c.check_rename.result c.check_rename.new.tree c.self.invariant c.check_rename.ensures

-- it is a path to itself
pub returns-then-renaming : goal.returns-then-renaming
returns-then-renaming g c =
    let h = c.in_ok-renaming.ensures in
    still_call c.self.inside.tree c.self.inside.files _ (ops.Rename c.args.from.now c.args.to.now) _ _ c.self.view_is c.self.invariant.ready refl refl (ap (λ (t : TreeState). t.disk) h.0.same)
    (answer_ends (session_view c.self.inside.tree c.self.inside.files) _ (ops.Rename c.args.from.now c.args.to.now) ops.Done _ c.self.view_is h.1 h.0.no_fault)
    (same_answers c.self.inside.tree c.check_rename.new.tree c.self.inside.files _ c.args.from.now c.args.to.now c.self.view_is c.self.invariant.ready h.0 h.1 (sym h.2.same ∙ c.if-renaming.true))
    (only_read (session_view c.self.inside.tree c.self.inside.files) _ (ops.Rename c.args.from.now c.args.to.now) c.check_rename.new.tree c.self.view_is (sound_by c.self.inside.tree c.self.inside.files c.self.invariant.ready) h.0.reads)

-- the tree's call ends it
pub returns : goal.returns
returns g c =
    let h = c.in_ok-renaming.ensures in
    done_call _ _ c.self.inside.tree c.check_rename.new.tree c.rename-answer.new.self c.self.inside.files _ (ops.Rename c.args.from.now c.args.to.now) c.rename-answer.result _ c.self.view_is c.self.invariant h.0 h.1 refl refl refl refl refl refl refl refl refl refl (sym h.2.same ∙ c.if-renaming.false)
    (passed_writable (session_view c.self.inside.tree c.self.inside.files) (ops.Rename c.args.from.now c.args.to.now) _ refl h.1)
    (renamed_left _ c.self.inside.tree c.check_rename.new.tree c.rename-answer.new.self c.self.inside.files c.args.from.now c.args.to.now c.rename-answer.result c.lemma_files_stay.ensures.stay c.self.invariant.ready h.0 h.1 (sym h.2.same ∙ c.if-renaming.false) c.rename-answer.ensures.done (λ f. f (ops.Rename c.args.from.now c.args.to.now) (c.args.from.now, (c.args.to.now, (refl, (sym h.2.from, sym h.2.to))))) c.rename-answer.ensures.broken) c.lemma_calls_conform.ensures
    c.rename-answer.ensures.done (λ f. f (ops.Rename c.args.from.now c.args.to.now) (c.args.from.now, (c.args.to.now, (refl, (sym h.2.from, sym h.2.to))))) c.rename-answer.ensures.alone (λ f. f (ops.Rename c.args.from.now c.args.to.now) (c.args.from.now, (c.args.to.now, (refl, (sym h.2.from, sym h.2.to))))) c.rename-answer.ensures.broken c.rename-answer.ensures.errors c.rename-answer.ensures.survives
    (ap₂ (λ p q. tree_renaming p q (visible_tree c.check_rename.new.tree)) h.2.from h.2.to ∙ ap (λ t. tree_renaming (path_or_root c.args.from.now) (path_or_root c.args.to.now) (visible_tree t)) h.0.same)
