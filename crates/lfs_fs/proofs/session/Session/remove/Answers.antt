use Rattle.std.proofs.Common.{refl, sym, ap, ap₂}
use Rattle.lfs_model.specs.session.Operations as ops
use Rattle.lfs_fs.proofs.Common.{session_view, tree_removing, visible_tree}
use Rattle.lfs_fs.proofs.Errors.{given_on}
use Rattle.lfs_fs.proofs.RemoveAnswered.{removed_left}
use Rattle.lfs_fs.proofs.RemoveChecks.{remove_can}
use Rattle.lfs_fs.proofs.Checked.{passed_writable}
use Rattle.lfs_fs.proofs.Called.{done_call, ended_as_call}
use Rattle.lfs_fs.proofs.DeviceLaws.{between_checked}
use Rattle.lfs_fs.proofs.session.Session.remove.Goals as goal

pub remove-answer-requires : goal.remove-answer-requires
remove-answer-requires g c = remove_can (session_view c.self.inside.tree c.self.inside.files) c.args.path.now _ _ c.in_ok-path.ensures

pub invariant_of-self : goal.invariant_of-self
invariant_of-self g c = between_checked c.self.inside.tree c.self.inside.files (ops.Remove c.args.path.now) _ c.check_remove.result c.check_remove.new.tree c.self.invariant c.check_remove.ensures

pub invariant_of-self-2 : goal.invariant_of-self-2
invariant_of-self-2 g c =
    let h = c.in_ok-path.ensures in
    record {
      ready = λ works. (removed_left _ c.self.inside.tree c.check_remove.new.tree c.remove-answer.new.self c.self.inside.files c.args.path.now c.remove-answer.result c.lemma_files_stay.ensures.stay c.self.invariant.ready h.0 h.1 c.remove-answer.ensures.done (λ f. f (ops.Remove c.args.path.now) (c.args.path.now, (refl, sym h.2))) c.remove-answer.ensures.broken works).ready;
      reported = λ works. c.lemma_calls_conform.ensures;
    }

-- a check ends it
pub returns-in_err-path : goal.returns-in_err-path
returns-in_err-path g c =
    ended_as_call c.self.inside.tree c.self.inside.files _ (ops.Remove c.args.path.now) (λ u. ops.Done) _ c.check_remove.new.tree c.from_residual.result c.self.view_is c.self.invariant.ready refl refl refl refl c.in_err-path.ensures (given_on _ c.from_residual.result c.from_residual.ensures.1)

-- the tree's call ends it
pub returns : goal.returns
returns g c =
    let h = c.in_ok-path.ensures in
    done_call _ _ c.self.inside.tree c.check_remove.new.tree c.remove-answer.new.self c.self.inside.files _ (ops.Remove c.args.path.now) c.remove-answer.result _ c.self.view_is c.self.invariant h.0 h.1 refl refl refl refl refl refl refl refl refl refl refl
    (passed_writable (session_view c.self.inside.tree c.self.inside.files) (ops.Remove c.args.path.now) _ refl h.1)
    (removed_left _ c.self.inside.tree c.check_remove.new.tree c.remove-answer.new.self c.self.inside.files c.args.path.now c.remove-answer.result c.lemma_files_stay.ensures.stay c.self.invariant.ready h.0 h.1 c.remove-answer.ensures.done (λ f. f (ops.Remove c.args.path.now) (c.args.path.now, (refl, sym h.2))) c.remove-answer.ensures.broken) c.lemma_calls_conform.ensures
    c.remove-answer.ensures.done (λ f. f (ops.Remove c.args.path.now) (c.args.path.now, (refl, sym h.2))) c.remove-answer.ensures.alone (λ f. f (ops.Remove c.args.path.now) (c.args.path.now, (refl, sym h.2))) c.remove-answer.ensures.broken c.remove-answer.ensures.errors c.remove-answer.ensures.survives
    (ap₂ (λ p t. tree_removing p t) h.2 (ap visible_tree h.0.same))
