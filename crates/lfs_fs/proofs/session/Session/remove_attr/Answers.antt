use Rattle.std.proofs.Common.{refl, sym, ap, ap₂}
use Rattle.lfs_model.specs.session.Operations as ops
use Rattle.lfs_fs.proofs.Common.{session_view, attributes_without, visible_tree, tree_with_attributes}
use Rattle.lfs_fs.proofs.EntryChecks.{remove_attr_can}
use Rattle.lfs_fs.proofs.Errors.{given_on}
use Rattle.lfs_fs.proofs.Staying.{remove_attr_left}
use Rattle.lfs_fs.proofs.Checked.{passed_writable}
use Rattle.lfs_fs.proofs.Called.{done_call, ended_as_call}
use Rattle.lfs_fs.proofs.DeviceLaws.{between_checked}
use Rattle.lfs_fs.proofs.session.Session.remove_attr.Goals as goal

pub remove_attr-answer-requires : goal.remove_attr-answer-requires
remove_attr-answer-requires g c = remove_attr_can (session_view c.self.inside.tree c.self.inside.files) c.args.path.now c.args.kind _ _ c.in_ok-path.ensures

pub invariant_of-self : goal.invariant_of-self
invariant_of-self g c = between_checked c.self.inside.tree c.self.inside.files (ops.RemoveAttr c.args.path.now c.args.kind) _ c.check_remove_attr.result c.check_remove_attr.new.tree c.self.invariant c.check_remove_attr.ensures

pub invariant_of-self-2 : goal.invariant_of-self-2
invariant_of-self-2 g c =
    let h = c.in_ok-path.ensures in
    record {
      ready = λ works. (remove_attr_left _ c.self.inside.tree c.check_remove_attr.new.tree c.remove_attr-answer.new.self c.self.inside.files c.args.path.now c.args.kind c.remove_attr-answer.result c.lemma_files_stay.ensures.stay c.self.invariant.ready h.0 h.1 c.remove_attr-answer.ensures.done (λ f. f (ops.RemoveAttr c.args.path.now c.args.kind) (c.args.path.now, (refl, sym h.2))) c.remove_attr-answer.ensures.broken works).ready;
      reported = λ works. c.lemma_calls_conform.ensures;
    }

-- a check ends it
pub returns-in_err-path : goal.returns-in_err-path
returns-in_err-path g c =
    ended_as_call c.self.inside.tree c.self.inside.files _ (ops.RemoveAttr c.args.path.now c.args.kind) (λ u. ops.Done) _ c.check_remove_attr.new.tree c.from_residual.result c.self.view_is c.self.invariant.ready refl refl refl refl c.in_err-path.ensures (given_on _ c.from_residual.result c.from_residual.ensures.1)

-- the tree's call ends it
pub returns : goal.returns
returns g c =
    let h = c.in_ok-path.ensures in
    done_call _ _ c.self.inside.tree c.check_remove_attr.new.tree c.remove_attr-answer.new.self c.self.inside.files _ (ops.RemoveAttr c.args.path.now c.args.kind) c.remove_attr-answer.result _ c.self.view_is c.self.invariant h.0 h.1 refl refl refl refl refl refl refl refl refl refl refl
    (passed_writable (session_view c.self.inside.tree c.self.inside.files) (ops.RemoveAttr c.args.path.now c.args.kind) _ refl h.1)
    (remove_attr_left _ c.self.inside.tree c.check_remove_attr.new.tree c.remove_attr-answer.new.self c.self.inside.files c.args.path.now c.args.kind c.remove_attr-answer.result c.lemma_files_stay.ensures.stay c.self.invariant.ready h.0 h.1 c.remove_attr-answer.ensures.done (λ f. f (ops.RemoveAttr c.args.path.now c.args.kind) (c.args.path.now, (refl, sym h.2))) c.remove_attr-answer.ensures.broken) c.lemma_calls_conform.ensures
    c.remove_attr-answer.ensures.done (λ f. f (ops.RemoveAttr c.args.path.now c.args.kind) (c.args.path.now, (refl, sym h.2))) c.remove_attr-answer.ensures.alone (λ f. f (ops.RemoveAttr c.args.path.now c.args.kind) (c.args.path.now, (refl, sym h.2))) c.remove_attr-answer.ensures.broken c.remove_attr-answer.ensures.errors c.remove_attr-answer.ensures.survives
    (ap₂ (λ p t. tree_with_attributes p (attributes_without c.args.kind) t) h.2 (ap visible_tree h.0.same))
