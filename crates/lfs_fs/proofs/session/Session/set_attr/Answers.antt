use Rattle.std.proofs.Common.{refl, sym, ap, ap₂}
use Rattle.lfs_model.specs.session.Operations as ops
use Rattle.lfs_fs.proofs.Common.{session_view, attributes_with, visible_tree, tree_with_attributes}
use Rattle.lfs_fs.proofs.Errors.{given_on}
use Rattle.lfs_fs.proofs.SetAttrChecks.{set_attr_can}
use Rattle.lfs_fs.proofs.Staying.{set_attr_left}
use Rattle.lfs_fs.proofs.Checked.{passed_writable}
use Rattle.lfs_fs.proofs.Called.{done_call, ended_as_call}
use Rattle.lfs_fs.proofs.DeviceLaws.{between_checked}
use Rattle.lfs_fs.proofs.session.Session.set_attr.Goals as goal

pub set_attr-answer-requires : goal.set_attr-answer-requires
set_attr-answer-requires g c = set_attr_can (session_view c.self.inside.tree c.self.inside.files) c.args.path.now c.args.kind c.args.value.now _ _ (λ works. c.lemma_files_stay.ensures.few c.self.inside.tree c.self.inside.files (c.self.invariant.ready works)) c.in_ok-path.ensures

pub check_set_attr-requires : goal.check_set_attr-requires
check_set_attr-requires g c = c.self.invariant.ready

pub invariant_of-self : goal.invariant_of-self
invariant_of-self g c = between_checked c.self.inside.tree c.self.inside.files (ops.SetAttr c.args.path.now c.args.kind c.args.value.now) _ c.check_set_attr.result c.check_set_attr.new.tree c.self.invariant c.check_set_attr.ensures

pub invariant_of-self-2 : goal.invariant_of-self-2
invariant_of-self-2 g c =
    let h = c.in_ok-path.ensures in
    record {
      ready = λ works. (set_attr_left _ c.self.inside.tree c.check_set_attr.new.tree c.set_attr-answer.new.self c.self.inside.files c.args.path.now c.args.kind c.args.value.now c.set_attr-answer.result c.lemma_files_stay.ensures.stay c.self.invariant.ready h.0 h.1 c.set_attr-answer.ensures.done (λ f. f (ops.SetAttr c.args.path.now c.args.kind c.args.value.now) (c.args.path.now, (refl, sym h.2))) c.set_attr-answer.ensures.broken works).ready;
      reported = λ works. c.lemma_calls_conform.ensures;
    }

-- a check ends it
pub returns-in_err-path : goal.returns-in_err-path
returns-in_err-path g c =
    ended_as_call c.self.inside.tree c.self.inside.files _ (ops.SetAttr c.args.path.now c.args.kind c.args.value.now) (λ u. ops.Done) _ c.check_set_attr.new.tree c.from_residual.result c.self.view_is c.self.invariant.ready refl refl refl refl c.in_err-path.ensures (given_on _ c.from_residual.result c.from_residual.ensures.1)

-- the tree's call ends it
pub returns : goal.returns
returns g c =
    let h = c.in_ok-path.ensures in
    done_call _ _ c.self.inside.tree c.check_set_attr.new.tree c.set_attr-answer.new.self c.self.inside.files _ (ops.SetAttr c.args.path.now c.args.kind c.args.value.now) c.set_attr-answer.result _ c.self.view_is c.self.invariant h.0 h.1 refl refl refl refl refl refl refl refl refl refl refl
    (passed_writable (session_view c.self.inside.tree c.self.inside.files) (ops.SetAttr c.args.path.now c.args.kind c.args.value.now) _ refl h.1)
    (set_attr_left _ c.self.inside.tree c.check_set_attr.new.tree c.set_attr-answer.new.self c.self.inside.files c.args.path.now c.args.kind c.args.value.now c.set_attr-answer.result c.lemma_files_stay.ensures.stay c.self.invariant.ready h.0 h.1 c.set_attr-answer.ensures.done (λ f. f (ops.SetAttr c.args.path.now c.args.kind c.args.value.now) (c.args.path.now, (refl, sym h.2))) c.set_attr-answer.ensures.broken) c.lemma_calls_conform.ensures
    c.set_attr-answer.ensures.done (λ f. f (ops.SetAttr c.args.path.now c.args.kind c.args.value.now) (c.args.path.now, (refl, sym h.2))) c.set_attr-answer.ensures.alone (λ f. f (ops.SetAttr c.args.path.now c.args.kind c.args.value.now) (c.args.path.now, (refl, sym h.2))) c.set_attr-answer.ensures.broken c.set_attr-answer.ensures.errors c.set_attr-answer.ensures.survives
    (ap₂ (λ p t. tree_with_attributes p (attributes_with c.args.kind c.args.value.now) t) h.2 (ap visible_tree h.0.same))
