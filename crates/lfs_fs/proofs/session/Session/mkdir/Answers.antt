use Rattle.std.proofs.Common.{refl, sym, ap, ap₂, []}
use Rattle.lfs_model.specs.session.Operations as ops
use Rattle.lfs_fs.proofs.Common.{session_view, tree_creating, DirectoryNode, visible_tree}
use Rattle.lfs_fs.proofs.Checked.{mkdir_can, passed_writable}
use Rattle.lfs_fs.proofs.Errors.{given_on}
use Rattle.lfs_fs.proofs.Staying.{mkdir_left}
use Rattle.lfs_fs.proofs.Called.{done_call, ended_as_call}
use Rattle.lfs_fs.proofs.DeviceLaws.{between_checked}
use Rattle.lfs_fs.proofs.session.Session.mkdir.Goals as goal

pub mkdir-answer-requires : goal.mkdir-answer-requires
mkdir-answer-requires g c =
    mkdir_can (session_view c.self.inside.tree c.self.inside.files) c.args.path.now _ _ (λ works. c.lemma_files_stay.ensures.few c.self.inside.tree c.self.inside.files (c.self.invariant.ready works)) c.in_ok-path.ensures

pub check_mkdir-requires : goal.check_mkdir-requires
check_mkdir-requires g c = c.self.invariant.ready

pub invariant_of-self : goal.invariant_of-self
invariant_of-self g c = between_checked c.self.inside.tree c.self.inside.files (ops.Mkdir c.args.path.now) _ c.check_mkdir.result c.check_mkdir.new.tree c.self.invariant c.check_mkdir.ensures

pub invariant_of-self-2 : goal.invariant_of-self-2
invariant_of-self-2 g c =
    let h = c.in_ok-path.ensures in
    record {
      ready = λ works. (mkdir_left _ c.self.inside.tree c.check_mkdir.new.tree c.mkdir-answer.new.self c.self.inside.files c.args.path.now _ c.mkdir-answer.result c.lemma_files_stay.ensures.stay c.self.invariant.ready h.0 h.1 h.2 (mkdir_can (session_view c.self.inside.tree c.self.inside.files) c.args.path.now _ _ (λ works. c.lemma_files_stay.ensures.few c.self.inside.tree c.self.inside.files (c.self.invariant.ready works)) h) c.mkdir-answer.ensures.done (λ f. f (ops.Mkdir c.args.path.now) (c.args.path.now, (refl, sym h.2))) c.mkdir-answer.ensures.broken works).ready;
      reported = λ works. c.lemma_calls_conform.ensures;
    }

-- a check ends it
pub returns-in_err-path : goal.returns-in_err-path
returns-in_err-path g c =
    ended_as_call c.self.inside.tree c.self.inside.files _ (ops.Mkdir c.args.path.now) (λ u. ops.Done) _ c.check_mkdir.new.tree c.from_residual.result c.self.view_is c.self.invariant.ready refl refl refl refl c.in_err-path.ensures (given_on _ c.from_residual.result c.from_residual.ensures.1)

-- the tree's call ends it
pub returns : goal.returns
returns g c =
    let h = c.in_ok-path.ensures in
    done_call _ _ c.self.inside.tree c.check_mkdir.new.tree c.mkdir-answer.new.self c.self.inside.files _ (ops.Mkdir c.args.path.now) c.mkdir-answer.result _ c.self.view_is c.self.invariant h.0 h.1 refl refl refl refl refl refl refl refl refl refl refl
    (passed_writable (session_view c.self.inside.tree c.self.inside.files) (ops.Mkdir c.args.path.now) _ refl h.1)
    (mkdir_left _ c.self.inside.tree c.check_mkdir.new.tree c.mkdir-answer.new.self c.self.inside.files c.args.path.now _ c.mkdir-answer.result c.lemma_files_stay.ensures.stay c.self.invariant.ready h.0 h.1 h.2 (mkdir_can (session_view c.self.inside.tree c.self.inside.files) c.args.path.now _ _ (λ works. c.lemma_files_stay.ensures.few c.self.inside.tree c.self.inside.files (c.self.invariant.ready works)) h) c.mkdir-answer.ensures.done (λ f. f (ops.Mkdir c.args.path.now) (c.args.path.now, (refl, sym h.2))) c.mkdir-answer.ensures.broken) c.lemma_calls_conform.ensures
    c.mkdir-answer.ensures.done (λ f. f (ops.Mkdir c.args.path.now) (c.args.path.now, (refl, sym h.2))) c.mkdir-answer.ensures.alone (λ f. f (ops.Mkdir c.args.path.now) (c.args.path.now, (refl, sym h.2))) c.mkdir-answer.ensures.broken c.mkdir-answer.ensures.errors c.mkdir-answer.ensures.survives
    (ap₂ (λ p t. tree_creating p (DirectoryNode [] []) t) h.2 (ap visible_tree h.0.same))
