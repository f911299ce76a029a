use Rattle.std.proofs.Common.{refl}
use Rattle.lfs_model.specs.session.Operations as ops
use Rattle.lfs_fs.proofs.Common.{session_view}
use Rattle.lfs_fs.proofs.Answered.{ended_kept, sound_by}
use Rattle.lfs_fs.proofs.Errors.{given_on}
use Rattle.lfs_fs.proofs.Moving.{moved_answers, moved_ready}
use Rattle.lfs_fs.proofs.Stopping.{no_call}
use Rattle.lfs_fs.proofs.Sparing.{asking_call, asks_not, kept_asking}
use Rattle.lfs_fs.proofs.Ending.{answer_ends, unread_ends}
use Rattle.lfs_fs.proofs.session.Session.seek.Goals as goal

pub returns : goal.returns
returns g c =
    asking_call c.self.inside.tree c.self.inside.files _ (ops.Seek c.args.fd c.args.position) _ _ c.self.view_is c.self.invariant.ready (λ s. refl) (λ k. absurd (cc)) (asks_not _ _ _ _ refl)
    (answer_ends (session_view c.self.inside.tree c.self.inside.files) _ (ops.Seek c.args.fd c.args.position) ops.Done _ c.self.view_is c.in_ok-check_seek.ensures.0 refl)
    (moved_answers c.self.inside.tree c.self.inside.files c.seek.new.self _ c.args.fd c.args.position c.self.view_is c.self.invariant.ready c.in_ok-check_seek.ensures.0 c.in_ok-check_seek.ensures.1 c.seek.ensures)
    (no_call (session_view c.self.inside.tree c.self.inside.files) _ (ops.Seek c.args.fd c.args.position) c.self.inside.tree c.self.view_is (sound_by c.self.inside.tree c.self.inside.files c.self.invariant.ready) refl)

pub invariant_of-self : goal.invariant_of-self
invariant_of-self g c = record {
  ready = moved_ready c.self.inside.tree c.self.inside.files c.seek.new.self c.args.fd c.args.position c.self.invariant.ready c.seek.ensures;
  reported = c.self.invariant.reported;
}

pub returns-in_err-check_seek : goal.returns-in_err-check_seek
returns-in_err-check_seek g c =
    kept_asking c.self.inside.tree c.self.inside.files _ (ops.Seek c.args.fd c.args.position) _ c.self.view_is c.self.invariant.ready (λ s. refl) refl
    (unread_ends (session_view c.self.inside.tree c.self.inside.files) _ (ops.Seek c.args.fd c.args.position) (λ u. ops.Done) _ c.from_residual.result c.self.view_is c.in_err-check_seek.ensures (given_on _ c.from_residual.result c.from_residual.ensures.1))
    (ended_kept (session_view c.self.inside.tree c.self.inside.files) _ (ops.Seek c.args.fd c.args.position) (λ u. ops.Done) _ c.from_residual.result c.self.view_is (sound_by c.self.inside.tree c.self.inside.files c.self.invariant.ready) refl c.in_err-check_seek.ensures
    (given_on _ c.from_residual.result c.from_residual.ensures.1))
