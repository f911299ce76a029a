use Rattle.std.proofs.Common.{ap, refl, sym}
use Rattle.lfs_model.specs.session.Operations as ops
use Rattle.lfs_fs.proofs.Common.{stat_view, reply_from, session_view}
use Rattle.lfs_fs.proofs.Answered.{checked_ready, question_call, files_asked, asked_by_checks, sound_by}
use Rattle.lfs_fs.proofs.Stopping.{only_read, reads_of_checks}
use Rattle.lfs_fs.proofs.Sparing.{asking_call, stat_asks}
use Rattle.lfs_fs.proofs.Ending.{checked_ends}
use Rattle.lfs_fs.proofs.DeviceLaws.{between_checked}
use Rattle.lfs_fs.proofs.session.Session.stat.Goals as goal

pub returns : goal.returns
returns g c =
    asking_call c.self.inside.tree c.self.inside.files _ (ops.Stat c.args.path.now) _ _ c.self.view_is c.self.invariant.ready (λ s. refl) (λ k. absurd (cc))
    (stat_asks (λ stat. ops.StatIs (stat_view stat)) c.self.inside.tree c.args.path.now c.check_and_stat.result (session_view c.check_and_stat.new.tree c.self.inside.files)
    (asked_by_checks c.self.inside.tree c.self.inside.files (ops.Stat c.args.path.now) _ c.check_and_stat.result c.check_and_stat.new.tree c.check_and_stat.ensures.checks)
    (λ works. (checked_ready c.self.inside.tree c.self.inside.files (ops.Stat c.args.path.now) _ c.check_and_stat.result c.check_and_stat.new.tree c.self.invariant.ready c.check_and_stat.ensures.checks works).sound)
    c.check_and_stat.ensures.few c.check_and_stat.ensures.kept c.check_and_stat.ensures.hand)
    (checked_ends c.self.inside.tree c.self.inside.files _ (ops.Stat c.args.path.now) (λ stat. ops.StatIs (stat_view stat)) _ c.check_and_stat.result c.check_and_stat.new.tree c.self.view_is refl c.check_and_stat.ensures.checks)
    (files_asked c.args.self.now (ops.Stat c.args.path.now) (reply_from (λ stat. ops.StatIs (stat_view stat)) c.check_and_stat.result) c.self.inside.tree c.check_and_stat.new.tree c.self.inside.files (asked_by_checks c.self.inside.tree c.self.inside.files (ops.Stat c.args.path.now) _ c.check_and_stat.result c.check_and_stat.new.tree c.check_and_stat.ensures.checks)
    (question_call (session_view c.self.inside.tree c.self.inside.files) _ (ops.Stat c.args.path.now) (λ stat. ops.StatIs (stat_view stat)) _ c.check_and_stat.result c.check_and_stat.new.tree c.self.view_is
    (sound_by c.self.inside.tree c.self.inside.files c.self.invariant.ready) refl refl (λ x p. ap ops.StatIs (sym p)) c.check_and_stat.ensures.checks))
    (only_read (session_view c.self.inside.tree c.self.inside.files) _ (ops.Stat c.args.path.now) c.check_and_stat.new.tree c.self.view_is (sound_by c.self.inside.tree c.self.inside.files c.self.invariant.ready) (reads_of_checks (session_view c.self.inside.tree c.self.inside.files) (ops.Stat c.args.path.now) _ c.check_and_stat.result c.check_and_stat.new.tree c.check_and_stat.ensures.checks))

pub invariant_of-self : goal.invariant_of-self
invariant_of-self g c = between_checked c.self.inside.tree c.self.inside.files (ops.Stat c.args.path.now) _ c.check_and_stat.result c.check_and_stat.new.tree c.self.invariant c.check_and_stat.ensures.checks
