use Rattle.std.proofs.Common.{refl}
use Rattle.lfs_fs.proofs.Common.{session_view}
use Rattle.lfs_model.specs.session.Operations as ops
use Rattle.lfs_fs.proofs.Remounting.{remount_answers, remount_ready}
use Rattle.lfs_fs.proofs.Stopping.{only_read}
use Rattle.lfs_fs.proofs.StoppedCalls.{reads_of_mount}
use Rattle.lfs_fs.proofs.Answered.{sound_by}
use Rattle.lfs_fs.proofs.Sparing.{asking_call, asks_not}
use Rattle.lfs_fs.proofs.Ending.{remount_ends, remount_refuses_not}
use Rattle.lfs_fs.proofs.session.Session.remount.Goals as goal

pub returns : goal.returns
returns g c =
    asking_call c.self.inside.tree c.self.inside.files _ ops.Remount _ _ c.self.view_is c.self.invariant.ready (λ s. refl) (λ k. absurd (cc)) (asks_not _ _ _ _ refl)
    (remount_ends (session_view c.self.inside.tree c.self.inside.files) _ c.remount-answer.new.self _ c.remount-answer.result c.self.view_is c.remount-answer.ensures.mounted (remount_refuses_not c.self.inside.tree c.remount-answer.new.self c.remount-answer.result c.remount-answer.ensures.errors))
    (remount_answers (session_view c.self.inside.tree c.self.inside.files) _ c.remount-answer.new.self c.clear.new.self c.remount-answer.result c.self.view_is (sound_by c.self.inside.tree c.self.inside.files c.self.invariant.ready) c.clear.ensures c.remount-answer.ensures.mounted c.remount-answer.ensures.broken c.remount-answer.ensures.errors)
    (only_read (session_view c.self.inside.tree c.self.inside.files) _ ops.Remount c.remount-answer.new.self c.self.view_is (sound_by c.self.inside.tree c.self.inside.files c.self.invariant.ready) (reads_of_mount c.self.inside.tree c.remount-answer.new.self c.remount-answer.result c.remount-answer.ensures.mounted c.remount-answer.ensures.broken))

pub invariant_of-self : goal.invariant_of-self
invariant_of-self g c = record {
  ready = remount_ready c.self.inside.tree c.remount-answer.new.self c.clear.new.self c.remount-answer.result c.clear.ensures c.remount-answer.ensures.mounted c.remount-answer.ensures.broken;
  reported = λ works. c.lemma_calls_conform.ensures;
}
