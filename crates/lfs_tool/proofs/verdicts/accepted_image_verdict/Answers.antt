use Rattle.std.proofs.Common.{◌≡◌, false, subst, sym}
use Rattle.lfs_tool.proofs.Common.{disk_with_order, AreUsed, used_blocks, IsAccepted}
use Rattle.lfs_model.specs.format.Thread.{count_before_root}
use Rattle.lfs_thread.specs.Kept.{ThreadView}
use Rattle.lfs_tool.specs.ImageSummaries.{HasSummary}
use Rattle.lfs_tool.proofs.verdicts.accepted_image_verdict.Goals as goal

pub summary_of_thread-requires-clause-works : goal.summary_of_thread-requires-clause-works
summary_of_thread-requires-clause-works c = subst (λ (t : ThreadView). t.failed ≡ false) (sym c.set_order.ensures) c.requires.works

pub summary_of_thread-requires-clause-accepted : goal.summary_of_thread-requires-clause-accepted
summary_of_thread-requires-clause-accepted c = subst (λ (t : ThreadView). IsAccepted t.kept.disk t.kept.pairs) (sym c.set_order.ensures) c.requires.accepted

pub summary_of_thread-requires-clause-used : goal.summary_of_thread-requires-clause-used
summary_of_thread-requires-clause-used c = subst (λ (t : ThreadView). AreUsed t.kept.map (used_blocks t.kept.disk t.kept.pairs)) (sym c.set_order.ensures) c.requires.used

pub summary_of_thread-requires-clause-root : goal.summary_of_thread-requires-clause-root
summary_of_thread-requires-clause-root c = subst (λ (t : ThreadView). c.args.root ≡ count_before_root t.kept.pairs) (sym c.set_order.ensures) c.requires.root_is

pub returns-in-Ok-clause-verdict : goal.returns-in-Ok-clause-verdict
returns-in-Ok-clause-verdict c = record {
  order = c.args.order;
  pairs = c.args.thread.kept.pairs;
  accepted = c.requires.accepted;
  has = subst (λ (t : ThreadView). HasSummary t.kept.disk t.kept.pairs c.in-Ok.summary) c.set_order.ensures c.in-Ok.ensures.summary;
  fits = c.requires.fits;
}
