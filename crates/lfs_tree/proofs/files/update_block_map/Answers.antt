use Rattle.std.proofs.Common.{rules, ap, subst, ◌∙◌}
use Rattle.lfs_tree.proofs.Common.{BlockStates, KeepsPairBlocks, disk_with_order, disk_of_device}
use Rattle.lfs_tree.proofs.Settled.{settle_here, settle_leaves, settled_after}
use Rattle.lfs_tree.proofs.files.update_block_map.Goals as goal

pub with_device_map-requires-clause-can : goal.with_device_map-requires-clause-can
with_device_map-requires-clause-can g c device map shows = record {
  can = λ p q here here_map _ _ _ _ _ _ _ _ _ _ _ _ _.
      settle_here g.D.BlockDevice c.args.thread.now.kept p.now q.now
      (record { disk = ap (λ d. disk_with_order c.args.thread.now.kept.disk.order (disk_of_device g.D.BlockDevice d)) here ∙ shows.disk; history = ap g.D.BlockDevice.history here ∙ shows.history; map = here_map ∙ shows.map })
      (g.met.D.BlockDevice.shape p.now) c.args.before c.args.stored c.requires.can;
}

pub returns-clause-settled : goal.returns-clause-settled
returns-clause-settled g c =
    let ran = c.with_device_map.ensures.ran in
    let run = ran.run in
    settled_after g.D.BlockDevice c.args.thread.now.kept run.shown.now run.shown_map.now
    (record { disk = ap (λ d. disk_with_order c.args.thread.now.kept.disk.order (disk_of_device g.D.BlockDevice d)) run.shows ∙ ran.before.disk; history = ap g.D.BlockDevice.history run.shows ∙ ran.before.history; map = run.shows_map ∙ ran.before.map })
    (g.met.D.BlockDevice.shape run.shown.now) c.args.before c.args.stored c.requires.can c.with_device_map.new.self.kept run.left_map.now (run.leaves_map ∙ ran.after.map) c.with_device_map.result (search rules)

pub with_device_map-requires-clause-leaves : goal.with_device_map-requires-clause-leaves
with_device_map-requires-clause-leaves g c device map x later later_map shows runs =
    let gh = g.D.BlockDevice in
    let t = c.args.thread.now.kept in
    subst (λ d. KeepsPairBlocks gh t d map later later_map) runs.shows
    (subst (λ (m : BlockStates). KeepsPairBlocks gh t runs.shown.now m later later_map) runs.shows_map
    (subst (λ e. KeepsPairBlocks gh t runs.shown.now runs.shown_map.now e later_map) runs.leaves
    (subst (λ (m : BlockStates). KeepsPairBlocks gh t runs.shown.now runs.shown_map.now runs.left.now m) runs.leaves_map
    (settle_leaves gh t runs.shown.now runs.shown_map.now
    (record { disk = ap (λ d. disk_with_order c.args.thread.now.kept.disk.order (disk_of_device gh d)) runs.shows ∙ shows.disk; history = ap gh.history runs.shows ∙ shows.history; map = runs.shows_map ∙ shows.map })
    (g.met.D.BlockDevice.shape runs.shown.now) c.args.before c.args.stored c.requires.can runs.left.now runs.left_map.now (search rules) (search rules)))))
