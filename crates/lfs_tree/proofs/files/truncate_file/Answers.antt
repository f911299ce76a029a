use Rattle.std.proofs.Common.{rules, ap, take, ◌∙◌}
use Rattle.lfs_model.specs.session.Writers.{zero_padded}
use Rattle.lfs_tree.proofs.Common.{disk_with_order, disk_of_device, contents_bytes, contents_form}
use Rattle.lfs_file.specs.Form.{truncated_form}
use Rattle.lfs_tree.proofs.Standing.{holds_after, owned_after, truncate_here}
use Rattle.lfs_tree.proofs.files.truncate_file.Goals as goal

pub with_device_map-requires-clause-can : goal.with_device_map-requires-clause-can
with_device_map-requires-clause-can g c device map shows = record {
  can = λ p q here here_map _ _ _ _ _ _ _ _ _ _ _ _ _.
      truncate_here g.D.BlockDevice c.args.thread.now.kept p.now q.now
      (record { disk = ap (λ d. disk_with_order c.args.thread.now.kept.disk.order (disk_of_device g.D.BlockDevice d)) here ∙ shows.disk; history = ap g.D.BlockDevice.history here ∙ shows.history; map = here_map ∙ shows.map })
      (g.met.D.BlockDevice.shape p.now) c.args.contents c.args.size c.requires.can;
}

pub returns-clause-truncated : goal.returns-clause-truncated
returns-clause-truncated g c =
    let ran = c.with_device_map.ensures.ran in
    let run = ran.run in
    holds_after g.D.BlockDevice c.args.thread.now.kept c.with_device_map.new.self.kept run.shown.now run.left.now run.shown_map.now run.left_map.now
    (record { disk = ap (λ d. disk_with_order c.args.thread.now.kept.disk.order (disk_of_device g.D.BlockDevice d)) run.shows ∙ ran.before.disk; history = ap g.D.BlockDevice.history run.shows ∙ ran.before.history; map = run.shows_map ∙ ran.before.map })
    (record { disk = ap (λ d. disk_with_order c.with_device_map.new.self.kept.disk.order (disk_of_device g.D.BlockDevice d)) run.leaves ∙ ran.after.disk; history = ap g.D.BlockDevice.history run.leaves ∙ ran.after.history; map = run.leaves_map ∙ ran.after.map })
    (g.met.D.BlockDevice.shape run.shown.now) (g.met.D.BlockDevice.shape run.left.now) (search rules)
    (λ d n. take c.args.size (zero_padded c.args.size (contents_bytes d n c.args.contents))) (λ k. truncated_form k c.args.size (contents_form c.args.contents)) c.with_device_map.result
    (search rules)

pub returns-clause-owned : goal.returns-clause-owned
returns-clause-owned g c =
    let ran = c.with_device_map.ensures.ran in
    let run = ran.run in
    owned_after g.D.BlockDevice c.args.thread.now.kept c.with_device_map.new.self.kept run.shown.now run.left.now run.shown_map.now run.left_map.now
    (record { disk = ap (λ d. disk_with_order c.args.thread.now.kept.disk.order (disk_of_device g.D.BlockDevice d)) run.shows ∙ ran.before.disk; history = ap g.D.BlockDevice.history run.shows ∙ ran.before.history; map = run.shows_map ∙ ran.before.map })
    (record { disk = ap (λ d. disk_with_order c.with_device_map.new.self.kept.disk.order (disk_of_device g.D.BlockDevice d)) run.leaves ∙ ran.after.disk; history = ap g.D.BlockDevice.history run.leaves ∙ ran.after.history; map = run.leaves_map ∙ ran.after.map })
    (g.met.D.BlockDevice.shape run.shown.now) (g.met.D.BlockDevice.shape run.left.now) (search rules) c.args.contents c.with_device_map.result (search rules)
