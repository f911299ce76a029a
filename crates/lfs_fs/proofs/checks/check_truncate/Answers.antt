use Rattle.lfs_model.specs.session.Operations as ops
use Rattle.lfs_fs.proofs.Common.{refuse_if}
use Rattle.lfs_fs.proofs.checks.check_truncate.Goals.{else-size-writer-via-then-size-writer+else-lacks_writer_blocks, else-size-writer-via-else-size-writer}
use Rattle.std.proofs.Common.{refl, sym, ap, ◌∙◌}
use Rattle.lfs_fs.proofs.WriterChecks.{truncate_fits, truncate_no_writer, truncate_same, truncate_too_big, writer_there, written_at}
use Rattle.lfs_fs.proofs.checks.check_truncate.Goals as goal

pub returns-in_default : goal.returns-in_default
returns-in_default g c = (refl, truncate_no_writer c.args.tree.now c.args.files.now c.args.fd c.args.size c.if-has_failed.ensures c.in_default.ensures)

pub returns-then-exceeds_file_max : goal.returns-then-exceeds_file_max
returns-then-exceeds_file_max g c =
    (refl, truncate_too_big c.args.tree.now c.args.files.now c.args.fd c.args.size c.in-Some.writer.now c.if-has_failed.ensures c.in-Some.ensures (sym c.exceeds_file_max.ensures.longer ∙ c.if-exceeds_file_max.true))

pub returns-then-lacks_writer_blocks : goal.returns-then-lacks_writer_blocks
returns-then-lacks_writer_blocks g c = (
  refl,
  truncate_fits c.args.tree.now c.args.files.now c.args.fd c.args.size c.in-Some.writer.now c.nonsequential_after_resize.result c.lacks_writer_blocks.result c.if-has_failed.ensures (written_at c.args.tree.now c.args.files.now c.args.fd c.in-Some.writer.now (c.requires (sym c.if-has_failed.ensures)).written c.in-Some.ensures) c.in-Some.ensures (sym c.exceeds_file_max.ensures.longer ∙ c.if-exceeds_file_max.false)
      c.if-size-writer.true c.nonsequential_after_resize.ensures c.lacks_writer_blocks.ensures ∙ ap (λ b. refuse_if b ops.NoSpace) c.if-lacks_writer_blocks.true,
)

pub returns : goal.returns
returns g c = (
  elim c.else-size-writer.branch [
    | else-size-writer-via-then-size-writer+else-lacks_writer_blocks w ↦ truncate_fits c.args.tree.now c.args.files.now c.args.fd c.args.size c.in-Some.writer.now w.nonsequential_after_resize.result w.lacks_writer_blocks.result c.if-has_failed.ensures (written_at c.args.tree.now c.args.files.now c.args.fd c.in-Some.writer.now (c.requires (sym c.if-has_failed.ensures)).written c.in-Some.ensures) c.in-Some.ensures (sym c.exceeds_file_max.ensures.longer ∙ c.if-exceeds_file_max.false)
        w.if-size-writer.true w.nonsequential_after_resize.ensures w.lacks_writer_blocks.ensures ∙ ap (λ b. refuse_if b ops.NoSpace) w.if-lacks_writer_blocks.false
    | else-size-writer-via-else-size-writer w ↦ truncate_same c.args.tree.now c.args.files.now c.args.fd c.args.size c.in-Some.writer.now c.if-has_failed.ensures (written_at c.args.tree.now c.args.files.now c.args.fd c.in-Some.writer.now (c.requires (sym c.if-has_failed.ensures)).written c.in-Some.ensures) c.in-Some.ensures (sym c.exceeds_file_max.ensures.longer ∙ c.if-exceeds_file_max.false) w.if-size-writer.false
  ],
  writer_there c.args.files.now c.args.fd c.in-Some.writer.now c.in-Some.ensures,
)
