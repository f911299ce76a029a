use Rattle.lfs_model.specs.session.Operations as ops
use Rattle.lfs_fs.proofs.Common.{refuse_if}
use Rattle.std.proofs.Common.{refl, sym, ap, ◌∙◌}
use Rattle.lfs_fs.proofs.WriterChecks.{no_bytes, some_bytes, write_fits, write_no_writer, write_nothing, write_too_big, writer_there, written_at}
use Rattle.lfs_fs.proofs.checks.check_write.Goals as goal

pub returns-in_default : goal.returns-in_default
returns-in_default g c = (refl, write_no_writer c.args.tree.now c.args.files.now c.args.fd c.args.bytes.now c.if-has_failed.ensures c.in_default.ensures)

pub returns-then-is_empty : goal.returns-then-is_empty
returns-then-is_empty g c =
    (write_nothing c.args.tree.now c.args.files.now c.args.fd c.args.bytes.now c.in-Some.writer.now c.if-has_failed.ensures c.in-Some.ensures (no_bytes _ (sym c.is_empty.ensures ∙ c.if-is_empty.true)), writer_there c.args.files.now c.args.fd c.in-Some.writer.now c.in-Some.ensures)

pub returns-then-exceeds_file_max : goal.returns-then-exceeds_file_max
returns-then-exceeds_file_max g c =
    (refl, write_too_big c.args.tree.now c.args.files.now c.args.fd c.args.bytes.now c.in-Some.writer.now c.place-place.result c.if-has_failed.ensures (written_at c.args.tree.now c.args.files.now c.args.fd c.in-Some.writer.now (c.requires (sym c.if-has_failed.ensures)).written c.in-Some.ensures) c.in-Some.ensures (some_bytes _ (sym c.is_empty.ensures ∙ c.if-is_empty.false)).0 c.place-place.ensures (sym c.exceeds_file_max.ensures.longer ∙ c.if-exceeds_file_max.true))

pub returns-then-lacks_writer_blocks : goal.returns-then-lacks_writer_blocks
returns-then-lacks_writer_blocks g c = (
  refl,
  write_fits c.args.tree.now c.args.files.now c.args.fd c.args.bytes.now c.in-Some.writer.now c.place-place.result c.min.result c.max-size.result c.nonsequential_after_change.result c.lacks_writer_blocks.result c.if-has_failed.ensures (written_at c.args.tree.now c.args.files.now c.args.fd c.in-Some.writer.now (c.requires (sym c.if-has_failed.ensures)).written c.in-Some.ensures) c.in-Some.ensures (some_bytes _ (sym c.is_empty.ensures ∙ c.if-is_empty.false)).0 (some_bytes _ (sym c.is_empty.ensures ∙ c.if-is_empty.false)).1 c.place-place.ensures
      (sym c.exceeds_file_max.ensures.longer ∙ c.if-exceeds_file_max.false) c.min.ensures c.nonsequential_after_change.ensures c.max-size.ensures c.lacks_writer_blocks.ensures ∙ ap (λ b. refuse_if b ops.NoSpace) c.if-lacks_writer_blocks.true,
)

pub returns : goal.returns
returns g c = (
  write_fits c.args.tree.now c.args.files.now c.args.fd c.args.bytes.now c.in-Some.writer.now c.place-place.result c.min.result c.max-size.result c.nonsequential_after_change.result c.lacks_writer_blocks.result c.if-has_failed.ensures (written_at c.args.tree.now c.args.files.now c.args.fd c.in-Some.writer.now (c.requires (sym c.if-has_failed.ensures)).written c.in-Some.ensures) c.in-Some.ensures (some_bytes _ (sym c.is_empty.ensures ∙ c.if-is_empty.false)).0 (some_bytes _ (sym c.is_empty.ensures ∙ c.if-is_empty.false)).1 c.place-place.ensures
      (sym c.exceeds_file_max.ensures.longer ∙ c.if-exceeds_file_max.false) c.min.ensures c.nonsequential_after_change.ensures c.max-size.ensures c.lacks_writer_blocks.ensures ∙ ap (λ b. refuse_if b ops.NoSpace) c.if-lacks_writer_blocks.false,
  writer_there c.args.files.now c.args.fd c.in-Some.writer.now c.in-Some.ensures,
)
