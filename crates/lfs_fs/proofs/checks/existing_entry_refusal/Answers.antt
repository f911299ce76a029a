use Rattle.std.proofs.Common.{◌∙◌, ◌&&◌, ap, sym}
use Rattle.lfs_model.specs.session.Operations as ops
use Rattle.lfs_fs.proofs.Common.{flags_view, refuse_if}
use Rattle.lfs_fs.proofs.WriterOpens.{reopening_refused}
use Rattle.lfs_fs.proofs.checks.existing_entry_refusal.Goals as goal

pub returns : goal.returns
returns g c =
    c.find_first_refusal.ensures
    ∙ reopening_refused c.args.tree.now c.args.files.now c.args.bytes.now (flags_view c.args.flags) c.size.result c.is_directory.result c.prevents_writer_at.result c.lacks_truncate_blocks.result c.are_both_true.result
    c.refuse_if.result c.refuse_if-2.result c.refuse_if-3.result c.refuse_if-4.result c.requires.passes c.requires.there
    (c.refuse_if.ensures ∙ ap (λ b. refuse_if b ops.Exist) (c.contains.ensures tt)) (c.is_directory.ensures ∙ sym c.requires.directories) c.refuse_if-2.ensures c.prevents_writer_at.ensures c.refuse_if-3.ensures
    (c.requires.sizes ∙ sym c.size.ensures) c.lacks_truncate_blocks.ensures (c.are_both_true.ensures ∙ ap (λ b. b && c.lacks_truncate_blocks.result) (c.contains-truncates.ensures tt)) c.refuse_if-4.ensures
