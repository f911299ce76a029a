use Rattle.std.proofs.Common.{◌∙◌, sym}
use Rattle.lfs_fs.proofs.Common.{session_view, flags_view}
use Rattle.lfs_fs.proofs.OpenFiles.{lacks_is}
use Rattle.lfs_fs.proofs.WriterOpens.{creation_refused, not_created}
use Rattle.lfs_fs.proofs.checks.creation_refusal.Goals as goal

pub returns-then-not-contains : goal.returns-then-not-contains
returns-then-not-contains g c = c.refuse_if.ensures ∙ sym (not_created (session_view c.args.tree.now c.args.files.now) c.args.bytes.now (flags_view c.args.flags) c.requires.passes c.requires.absent (sym (c.contains.ensures tt) ∙ c.if-not-contains.true))

pub returns : goal.returns
returns g c =
    c.find_first_refusal.ensures
    ∙ creation_refused c.args.tree.now c.args.files.now c.args.bytes.now (flags_view c.args.flags) c.args.name_len c.exceeds_name_max.result c.prevents_writer_at.result c.new_entry_exceeds_limit.result c.lacks_free_blocks.result
    c.refuse_if-2.result c.refuse_if-3.result c.refuse_if-4.result c.refuse_if-5.result c.requires.passes c.requires.absent (sym (c.contains.ensures tt) ∙ c.if-not-contains.false)
    c.requires.len c.exceeds_name_max.ensures c.refuse_if-2.ensures c.prevents_writer_at.ensures c.refuse_if-3.ensures c.new_entry_exceeds_limit.ensures c.refuse_if-4.ensures
    (c.lacks_free_blocks.ensures ∙ lacks_is c.args.tree.now c.args.files.now 2 c.requires.ready) c.refuse_if-5.ensures
