use Rattle.lfs_fs.proofs.OpenFiles.{lacks_is}
use Rattle.std.proofs.Common.{◌∙◌, ap, sym}
use Rattle.lfs_fs.proofs.Common.{lacks_room, tree_summary, files_view, session_view}
use Rattle.lfs_fs.proofs.Answered.{ready_later}
use Rattle.lfs_model.specs.session.Operations as ops
use Rattle.lfs_fs.proofs.Errors.{given_on}
use Rattle.lfs_fs.proofs.Late.{mkdir_late}
use Rattle.lfs_fs.proofs.Checked.{lookup_failed, mkdir_checked}
use Rattle.lfs_fs.proofs.checks.check_mkdir.Goals as goal

pub returns : goal.returns
returns g c =
    mkdir_checked (session_view c.args.tree.now c.args.files.now) c.args.bytes.now c.in-Some.path c.in_ok-found.found _ c.name_len.result c.name_len-2.result c.exceeds_name_max.result c.is_nothing.result c.new_entry_exceeds_limit.result c.lacks_free_blocks.result
    c.refuse_if.result c.refuse_if-2.result c.refuse_if-3.result c.refuse_if-4.result c.value_or_refusal.result
    c.if-has_failed.ensures c.if-not-is_writable.ensures c.in-Some.ensures c.in_ok-found.ensures.asks.asked c.in_ok-found.ensures.found
    c.name_len.ensures.len c.exceeds_name_max.ensures c.refuse_if.ensures c.is_nothing.ensures c.refuse_if-2.ensures c.name_len-2.ensures.len c.new_entry_exceeds_limit.ensures c.refuse_if-3.ensures
    (c.lacks_free_blocks.ensures ∙ lacks_is c.look_up.new.self c.args.files.now 4 (ready_later _ _ c.args.files.now (c.requires (sym c.if-has_failed.ensures)) c.in_ok-found.ensures.asks.asked) ∙ ap (λ z. lacks_room (tree_summary c.look_up.new.self) (files_view z c.args.files.now) 4) c.in_ok-found.ensures.asks.asked.same) c.refuse_if-4.ensures c.value_or_refusal.ensures

pub returns-in_err-found : goal.returns-in_err-found
returns-in_err-found g c =
    lookup_failed (session_view c.args.tree.now c.args.files.now) (ops.Mkdir c.args.bytes.now) _ c.in_err-found.field-0.0 _ c.from_residual.result c.if-has_failed.ensures c.in_err-found.ensures.asks.broken c.in_err-found.ensures.asks.errors (mkdir_late (session_view c.args.tree.now c.args.files.now) c.args.bytes.now c.in-Some.path c.if-has_failed.ensures c.if-not-is_writable.ensures c.in-Some.ensures)
    (given_on _ c.from_residual.result c.from_residual.ensures.1)
