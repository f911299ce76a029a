use Rattle.lfs_fs.proofs.OpenFiles.{busy_at}
use Rattle.lfs_fs.proofs.OpenReaders.{found_contents}
use Rattle.lfs_fs.proofs.Common.{flags_view, session_view}
use Rattle.lfs_model.specs.session.Operations as ops
use Rattle.lfs_fs.proofs.Errors.{given_on}
use Rattle.lfs_fs.proofs.Late.{reader_late}
use Rattle.lfs_fs.proofs.Checked.{lookup_failed, open_checked}
use Rattle.lfs_fs.proofs.checks.check_open_reader.Goals as goal

pub returns : goal.returns
returns g c =
    open_checked (session_view c.args.tree.now c.args.files.now) c.args.bytes.now c.in-Some.path (flags_view c.args.flags) c.in_ok-found.found.finding _ c.is_nothing.result c.is_directory.result c.prevents_reader_at.result
    c.refuse_if.result c.refuse_if-2.result c.refuse_if-3.result c.unwrap_or.result c.value_or_refusal.result
    (found_contents c.args.tree.now c.in-Some.path c.in_ok-found.found.contents c.unwrap_or.result _ c.in_ok-found.ensures.contents c.unwrap_or.ensures)
    c.if-has_failed.ensures c.in-Some.ensures c.requires c.if-not-is_allowed.ensures c.in_ok-found.ensures.asks.asked c.in_ok-found.ensures.found
    c.is_nothing.ensures c.refuse_if.ensures c.is_directory.ensures c.refuse_if-2.ensures (busy_at c.args.tree.now c.args.files.now c.args.bytes.now _ _ c.in-Some.ensures c.prevents_reader_at.ensures) c.refuse_if-3.ensures c.value_or_refusal.ensures

pub returns-in_err-found : goal.returns-in_err-found
returns-in_err-found g c =
    lookup_failed (session_view c.args.tree.now c.args.files.now) (ops.Open c.args.bytes.now (flags_view c.args.flags)) _ c.in_err-found.field-0.0 _ c.from_residual.result c.if-has_failed.ensures c.in_err-found.ensures.asks.broken c.in_err-found.ensures.asks.errors (reader_late (session_view c.args.tree.now c.args.files.now) c.args.bytes.now c.in-Some.path (flags_view c.args.flags) c.if-has_failed.ensures c.in-Some.ensures c.requires c.if-not-is_allowed.ensures)
    (given_on _ c.from_residual.result c.from_residual.ensures.1)
