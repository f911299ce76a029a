use Rattle.lfs_model.specs.session.Operations as ops
use Rattle.lfs_fs.proofs.Common.{session_view}
use Rattle.lfs_fs.proofs.Checked.{lookup_failed}
use Rattle.lfs_fs.proofs.EntryChecks.{some_path}
use Rattle.lfs_fs.proofs.Errors.{given_on}
use Rattle.lfs_fs.proofs.Late.{remove_late}
use Rattle.lfs_fs.proofs.RemoveChecks.{remove_checked}
use Rattle.lfs_fs.proofs.checks.check_remove.Goals as goal

pub is_open_at-requires : goal.is_open_at-requires
is_open_at-requires g c = some_path c.args.bytes.now c.in-Some.path c.in-Some.ensures

pub returns : goal.returns
returns g c =
    remove_checked (session_view c.args.tree.now c.args.files.now) c.args.bytes.now c.in-Some.path c.in_ok-inside.inside.finding _ c.is_nothing.result c.in_ok-inside.inside.has_entries c.is_open_at.result
    c.refuse_if.result c.refuse_if-2.result c.refuse_if-3.result c.value_or_refusal.result
    c.if-has_failed.ensures c.if-not-is_writable.ensures c.in-Some.ensures c.in_ok-inside.ensures.asks.asked c.in_ok-inside.ensures.found
    c.is_nothing.ensures c.refuse_if.ensures c.in_ok-inside.ensures.has c.refuse_if-2.ensures (c.is_open_at.ensures c.args.tree.now) c.refuse_if-3.ensures c.value_or_refusal.ensures

pub returns-in_err-inside : goal.returns-in_err-inside
returns-in_err-inside g c =
    lookup_failed (session_view c.args.tree.now c.args.files.now) (ops.Remove c.args.bytes.now) _ c.in_err-inside.field-0.0 _ c.from_residual.result c.if-has_failed.ensures c.in_err-inside.ensures.asks.broken c.in_err-inside.ensures.asks.errors (remove_late (session_view c.args.tree.now c.args.files.now) c.args.bytes.now c.in-Some.path c.if-has_failed.ensures c.if-not-is_writable.ensures c.in-Some.ensures)
    (given_on _ c.from_residual.result c.from_residual.ensures.1)
