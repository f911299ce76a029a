use Rattle.lfs_model.specs.session.Operations as ops
use Rattle.lfs_fs.proofs.Common.{session_view}
use Rattle.lfs_fs.proofs.Errors.{given_on}
use Rattle.lfs_fs.proofs.Late.{remove_attr_late}
use Rattle.lfs_fs.proofs.Checked.{lookup_failed}
use Rattle.lfs_fs.proofs.EntryChecks.{remove_attr_checked, none_from_some}
use Rattle.lfs_fs.proofs.checks.check_remove_attr.Goals as goal

pub returns : goal.returns
returns g c =
    remove_attr_checked (λ v. v.items) (session_view c.args.tree.now c.args.files.now) c.args.bytes.now c.args.kind c.in-Some.path c.in_ok-found.found.finding _ c.in_ok-found.found.bytes c.is_nothing.result c.is_none.result c.refuse_if.result c.refuse_if-2.result c.value_or_refusal.result
    c.if-has_failed.ensures c.if-not-is_writable.ensures c.in-Some.ensures c.in_ok-found.ensures.asks.asked c.in_ok-found.ensures.found
    c.in_ok-found.ensures.bytes.0 c.is_nothing.ensures c.refuse_if.ensures (none_from_some _ _ c.is_none.ensures) c.refuse_if-2.ensures c.value_or_refusal.ensures

pub returns-in_err-found : goal.returns-in_err-found
returns-in_err-found g c =
    lookup_failed (session_view c.args.tree.now c.args.files.now) (ops.RemoveAttr c.args.bytes.now c.args.kind) _ c.in_err-found.field-0.0 _ c.from_residual.result c.if-has_failed.ensures c.in_err-found.ensures.asks.broken c.in_err-found.ensures.asks.errors (remove_attr_late (session_view c.args.tree.now c.args.files.now) c.args.bytes.now c.args.kind c.in-Some.path c.if-has_failed.ensures c.if-not-is_writable.ensures c.in-Some.ensures)
    (given_on _ c.from_residual.result c.from_residual.ensures.1)
