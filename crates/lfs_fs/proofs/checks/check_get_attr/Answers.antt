use Rattle.lfs_model.specs.session.Operations as ops
use Rattle.lfs_fs.proofs.Common.{session_view, ancestor_paths}
use Rattle.lfs_fs.proofs.Errors.{given_on}
use Rattle.lfs_fs.proofs.Late.{get_late}
use Rattle.lfs_fs.proofs.Checked.{lookup_failed}
use Rattle.lfs_fs.proofs.EntryChecks.{get_checked, got, none_from_some}
use Rattle.lfs_fs.proofs.EntryPaths.{is_entry}
use Rattle.lfs_fs.proofs.FewReads.{few_given}
use Rattle.lfs_fs.proofs.KeptLookUps.{none_given}
use Rattle.std.proofs.Common.{sym}
use Rattle.lfs_fs.proofs.checks.check_get_attr.Goals as goal

pub returns-clause-checks : goal.returns-clause-checks
returns-clause-checks g c =
    get_checked (λ v. v.items) (session_view c.args.tree.now c.args.files.now) c.args.bytes.now c.args.kind c.in-Some.path c.in_ok-found.found.finding _ c.in_ok-found.found.bytes c.is_nothing.result c.is_none.result c.refuse_if.result c.refuse_if-2.result c.unwrap_or.result c.value_or_refusal.result
    c.if-has_failed.ensures c.in-Some.ensures c.in_ok-found.ensures.asks.asked c.in_ok-found.ensures.found
    c.in_ok-found.ensures.bytes.0 (got (λ v. v.items) c.in_ok-found.found.bytes _ c.new.result c.unwrap_or.result c.in_ok-found.ensures.bytes.0 c.new.ensures.items c.unwrap_or.ensures)
    c.is_nothing.ensures c.refuse_if.ensures (none_from_some _ _ c.is_none.ensures) c.refuse_if-2.ensures c.value_or_refusal.ensures

pub returns-in_err-found-clause-checks : goal.returns-in_err-found-clause-checks
returns-in_err-found-clause-checks g c =
    lookup_failed (session_view c.args.tree.now c.args.files.now) (ops.GetAttr c.args.bytes.now c.args.kind) _ c.in_err-found.field-0.0 _ c.from_residual.result c.if-has_failed.ensures c.in_err-found.ensures.asks.broken c.in_err-found.ensures.asks.errors (get_late (session_view c.args.tree.now c.args.files.now) c.args.bytes.now c.args.kind c.in-Some.path c.if-has_failed.ensures c.in-Some.ensures)
    (given_on _ c.from_residual.result c.from_residual.ensures.1)

pub returns-clause-few : goal.returns-clause-few
returns-clause-few g c = few_given c.args.tree.now c.get_attr.new.self ancestor_paths c.args.bytes.now c.in-Some.path (sym (is_entry c.args.bytes.now c.in-Some.path c.in-Some.ensures).0) c.get_attr.ensures.few.few

pub returns-in_err-found-clause-few : goal.returns-in_err-found-clause-few
returns-in_err-found-clause-few g c = few_given c.args.tree.now c.get_attr.new.self ancestor_paths c.args.bytes.now c.in-Some.path (sym (is_entry c.args.bytes.now c.in-Some.path c.in-Some.ensures).0) c.get_attr.ensures.few.few

pub returns-clause-kept : goal.returns-clause-kept
returns-clause-kept g c = none_given c.args.tree.now c.get_attr.new.self ancestor_paths c.args.bytes.now c.in-Some.path (sym (is_entry c.args.bytes.now c.in-Some.path c.in-Some.ensures).0) c.get_attr.ensures.few.none

pub returns-in_err-found-clause-kept : goal.returns-in_err-found-clause-kept
returns-in_err-found-clause-kept g c = none_given c.args.tree.now c.get_attr.new.self ancestor_paths c.args.bytes.now c.in-Some.path (sym (is_entry c.args.bytes.now c.in-Some.path c.in-Some.ensures).0) c.get_attr.ensures.few.none
