use Rattle.lfs_model.specs.session.Operations as ops
use Rattle.lfs_fs.proofs.Common.{session_view, listed_item_view, ancestor_paths}
use Rattle.lfs_fs.proofs.Errors.{given_on}
use Rattle.lfs_fs.proofs.Late.{list_late}
use Rattle.lfs_fs.proofs.Checked.{lookup_failed}
use Rattle.lfs_fs.proofs.EntryChecks.{list_checked}
use Rattle.lfs_fs.proofs.FewReads.{few_given}
use Rattle.lfs_fs.proofs.KeptLookUps.{none_given}
use Rattle.std.proofs.Common.{[], ◌∷◌, ◌++◌, map}
use Rattle.lfs_fs.proofs.checks.check_and_list.Goals as goal

pub returns-clause-checks : goal.returns-clause-checks
returns-clause-checks g c =
    list_checked (λ v. map listed_item_view v.items) (session_view c.args.tree.now c.args.files.now) c.args.bytes.now c.in-Some.path c.in_ok-listing.listing.finding _ c.is_nothing.result c.is_file.result c.refuse_if.result c.refuse_if-2.result c.in_ok-listing.listing.items c.value_or_refusal.result
    c.if-has_failed.ensures c.in-Some.ensures c.in_ok-listing.ensures.asks.asked c.in_ok-listing.ensures.found c.in_ok-listing.ensures.items
    c.is_nothing.ensures c.refuse_if.ensures c.is_file.ensures c.refuse_if-2.ensures c.value_or_refusal.ensures

pub returns-in_err-listing-clause-checks : goal.returns-in_err-listing-clause-checks
returns-in_err-listing-clause-checks g c =
    lookup_failed (session_view c.args.tree.now c.args.files.now) (ops.ListAll c.args.bytes.now) _ c.in_err-listing.field-0.0 _ c.from_residual.result c.if-has_failed.ensures c.in_err-listing.ensures.asks.broken c.in_err-listing.ensures.asks.errors (list_late (session_view c.args.tree.now c.args.files.now) c.args.bytes.now c.in-Some.path c.if-has_failed.ensures c.in-Some.ensures)
    (given_on _ c.from_residual.result c.from_residual.ensures.1)

pub returns-clause-few : goal.returns-clause-few
returns-clause-few g c = few_given c.args.tree.now c.list.new.self (λ p. ancestor_paths p ++ p ∷ []) c.args.bytes.now c.in-Some.path c.in-Some.ensures c.list.ensures.few.few

pub returns-in_err-listing-clause-few : goal.returns-in_err-listing-clause-few
returns-in_err-listing-clause-few g c = few_given c.args.tree.now c.list.new.self (λ p. ancestor_paths p ++ p ∷ []) c.args.bytes.now c.in-Some.path c.in-Some.ensures c.list.ensures.few.few

pub returns-clause-kept : goal.returns-clause-kept
returns-clause-kept g c = none_given c.args.tree.now c.list.new.self (λ p. ancestor_paths p ++ p ∷ []) c.args.bytes.now c.in-Some.path c.in-Some.ensures c.list.ensures.few.none

pub returns-in_err-listing-clause-kept : goal.returns-in_err-listing-clause-kept
returns-in_err-listing-clause-kept g c = none_given c.args.tree.now c.list.new.self (λ p. ancestor_paths p ++ p ∷ []) c.args.bytes.now c.in-Some.path c.in-Some.ensures c.list.ensures.few.none
