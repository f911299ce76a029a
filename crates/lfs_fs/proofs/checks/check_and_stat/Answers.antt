use Rattle.lfs_fs.proofs.Common.{session_view, ancestor_paths, searched_directories, HasCachedDirectories, stat_view}
use Rattle.lfs_model.specs.session.Operations as ops
use Rattle.lfs_fs.proofs.Errors.{given_on}
use Rattle.lfs_fs.proofs.Late.{stat_late}
use Rattle.lfs_fs.proofs.Checked.{lookup_failed, stat_checked}
use Rattle.lfs_fs.proofs.FewReads.{few_given}
use Rattle.lfs_fs.proofs.KeptLookUps.{hand_failed, hand_given, none_given}
use Rattle.std.proofs.Common.{[], ◌∷◌, ◌∙◌}
use Rattle.lfs_fs.proofs.checks.check_and_stat.Goals as goal

pub returns-clause-checks : goal.returns-clause-checks
returns-clause-checks g c =
    stat_checked stat_view (session_view c.args.tree.now c.args.files.now) c.args.bytes.now c.in-Some.path c.in_ok-found.found _ c.is_nothing.result c.refuse_if.result c.from_size.result c.value_or_refusal.result
    c.if-has_failed.ensures c.in-Some.ensures c.in_ok-found.ensures.asks.asked c.in_ok-found.ensures.found c.is_nothing.ensures c.refuse_if.ensures (c.from_size.ensures ∙ c.size.ensures) c.value_or_refusal.ensures

pub returns-in_err-found-clause-checks : goal.returns-in_err-found-clause-checks
returns-in_err-found-clause-checks g c =
    lookup_failed (session_view c.args.tree.now c.args.files.now) (ops.Stat c.args.bytes.now) _ c.in_err-found.field-0.0 _ c.from_residual.result c.if-has_failed.ensures c.in_err-found.ensures.asks.broken c.in_err-found.ensures.asks.errors (stat_late (session_view c.args.tree.now c.args.files.now) c.args.bytes.now c.in-Some.path c.if-has_failed.ensures c.in-Some.ensures)
    (given_on _ c.from_residual.result c.from_residual.ensures.1)

pub returns-clause-few : goal.returns-clause-few
returns-clause-few g c = few_given c.args.tree.now c.look_up.new.self ancestor_paths c.args.bytes.now c.in-Some.path c.in-Some.ensures c.look_up.ensures.few.few

pub returns-in_err-found-clause-few : goal.returns-in_err-found-clause-few
returns-in_err-found-clause-few g c = few_given c.args.tree.now c.look_up.new.self ancestor_paths c.args.bytes.now c.in-Some.path c.in-Some.ensures c.look_up.ensures.few.few

pub returns-clause-kept : goal.returns-clause-kept
returns-clause-kept g c = none_given c.args.tree.now c.look_up.new.self ancestor_paths c.args.bytes.now c.in-Some.path c.in-Some.ensures c.look_up.ensures.few.none

pub returns-in_err-found-clause-kept : goal.returns-in_err-found-clause-kept
returns-in_err-found-clause-kept g c = none_given c.args.tree.now c.look_up.new.self ancestor_paths c.args.bytes.now c.in-Some.path c.in-Some.ensures c.look_up.ensures.few.none

pub returns-clause-hand : goal.returns-clause-hand
returns-clause-hand g c = hand_given c.args.tree.now c.look_up.new.self ancestor_paths c.args.bytes.now c.in-Some.path c.in_ok-found.found.fault (c.refuse_if.result ∷ []) c.from_size.result c.value_or_refusal.result c.in-Some.ensures c.value_or_refusal.ensures c.in_ok-found.ensures.hand

pub returns-in_err-found-clause-hand : goal.returns-in_err-found-clause-hand
returns-in_err-found-clause-hand g c small = hand_failed c.from_residual.result _ (HasCachedDirectories c.look_up.new.self (searched_directories (ops.Stat c.args.bytes.now))) (given_on _ c.from_residual.result c.from_residual.ensures.1)
