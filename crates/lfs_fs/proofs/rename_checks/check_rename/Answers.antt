use Rattle.std.proofs.Common.{ℕ, List, refl, subst, subst₂, sym, ap, ap₂, ◌∙◌}
use Rattle.lfs_model.specs.session.Operations as ops
use Rattle.lfs_fs.proofs.Common.{pairs_gstate, AreRenameFindings, TreeState, visible_tree, session_view, refusal_by_checks}
use Rattle.lfs_fs.specs.RenamePaths.{PassesRenameWithoutLookup}
use Rattle.lfs_fs.proofs.Answered.{ready_later}
use Rattle.lfs_fs.proofs.Checked.{lookup_failed}
use Rattle.lfs_fs.proofs.Errors.{given_on}
use Rattle.lfs_fs.proofs.RenameChecks.{passes_late, passes_later, refused_at_once, rename_checked, renaming_is}
use Rattle.lfs_fs.proofs.rename_checks.check_rename.Goals as goal

pub find_rename_refusal-refusal-requires-clause-ready : goal.find_rename_refusal-refusal-requires-clause-ready
find_rename_refusal-refusal-requires-clause-ready g c = ready_later _ _ c.args.files.now (c.requires c.in_ok-paths.ensures.passes.works) c.in_ok-found.ensures.asks.asked

pub find_rename_refusal-refusal-requires-clause-passes : goal.find_rename_refusal-refusal-requires-clause-passes
find_rename_refusal-refusal-requires-clause-passes g c =
    let passes = c.in_ok-paths.ensures.passes in
    subst₂ (λ (old new : List ℕ). PassesRenameWithoutLookup c.look_up_rename.new.self old new c.in_ok-paths.paths) (sym passes.given.0) (sym passes.given.1)
    (passes_later _ _ c.args.old.now c.args.new.now _ c.in_ok-found.ensures.asks.asked passes)

pub find_rename_refusal-refusal-requires-clause-found : goal.find_rename_refusal-refusal-requires-clause-found
find_rename_refusal-refusal-requires-clause-found g c =
    subst (λ t. AreRenameFindings (visible_tree t) c.in_ok-paths.paths.from c.in_ok-paths.paths.to c.in_ok-found.found) (sym c.in_ok-found.ensures.asks.asked.same) c.in_ok-found.ensures.found

pub returns : goal.returns
returns g c =
    let asked = c.in_ok-found.ensures.asks.asked in
    let passes = c.in_ok-paths.ensures.passes in
    let refused = c.find_rename_refusal-refusal.ensures ∙ ap₂ (λ (old new : List ℕ). refusal_by_checks (session_view c.look_up_rename.new.self c.args.files.now) (ops.Rename old new)) passes.given.0 passes.given.1 in
    rename_checked c.args.tree.now c.args.files.now c.args.old.now c.args.new.now c.in_ok-paths.paths c.look_up_rename.new.self c.find_rename_refusal-refusal.result _ c.value_or_refusal.result passes asked refused
    (renaming_is c.args.tree.now c.look_up_rename.new.self c.args.old.now c.args.new.now c.in_ok-paths.paths _ passes refl refl refl c.in_ok-found.ensures.targets
    (λ settled. c.in_ok-found.ensures.handed_on (sym (ap (λ (t : TreeState). pairs_gstate t.pairs) asked.same) ∙ settled)))
    c.value_or_refusal.ensures

pub returns-in_err-paths : goal.returns-in_err-paths
returns-in_err-paths g c = refused_at_once c.args.tree.now c.args.files.now (ops.Rename c.args.old.now c.args.new.now) c.in_err-paths.field-0.0 _ c.from_residual.result c.in_err-paths.ensures.refused (given_on _ c.from_residual.result c.from_residual.ensures.1)

pub returns-in_err-found : goal.returns-in_err-found
returns-in_err-found g c =
    lookup_failed (session_view c.args.tree.now c.args.files.now) (ops.Rename c.args.old.now c.args.new.now) _ c.in_err-found.field-0.0 _ c.from_residual-in_err-found.result (sym c.in_ok-paths.ensures.passes.works) c.in_err-found.ensures.asks.broken c.in_err-found.ensures.asks.errors
    (passes_late c.args.tree.now c.args.files.now c.args.old.now c.args.new.now c.in_ok-paths.paths c.in_ok-paths.ensures.passes)
    (given_on _ c.from_residual-in_err-found.result c.from_residual-in_err-found.ensures.1)
