use Rattle.std.proofs.Common.{◌≤◌, ◌+◌, ap, subst, sym, ◌∙◌}
use Rattle.std.specs.Prelude.{IfOk, IfSome, sum_by}
use Rattle.lfs_tree.proofs.Common.{directory_pair_count, read_count, pairs_gstate, ThreadView, IsSoundWithRoot, AreRenameResults, rename_parents, TreeState}
use Rattle.lfs_tree.proofs.Asking.{asking, held, rooted_held}
use Rattle.lfs_tree.proofs.RenamePaths.{found_since}
use Rattle.lfs_tree.proofs.tree.Tree.look_up_rename.Goals as goal

pub rename_targets-found-requires : goal.rename_targets-found-requires
rename_targets-found-requires g c =
    subst (λ a. IsSoundWithRoot c.self.inside.thread c.self.inside.root a) (ap (λ (s : TreeState). s.writable) c.self.view_is ∙ c.requires.writable)
    (rooted_held c.self.inside.thread c.self.inside.root c.self.inside.is_writable c.args.self.now c.self.invariant c.self.view_is c.requires.works)

pub invariant_of-self : goal.invariant_of-self
invariant_of-self g c =
    held c.self.inside.thread c.rename_targets-found.new.thread c.self.inside.root c.self.inside.is_writable (rooted_held c.self.inside.thread c.self.inside.root c.self.inside.is_writable c.args.self.now c.self.invariant c.self.view_is c.requires.works) c.rename_targets-found.result c.fail_on_error.new.thread c.fail_on_error.ensures c.rename_targets-found.ensures.reading

pub returns-clause-asks : goal.returns-clause-asks
returns-clause-asks g c =
    asking c.self.inside.thread c.rename_targets-found.new.thread c.self.inside.root c.self.inside.is_writable (rooted_held c.self.inside.thread c.self.inside.root c.self.inside.is_writable c.args.self.now c.self.invariant c.self.view_is c.requires.works) c.args.self.now c.rename_targets-found.result c.fail_on_error.new.thread c.self.view_is c.fail_on_error.ensures c.rename_targets-found.ensures.reading

pub returns-clause-targets : goal.returns-clause-targets
returns-clause-targets g c =
    subst (λ (t : ThreadView). IfOk c.rename_targets-found.result (λ found. IfSome found.targets (AreRenameResults t.kept c.args.from.now c.args.to.now))) (sym c.fail_on_error.ensures)
    (found_since c.self.inside.thread.kept c.rename_targets-found.new.thread.kept c.args.from.now c.args.to.now c.rename_targets-found.result c.rename_targets-found.ensures.reading.only c.rename_targets-found.ensures.targets)

pub returns-clause-handed_on : goal.returns-clause-handed_on
returns-clause-handed_on g c = λ settled. c.rename_targets-found.ensures.handed_on (ap (λ (s : TreeState). pairs_gstate s.pairs) c.self.view_is ∙ settled)

pub returns-clause-few : goal.returns-clause-few
returns-clause-few g c =
    subst (λ (t : ThreadView). read_count t.kept.history ≤ read_count c.args.self.now.history + sum_by (directory_pair_count c.args.self.now.pairs) (rename_parents c.args.from.now c.args.to.now)) (sym c.fail_on_error.ensures)
    (subst (λ (s : TreeState). read_count c.rename_targets-found.new.thread.kept.history ≤ read_count s.history + sum_by (directory_pair_count s.pairs) (rename_parents c.args.from.now c.args.to.now)) c.self.view_is c.rename_targets-found.ensures.few)
