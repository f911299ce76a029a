use Rattle.std.proofs.Common.{◌≤◌, ◌+◌, ap, subst, sym, ◌∙◌}
use Rattle.std.specs.Prelude.{IfOk, IfSome, sum_by}
use Rattle.lfs_tree.proofs.Common.{ancestor_paths, directory_pair_count, read_count, pairs_gstate, IsFoundNode, ThreadView, IsSoundWithRoot, IsCreationResult, TreeState, visible_tree}
use Rattle.lfs_tree.proofs.Asking.{asking, held, rooted_held}
use Rattle.lfs_tree.proofs.CreationPaths.{creation_since}
use Rattle.lfs_tree.proofs.tree.Tree.look_up_creation.Goals as goal

pub creation_lookup-found-requires : goal.creation_lookup-found-requires
creation_lookup-found-requires g c =
    subst (λ a. IsSoundWithRoot c.self.inside.thread c.self.inside.root a) (ap (λ (s : TreeState). s.writable) c.self.view_is ∙ c.requires.writable)
    (rooted_held c.self.inside.thread c.self.inside.root c.self.inside.is_writable c.args.self.now c.self.invariant c.self.view_is c.requires.works)

pub invariant_of-self : goal.invariant_of-self
invariant_of-self g c =
    held c.self.inside.thread c.creation_lookup-found.new.thread c.self.inside.root c.self.inside.is_writable (rooted_held c.self.inside.thread c.self.inside.root c.self.inside.is_writable c.args.self.now c.self.invariant c.self.view_is c.requires.works) c.creation_lookup-found.result c.fail_on_error.new.thread c.fail_on_error.ensures c.creation_lookup-found.ensures.reading

pub returns-clause-asks : goal.returns-clause-asks
returns-clause-asks g c =
    asking c.self.inside.thread c.creation_lookup-found.new.thread c.self.inside.root c.self.inside.is_writable (rooted_held c.self.inside.thread c.self.inside.root c.self.inside.is_writable c.args.self.now c.self.invariant c.self.view_is c.requires.works) c.args.self.now c.creation_lookup-found.result c.fail_on_error.new.thread c.self.view_is c.fail_on_error.ensures c.creation_lookup-found.ensures.reading

pub returns-clause-found : goal.returns-clause-found
returns-clause-found g c =
    subst (λ (s : TreeState). IfOk c.creation_lookup-found.result (λ found. IsFoundNode (visible_tree s) c.args.path.now found.entry)) c.self.view_is c.creation_lookup-found.ensures.found

pub returns-clause-target : goal.returns-clause-target
returns-clause-target g c =
    subst (λ (t : ThreadView). IfOk c.creation_lookup-found.result (λ found. IfSome found.target (IsCreationResult t.kept c.args.path.now))) (sym c.fail_on_error.ensures)
    (creation_since c.self.inside.thread.kept c.creation_lookup-found.new.thread.kept c.args.path.now c.creation_lookup-found.result c.creation_lookup-found.ensures.reading.only c.creation_lookup-found.ensures.target)

pub returns-clause-handed_on : goal.returns-clause-handed_on
returns-clause-handed_on g c = λ settled. c.creation_lookup-found.ensures.handed_on (ap (λ (s : TreeState). pairs_gstate s.pairs) c.self.view_is ∙ settled)

pub returns-clause-few : goal.returns-clause-few
returns-clause-few g c =
    subst (λ (t : ThreadView). read_count t.kept.history ≤ read_count c.args.self.now.history + sum_by (directory_pair_count c.args.self.now.pairs) (ancestor_paths c.args.path.now)) (sym c.fail_on_error.ensures)
    (subst (λ (s : TreeState). read_count c.creation_lookup-found.new.thread.kept.history ≤ read_count s.history + sum_by (directory_pair_count s.pairs) (ancestor_paths c.args.path.now)) c.self.view_is c.creation_lookup-found.ensures.few)
