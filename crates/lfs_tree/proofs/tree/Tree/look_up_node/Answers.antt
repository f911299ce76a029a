use Rattle.std.proofs.Common.{◌≤◌, ◌+◌, ◌++◌, ◌∷◌, [], subst, sym}
use Rattle.std.specs.Prelude.{sum_by}
use Rattle.lfs_tree.proofs.Common.{directory_pair_count, ancestor_paths, read_count, TreeState, ThreadView}
use Rattle.lfs_tree.proofs.Asking.{asking, held, rooted_held}
use Rattle.lfs_tree.proofs.tree.Tree.look_up_node.Goals as goal

pub path_has_entries-inside-requires : goal.path_has_entries-inside-requires
path_has_entries-inside-requires g c =
    let held = rooted_held c.self.inside.thread c.self.inside.root c.self.inside.is_writable c.args.self.now c.self.invariant c.self.view_is c.requires in
    record { works = held.works; accepted = held.sound.accepted; root = held.root_is }

pub invariant_of-self : goal.invariant_of-self
invariant_of-self g c =
    held c.self.inside.thread c.path_has_entries-inside.new.thread c.self.inside.root c.self.inside.is_writable (rooted_held c.self.inside.thread c.self.inside.root c.self.inside.is_writable c.args.self.now c.self.invariant c.self.view_is c.requires) c.path_has_entries-inside.result c.fail_on_error.new.thread c.fail_on_error.ensures c.path_has_entries-inside.ensures.reading

pub returns-clause-asks : goal.returns-clause-asks
returns-clause-asks g c =
    asking c.self.inside.thread c.path_has_entries-inside.new.thread c.self.inside.root c.self.inside.is_writable (rooted_held c.self.inside.thread c.self.inside.root c.self.inside.is_writable c.args.self.now c.self.invariant c.self.view_is c.requires) c.args.self.now c.path_has_entries-inside.result c.fail_on_error.new.thread c.self.view_is c.fail_on_error.ensures c.path_has_entries-inside.ensures.reading

pub returns-clause-few : goal.returns-clause-few
returns-clause-few g c =
    subst (λ (t : ThreadView). read_count t.kept.history ≤ read_count c.args.self.now.history + sum_by (directory_pair_count c.args.self.now.pairs) (ancestor_paths c.args.path.now ++ c.args.path.now ∷ [])) (sym c.fail_on_error.ensures)
    (subst (λ (s : TreeState). read_count c.path_has_entries-inside.new.thread.kept.history ≤ read_count s.history + sum_by (directory_pair_count s.pairs) (ancestor_paths c.args.path.now ++ c.args.path.now ∷ [])) c.self.view_is c.path_has_entries-inside.ensures.few)
