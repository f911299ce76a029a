use Rattle.std.proofs.Common.{subst, sym}
use Rattle.std.specs.Prelude.{IfOk}
use Rattle.lfs_tree.proofs.Common.{ancestor_paths, node_attributes_of, IsAttributesSize, ReadsPairsOnce, TreeState, visible_tree, ThreadView}
use Rattle.lfs_tree.proofs.Asking.{asking, held, rooted_held}
use Rattle.lfs_tree.proofs.tree.Tree.attributes_size.Goals as goal

pub attributes_size_at-size-requires : goal.attributes_size_at-size-requires
attributes_size_at-size-requires g c =
    let held = rooted_held c.self.inside.thread c.self.inside.root c.self.inside.is_writable c.args.self.now c.self.invariant c.self.view_is c.requires in
    record { works = held.works; accepted = held.sound.accepted; root = held.root_is }

pub invariant_of-self : goal.invariant_of-self
invariant_of-self g c =
    held c.self.inside.thread c.attributes_size_at-size.new.thread c.self.inside.root c.self.inside.is_writable (rooted_held c.self.inside.thread c.self.inside.root c.self.inside.is_writable c.args.self.now c.self.invariant c.self.view_is c.requires) c.attributes_size_at-size.result c.fail_on_error.new.thread c.fail_on_error.ensures c.attributes_size_at-size.ensures.reading

pub returns-clause-asks : goal.returns-clause-asks
returns-clause-asks g c =
    asking c.self.inside.thread c.attributes_size_at-size.new.thread c.self.inside.root c.self.inside.is_writable (rooted_held c.self.inside.thread c.self.inside.root c.self.inside.is_writable c.args.self.now c.self.invariant c.self.view_is c.requires) c.args.self.now c.attributes_size_at-size.result c.fail_on_error.new.thread c.self.view_is c.fail_on_error.ensures c.attributes_size_at-size.ensures.reading

pub returns-clause-size : goal.returns-clause-size
returns-clause-size g c =
    subst (λ (s : TreeState). IfOk c.attributes_size_at-size.result (IsAttributesSize (node_attributes_of (visible_tree s c.args.path.now)))) c.self.view_is c.attributes_size_at-size.ensures.is

pub returns-clause-few : goal.returns-clause-few
returns-clause-few g c =
    subst (λ (t : ThreadView). ReadsPairsOnce (ancestor_paths c.args.path.now) c.args.self.now t.kept.history) (sym c.fail_on_error.ensures)
    (subst (λ (s : TreeState). ReadsPairsOnce (ancestor_paths c.args.path.now) s c.attributes_size_at-size.new.thread.kept.history) c.self.view_is (record { few = c.attributes_size_at-size.ensures.reads.few; none = c.attributes_size_at-size.ensures.reads.kept }))
