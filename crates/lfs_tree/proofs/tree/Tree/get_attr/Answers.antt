use Rattle.std.proofs.Common.{ap, subst, sym}
use Rattle.std.specs.Prelude.{IfOk}
use Rattle.lfs_tree.proofs.Common.{node_attributes_of, disk_tree, ancestor_paths, IsFoundNode, ReadsPairsOnce, TreeState, visible_tree, ThreadView}
use Rattle.lfs_tree.proofs.Asking.{asking, held, rooted_held}
use Rattle.lfs_lookup.proofs.AttributeAtSlots.{attribute_given, attribute_then}
use Rattle.lfs_tree.proofs.tree.Tree.get_attr.Goals as goal

pub find_attribute-found-requires : goal.find_attribute-found-requires
find_attribute-found-requires g c =
    let held = rooted_held c.self.inside.thread c.self.inside.root c.self.inside.is_writable c.args.self.now c.self.invariant c.self.view_is c.requires in
    record { works = held.works; accepted = held.sound.accepted; root = held.root_is }

pub invariant_of-self : goal.invariant_of-self
invariant_of-self g c =
    held c.self.inside.thread c.find_attribute-found.new.thread c.self.inside.root c.self.inside.is_writable (rooted_held c.self.inside.thread c.self.inside.root c.self.inside.is_writable c.args.self.now c.self.invariant c.self.view_is c.requires) c.find_attribute-found.result c.fail_on_error.new.thread c.fail_on_error.ensures c.find_attribute-found.ensures.reading

pub returns-clause-asks : goal.returns-clause-asks
returns-clause-asks g c =
    asking c.self.inside.thread c.find_attribute-found.new.thread c.self.inside.root c.self.inside.is_writable (rooted_held c.self.inside.thread c.self.inside.root c.self.inside.is_writable c.args.self.now c.self.invariant c.self.view_is c.requires) c.args.self.now c.find_attribute-found.result c.fail_on_error.new.thread c.self.view_is c.fail_on_error.ensures c.find_attribute-found.ensures.reading

pub returns-clause-bytes : goal.returns-clause-bytes
returns-clause-bytes g c =
    let t = c.self.inside.thread.kept in
    attribute_given c.args.kind (node_attributes_of (visible_tree c.args.self.now c.args.path.now)) c.find_attribute-found.result
    (attribute_then c.args.kind (node_attributes_of (disk_tree t.disk t.pairs c.args.path.now)) (node_attributes_of (visible_tree c.args.self.now c.args.path.now)) c.find_attribute-found.result
    (ap (λ (s : TreeState). node_attributes_of (visible_tree s c.args.path.now)) c.self.view_is) c.find_attribute-found.ensures.is)
    c.find_attribute-found.ensures.short

pub returns-clause-few : goal.returns-clause-few
returns-clause-few g c =
    subst (λ (t : ThreadView). ReadsPairsOnce (ancestor_paths c.args.path.now) c.args.self.now t.kept.history) (sym c.fail_on_error.ensures)
    (subst (λ (s : TreeState). ReadsPairsOnce (ancestor_paths c.args.path.now) s c.find_attribute-found.new.thread.kept.history) c.self.view_is (record { few = c.find_attribute-found.ensures.reads.few; none = c.find_attribute-found.ensures.reads.kept }))

pub returns-clause-found : goal.returns-clause-found
returns-clause-found g c =
    subst (λ (s : TreeState). IfOk c.find_attribute-found.result (λ found. IsFoundNode (visible_tree s) c.args.path.now found.finding)) c.self.view_is c.find_attribute-found.ensures.found
