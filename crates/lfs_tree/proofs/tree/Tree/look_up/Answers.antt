use Rattle.std.proofs.Common.{◌≡◌, None, subst, sym}
use Rattle.std.specs.Prelude.{IfOk}
use Rattle.lfs_model.specs.layers.Cache.{cache_limit}
use Rattle.lfs_tree.proofs.Common.{ancestor_paths, ReadsPairsOnce, TreeState, ThreadView}
use Rattle.lfs_lookup.specs.CachedPairs.{AreDirectoriesRecentlyUsed, AreFewOnePairDirectories}
use Rattle.lfs_lookup.proofs.LoadedDown.{hand_after}
use Rattle.lfs_tree.proofs.Asking.{asking, held, rooted_held}
use Rattle.lfs_tree.proofs.tree.Tree.look_up.Goals as goal

pub find_node-found-requires : goal.find_node-found-requires
find_node-found-requires g c =
    let held = rooted_held c.self.inside.thread c.self.inside.root c.self.inside.is_writable c.args.self.now c.self.invariant c.self.view_is c.requires in
    record { works = held.works; accepted = held.sound.accepted; root = held.root_is }

pub invariant_of-self : goal.invariant_of-self
invariant_of-self g c =
    held c.self.inside.thread c.find_node-found.new.thread c.self.inside.root c.self.inside.is_writable (rooted_held c.self.inside.thread c.self.inside.root c.self.inside.is_writable c.args.self.now c.self.invariant c.self.view_is c.requires) c.find_node-found.result c.fail_on_error.new.thread c.fail_on_error.ensures c.find_node-found.ensures.reading

pub returns-clause-asks : goal.returns-clause-asks
returns-clause-asks g c =
    asking c.self.inside.thread c.find_node-found.new.thread c.self.inside.root c.self.inside.is_writable (rooted_held c.self.inside.thread c.self.inside.root c.self.inside.is_writable c.args.self.now c.self.invariant c.self.view_is c.requires) c.args.self.now c.find_node-found.result c.fail_on_error.new.thread c.self.view_is c.fail_on_error.ensures c.find_node-found.ensures.reading

pub returns-clause-few : goal.returns-clause-few
returns-clause-few g c =
    subst (λ (t : ThreadView). ReadsPairsOnce (ancestor_paths c.args.path.now) c.args.self.now t.kept.history) (sym c.fail_on_error.ensures)
    (subst (λ (s : TreeState). ReadsPairsOnce (ancestor_paths c.args.path.now) s c.find_node-found.new.thread.kept.history) c.self.view_is (record { few = c.find_node-found.ensures.reads.few; none = c.find_node-found.ensures.reads.loads.none }))

pub returns-clause-hand : goal.returns-clause-hand
returns-clause-hand g c = λ small.
    subst (λ (t : ThreadView). IfOk c.find_node-found.result (λ found. found.fault ≡ None → AreDirectoriesRecentlyUsed cache_limit t.kept.disk t.cache t.kept.pairs (ancestor_paths c.args.path.now))) (sym c.fail_on_error.ensures)
    (hand_after c.self.inside.thread c.find_node-found.new.thread (λ found. found.fault ≡ None) (ancestor_paths c.args.path.now) c.find_node-found.result c.find_node-found.ensures.reads.loads c.find_node-found.ensures.reading.only
    (subst (λ (s : TreeState). AreFewOnePairDirectories s.pairs (ancestor_paths c.args.path.now)) (sym c.self.view_is) small))
