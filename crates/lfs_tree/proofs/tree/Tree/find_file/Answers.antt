use Rattle.std.proofs.Common.{subst, sym}
use Rattle.std.specs.Prelude.{IfOk}
use Rattle.lfs_tree.proofs.Common.{ancestor_paths, ThreadView, IsFoundNode, ReadsPairsOnce, TreeState, kept_thread, visible_tree}
use Rattle.lfs_lookup.specs.FileContents.{AreContentsAt}
use Rattle.lfs_tree.proofs.Asking.{asking, held, rooted_held}
use Rattle.lfs_tree.proofs.tree.Tree.find_file.Goals as goal

pub find_file_contents-found-requires : goal.find_file_contents-found-requires
find_file_contents-found-requires g c =
    let held = rooted_held c.self.inside.thread c.self.inside.root c.self.inside.is_writable c.args.self.now c.self.invariant c.self.view_is c.requires in
    record { works = held.works; accepted = held.sound.accepted; root = held.root_is }

pub invariant_of-self : goal.invariant_of-self
invariant_of-self g c =
    held c.self.inside.thread c.find_file_contents-found.new.thread c.self.inside.root c.self.inside.is_writable (rooted_held c.self.inside.thread c.self.inside.root c.self.inside.is_writable c.args.self.now c.self.invariant c.self.view_is c.requires) c.find_file_contents-found.result c.fail_on_error.new.thread c.fail_on_error.ensures c.find_file_contents-found.ensures.reading

pub returns-clause-asks : goal.returns-clause-asks
returns-clause-asks g c =
    asking c.self.inside.thread c.find_file_contents-found.new.thread c.self.inside.root c.self.inside.is_writable (rooted_held c.self.inside.thread c.self.inside.root c.self.inside.is_writable c.args.self.now c.self.invariant c.self.view_is c.requires) c.args.self.now c.find_file_contents-found.result c.fail_on_error.new.thread c.self.view_is c.fail_on_error.ensures c.find_file_contents-found.ensures.reading

pub returns-clause-contents : goal.returns-clause-contents
returns-clause-contents g c =
    subst (λ (s : TreeState). IfOk c.find_file_contents-found.result (λ found. AreContentsAt (kept_thread s) c.args.path.now found.contents)) c.self.view_is c.find_file_contents-found.ensures.contents

pub returns-clause-few : goal.returns-clause-few
returns-clause-few g c =
    subst (λ (t : ThreadView). ReadsPairsOnce (ancestor_paths c.args.path.now) c.args.self.now t.kept.history) (sym c.fail_on_error.ensures)
    (subst (λ (s : TreeState). ReadsPairsOnce (ancestor_paths c.args.path.now) s c.find_file_contents-found.new.thread.kept.history) c.self.view_is (record { few = c.find_file_contents-found.ensures.reads.few; none = c.find_file_contents-found.ensures.reads.kept }))

pub returns-clause-found : goal.returns-clause-found
returns-clause-found g c =
    subst (λ (s : TreeState). IfOk c.find_file_contents-found.result (λ found. IsFoundNode (visible_tree s) c.args.path.now found.finding)) c.self.view_is c.find_file_contents-found.ensures.found
