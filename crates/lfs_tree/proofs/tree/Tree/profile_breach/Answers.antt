use Rattle.std.proofs.Common.{subst}
use Rattle.std.specs.Prelude.{IfOk}
use Rattle.lfs_model.specs.layers.ProfileBreaches.{IsBreachIfAny}
use Rattle.lfs_tree.proofs.Common.{TreeState}
use Rattle.lfs_tree.proofs.Asking.{asking, held, rooted_held}
use Rattle.lfs_tree.proofs.tree.Tree.profile_breach.Goals as goal

pub invariant_of-self : goal.invariant_of-self
invariant_of-self g c =
    held c.self.inside.thread c.find_profile_breach-breach.new.thread c.self.inside.root c.self.inside.is_writable (rooted_held c.self.inside.thread c.self.inside.root c.self.inside.is_writable c.args.self.now c.self.invariant c.self.view_is c.requires) c.find_profile_breach-breach.result c.fail_on_error.new.thread c.fail_on_error.ensures c.find_profile_breach-breach.ensures.reading

pub returns-clause-asks : goal.returns-clause-asks
returns-clause-asks g c =
    asking c.self.inside.thread c.find_profile_breach-breach.new.thread c.self.inside.root c.self.inside.is_writable (rooted_held c.self.inside.thread c.self.inside.root c.self.inside.is_writable c.args.self.now c.self.invariant c.self.view_is c.requires) c.args.self.now c.find_profile_breach-breach.result c.fail_on_error.new.thread c.self.view_is c.fail_on_error.ensures c.find_profile_breach-breach.ensures.reading

pub returns-clause-is : goal.returns-clause-is
returns-clause-is g c =
    subst (λ (s : TreeState). IfOk c.find_profile_breach-breach.result (IsBreachIfAny s.disk s.pairs)) c.self.view_is c.find_profile_breach-breach.ensures.is
