use Rattle.std.proofs.Common.{◌∙◌}
use Rattle.lfs_fs.proofs.ImageLimits.{read_if_ok, ready_if_read}
use Rattle.lfs_fs.proofs.ReadOnly.{may_writable, told_reason, writable_may}
use Rattle.lfs_fs.proofs.session.Session.read_only_reason.Goals as goal

pub invariant_of-self : goal.invariant_of-self
invariant_of-self g c = ready_if_read c.self.inside.tree c.profile_breach-breach.new.self c.self.inside.files c.profile_breach-breach.result c.self.invariant c.profile_breach-breach.ensures.asks c.lemma_calls_conform.ensures

pub returns-then-is_writable-clause-is : goal.returns-then-is_writable-clause-is
returns-then-is_writable-clause-is g c = writable_may c.self.inside.tree c.self.inside.files c.args.self.now c.self.view_is c.self.invariant.ready c.if-has_failed.ensures c.if-is_writable.ensures

pub returns-clause-is : goal.returns-clause-is
returns-clause-is g c = told_reason c.self.inside.tree c.self.inside.files c.args.self.now c.self.view_is c.self.invariant.ready c.profile_breach-breach.result c.if-has_failed.ensures c.profile_breach-breach.ensures.is

pub returns-clause-read : goal.returns-clause-read
returns-clause-read g c =
    read_if_ok c.self.inside.tree c.profile_breach-breach.new.self c.self.inside.files _ c.profile_breach-breach.result c.self.view_is c.if-has_failed.ensures c.profile_breach-breach.ensures.asks.asked

pub returns-clause-silent : goal.returns-clause-silent
returns-clause-silent g c may = absurd (let k = c.if-is_writable.ensures ∙ may_writable c.self.inside.tree c.self.inside.files c.args.self.now c.self.view_is c.self.invariant.ready may in cc)
