use Rattle.lfs_operations.proofs.Common.{◌≡◌, ◌+◌, ◌-◌, ap, sym, subst, ◌∙◌, length, arith, Some, on_ok_weaker, Gstate, CleanLossLeaves, IsPairCommitted, LossLeavesPair, complete_after, pairs_blocks, gstate_changes, content_reaching_gstate}
use Rattle.lfs_operations.proofs.RecoverEnd.{cleared_already}
use Rattle.lfs_operations.proofs.RecoverWrites.{two_fewer, writes_fewer, writes_none}
use Rattle.lfs_operations.proofs.recovery.clear_sync_bit.Goals as goal
use Rattle.lfs_operations.proofs.RecoverSteps.{clear_survives, cleared, enough}

pub returns-then-state-clause-is_cleared : goal.returns-then-state-clause-is_cleared
returns-then-state-clause-is_cleared g c =
    let t = c.args.thread.now.kept in
    let last = c.len-last.result - 1 in
    let is : last + 1 ≡ length t.pairs = let e = enough t c.requires.can in let l = c.len-last.ensures in omega arith in
    on_ok_weaker c.set_gstate_in.result (λ is_set. cleared t c.requires.can last is
    (subst (λ (x : Gstate). complete_after t last (gstate_changes t last x) ≡ Some (content_reaching_gstate t last x)) c.none.ensures c.set_gstate_in.ensures.made) c.set_gstate_in.new.thread.kept
    (subst (λ (x : Gstate). IsPairCommitted t last (gstate_changes t last x) c.set_gstate_in.new.thread.kept) c.none.ensures is_set)) c.set_gstate_in.ensures.is_set

pub returns-then-state-clause-survives : goal.returns-then-state-clause-survives
returns-then-state-clause-survives g c =
    let t = c.args.thread.now.kept in
    let last = c.len-last.result - 1 in
    let is : last + 1 ≡ length t.pairs = let e = enough t c.requires.can in let l = c.len-last.ensures in omega arith in
    clear_survives t c.requires.can last is
    (subst (λ (x : Gstate). complete_after t last (gstate_changes t last x) ≡ Some (content_reaching_gstate t last x)) c.none.ensures c.set_gstate_in.ensures.made) c.set_gstate_in.new.thread.kept.history
    (subst (λ (x : Gstate). CleanLossLeaves t.history c.set_gstate_in.new.thread.kept.history (LossLeavesPair t last (gstate_changes t last x))) c.none.ensures c.set_gstate_in.ensures.stops)

pub returns-else-state-clause-is_cleared : goal.returns-else-state-clause-is_cleared
returns-else-state-clause-is_cleared g c = cleared_already c.args.thread.now.kept c.requires.can (ap (λ (x : Gstate). x.sync) (sym c.state.ensures) ∙ c.if-state.false)

pub returns-then-state-clause-device : goal.returns-then-state-clause-device
returns-then-state-clause-device g c =
    let t = c.args.thread.now.kept in
    let is : c.len-last.result - 1 + 1 ≡ length t.pairs = let e = enough t c.requires.can in let l = c.len-last.ensures in omega arith in
    writes_fewer _ (pairs_blocks t.pairs) (two_fewer t.pairs (c.len-last.result - 1) (omega arith)) c.set_gstate_in.ensures.device

pub returns-else-state-clause-device : goal.returns-else-state-clause-device
returns-else-state-clause-device g c = writes_none (pairs_blocks c.args.thread.now.kept.pairs) c.args.thread.now.kept

pub returns-then-state-clause-nothing : goal.returns-then-state-clause-nothing
returns-then-state-clause-nothing g c none = absurd (let e = sym c.if-state.true ∙ ap (λ (x : Gstate). x.sync) (c.state.ensures ∙ none) in cc)
