use Rattle.std.proofs.Common.{◌≡◌, ◌∙◌, ap, refl, subst, sym}
use Rattle.lfs_tree.proofs.Common.{is_zero, zero_gstate, pairs_gstate, disk_tree, IsSoundUnlessFailed, IsSoundWithRoot, HasRecovered, TreeState, kept_thread}
use Rattle.lfs_tree.proofs.Asking.{rooted_held, works_held}
use Rattle.lfs_tree.proofs.NotedErrors.{noted, noted_failed, noted_held}
use Rattle.lfs_tree.proofs.Recovered.{held_sound, nothing_set, something_set}
use Rattle.lfs_tree.proofs.RecoveredFirst.{settled_already}
use Rattle.lfs_tree.proofs.TreeCalls.{recovers, recovers_nothing, settles_seen}
use Rattle.lfs_tree.proofs.tree.Tree.recover.Goals as goal

pub returns-then-is_none-clause-does : goal.returns-then-is_none-clause-does
returns-then-is_none-clause-does g c = recovers_nothing c.args.self.now c.requires.works c.requires.writable
    (held_sound c.self.inside.thread c.self.inside.root c.self.inside.is_writable c.args.self.now c.self.invariant c.self.view_is c.requires.works)
    (sym c.gstate.ensures ∙ nothing_set _ (sym c.is_none.ensures ∙ c.if-is_none.true)) _ refl

pub returns-then-is_none-clause-settled : goal.returns-then-is_none-clause-settled
returns-then-is_none-clause-settled g c =
    let none = sym c.gstate.ensures ∙ nothing_set _ (sym c.is_none.ensures ∙ c.if-is_none.true) in
    let rooted = rooted_held c.self.inside.thread c.self.inside.root c.self.inside.is_writable c.args.self.now c.self.invariant c.self.view_is c.requires.works in
    subst (λ (s : TreeState). HasRecovered (kept_thread s) (kept_thread s)) c.self.view_is
    (settled_already c.self.inside.thread c.self.inside.root (subst (λ a. IsSoundWithRoot c.self.inside.thread c.self.inside.root a) (ap (λ (s : TreeState). s.writable) c.self.view_is ∙ c.requires.writable) rooted)
    (ap (λ (s : TreeState). pairs_gstate s.pairs) c.self.view_is ∙ none))

pub recover_thread-recovered-requires-clause-rooted : goal.recover_thread-recovered-requires-clause-rooted
recover_thread-recovered-requires-clause-rooted g c =
    subst (λ a. IsSoundWithRoot c.self.inside.thread c.self.inside.root a) (ap (λ (s : TreeState). s.writable) c.self.view_is ∙ c.requires.writable)
    (rooted_held c.self.inside.thread c.self.inside.root c.self.inside.is_writable c.args.self.now c.self.invariant c.self.view_is c.requires.works)

pub recover_thread-recovered-requires-clause-left : goal.recover_thread-recovered-requires-clause-left
recover_thread-recovered-requires-clause-left g c none = something_set _ (sym c.is_none.ensures ∙ c.if-is_none.false) (c.gstate.ensures ∙ sym (ap (λ (s : TreeState). pairs_gstate s.pairs) c.self.view_is) ∙ none)

pub invariant_of-self : goal.invariant_of-self
invariant_of-self g c =
    let t = c.self.inside.thread in
    let writes = ap (λ (s : TreeState). s.writable) c.self.view_is ∙ c.requires.writable in
    subst (λ a. IsSoundUnlessFailed c.fail_on_error.new.thread c.self.inside.root a) (sym writes)
    (noted_held t c.recover_thread-recovered.new.thread c.fail_on_error.new.thread (HasRecovered t.kept) (disk_tree t.kept.disk t.kept.pairs) c.recover_thread-recovered.result c.recover_thread-recovered.ensures c.fail_on_error.ensures c.self.inside.root
    (subst (λ a. IsSoundWithRoot c.self.inside.thread c.self.inside.root a) writes (rooted_held c.self.inside.thread c.self.inside.root c.self.inside.is_writable c.args.self.now c.self.invariant c.self.view_is c.requires.works)))

pub returns-clause-does : goal.returns-clause-does
returns-clause-does g c =
    let t = c.self.inside.thread in
    let left : pairs_gstate c.self.inside.thread.kept.pairs ≡ zero_gstate → ⊥ = λ none. something_set _ (sym c.is_none.ensures ∙ c.if-is_none.false) (c.gstate.ensures ∙ sym (ap (λ (s : TreeState). pairs_gstate s.pairs) c.self.view_is) ∙ none) in
    recovers t c.self.inside.is_writable c.args.self.now c.self.view_is (works_held t c.self.inside.root c.self.inside.is_writable c.args.self.now c.self.invariant c.self.view_is c.requires.works)
    (ap (λ (s : TreeState). s.writable) c.self.view_is ∙ c.requires.writable) left c.recover_thread-recovered.result c.fail_on_error.new.thread
    (noted t c.recover_thread-recovered.new.thread c.fail_on_error.new.thread (HasRecovered t.kept) (disk_tree t.kept.disk t.kept.pairs) c.recover_thread-recovered.result c.recover_thread-recovered.ensures c.fail_on_error.ensures)
    (noted_failed t c.recover_thread-recovered.new.thread c.fail_on_error.new.thread (HasRecovered t.kept) (disk_tree t.kept.disk t.kept.pairs) c.recover_thread-recovered.result c.recover_thread-recovered.ensures c.fail_on_error.ensures)

pub returns-clause-settled : goal.returns-clause-settled
returns-clause-settled g c =
    let t = c.self.inside.thread in
    let left : pairs_gstate c.self.inside.thread.kept.pairs ≡ zero_gstate → ⊥ = λ none. something_set _ (sym c.is_none.ensures ∙ c.if-is_none.false) (c.gstate.ensures ∙ sym (ap (λ (s : TreeState). pairs_gstate s.pairs) c.self.view_is) ∙ none) in
    settles_seen t c.self.inside.is_writable c.args.self.now c.self.view_is (works_held t c.self.inside.root c.self.inside.is_writable c.args.self.now c.self.invariant c.self.view_is c.requires.works)
    (ap (λ (s : TreeState). s.writable) c.self.view_is ∙ c.requires.writable) left c.recover_thread-recovered.result c.fail_on_error.new.thread
    (noted t c.recover_thread-recovered.new.thread c.fail_on_error.new.thread (HasRecovered t.kept) (disk_tree t.kept.disk t.kept.pairs) c.recover_thread-recovered.result c.recover_thread-recovered.ensures c.fail_on_error.ensures)

pub returns-clause-idle : goal.returns-clause-idle
returns-clause-idle g c settled = absurd (let z = sym c.if-is_none.false ∙ c.is_none.ensures ∙ ap is_zero (c.gstate.ensures ∙ settled) in cc)
