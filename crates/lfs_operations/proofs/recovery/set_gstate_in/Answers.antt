use Rattle.lfs_operations.proofs.Common.{sym, subst, ◌∷◌, [], PutMove, Gstate, IsPairCommitted, move_view, CanCommit, OnOk}
use Rattle.lfs_operations.proofs.RecoverDeltas.{can_set, set_made, set_not_refused}
use Rattle.lfs_operations.proofs.recovery.set_gstate_in.Goals as goal

pub commit_without_split-requires-clause-can : goal.commit_without_split-requires-clause-can
commit_without_split-requires-clause-can g c =
    let t = c.args.thread.now.kept in
    let w = move_view c.args.wanted.now in
    subst (λ (x : Gstate). CanCommit t c.args.index (PutMove x ∷ [])) (sym c.delta_for_gstate-state.ensures)
    (record { can = can_set t c.args.index w c.requires.can c.lemma_device_facts.ensures.bytes; fits = set_not_refused t c.args.index w c.requires.can c.lemma_device_facts.ensures.bytes })

pub returns-clause-is_set : goal.returns-clause-is_set
returns-clause-is_set g c = subst (λ (x : Gstate). OnOk c.commit_without_split.result (IsPairCommitted c.args.thread.now.kept c.args.index (PutMove x ∷ []) c.commit_without_split.new.thread.kept)) c.delta_for_gstate-state.ensures c.commit_without_split.ensures.is_changed

pub returns-clause-made : goal.returns-clause-made
returns-clause-made g c = set_made c.args.thread.now.kept c.args.index (move_view c.args.wanted.now) c.requires.can c.lemma_device_facts.ensures.bytes
