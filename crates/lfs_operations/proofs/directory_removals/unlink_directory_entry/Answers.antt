use Rattle.lfs_operations.proofs.Common.{ap, ap₂, sym, subst, ◌∙◌, ◌≡◌, ◌∷◌, [], ℕ, CleanLossLeaves, Delete, PutMove, Gstate, gstate_xor, sync_bit_delta, KeptThread, IsPairCommitted, LossLeavesPair, thread_pair, unlink_changes, CanCommit, ◌-◌, true, false, on_ok_weaker, HoldsAtLosses-weaker, Blocks, CanDropAt, LeftByDrop, drops_pair_after_removal}
use Rattle.lfs_operations.proofs.Unlinked.{can_go, sync_small, unlink_turns}
use Rattle.lfs_operations.proofs.directory_removals.unlink_directory_entry.Goals as goal
use Rattle.lfs_operations.specs.Unlinking.{LeftByUnlink}
use Rattle.lfs_operations.proofs.RemovedWhole.{can_drop_whole}

left_whole : (t : KeptThread) (pair id first : ℕ) → drops_pair_after_removal t pair first ≡ true → (left : Blocks) → LeftByDrop t (pair - 1) sync_bit_delta left → LeftByUnlink t pair id first left
left_whole t pair id first goes left is = record { stays = λ k. absurd (let z = sym k ∙ goes in cc); goes = λ k. is }

left_beside : (t : KeptThread) (pair id first : ℕ) → drops_pair_after_removal t pair first ≡ false → (left : Blocks) → LossLeavesPair t pair (unlink_changes t pair id) left → LeftByUnlink t pair id first left
left_beside t pair id first stays left is = record { stays = λ k. is; goes = λ k. absurd (let z = sym k ∙ stays in cc) }

changes_are : (t : KeptThread) (pair id : ℕ) (state delta bit : Gstate) → state ≡ gstate_xor delta bit → delta ≡ (thread_pair t pair).content.move → bit ≡ sync_bit_delta → Delete id ∷ PutMove state ∷ [] ≡ unlink_changes t pair id
changes_are t pair id state delta bit e f h = ap (λ m. Delete id ∷ PutMove m ∷ []) (e ∙ ap₂ gstate_xor f h)

pub drop_pair_at-requires-clause-can : goal.drop_pair_at-requires-clause-can
drop_pair_at-requires-clause-can g c =
    subst (CanDropAt c.args.thread.now.kept c.args.pair) (sym c.sync_flip_delta-turn.ensures)
    (can_drop_whole c.args.thread.now.kept c.args.pair c.args.id c.args.first c.requires.can.can c.requires.can.begins (sym c.must_drop_pair.ensures ∙ c.if-must_drop_pair.true) sync_bit_delta sync_small)

pub returns-then-must_drop_pair-clause-stops : goal.returns-then-must_drop_pair-clause-stops
returns-then-must_drop_pair-clause-stops g c clean =
    HoldsAtLosses-weaker (left_whole c.args.thread.now.kept c.args.pair c.args.id c.args.first (sym c.must_drop_pair.ensures ∙ c.if-must_drop_pair.true))
    (subst (λ (s : Gstate). CleanLossLeaves c.args.thread.now.kept.history c.drop_pair_at.new.thread.kept.history (LeftByDrop c.args.thread.now.kept (c.args.pair - 1) s)) c.sync_flip_delta-turn.ensures c.drop_pair_at.ensures.stops clean)

pub commit_without_split-requires-clause-can : goal.commit_without_split-requires-clause-can
commit_without_split-requires-clause-can g c =
    subst (CanCommit c.args.thread.now.kept c.args.pair) (sym (changes_are c.args.thread.now.kept c.args.pair c.args.id _ _ _ c.gstate_xor_delta-state.ensures c.delta.ensures c.sync_flip_delta-turn.ensures)) (can_go c.requires.can.can (unlink_turns c.requires.can.can))

pub returns-else-must_drop_pair-clause-is_unlinked : goal.returns-else-must_drop_pair-clause-is_unlinked
returns-else-must_drop_pair-clause-is_unlinked g c = on_ok_weaker c.commit_without_split.result (λ is. record {
  stays = λ stays. subst (λ changes. IsPairCommitted c.args.thread.now.kept c.args.pair changes c.commit_without_split.new.thread.kept)
      (changes_are c.args.thread.now.kept c.args.pair c.args.id _ _ _ c.gstate_xor_delta-state.ensures c.delta.ensures c.sync_flip_delta-turn.ensures) is;
  goes = λ goes. absurd (let z = sym goes ∙ sym c.must_drop_pair.ensures ∙ c.if-must_drop_pair.false in cc);
}) c.commit_without_split.ensures.is_changed

pub returns-else-must_drop_pair-clause-stops : goal.returns-else-must_drop_pair-clause-stops
returns-else-must_drop_pair-clause-stops g c clean =
    HoldsAtLosses-weaker (left_beside c.args.thread.now.kept c.args.pair c.args.id c.args.first (sym c.must_drop_pair.ensures ∙ c.if-must_drop_pair.false))
    (subst (λ changes. CleanLossLeaves c.args.thread.now.kept.history c.commit_without_split.new.thread.kept.history (LossLeavesPair c.args.thread.now.kept c.args.pair changes))
    (changes_are c.args.thread.now.kept c.args.pair c.args.id _ _ _ c.gstate_xor_delta-state.ensures c.delta.ensures c.sync_flip_delta-turn.ensures) c.commit_without_split.ensures.stops clean)
