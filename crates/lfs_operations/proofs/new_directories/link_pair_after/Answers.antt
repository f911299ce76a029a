use Rattle.lfs_operations.proofs.Common.{ap, sym, subst, ◌∙◌, ◌≡◌, ◌∷◌, [], false, Some, Ok, PutMove, PutTail, Gstate, address_of_array, with_sync_inverted, is_err, CanThreadIn, IsThreadedIn, complete_after, thread_pair, Outcome, move_view, threading_changes}
use Rattle.lfs_pair.specs.declared.commits.Outcome.TheVariants as outcome
use Rattle.lfs_operations.proofs.MakingReported.{reported_again, given_error}
use Rattle.lfs_operations.proofs.new_directories.link_pair_after.Goals as goal

pub thread_in-requires-clause-can : goal.thread_in-requires-clause-can
thread_in-requires-clause-can g c = subst (λ (m : Gstate). CanThreadIn c.args.thread.now.kept c.args.last (address_of_array c.args.fresh) (PutTail false (Some (address_of_array c.args.fresh)) ∷ PutMove m ∷ []))
    (sym (c.flip_sync_bit.ensures ∙ ap with_sync_inverted c.delta.ensures)) c.requires.can.can

pub returns-in_err-thread_in-clause-errors : goal.returns-in_err-thread_in-clause-errors
returns-in_err-thread_in-clause-errors g c = record {
  failed = c.thread_in.ensures.failed ∙ ap is_err c.in_err-thread_in.was ∙ sym (ap is_err (given_error c.from_residual.result c.from_residual.ensures.1));
  reported = reported_again c.from_residual.result c.in_err-thread_in.was c.from_residual.ensures.1 c.thread_in.ensures.errors;
}

pub returns-clause-is_joined : goal.returns-clause-is_joined
returns-clause-is_joined g c = by c.in_ok-thread_in.field-0 c.in_ok-thread_in.was
  where
    delta : move_view c.flip_sync_bit.result ≡ with_sync_inverted (thread_pair c.args.thread.now.kept c.args.last).content.move
    delta = c.flip_sync_bit.ensures ∙ ap with_sync_inverted c.delta.ensures

    by : (o : Outcome) → c.thread_in.result ≡ Ok o → IsThreadedIn c.args.thread.now.kept c.args.last (address_of_array c.args.fresh) (threading_changes c.args.thread.now.kept c.args.last (address_of_array c.args.fresh)) c.thread_in.new.self.kept
    by outcome.Done is = subst (λ (m : Gstate). IsThreadedIn c.args.thread.now.kept c.args.last (address_of_array c.args.fresh) (PutTail false (Some (address_of_array c.args.fresh)) ∷ PutMove m ∷ []) c.thread_in.new.self.kept) delta
        (c.thread_in.ensures.done is)
    by outcome.Full is =
        let b = c.thread_in.ensures.full is in
        absurd (b.too_large (c.requires.can.fits b.content
        (subst (λ (m : Gstate). complete_after c.args.thread.now.kept c.args.last (PutTail false (Some (address_of_array c.args.fresh)) ∷ PutMove m ∷ []) ≡ Some b.content) delta b.made)))
