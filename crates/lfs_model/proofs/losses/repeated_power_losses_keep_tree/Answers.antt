use Rattle.std.proofs.Common.{inl, false, [], ◌∷◌, None, refl, sym, ◌∙◌, subst, append-nil}
use Rattle.std.specs.Prelude.{Any, codes}
use Rattle.lfs_model.proofs.Common.{Read, call_event, LeftByLoss, empty_tree, small_image, fresh_state, blockless_disk}
use Rattle.lfs_model.proofs.Sites.{any_from, among_from}
use Rattle.lfs_model.specs.session.Operations as ops
use Rattle.lfs_model.specs.crash.RepeatedPowerLoss.{LeftByLife}
use Rattle.lfs_model.specs.crash.Lives.{answered}
use Rattle.lfs_model.proofs.Fresh.{shows}
use Rattle.lfs_model.proofs.FreshLife.{lived}
use Rattle.lfs_model.proofs.LivesSurvived.{again_survived}
use Rattle.lfs_model.proofs.FreshSession.{pairs, are_accepted, none_in_order}
use Rattle.lfs_model.proofs.SafeImage.{is_safe}
use Rattle.lfs_model.proofs.losses.repeated_power_losses_keep_tree.Goals as goal

-- power is lost before the first call of a stat
once : LeftByLife small_image small_image
once = record {
  begin = fresh_state;
  same = refl;
  mounts = record { on = refl; tree = empty_tree; shows = (pairs, (are_accepted, sym (shows small_image))); healthy = refl };
  turns = answered (ops.Stat (codes "/")) (ops.StatIs None) fresh_state ∷ [];
  to = fresh_state;
  lived = lived;
  failed = ((λ is. absurd (cc)), tt);
  cleanly = record { events = []; extends = refl; each = tt };
  stop = inl refl;
}

pub returns-clause-once : goal.returns-clause-once
returns-clause-once c = once

pub returns-clause-again : goal.returns-clause-again
returns-clause-again c = (once, (once, tt))

pub returns-clause-not_all : goal.returns-clause-not_all
returns-clause-not_all c = λ o.
    let s = again_survived small_image.order small_image empty_tree (blockless_disk ∷ []) is_safe (o, tt) in
    none_in_order s.0.order s.0.safe.pairs s.0.safe.accepted

pub returns-clause-in_a_read : goal.returns-clause-in_a_read
returns-clause-in_a_read c = λ blocks. record {
  events = call_event (Read 0 0 4) blocks blocks false ∷ [];
  extends = refl;
  stopped = any_from (λ e. LeftByLoss e blocks) (call_event (Read 0 0 4) blocks blocks false ∷ []) (inl refl);
}

pub returns-clause-not_in_none : goal.returns-clause-not_in_none
returns-clause-not_in_none c = λ blocks h. among_from (λ e. LeftByLoss e blocks) [] (subst (λ es. Any (λ e. LeftByLoss e blocks) es) (sym (h.extends ∙ append-nil h.events)) h.stopped)
