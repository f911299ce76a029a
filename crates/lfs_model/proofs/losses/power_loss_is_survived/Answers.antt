use Rattle.std.proofs.Common.{◌≡◌, inl, inr, List, [], ◌∷◌, ◌++◌, refl, sym, ap, ◌∙◌}
use Rattle.lfs_model.proofs.Common.{Disk, disk_with_order, SystemState, Session, fresh_state, Tree, empty_tree, SessionHealth, HasFailed, Healthy, mounted_session, small_image}
use Rattle.lfs_model.specs.crash.Lives.{Turn, IsLife}
use Rattle.lfs_model.specs.crash.RepeatedPowerLoss.{LossInLife}
use Rattle.lfs_model.proofs.FreshLife.{lived, premises}
use Rattle.lfs_model.proofs.FreshSession.{none_in_order, tree_in_order}
use Rattle.lfs_model.proofs.LivesSurvived.{life_is_safe, life_survives}
use Rattle.lfs_model.proofs.losses.power_loss_is_survived.Goals as goal

pub returns-clause-life : goal.returns-clause-life
returns-clause-life c = life_is_safe

pub returns-clause-may : goal.returns-clause-may
returns-clause-may c = premises

pub returns-clause-survived : goal.returns-clause-survived
returns-clause-survived c = life_survives fresh_state _ fresh_state small_image lived ((λ is. absurd (cc)), tt) premises (inl refl)

pub returns-clause-not_lost : goal.returns-clause-not_lost
returns-clause-not_lost c = λ turns to s. none_in_order s.order s.safe.pairs s.safe.accepted

pub returns-clause-not_changed : goal.returns-clause-not_changed
returns-clause-not_changed c = λ turns to s e. absurd (let k = ap (λ (t : Tree). t []) (sym (tree_in_order s.order s.safe.pairs s.safe.accepted) ∙ s.safe.shows ∙ e) in cc)

same_session : (s t : Session) → Healthy s ≡ Healthy t → s ≡ t
same_session s t e = ap (λ z. or_else z) e
  where
    or_else : SessionHealth → Session
    or_else HasFailed = s
    or_else (Healthy z) = z

-- no turn is among none
none_short : (done : List Turn) (cut : Turn) (others : List Turn) → [] ≡ done ++ cut ∷ others → ⊥
none_short [] cut others e = absurd (cc)
none_short (turn ∷ done) cut others e = absurd (cc)

none_begun : (to : SystemState) (left : Disk) (tree : Tree) → IsLife fresh_state [] to → LossInLife fresh_state [] to left tree → tree ≡ empty_tree
none_begun to left tree same (inl h) = absurd (none_short h.done h.cut h.others h.are)
none_begun to left tree same (inr h) = h.is ∙ sym (ap (λ (s : Session). s.tree) (same_session (mounted_session empty_tree) h.session (ap (λ (m : SystemState). m.state) same ∙ h.healthy)))

pub returns-clause-none_begun : goal.returns-clause-none_begun
returns-clause-none_begun c = λ to same left s. none_begun to (disk_with_order s.order left) s.tree same s.cut
