use Rattle.std.proofs.Common.{◌≡◌, ◌⊎◌, true, [], ◌∷◌, None, inl, inr, refl, sym, ap, subst, ◌∙◌, append-nil}
use Rattle.lfs_model.proofs.Common.{Tree, disk_tree, fresh_pair, CallEvent, Read, call_event, AllCalls, LeftByLoss, Blocks, HasEitherTree, with_blocks, SurvivesLossSince, small_image}
use Rattle.lfs_model.proofs.Fresh.{accepted, writable, shows}
use Rattle.lfs_model.proofs.Example.{fresh}
use Rattle.lfs_model.proofs.FreshSession.{tree_is_empty, none_accepted}
use Rattle.lfs_model.proofs.runs.power_loss_leaves_tree_before_or_after_operation.Goals as goal

pub returns-clause-recovered : goal.returns-clause-recovered
returns-clause-recovered c = record { gstate = refl; reached = (accepted small_image fresh).reached refl }

pub returns-clause-left : goal.returns-clause-left
returns-clause-left c = λ after. record { pairs = fresh_pair small_image ∷ []; accepted = accepted small_image fresh; writable = writable small_image fresh; tree = inl (shows small_image) }

abbrev read : CallEvent
read = call_event (Read 0 0 4) [] [] true

lost : (before after : Tree) → SurvivesLossSince small_image [] (read ∷ []) before after → ⊥
lost before after h =
    let r = h (record { events = read ∷ []; extends = refl; each = (tt, tt) }) in
    let left = (subst (AllCalls (λ e. (disk : Blocks) → LeftByLoss e disk → HasEitherTree (with_blocks disk small_image) before after)) (sym (r.extends ∙ append-nil r.events)) r.each).0 [] refl in
    none_accepted left.pairs left.accepted

pub returns-clause-lost : goal.returns-clause-lost
returns-clause-lost c = lost

-- it shows the empty tree
other : (left : HasEitherTree small_image (λ path. None) (λ path. None)) → (disk_tree small_image left.pairs ≡ (λ path. None)) ⊎ (disk_tree small_image left.pairs ≡ (λ path. None)) → ⊥
other left (inl e) = absurd (let k = ap (λ (t : Tree). t []) (sym (tree_is_empty left.pairs left.accepted) ∙ e) in cc)
other left (inr e) = absurd (let k = ap (λ (t : Tree). t []) (sym (tree_is_empty left.pairs left.accepted) ∙ e) in cc)

pub returns-clause-no_other : goal.returns-clause-no_other
returns-clause-no_other c = λ left. other left left.tree

pub returns-clause-not_left : goal.returns-clause-not_left
returns-clause-not_left c = λ before after h. none_accepted h.pairs h.accepted
