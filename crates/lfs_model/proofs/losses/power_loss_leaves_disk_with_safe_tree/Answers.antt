use Rattle.std.proofs.Common.{[], refl, sym, ap, ◌∙◌}
use Rattle.std.specs.Prelude.{codes}
use Rattle.lfs_model.proofs.Common.{Tree, empty_tree, Healthy, mounted_session, small_image, disk_tree}
use Rattle.lfs_model.specs.session.Operations as ops
use Rattle.lfs_model.proofs.Fresh.{shows, writable}
use Rattle.lfs_model.proofs.Example.{fresh}
use Rattle.lfs_model.proofs.Survived.{safe_with}
use Rattle.lfs_model.proofs.FreshSession.{pairs, are_accepted, tree_is_empty, around, is_at_work, none_accepted, surviving}
use Rattle.lfs_model.proofs.losses.power_loss_leaves_disk_with_safe_tree.Goals as goal

pub returns-clause-no_call : goal.returns-clause-no_call
returns-clause-no_call c = surviving (ops.Stat (codes "/")) (Healthy (mounted_session empty_tree))

pub returns-clause-lost : goal.returns-clause-lost
returns-clause-lost c = λ h.
    let left = h.stands (mounted_session empty_tree) pairs around is_at_work (record { events = []; extends = refl; each = tt }) (record { events = []; extends = refl; each = tt }) in
    none_accepted left.pairs left.accepted

pub returns-clause-restored : goal.returns-clause-restored
returns-clause-restored c = record {
  done = refl;
  pairs = pairs;
  accepted = are_accepted;
  writable = writable small_image fresh;
  recovered = record { gstate = refl; reached = are_accepted.reached refl };
  kept = shows small_image;
}

pub returns-clause-other_tree : goal.returns-clause-other_tree
returns-clause-other_tree c = λ h. absurd (let e = ap (λ (t : Tree). t []) (sym (tree_is_empty h.pairs h.accepted) ∙ h.kept) in cc)

pub returns-clause-left : goal.returns-clause-left
returns-clause-left c = λ disk before after k. (disk_tree disk k.pairs, (k.tree, safe_with disk k.pairs k.accepted k.writable))
