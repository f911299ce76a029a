-- A fresh disk is what a loss of power may leave.
use Rattle.std.proofs.Common.{subst}
use Rattle.lfs_model.proofs.Common.{empty_tree, KeepsTree, small_image}
use Rattle.lfs_model.proofs.Example.{fresh}
use Rattle.lfs_model.proofs.Fresh.{shows, writable}
use Rattle.lfs_model.proofs.FreshSession.{pairs, are_accepted}
use Rattle.lfs_model.proofs.Survived.{safe_with}

pub is_safe : KeepsTree empty_tree small_image
is_safe = subst (λ tree. KeepsTree tree small_image) (shows small_image) (safe_with small_image pairs are_accepted (writable small_image fresh))
