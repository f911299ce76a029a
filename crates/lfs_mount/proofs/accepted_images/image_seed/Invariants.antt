use Rattle.std.proofs.Common.{◌≡◌, take}
use Rattle.lfs_mount.proofs.Common.{image_seed}
use Rattle.lfs_mount.proofs.accepted_images.image_seed.Given as goal

abbrev pub invariant-loop-pair : goal.invariant-loop-pair
invariant-loop-pair l = l.number ≡ image_seed l.map (take l.pair-index l.pairs)
