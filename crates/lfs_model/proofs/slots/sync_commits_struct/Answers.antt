use Rattle.std.proofs.Common.{inr, [], ◌∷◌, refl, arith}
use Rattle.std.specs.Prelude.{codes}
use Rattle.lfs_model.proofs.Common.{default_profile, Inline, superblock_slot, file_slot}
use Rattle.lfs_model.proofs.slots.sync_commits_struct.Goals as goal

pub returns : goal.returns
returns c = (
  refl,
  inr (
    refl,
    (
      file_slot (codes "a"),
      record (file_slot (codes "a")) { struct = Inline (codes "hi") },
      (refl, (refl, (refl, omega arith)), record { before = []; pair = _; after = _; left = superblock_slot default_profile 4096 16 ∷ []; right = []; was = refl; held = refl; is = refl }),
    ),
  ),
)
