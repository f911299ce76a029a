use Rattle.std.proofs.Common.{List, [], ◌∷◌, None, refl}
use Rattle.std.specs.Prelude.{codes}
use Rattle.lfs_model.proofs.Common.{default_profile, Slot, Inline, zero_gstate, Pair, superblock_struct_with, superblock_bytes, superblock_slot}
use Rattle.lfs_model.specs.format.Crc.{crc_of, checksum_after_bits}
use Rattle.lfs_model.specs.format.Log.{chain_of, bounded_commit_sequence, bounded_commit_at, entry_at, closes}
use Rattle.lfs_model.proofs.Examples.{pair, hard, file, large_superblock}
use Rattle.lfs_model.proofs.Refusals.{refused_with, fails_slots, fails_superblock}
use Rattle.lfs_model.proofs.images.bad_superblock_chain_is_refused.Goals as goal

pub returns-clause-other_bytes : goal.returns-clause-other_bytes
unfolding chain_of bounded_commit_sequence bounded_commit_at entry_at closes crc_of checksum_after_bits
returns-clause-other_bytes c = refused_with _ (pair (0, 1) (large_superblock ∷ []) (hard (2, 3)) zero_gstate ∷ pair (2, 3) (superblock_slot default_profile 4096 17 ∷ file (codes "a") (codes "hi") ∷ []) None zero_gstate ∷ []) (refl, (refl, refl)) (refl, (refl, tt))
    (fails_superblock _ _ _ _ (superblock_bytes default_profile 4096 16) refl (λ held h. h.1) refl)

pub returns-clause-not_alone : goal.returns-clause-not_alone
unfolding chain_of bounded_commit_sequence bounded_commit_at entry_at closes crc_of checksum_after_bits
returns-clause-not_alone c = refused_with _ (pair (0, 1) (large_superblock ∷ file (codes "z") [] ∷ []) (hard (2, 3)) zero_gstate ∷ pair (2, 3) (large_superblock ∷ []) None zero_gstate ∷ []) (refl, (refl, refl)) (refl, (refl, tt))
    (fails_slots _ _ refl)

-- the second superblock's version is 2.1
abbrev newer : Slot
newer = record large_superblock { struct = Inline (superblock_struct_with 0x00020001 4096 255) }

abbrev two_versions : List Pair
two_versions = pair (0, 1) (large_superblock ∷ []) (hard (2, 3)) zero_gstate ∷ pair (2, 3) (newer ∷ file (codes "a") (codes "hi") ∷ []) None zero_gstate ∷ []

pub returns-clause-other_version : goal.returns-clause-other_version
unfolding chain_of bounded_commit_sequence bounded_commit_at entry_at closes crc_of checksum_after_bits
returns-clause-other_version c = refused_with _ two_versions (refl, (refl, refl)) (refl, (refl, tt))
    (fails_superblock _ _ _ _ (superblock_bytes default_profile 4096 16) refl (λ held h. h.1) refl)
