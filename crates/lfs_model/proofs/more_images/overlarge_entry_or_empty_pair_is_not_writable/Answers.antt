use Rattle.std.proofs.Common.{◌≤◌, [], ◌∷◌, None, refl, arith, replicate}
use Rattle.std.specs.Prelude.{codes}
use Rattle.lfs_model.proofs.Common.{default_profile, zero_gstate, Slot, Pair, IsWritableSlot}
use Rattle.lfs_model.specs.format.Crc.{crc_of, checksum_after_bits}
use Rattle.lfs_model.specs.format.Log.{chain_of, bounded_commit_sequence, bounded_commit_at, entry_at, closes}
use Rattle.lfs_model.proofs.Examples.{pair, hard, file, large_superblock}
use Rattle.lfs_model.proofs.Refusals.{read_only_with, fails_slot}
use Rattle.lfs_model.proofs.more_images.overlarge_entry_or_empty_pair_is_not_writable.Goals as goal

abbrev charged : Slot
charged = record (file (codes "a") []) { attributes = (0x41, replicate 1022 1) ∷ (0x42, replicate 400 1) ∷ [] }

abbrev charged_pair : Pair
charged_pair = pair (0, 1) (large_superblock ∷ charged ∷ []) None zero_gstate

too_much : IsWritableSlot default_profile 4096 256 charged → ⊥
too_much fits = let charge : 1951 ≤ 1900 = (fits.1 refl).charge in omega arith

pub returns-clause-charge : goal.returns-clause-charge
unfolding chain_of bounded_commit_sequence bounded_commit_at entry_at closes crc_of checksum_after_bits
returns-clause-charge c = read_only_with _ (charged_pair ∷ []) (refl, refl) (refl, tt) (fails_slot _ (charged_pair ∷ []) 0 1 charged_pair charged refl refl too_much)

pub returns-clause-empty_pair : goal.returns-clause-empty_pair
unfolding chain_of bounded_commit_sequence bounded_commit_at entry_at closes crc_of checksum_after_bits
returns-clause-empty_pair c = read_only_with _ (pair (0, 1) (large_superblock ∷ []) (hard (2, 3)) zero_gstate ∷ pair (2, 3) [] None zero_gstate ∷ []) (refl, (refl, refl)) (refl, (refl, tt)) (λ w. w.no_empty_pair.1.0 refl refl)
