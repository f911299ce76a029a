use Rattle.std.proofs.Common.{[], ◌∷◌, None, false, refl}
use Rattle.lfs_model.specs.format.Crc.{crc_of, checksum_after_bits}
use Rattle.lfs_model.specs.format.Log.{chain_of, bounded_commit_sequence, bounded_commit_at, entry_at, closes}
use Rattle.lfs_model.proofs.Examples.{pair, large_superblock}
use Rattle.lfs_model.proofs.Refusals.{refused_with, fails_move}
use Rattle.lfs_model.proofs.refused.move_naming_no_entry_is_not_accepted.Goals as goal

pub returns-clause-id_alone : goal.returns-clause-id_alone
unfolding chain_of bounded_commit_sequence bounded_commit_at entry_at closes crc_of checksum_after_bits
returns-clause-id_alone c = refused_with _ (pair (0, 1) (large_superblock ∷ []) (None) (record { sync = false; kind = 0; id = 1; pair = (0, 0) }) ∷ []) (refl, refl) (refl, tt) (fails_move _ _ refl)

pub returns-clause-superblock : goal.returns-clause-superblock
unfolding chain_of bounded_commit_sequence bounded_commit_at entry_at closes crc_of checksum_after_bits
returns-clause-superblock c = refused_with _ (pair (0, 1) (large_superblock ∷ []) (None) (record { sync = false; kind = 0x4ff; id = 0; pair = (0, 1) }) ∷ []) (refl, refl) (refl, tt) (fails_move _ _ refl)

pub returns-clause-no_slot : goal.returns-clause-no_slot
unfolding chain_of bounded_commit_sequence bounded_commit_at entry_at closes crc_of checksum_after_bits
returns-clause-no_slot c = refused_with _ (pair (0, 1) (large_superblock ∷ []) (None) (record { sync = false; kind = 0x4ff; id = 1; pair = (0, 1) }) ∷ []) (refl, refl) (refl, tt) (fails_move _ _ refl)

pub returns-clause-other_type : goal.returns-clause-other_type
unfolding chain_of bounded_commit_sequence bounded_commit_at entry_at closes crc_of checksum_after_bits
returns-clause-other_type c = refused_with _ (pair (0, 1) (large_superblock ∷ []) (None) (record { sync = false; kind = 1; id = 0; pair = (0, 0) }) ∷ []) (refl, refl) (refl, tt) (fails_move _ _ refl)
