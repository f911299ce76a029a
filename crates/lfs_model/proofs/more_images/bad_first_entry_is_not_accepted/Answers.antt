use Rattle.std.proofs.Common.{ℕ, ◌+◌, ◌≡◌, [], ◌∷◌, Option, Some, None, List, refl, ap, arith}
use Rattle.std.specs.Prelude.{codes, slice_index, unwrap_or}
use Rattle.lfs_model.specs.format.Crc.{crc_of, checksum_after_bits}
use Rattle.lfs_model.proofs.Common.{LogEntry, zero_gstate, superblock_entry}
use Rattle.lfs_model.specs.format.Log.{chain_of, bounded_commit_sequence, bounded_commit_at, entry_at, closes}
use Rattle.lfs_model.proofs.Examples.{pair, large_superblock}
use Rattle.lfs_model.proofs.Refusals.{refused_with}
use Rattle.lfs_model.proofs.more_images.bad_first_entry_is_not_accepted.Goals as goal

other_name : Some (codes "LITTLEFS") ≡ Some (codes "littlefs") → ⊥
other_name e = let first : 76 + 0 ≡ 108 = ap (λ (o : Option (List ℕ)). slice_index (unwrap_or o []) 0) e in omega arith

other_entry : Some (record { tag = 0x40100000; bytes = [] }) ≡ Some superblock_entry → ⊥
other_entry e = let tags : 0x40100000 + 0 ≡ 0x0ff00008 = ap (λ (o : Option LogEntry). (unwrap_or o superblock_entry).tag) e in omega arith

pub returns-clause-renamed : goal.returns-clause-renamed
unfolding chain_of bounded_commit_sequence bounded_commit_at entry_at closes crc_of checksum_after_bits
returns-clause-renamed c = refused_with _ (pair (0, 1) (record large_superblock { name = codes "LITTLEFS" } ∷ []) None zero_gstate ∷ []) (refl, refl) (refl, tt)
    (λ a. other_name a.named)

pub returns-clause-create_first : goal.returns-clause-create_first
unfolding chain_of bounded_commit_sequence bounded_commit_at entry_at closes crc_of checksum_after_bits
returns-clause-create_first c = refused_with _ (pair (0, 1) (large_superblock ∷ []) None zero_gstate ∷ []) (refl, refl) (refl, tt)
    (λ a. other_entry a.first)
