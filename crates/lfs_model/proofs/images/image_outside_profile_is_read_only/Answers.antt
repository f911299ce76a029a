use Rattle.std.proofs.Common.{ℕ, ◌≡◌, ◌≤◌, ap, ◌∙◌, List, [], ◌∷◌, None, refl, arith, replicate, drop}
use Rattle.std.specs.Prelude.{codes}
use Rattle.byteorder.specs.Endian.{little_number}
use Rattle.lfs_model.proofs.Common.{default_profile, Slot, Inline, zero_gstate, Pair, IsWritableSlot, superblock_bytes, superblock_struct_with}
use Rattle.lfs_model.specs.format.Crc.{crc_of, checksum_after_bits}
use Rattle.lfs_model.specs.format.Log.{chain_of, bounded_commit_sequence, bounded_commit_at, entry_at, closes}
use Rattle.lfs_model.proofs.Examples.{image_shows, pair, file, large_superblock}
use Rattle.lfs_model.proofs.Refusals.{read_only_with, fails_slot}
use Rattle.lfs_model.proofs.images.image_outside_profile_is_read_only.Goals as goal

abbrev long : Slot
long = file (codes "a") (replicate 600 97)

abbrev long_pair : Pair
long_pair = pair (0, 1) (large_superblock ∷ long ∷ []) None zero_gstate

pub returns-clause-long_entry : goal.returns-clause-long_entry
unfolding chain_of bounded_commit_sequence bounded_commit_at entry_at closes crc_of checksum_after_bits
returns-clause-long_entry c = image_shows _ (long_pair ∷ []) (superblock_bytes default_profile 4096 16) 2
    (record { links = (refl, refl); contents = (refl, tt); first = refl; named = refl; lists = (tt, (tt, tt)); pass = refl }) _ _ _ refl refl refl

too_long : IsWritableSlot default_profile 4096 256 long → ⊥
too_long fits = let inline : 600 ≤ 512 = (fits.1 refl).inline in omega arith

pub returns-clause-long_entry_read_only : goal.returns-clause-long_entry_read_only
unfolding chain_of bounded_commit_sequence bounded_commit_at entry_at closes crc_of checksum_after_bits
returns-clause-long_entry_read_only c = read_only_with _ (long_pair ∷ []) (refl, refl) (refl, tt) (fails_slot _ (long_pair ∷ []) 0 1 long_pair long refl refl too_long)

-- the limit of names is 32
abbrev limited : Slot
limited = record large_superblock { struct = Inline (superblock_struct_with 0x00020000 4096 32) }

abbrev limited_pair : Pair
limited_pair = pair (0, 1) (limited ∷ []) None zero_gstate

pub returns-clause-name_limit : goal.returns-clause-name_limit
unfolding chain_of bounded_commit_sequence bounded_commit_at entry_at closes crc_of checksum_after_bits
returns-clause-name_limit c = image_shows _ (limited_pair ∷ []) (superblock_struct_with 0x00020000 4096 32) 1
    (record { links = (refl, refl); contents = (refl, tt); first = refl; named = refl; lists = (tt, tt); pass = refl }) _ _ _ refl refl refl

other_limit : IsWritableSlot default_profile 4096 256 limited → ⊥
other_limit fits =
    let limits = fits.0 refl in
    let same : superblock_struct_with 0x00020000 4096 32 ≡ limits.0 = cc in
    let limit : little_number 4 (drop 12 (superblock_struct_with 0x00020000 4096 32)) ≡ 255 = ap (λ (bytes : List ℕ). little_number 4 (drop 12 bytes)) same ∙ limits.1.1 in
    omega arith

pub returns-clause-name_limit_read_only : goal.returns-clause-name_limit_read_only
unfolding chain_of bounded_commit_sequence bounded_commit_at entry_at closes crc_of checksum_after_bits
returns-clause-name_limit_read_only c = read_only_with _ (limited_pair ∷ []) (refl, refl) (refl, tt) (fails_slot _ (limited_pair ∷ []) 0 0 limited_pair limited refl refl other_limit)

-- the version is 2.1
abbrev newer : Slot
newer = record large_superblock { struct = Inline (superblock_struct_with 0x00020001 4096 255) }

abbrev newer_pair : Pair
newer_pair = pair (0, 1) (newer ∷ []) None zero_gstate

pub returns-clause-newer : goal.returns-clause-newer
unfolding chain_of bounded_commit_sequence bounded_commit_at entry_at closes crc_of checksum_after_bits
returns-clause-newer c = image_shows _ (newer_pair ∷ []) (superblock_struct_with 0x00020001 4096 255) 1
    (record { links = (refl, refl); contents = (refl, tt); first = refl; named = refl; lists = (tt, tt); pass = refl }) _ _ _ refl refl refl
