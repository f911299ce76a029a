use Rattle.std.proofs.Common.{◌+◌, ◌≡◌, [], ◌∷◌, List, None, Option, Some, ap, inr, refl, arith}
use Rattle.std.specs.Prelude.{codes, unwrap_or}
use Rattle.lfs_model.specs.format.Crc.{crc_of, checksum_after_bits}
use Rattle.lfs_model.proofs.Common.{default_profile, superblock_slot, superblock_bytes, LogEntry, Inline, Slot, zero_gstate, Pair, count_before_root, superblock_entry, superblock_struct_with}
use Rattle.lfs_model.specs.format.Log.{chain_of, bounded_commit_sequence, bounded_commit_at, entry_at, closes}
use Rattle.lfs_model.specs.declared.limits.AcceptedVersions.TheVariants.{OnlyTwoZero}
use Rattle.lfs_model.specs.examples.Violations.{later_version_image, create_first_image, differing_superblocks_image, no_superblock_image}
use Rattle.lfs_model.proofs.BrokenImages.{is_thread, no_same_superblock, no_superblock_of_disk}
use Rattle.lfs_model.proofs.Examples.{file, hard, large_superblock, pair}
use Rattle.lfs_model.proofs.broken.bad_superblocks_break_rules.Goals as goal

pub returns-clause-no_superblock : goal.returns-clause-no_superblock
unfolding chain_of bounded_commit_sequence bounded_commit_at entry_at closes crc_of checksum_after_bits
returns-clause-no_superblock c = inr (pair (0, 1) [] None zero_gstate ∷ [], (is_thread no_superblock_image _ (refl, refl) (refl, tt) refl refl, refl))

other_entry : Some (record { tag = 0x40100000; bytes = [] }) ≡ Some superblock_entry → ⊥
other_entry e = let tags : 0x40100000 + 0 ≡ 0x0ff00008 = ap (λ (o : Option LogEntry). (unwrap_or o superblock_entry).tag) e in omega arith

pub returns-clause-first_entry : goal.returns-clause-first_entry
unfolding chain_of bounded_commit_sequence bounded_commit_at entry_at closes crc_of checksum_after_bits
returns-clause-first_entry c = inr (pair (0, 1) (large_superblock ∷ []) None zero_gstate ∷ [], (is_thread create_first_image _ (refl, refl) (refl, tt) refl refl, (refl, λ e. other_entry e)))

-- a superblock of version 2.1
abbrev newer : Slot
newer = record large_superblock { struct = Inline (superblock_struct_with 0x00020001 4096 255) }

pub returns-clause-superblock : goal.returns-clause-superblock
unfolding chain_of bounded_commit_sequence bounded_commit_at entry_at closes crc_of checksum_after_bits
returns-clause-superblock c = inr (
  pair (0, 1) (newer ∷ []) None zero_gstate ∷ [],
  (
    is_thread later_version_image _ (refl, refl) (refl, tt) refl refl,
    (refl, newer, (refl, no_superblock_of_disk later_version_image newer (superblock_struct_with 0x00020001 4096 255) refl refl)),
  ),
)

-- a superblock of 17 blocks, and the two pairs
abbrev larger : Slot
larger = superblock_slot default_profile 4096 17

abbrev second : Pair
second = pair (2, 3) (larger ∷ file (codes "a") (codes "hi") ∷ []) None zero_gstate

abbrev two_pairs : List Pair
two_pairs = pair (0, 1) (large_superblock ∷ []) (hard (2, 3)) zero_gstate ∷ second ∷ []

pub returns-clause-other_superblock : goal.returns-clause-other_superblock
unfolding chain_of bounded_commit_sequence bounded_commit_at entry_at closes crc_of checksum_after_bits
returns-clause-other_superblock c = inr (
  two_pairs,
  (
    is_thread differing_superblocks_image _ (refl, (refl, refl)) (refl, (refl, tt)) refl refl,
    record {
      index = 1;
      pair = second;
      there = refl;
      at_is = refl;
      in_chain = let count : count_before_root two_pairs ≡ 1 = refl in omega (arith, count);
      slot = larger;
      slot_is = refl;
      first = large_superblock;
      first_is = refl;
      bytes = superblock_bytes default_profile 4096 16;
      inline = refl;
      differs = no_same_superblock OnlyTwoZero (superblock_bytes default_profile 4096 16) larger refl refl;
    },
  ),
)
