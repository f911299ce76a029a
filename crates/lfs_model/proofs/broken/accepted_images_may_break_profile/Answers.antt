use Rattle.std.proofs.Common.{ℕ, ◌≡◌, ◌≤◌, [], ◌∷◌, None, refl, subst, arith, replicate}
use Rattle.std.specs.Prelude.{codes}
use Rattle.lfs_model.proofs.Common.{content_at, block_count, default_profile, fresh_pair, superblock_bytes, InlineBytesFit, IsWritable, IsSmallContent, Inline, Slot, zero_gstate, Pair, superblock_struct_with}
use Rattle.lfs_model.specs.format.Crc.{crc_of, checksum_after_bits}
use Rattle.lfs_model.specs.format.Log.{chain_of, bounded_commit_sequence, bounded_commit_at, entry_at, closes}
use Rattle.lfs_model.specs.examples.Violations.{empty_pair_image, large_entry_image, long_inline_image, short_name_limit_image}
use Rattle.lfs_model.proofs.Acceptance.{image_is_accepted}
use Rattle.lfs_model.proofs.KeptProfiles.{writable_breaks_none}
use Rattle.lfs_model.proofs.Examples.{file, hard, large_superblock, pair}
use Rattle.lfs_model.proofs.Fresh as fresh
use Rattle.lfs_model.proofs.Uniqueness.{one_thread}
use Rattle.lfs_model.proofs.broken.accepted_images_may_break_profile.Goals as goal

-- the limit of names is 32
abbrev limited : Slot
limited = record large_superblock { struct = Inline (superblock_struct_with 0x00020000 4096 32) }

abbrev limited_pair : Pair
limited_pair = pair (0, 1) (limited ∷ []) None zero_gstate

other_number : ◌≡◌ {A = ℕ} 32 255 → ⊥
other_number e = omega (arith, e)

pub returns-clause-differing_limit_options : goal.returns-clause-differing_limit_options
unfolding chain_of bounded_commit_sequence bounded_commit_at entry_at closes crc_of checksum_after_bits
returns-clause-differing_limit_options c = (
  limited_pair ∷ [],
  (
    image_is_accepted short_name_limit_image (limited_pair ∷ []) (superblock_struct_with 0x00020000 4096 32) 1 (record { links = (refl, refl); contents = (refl, tt); first = refl; named = refl; lists = (tt, tt); pass = refl }),
    (
      limited,
      (
        record { index = 0; pair = limited_pair; there = refl; at_is = refl; slot = refl },
        record { kind = refl; bytes = superblock_struct_with 0x00020000 4096 32; inline = refl; differs = (refl, other_number) },
      ),
    ),
  ),
)

abbrev long : Slot
long = file (codes "a") (replicate 600 97)

abbrev long_pair : Pair
long_pair = pair (0, 1) (large_superblock ∷ long ∷ []) None zero_gstate

too_long : InlineBytesFit 512 long.struct → ⊥
too_long fits = let inline : 600 ≤ 512 = fits in omega arith

pub returns-clause-long_inline : goal.returns-clause-long_inline
unfolding chain_of bounded_commit_sequence bounded_commit_at entry_at closes crc_of checksum_after_bits
returns-clause-long_inline c = (
  long_pair ∷ [],
  (
    image_is_accepted long_inline_image (long_pair ∷ []) (superblock_bytes default_profile 4096 16) 2 (record { links = (refl, refl); contents = (refl, tt); first = refl; named = refl; lists = (tt, (tt, tt)); pass = refl }),
    (long, (record { index = 0; pair = long_pair; there = refl; at_is = refl; slot = refl }, (refl, too_long))),
  ),
)

abbrev rooted : Pair
rooted = pair (0, 1) (large_superblock ∷ []) (hard (2, 3)) zero_gstate

abbrev empty : Pair
empty = pair (2, 3) [] None zero_gstate

pub returns-clause-empty_pair : goal.returns-clause-empty_pair
unfolding chain_of bounded_commit_sequence bounded_commit_at entry_at closes crc_of checksum_after_bits
returns-clause-empty_pair c = (
  rooted ∷ empty ∷ [],
  (
    image_is_accepted empty_pair_image (rooted ∷ empty ∷ []) (superblock_bytes default_profile 4096 16) 1 (record { links = (refl, (refl, refl)); contents = (refl, (refl, tt)); first = refl; named = refl; lists = (tt, tt); pass = refl }),
    record { index = 0; before = rooted; pair = empty; first = refl; next = refl; root = omega arith; hard = refl; at_is = refl; empty = refl },
  ),
)

abbrev charged : Slot
charged = record (file (codes "a") []) { attributes = (0x41, replicate 1022 1) ∷ (0x42, replicate 400 1) ∷ [] }

abbrev charged_pair : Pair
charged_pair = pair (0, 1) (large_superblock ∷ charged ∷ []) None zero_gstate

too_much : IsSmallContent default_profile 4096 256 charged_pair.content → ⊥
too_much small = let charge : 1951 ≤ 1900 = small.entries 1 charged (omega arith) refl in omega arith

pub returns-clause-too_large : goal.returns-clause-too_large
unfolding chain_of bounded_commit_sequence bounded_commit_at entry_at closes crc_of checksum_after_bits
returns-clause-too_large c = (
  charged_pair ∷ [],
  (
    image_is_accepted large_entry_image (charged_pair ∷ []) (superblock_bytes default_profile 4096 16) 2 (record { links = (refl, refl); contents = (refl, tt); first = refl; named = refl; lists = (tt, (tt, tt)); pass = refl }),
    record { index = 0; pair = charged_pair; there = refl; at_is = refl; large = too_much },
  ),
)

pub returns-clause-none : goal.returns-clause-none
returns-clause-none c = λ disk b is (ps, (accepted, broken)).
    let same = one_thread (content_at disk) (block_count disk) (fresh_pair disk ∷ []) ps (fresh.accepted disk is).thread accepted.thread in
    writable_breaks_none disk ps b (subst (IsWritable disk) same (fresh.writable disk is)) broken
