use Rattle.std.proofs.Common.{ℕ, [], ◌∷◌, ◌≡◌, List, None, Some, false, inr, refl, arith}
use Rattle.std.specs.Prelude.{codes}
use Rattle.lfs_model.specs.format.Crc.{crc_of, checksum_after_bits}
use Rattle.lfs_model.specs.format.Log.{chain_of, bounded_commit_sequence, bounded_commit_at, entry_at, closes}
use Rattle.lfs_model.proofs.Common.{Slot, zero_gstate, Pair}
use Rattle.lfs_model.specs.examples.Violations.{bad_move_image, empty_list_image, shared_block_image}
use Rattle.lfs_model.proofs.BrokenImages.{is_thread, no_list, no_valid_move}
use Rattle.lfs_model.proofs.Examples.{large_superblock, long_file, pair}
use Rattle.lfs_model.proofs.broken.bad_lists_break_rules.Goals as goal

abbrev moving : List Pair
moving = pair (0, 1) (large_superblock ∷ []) None (record { sync = false; kind = 0; id = 1; pair = (0, 0) }) ∷ []

pub returns-clause-set_move : goal.returns-clause-set_move
unfolding chain_of bounded_commit_sequence bounded_commit_at entry_at closes crc_of checksum_after_bits
returns-clause-set_move c = inr (moving, (is_thread bad_move_image _ (refl, refl) (refl, tt) refl refl, no_valid_move moving refl))

-- a root with these slots behind its superblock
abbrev root : List Slot → Pair
root slots = pair (0, 1) (large_superblock ∷ slots) None zero_gstate

none_some : (id : ℕ) → None ≡ Some id → ⊥
none_some id e = cc

pub returns-clause-list : goal.returns-clause-list
unfolding chain_of bounded_commit_sequence bounded_commit_at entry_at closes crc_of checksum_after_bits lib.Count.count_trailing_zeros
returns-clause-list c = inr (
  root (long_file (codes "a") 2 0 ∷ []) ∷ [],
  (
    is_thread empty_list_image _ (refl, refl) (refl, tt) refl refl,
    (
      long_file (codes "a") 2 0,
      (
        record { is = record { index = 0; pair = root (long_file (codes "a") 2 0 ∷ []); there = refl; at_is = refl; slot = refl }; stays = none_some 1 },
        no_list empty_list_image (long_file (codes "a") 2 0) refl,
      ),
    ),
  ),
)

pub returns-clause-two_owners : goal.returns-clause-two_owners
unfolding chain_of bounded_commit_sequence bounded_commit_at entry_at closes crc_of checksum_after_bits lib.Count.count_trailing_zeros
returns-clause-two_owners c = inr (
  root (long_file (codes "a") 2 10 ∷ long_file (codes "b") 2 10 ∷ []) ∷ [],
  (
    is_thread shared_block_image _ (refl, refl) (refl, tt) refl refl,
    record {
      slot = long_file (codes "b") 2 10;
      is = record {
        is = record { index = 0; pair = root (long_file (codes "a") 2 10 ∷ long_file (codes "b") 2 10 ∷ []); there = refl; at_is = refl; slot = refl };
        stays = none_some 2;
      };
      has = (0, omega arith, refl);
      i = 2;
      j = 3;
      apart = omega arith;
      one = refl;
      other = refl;
    },
  ),
)
