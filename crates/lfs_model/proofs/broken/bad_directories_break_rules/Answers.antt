use Rattle.std.proofs.Common.{[], ◌∷◌, List, None, inr, refl, arith}
use Rattle.std.specs.Prelude.{codes}
use Rattle.lfs_model.specs.format.Crc.{crc_of, checksum_after_bits}
use Rattle.lfs_model.specs.format.Log.{chain_of, bounded_commit_sequence, bounded_commit_at, entry_at, closes}
use Rattle.lfs_model.proofs.Common.{Slot, zero_gstate, Pair}
use Rattle.lfs_model.specs.declared.order.NameOrder.TheVariants.{ShorterFirst}
use Rattle.lfs_model.specs.examples.Violations.{dot_name_image, unsorted_names_image, shared_directory_image, dangling_directory_image, orphan_pair_image}
use Rattle.lfs_model.proofs.BrokenImages.{is_thread, no_directory_there, no_entry, no_path_leads, no_rise, paths_differ}
use Rattle.lfs_model.proofs.Examples.{file, folder, large_superblock, pair, soft}
use Rattle.lfs_model.proofs.broken.bad_directories_break_rules.Goals as goal

-- a root with slots behind its superblock
abbrev root : List Slot → Pair
root slots = pair (0, 1) (large_superblock ∷ slots) None zero_gstate

pub returns-clause-entry : goal.returns-clause-entry
unfolding chain_of bounded_commit_sequence bounded_commit_at entry_at closes crc_of checksum_after_bits
returns-clause-entry c = inr (
  root (file (codes ".") [] ∷ []) ∷ [],
  (
    is_thread dot_name_image _ (refl, refl) (refl, tt) refl refl,
    record {
      slot = file (codes ".") [];
      is = record { index = 0; pair = root (file (codes ".") [] ∷ []); there = refl; at_is = refl; slot = refl };
      behind = inr (omega arith);
      refused = no_entry (file (codes ".") []) refl;
    },
  ),
)

pub returns-clause-names : goal.returns-clause-names
unfolding chain_of bounded_commit_sequence bounded_commit_at entry_at closes crc_of checksum_after_bits
returns-clause-names c = inr (
  root (file (codes "b") [] ∷ file (codes "a") [] ∷ []) ∷ [],
  (
    is_thread unsorted_names_image _ (refl, refl) (refl, tt) refl refl,
    record { path = []; to = (0, 1); reached = record { leads = refl; same = refl }; falls = no_rise ShorterFirst (codes "b" ∷ codes "a" ∷ []) refl },
  ),
)

abbrev loose : List Pair
loose = root (folder (codes "d") (2, 3) ∷ []) ∷ []

pub returns-clause-branch : goal.returns-clause-branch
unfolding chain_of bounded_commit_sequence bounded_commit_at entry_at closes crc_of checksum_after_bits
returns-clause-branch c = inr (
  loose,
  (
    is_thread dangling_directory_image _ (refl, refl) (refl, tt) refl refl,
    record { path = []; to = (0, 1); reached = record { leads = refl; same = refl }; name = codes "d"; target = (2, 3); leads = refl; loose = no_directory_there loose (2, 3) refl },
  ),
)

pub returns-clause-two_paths : goal.returns-clause-two_paths
unfolding chain_of bounded_commit_sequence bounded_commit_at entry_at closes crc_of checksum_after_bits
returns-clause-two_paths c = inr (
  pair (0, 1) (large_superblock ∷ folder (codes "d") (2, 3) ∷ folder (codes "e") (2, 3) ∷ []) (soft (2, 3)) zero_gstate ∷ pair (2, 3) [] None zero_gstate ∷ [],
  (
    is_thread shared_directory_image _ (refl, (refl, refl)) (refl, (refl, tt)) refl refl,
    record {
      path = codes "d" ∷ [];
      to = (2, 3);
      reached = record { leads = refl; same = refl };
      other = codes "e" ∷ [];
      other_to = (2, 3);
      other_reached = record { leads = refl; same = refl };
      differ = paths_differ (codes "d" ∷ []) (codes "e" ∷ []) refl;
    },
  ),
)

abbrev unnamed : List Pair
unnamed = pair (0, 1) (large_superblock ∷ []) (soft (2, 3)) zero_gstate ∷ pair (2, 3) [] None zero_gstate ∷ []

pub returns-clause-no_path : goal.returns-clause-no_path
unfolding chain_of bounded_commit_sequence bounded_commit_at entry_at closes crc_of checksum_after_bits
returns-clause-no_path c = inr (
  unnamed,
  (
    is_thread orphan_pair_image _ (refl, (refl, refl)) (refl, (refl, tt)) refl refl,
    record { sync = refl; index = 1; directory = record { at = (2, 3); slots = [] }; there = refl; at_is = refl; unreached = no_path_leads unnamed 1 (2, 3) refl refl },
  ),
)
