use Rattle.std.proofs.Common.{ℕ, ◌≡◌, ◌≤◌, ◌*◌, Bool, true, false, List, [], ◌∷◌, ◌++◌, Some, None, Contains, refl, sym, ap, subst, arith, ◌∙◌}
use Rattle.std.specs.Prelude.{codes}
use Rattle.lfs_model.proofs.Common.{All-from_recursion, Pair, address_blocks, file_slot, used_blocks, is_worn_block, is_worn, AreUnused, pair_with_tail, root_and_two_pairs, is_hard_tail}
use Rattle.lfs_model.specs.format.Crc.{crc_of, checksum_after_bits}
use Rattle.lfs_model.specs.format.Log.{chain_of, bounded_commit_sequence, bounded_commit_at, entry_at, closes}
use Rattle.lfs_model.specs.examples.Runs.{example_tail, root_with_directory_d, worn_pairs_image}
use Rattle.lfs_model.specs.session.Moved.{pair_joined_to}
use Rattle.lfs_model.proofs.BlockSets.{occurrence_count-Contains}
use Rattle.lfs_model.proofs.Counts.{Each}
use Rattle.lfs_model.proofs.Unmoved.{none_moves, only_worn_moves}
use Rattle.lfs_model.proofs.slots.worn_pair_is_relocated.Goals as goal

abbrev directory_pair : Pair
directory_pair = pair_with_tail (4, 5) (file_slot (codes "a") ∷ []) (example_tail true (6, 7))

abbrev last_pair : Pair
last_pair = pair_with_tail (6, 7) (file_slot (codes "z") ∷ []) None

unused : AreUnused (worn_pairs_image 1) root_and_two_pairs (8, 9)
unused = All-from_recursion (λ b. Contains (used_blocks (worn_pairs_image 1) root_and_two_pairs) b → ⊥) (address_blocks (8, 9)) (
  (λ has. let k : 1 ≤ 0 = occurrence_count-Contains (0 ∷ 1 ∷ 4 ∷ 5 ∷ 6 ∷ 7 ∷ []) 8 has in omega arith),
  ((λ has. let k : 1 ≤ 0 = occurrence_count-Contains (0 ∷ 1 ∷ 4 ∷ 5 ∷ 6 ∷ 7 ∷ []) 9 has in omega arith), tt),
)

-- each has the revision 1
worn : (cycles : ℕ) → Each (λ p. is_worn (worn_pairs_image cycles) p ≡ is_worn_block cycles (Some (1 ∷ 0 ∷ 0 ∷ 0 ∷ []))) root_and_two_pairs
unfolding chain_of bounded_commit_sequence bounded_commit_at entry_at closes crc_of checksum_after_bits
worn cycles = (refl, (refl, (refl, tt)))

pub returns-clause-moved : goal.returns-clause-moved
returns-clause-moved c = record {
  front = root_with_directory_d ∷ [];
  before = directory_pair;
  worn = last_pair;
  back = [];
  to = (8, 9);
  was = refl;
  joined = refl;
  is = refl;
  unused = unused;
  due = (worn 1).1.1.0;
}

pub returns-clause-unloaded : goal.returns-clause-unloaded
returns-clause-unloaded c = λ new e. record {
  front = [];
  before = root_with_directory_d;
  worn = directory_pair;
  back = last_pair ∷ [];
  to = (8, 9);
  was = refl;
  first = refl;
  some = refl;
  is = refl;
  unused = unused;
  room = subst (λ n. 8 * 8 ≤ 7 * n) (sym e) (omega arith);
  due = (worn 1).1.0;
}

pub returns-clause-root : goal.returns-clause-root
returns-clause-root c = λ new e. record {
  worn = root_with_directory_d;
  back = directory_pair ∷ last_pair ∷ [];
  to = (8, 9);
  was = refl;
  root = refl;
  is = refl;
  unused = unused;
  room = subst (λ n. 8 * 8 ≤ 7 * n) (sym e) (omega arith);
  due = (worn 1).0;
}

pub returns-clause-no_room : goal.returns-clause-no_room
returns-clause-no_room c = λ new e h. let k : 8 * 8 ≤ 7 * 9 = subst (λ n. 8 * 8 ≤ 7 * n) e h.room in omega arith

pub returns-clause-not_worn : goal.returns-clause-not_worn
returns-clause-not_worn c = λ new qs. only_worn_moves (worn_pairs_image 2) root_and_two_pairs new qs (worn 2)

pub returns-clause-no_cycles : goal.returns-clause-no_cycles
returns-clause-no_cycles c = λ new qs. none_moves (worn_pairs_image 0) root_and_two_pairs new qs refl

abbrev first_moved : List Pair
first_moved =
    pair_with_tail (0, 1) root_with_directory_d.content.slots (example_tail true (8, 9)) ∷ pair_with_tail (8, 9) (file_slot (codes "a") ∷ []) (example_tail true (6, 7)) ∷ last_pair ∷ []

-- the second pair's address
abbrev second_at : List Pair → ℕ
second_at [] = 0
second_at (p ∷ []) = 0
second_at (p ∷ q ∷ ps) = q.at.0

abbrev hard_first : List Pair → Bool
hard_first [] = false
hard_first (p ∷ ps) = is_hard_tail p.content.tail

not_first : (front : List Pair) (before worn : Pair) (back : List Pair) (to : ℕ × ℕ) → root_and_two_pairs ≡ front ++ before ∷ worn ∷ back → is_hard_tail before.content.tail ≡ true →
    first_moved ≡ front ++ pair_joined_to to before.content.slots before ∷ record worn { at = to } ∷ back → ⊥
not_first [] before worn back to was joined is = absurd (let k : false ≡ true = ap hard_first was ∙ joined in cc)
not_first (x ∷ []) before worn back to was joined is = absurd (let k : 8 ≡ 4 = ap second_at is ∙ sym (ap second_at was) in cc)
not_first (x ∷ y ∷ front) before worn back to was joined is = absurd (let k : 8 ≡ 4 = ap second_at is ∙ sym (ap second_at was) in cc)

pub returns-clause-not_first : goal.returns-clause-not_first
returns-clause-not_first c = λ h. not_first h.front h.before h.worn h.back h.to h.was h.joined h.is
