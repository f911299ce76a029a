-- The blocks that two lists share.
use Rattle.std.proofs.Common.{ℕ, zero, suc, ◌≡◌, ◌≢◌, ◌+◌, ◌-◌, ◌<◌, ◌≤◌, nat_eq, ⊎_elim, get_or, List, [], ◌∷◌, ◌++◌, take, drop, Some, slice_index, refl, sym, ap, ◌∙◌, subst, arith, length-drop}
use Rattle.std.specs.Prelude.{All, Contains}
use Rattle.lfs_file.proofs.Common.{slice_get, cases_lt, get_or-take, take-append-drop, take_more, All-contains, Contains-append_cases, Contains-append_left, Blocks, block_bytes, BlockStates, IsUsedBlock, Free, Used, AreListBlocks, blocks_to_head, word_at, occurrence_count-Contains, occurrence_count, length_back, SettlesList, SetsState, IsSharedCount}
use Rattle.std.specs.List.{IsDistinct}
use Rattle.std.proofs.lemmas.List.Elements.{Contains-get_or}
use Rattle.lfs_model.proofs.Counts.{count_append, once_from_distinct}
use Rattle.lfs_file.specs.SettledMaps.{AreSharedUsed}
use Rattle.lfs_file.specs.SharedBlocks.{unshared_count}
use Rattle.lfs_file.proofs.Others.{Contains-behind}
use Rattle.lfs_file.proofs.Releasings.{before_in}
use Rattle.lfs_file.proofs.Takings.{member}

-- ---- where two lists have the same block at an index, they have the same blocks up to there

module _ (d : Blocks) (count_one head count_other other : ℕ) (chain : AreListBlocks d count_one head) (twin : AreListBlocks d count_other other) where
  abbrev xs : List ℕ
  xs = blocks_to_head d count_one head

  abbrev ys : List ℕ
  ys = blocks_to_head d count_other other

  before_both : (m : ℕ) → suc m < count_one → suc m < count_other → slice_index xs (suc m) ≡ slice_index ys (suc m) → slice_index xs m ≡ slice_index ys m
  before_both m one two same =
      let e : suc m - 1 ≡ m = omega arith in
      ap (slice_index xs) (sym e)
      ∙ sym (before_in d count_one head (suc m) (slice_index xs (suc m)) chain (omega arith) one refl)
      ∙ ap (λ b. word_at (block_bytes d b) 0) same
      ∙ before_in d count_other other (suc m) (slice_index ys (suc m)) twin (omega arith) two refl
      ∙ ap (slice_index ys) e

  front_same : (n : ℕ) → n < count_one → n < count_other → slice_index xs n ≡ slice_index ys n → take (n + 1) xs ≡ take (n + 1) ys
  front_same zero one two same =
      take_more xs 0 0 (omega (arith, length_back d count_one head))
      ∙ ap (λ b. [] ++ b ∷ []) same
      ∙ sym (take_more ys 0 0 (omega (arith, length_back d count_other other)))
  front_same (suc m) one two same =
      let e : suc m ≡ m + 1 = omega arith in
      take_more xs (suc m) 0 (omega (arith, length_back d count_one head))
      ∙ ap (λ k. take k xs ++ slice_index xs (suc m) ∷ []) e
      ∙ ap (λ (l : List ℕ). l ++ slice_index xs (suc m) ∷ []) (front_same m (omega arith) (omega arith) (before_both m one two same))
      ∙ ap (λ b. take (m + 1) ys ++ b ∷ []) same
      ∙ ap (λ k. take k ys ++ slice_index ys (suc m) ∷ []) (sym e)
      ∙ sym (take_more ys (suc m) 0 (omega (arith, length_back d count_other other)))

  fronts_same : (n : ℕ) → n ≤ count_one → n ≤ count_other → (0 < n → slice_index xs (n - 1) ≡ slice_index ys (n - 1)) → take n xs ≡ take n ys
  fronts_same zero one two same = refl
  fronts_same (suc m) one two same =
      let e : suc m - 1 ≡ m = omega arith in
      let f : suc m ≡ m + 1 = omega arith in
      ap (λ k. take k xs) f
      ∙ front_same m (omega arith) (omega arith) (subst (λ k. slice_index xs k ≡ slice_index ys k) e (same (omega arith)))
      ∙ ap (λ k. take k ys) (sym f)

  pub is_shared : (n : ℕ) → n ≤ count_one → n ≤ count_other → (0 < n → slice_index xs (n - 1) ≡ slice_index ys (n - 1))
      → (n < count_one → n < count_other → slice_index xs n ≢ slice_index ys n) → IsSharedCount xs ys n
  is_shared n one two same most = record {
    within = (omega (arith, length_back d count_one head), omega (arith, length_back d count_other other));
    same = fronts_same n one two same;
    most = λ first second. most (omega (arith, length_back d count_one head)) (omega (arith, length_back d count_other other));
  }

pub apart_is : (d : Blocks) (count_one head count_other other n : ℕ) → unshared_count (blocks_to_head d count_one head) (blocks_to_head d count_other other) n ≡ (count_one - n) + (count_other - n)
apart_is d count_one head count_other other n =
    omega (arith, length-drop n (blocks_to_head d count_one head), length-drop n (blocks_to_head d count_other other), length_back d count_one head, length_back d count_other other)

-- ---- there is only one such number

not_more : (xs ys : List ℕ) (n m : ℕ) → IsSharedCount xs ys n → IsSharedCount xs ys m → n < m → ⊥
not_more xs ys n m few many lt =
    few.most (omega (arith, many.within.0)) (omega (arith, many.within.1))
    (sym (get_or-take m xs n 0 lt) ∙ ap (λ (l : List ℕ). slice_index l n) many.same ∙ get_or-take m ys n 0 lt)

pub shared_once : (xs ys : List ℕ) (n m : ℕ) → IsSharedCount xs ys n → IsSharedCount xs ys m → n ≡ m
shared_once xs ys n m one two =
    ⊎_elim (λ lt. absurd (not_more xs ys n m one two lt))
    (λ le. ⊎_elim (λ lt. absurd (not_more xs ys m n two one lt)) (λ other. omega arith) (cases_lt m n))
    (cases_lt n m)

-- ---- a list is settled, but for the blocks that both share

apart_behind : (n : ℕ) (xs : List ℕ) (b : ℕ) → All (λ x. x ≢ b) xs → All (λ x. x ≢ b) (drop n xs)
apart_behind n xs b apart =
    ⊎_elim (λ has. absurd (All-contains (λ x. x ≢ b) xs b apart (Contains-behind n xs b has) refl)) (λ away. away) (member (drop n xs) b)

front_or_behind : (n : ℕ) (xs : List ℕ) (b : ℕ) → Contains xs b → All (λ x. x ≢ b) (drop n xs) → Contains (take n xs) b
front_or_behind n xs b has away =
    ⊎_elim (λ front. front) (λ behind. absurd (All-contains (λ x. x ≢ b) (drop n xs) b away behind refl))
    (Contains-append_cases (take n xs) (drop n xs) b (subst (λ (l : List ℕ). Contains l b) (sym (take-append-drop n xs)) has))

from_front : (n : ℕ) (xs : List ℕ) (b : ℕ) → Contains (take n xs) b → Contains xs b
from_front n xs b has = subst (λ (l : List ℕ). Contains l b) (take-append-drop n xs) (Contains-append_left (take n xs) (drop n xs) b has)

-- a block of the front isn't behind it again
not_behind : (n : ℕ) (xs : List ℕ) (b : ℕ) → IsDistinct nat_eq xs → Contains (take n xs) b → All (λ x. x ≢ b) (drop n xs)
not_behind n xs b distinct front =
    ⊎_elim
    (λ behind.
    let one = occurrence_count-Contains (take n xs) b front in
    let two = occurrence_count-Contains (drop n xs) b behind in
    let sum = count_append b (take n xs) (drop n xs) in
    let all = ap (occurrence_count b) (take-append-drop n xs) in
    let once = once_from_distinct xs distinct b in
    absurd (omega arith))
    (λ away. away) (member (drop n xs) b)

module _ (old mid new : BlockStates) (gone kept : List ℕ) (n : ℕ) (distinct : IsDistinct nat_eq gone) (same : take n gone ≡ take n kept) (shared : AreSharedUsed old gone kept)
    (first : SetsState Free old mid (drop n gone)) (second : SetsState Used mid new (drop n kept)) where
  used_at : (b : ℕ) → Contains kept b → IsUsedBlock new b
  used_at b has =
      ⊎_elim
      (λ behind. All-contains (λ x. slice_get new x ≡ Some Used) (drop n kept) b second.put behind)
      (λ away.
      let front : Contains (take n gone) b = subst (λ (l : List ℕ). Contains l b) (sym same) (front_or_behind n kept b has away) in
      second.others b away ∙ first.others b (not_behind n gone b distinct front) ∙ shared.used b (from_front n gone b front) has)
      (member (drop n kept) b)

  freed_at : (b : ℕ) → Contains gone b → All (λ x. x ≢ b) kept → slice_get new b ≡ Some Free
  freed_at b has apart =
      ⊎_elim
      (λ behind. second.others b (apart_behind n kept b apart) ∙ All-contains (λ x. slice_get mid x ≡ Some Free) (drop n gone) b first.put behind)
      (λ away. absurd (All-contains (λ x. x ≢ b) kept b apart
      (from_front n kept b (subst (λ (l : List ℕ). Contains l b) same (front_or_behind n gone b has away))) refl))
      (member (drop n gone) b)

  pub settles_apart : SettlesList old new gone kept
  settles_apart = record {
    count = second.count ∙ first.count;
    used = λ k x l. used_at (get_or kept k x) (Contains-get_or kept k x l);
    freed = freed_at;
    others = λ b away apart. second.others b (apart_behind n kept b apart) ∙ first.others b (apart_behind n gone b away);
  }
