-- The states of a device's blocks by their marks, and the effect of changing one.
use Rattle.std.proofs.Common.{◌≡◌, ◌≢◌, ℕ, zero, suc, ◌+◌, ◌-◌, ◌*◌, ◌/◌, ◌%◌, ◌<◌, ◌≤◌, Bool, cond, List, Some, length, replicate, get_or, set, refl, sym, ap, ◌∙◌, ⊎_elim, arith}
use Rattle.std.specs.List.{slice_get, count_by}
use Rattle.std.proofs.lemmas.Bool.{cases_eq, cases_lt}
use Rattle.std.proofs.lemmas.List.{get_or-set_same, get_or-set_other, length-set, length-replicate, get_or-replicate}
use Rattle.std.proofs.lemmas.List.Sums.{sum_by-set, count_by-le-length}
use Rattle.std.proofs.lemmas.List.FromFn.{length-map-range_with_len, get_or-map-range_with_len, fill_by_all}
use Rattle.std.proofs.lemmas.Option.{slice_get-get_or, slice_get_within, same_Some}
use Rattle.lfs_model.specs.layers.BlockSets.{BlockState, IsFree, is_used, used_count}
use Rattle.lfs_model.specs.layers.BlockSets.BlockState.{Free}
use Rattle.lfs_blocks.specs.declared.marks.Marks.{Marks}
use Rattle.lfs_blocks.specs.Marks.{state_at_bit}
use Rattle.lfs_blocks.specs.BlockMap.{MarksCountUsed, free_marks, state_in_marks, marks_states}

pub length-marks_states : (marks : List Marks) (n : ℕ) → length (marks_states marks n) ≡ n
length-marks_states marks n = length-map-range_with_len (state_in_marks marks) 0 n

pub get_or-marks_states : (marks : List Marks) (n b : ℕ) (d : BlockState) → b < n → get_or (marks_states marks n) b d ≡ state_in_marks marks b
get_or-marks_states marks n b d lt = get_or-map-range_with_len (state_in_marks marks) 0 n b b d lt (omega arith)

pub slice_get-marks_states : (marks : List Marks) (n b : ℕ) → b < n → slice_get (marks_states marks n) b ≡ Some (state_in_marks marks b)
slice_get-marks_states marks n b lt =
    slice_get-get_or (marks_states marks n) b Free (omega (arith, length-marks_states marks n)) ∙ ap Some (get_or-marks_states marks n b Free lt)

pub IsFree-marks_states : (marks : List Marks) (n b : ℕ) → IsFree (marks_states marks n) b → (b < n) × (state_in_marks marks b ≡ Free)
IsFree-marks_states marks n b free =
    let lt : b < n = omega (arith, slice_get_within (marks_states marks n) b Free free, length-marks_states marks n) in
    (lt, same_Some (state_in_marks marks b) Free (sym (slice_get-marks_states marks n b lt) ∙ free))

-- a block by the marks that it is in, and its place there
pub state_in_marks-place : (marks : List Marks) (q k : ℕ) → k < 64 → state_in_marks marks (q * 64 + k) ≡ state_at_bit (get_or marks q free_marks) k
state_in_marks-place marks q k lt =
    let word : (q * 64 + k) / 64 ≡ q = omega arith in
    let place : (q * 64 + k) % 64 ≡ k = omega arith in
    ap (λ i. state_at_bit (get_or marks i free_marks) ((q * 64 + k) % 64)) word ∙ ap (state_at_bit (get_or marks q free_marks)) place

-- a count after one element changed
pub count_by-set : {X : Type 0} (p : X → Bool) (xs : List X) (i : ℕ) (y d : X) → i < length xs → count_by p (set xs i y) + cond (p (get_or xs i d)) 1 0 ≡ count_by p xs + cond (p y) 1 0
count_by-set p xs i y d lt = sum_by-set (λ x. cond (p x) 1 0) xs i y d lt

-- a used block is one of those that are counted
pub was_counted : (marks : List Marks) (n b used was : ℕ) → b < n → used ≡ used_count (marks_states marks n) → was ≡ cond (is_used (state_in_marks marks b)) 1 0 → was ≤ used
was_counted marks n b used was lt counted before =
    let without = count_by-set is_used (marks_states marks n) b Free Free (omega (arith, length-marks_states marks n)) in
    let here : cond (is_used (get_or (marks_states marks n) b Free)) 1 0 ≡ was = ap (λ s. cond (is_used s) 1 0) (get_or-marks_states marks n b Free lt) ∙ sym before in
    omega (arith, without, here, counted)

-- marks m for those of block b: it has another state, and the others keep theirs
pub record IsChange (marks : List Marks) (n b : ℕ) (m : Marks) (st : BlockState) : Type 0 where
  pub within : b < n
  pub covered : n ≤ 64 * length marks
  pub here : state_at_bit m (b % 64) ≡ st
  pub others : (other : ℕ) → other < 64 → other ≢ b % 64 → state_at_bit m other ≡ state_at_bit (get_or marks (b / 64) free_marks) other

module _ (marks : List Marks) (n b : ℕ) (m : Marks) (st : BlockState) (change : IsChange marks n b m st) where
  in_marks : b / 64 < length marks
  in_marks = omega (arith, change.within, change.covered)

  here_is : state_in_marks (set marks (b / 64) m) b ≡ st
  here_is = ap (λ w. state_at_bit w (b % 64)) (get_or-set_same marks (b / 64) m free_marks in_marks) ∙ change.here

  same_marks : (k : ℕ) → k ≢ b → k / 64 ≡ b / 64 → state_in_marks (set marks (b / 64) m) k ≡ state_in_marks marks k
  same_marks k ne word =
      ap (λ i. state_at_bit (get_or (set marks (b / 64) m) i free_marks) (k % 64)) word
      ∙ ap (λ w. state_at_bit w (k % 64)) (get_or-set_same marks (b / 64) m free_marks in_marks)
      ∙ change.others (k % 64) (omega arith) (λ same. ne (omega arith))
      ∙ ap (λ i. state_at_bit (get_or marks i free_marks) (k % 64)) (sym word)

  other_marks : (k : ℕ) → k / 64 ≢ b / 64 → state_in_marks (set marks (b / 64) m) k ≡ state_in_marks marks k
  other_marks k ne = ap (λ w. state_at_bit w (k % 64)) (get_or-set_other marks (b / 64) (k / 64) m free_marks ne)

  other_is : (k : ℕ) → k ≢ b → state_in_marks (set marks (b / 64) m) k ≡ state_in_marks marks k
  other_is k ne = ⊎_elim (same_marks k ne) (other_marks k) (cases_eq (k / 64) (b / 64))

  in_sets : b < length (marks_states marks n)
  in_sets = omega (arith, change.within, length-marks_states marks n)

  each_is : (k : ℕ) → k < n → get_or (set (marks_states marks n) b st) k Free ≡ state_in_marks (set marks (b / 64) m) k
  each_is k below = ⊎_elim
      (λ is. ap (λ i. get_or (set (marks_states marks n) b st) i Free) is ∙ get_or-set_same (marks_states marks n) b st Free in_sets ∙ sym here_is ∙ ap (state_in_marks (set marks (b / 64) m)) (sym is))
      (λ ne. get_or-set_other (marks_states marks n) b k st Free ne ∙ get_or-marks_states marks n k Free below ∙ sym (other_is k ne))
      (cases_eq k b)

  pub sets_of-set : marks_states (set marks (b / 64) m) n ≡ set (marks_states marks n) b st
  sets_of-set = sym (fill_by_all (state_in_marks (set marks (b / 64) m)) (set (marks_states marks n) b st) n Free (length-set (marks_states marks n) b st ∙ length-marks_states marks n) each_is)

  counted : used_count (marks_states (set marks (b / 64) m) n) + cond (is_used (state_in_marks marks b)) 1 0 ≡ used_count (marks_states marks n) + cond (is_used st) 1 0
  counted =
      ap (λ xs. used_count xs + cond (is_used (state_in_marks marks b)) 1 0) sets_of-set
      ∙ ap (λ s. used_count (set (marks_states marks n) b st) + cond (is_used s) 1 0) (sym (get_or-marks_states marks n b Free change.within))
      ∙ count_by-set is_used (marks_states marks n) b st Free in_sets

  -- what is kept beside the marks, with the count as the code changes it
  module _ (used was is : ℕ) (map : MarksCountUsed marks n used) (before : was ≡ cond (is_used (state_in_marks marks b)) 1 0) (after : is ≡ cond (is_used st) 1 0) where
    counted_after : used - was + is ≡ used_count (marks_states (set marks (b / 64) m) n)
    counted_after = omega (arith, counted, was_counted marks n b used was change.within map.counted before, map.counted, before, after)

    pub count_fits : used - was + is ≤ n
    count_fits = omega (arith, counted_after, count_by-le-length is_used (marks_states (set marks (b / 64) m) n), length-marks_states (set marks (b / 64) m) n)

    pub IsMap-set : MarksCountUsed (set marks (b / 64) m) n (used - was + is)
    IsMap-set = record {
      covered = omega (arith, map.covered, length-set marks (b / 64) m);
      no_more = omega (arith, map.no_more, length-set marks (b / 64) m);
      counted = counted_after;
    }

-- ---- a map without a used block

module _ (n size : ℕ) (none : Marks) (clear : (place : ℕ) → state_at_bit none place ≡ Free) (covered : n ≤ 64 * size) where
  state_in_marks-replicate : (b : ℕ) → b < n → state_in_marks (replicate size none) b ≡ Free
  state_in_marks-replicate b lt = ap (λ m. state_at_bit m (b % 64)) (get_or-replicate size (b / 64) none free_marks (omega arith)) ∙ clear (b % 64)

  pub sets_of-replicate : marks_states (replicate size none) n ≡ replicate n Free
  sets_of-replicate = sym (fill_by_all (state_in_marks (replicate size none)) (replicate n Free) n Free (length-replicate n Free)
      (λ k lt. get_or-replicate n k Free Free lt ∙ sym (state_in_marks-replicate k lt)))

  none_used : (n : ℕ) → used_count (replicate n Free) ≡ 0
  none_used zero = refl
  none_used (suc n) = none_used n

  pub IsMap-replicate : size ≤ n → MarksCountUsed (replicate size none) n 0
  IsMap-replicate no_more = record {
    covered = omega (arith, covered, length-replicate size none);
    no_more = omega (arith, no_more, length-replicate size none);
    counted = sym (ap used_count sets_of-replicate ∙ none_used n);
  }

-- ---- a search for a free block

-- a block by the marks that it is in, at a place
pub free_at : (marks : List Marks) (n q k : ℕ) → k < 64 → q * 64 + k < n → state_at_bit (get_or marks q free_marks) k ≡ Free → IsFree (marks_states marks n) (q * 64 + k)
free_at marks n q k lt within free =
    slice_get-marks_states marks n (q * 64 + k) within ∙ ap Some (state_in_marks-place marks q k lt ∙ free)

-- none is free before the marks that the search has come to, nor there before the place that it found
pub none_free_before : (marks : List Marks) (n start q place found : ℕ) → found < 64
    → ((b : ℕ) → start ≤ b → b < q * 64 + place → state_in_marks marks b ≢ Free)
    → ((k : ℕ) → place ≤ k → k < found → state_at_bit (get_or marks q free_marks) k ≢ Free)
    → (b : ℕ) → start ≤ b → b < q * 64 + found → ¬ (IsFree (marks_states marks n) b)
none_free_before marks n start q place found lt passed first b from below free =
    let here = IsFree-marks_states marks n b free in
    ⊎_elim (λ before. passed b from before here.1)
    (λ behind.
    let place_of : ℕ = b - q * 64 in
    let is : q * 64 + place_of ≡ b = omega (arith, here.0) in
    first place_of (omega (arith, is)) (omega (arith, is, below))
    (sym (state_in_marks-place marks q place_of (omega (arith, is, below))) ∙ ap (state_in_marks marks) is ∙ here.1))
    (cases_lt b (q * 64 + place))
