-- Laws of block sets: what a change of one block's state changes, and how many blocks are in each set.
use Rattle.std.proofs.Common.{ℕ, zero, suc, ◌≡◌, ◌≢◌, ◌↔◌, ◌+◌, ◌<◌, ◌≤◌, ◌⊎◌, Bool, true, false, cond, nat_eq, List, [], ◌∷◌, length, set, Some, refl, sym, ap, ◌∙◌, subst, inl, inr, ⊎_elim, arith, eqb-true}
use Rattle.lfs_model.proofs.Common.{Contains, count_by, slice_get, cases_eq, length-set, sum_by-cons, slice_get_within, get_or_from_slice_get, same_Some, BlockState, BlockStates, IsFree, state_in_flight, is_used, in_flight_count, used_count, Free, InFlight, Used}
use Rattle.std.specs.List.{IsDistinct}
use Rattle.std.proofs.lemmas.List.Sums.{sum_by-set}
use Rattle.lfs_model.specs.layers.BlockSets.{AreInFlight, AreUsed}
use Rattle.lfs_model.proofs.Counts.{occurrence_count, once_from_distinct, count_here}

-- ---- what a list contains

pub Contains-cons : (x b : ℕ) (bs : List ℕ) → Contains (x ∷ bs) b → (x ≡ b) ⊎ Contains bs b
Contains-cons x b bs (zero, lt, is) = inl is
Contains-cons x b bs (suc k, lt, is) = inr (k, omega arith, is)

pub Contains-head : (b : ℕ) (bs : List ℕ) → Contains (b ∷ bs) b
Contains-head b bs = (0, omega arith, refl)

pub Contains-tail : (x b : ℕ) (bs : List ℕ) → Contains bs b → Contains (x ∷ bs) b
Contains-tail x b bs (k, lt, is) = (suc k, omega arith, is)

pub occurrence_count-Contains : (bs : List ℕ) (b : ℕ) → Contains bs b → 1 ≤ occurrence_count b bs
occurrence_count-Contains [] b has = absurd (omega (arith, has.1))
occurrence_count-Contains (x ∷ bs) b has = ⊎_elim
    (λ same. let here = count_here b bs in let is : occurrence_count b (x ∷ bs) ≡ occurrence_count b (b ∷ bs) = ap (λ y. occurrence_count b (y ∷ bs)) same in omega (arith, here, is))
    (λ behind. omega (arith, occurrence_count-Contains bs b behind))
    (Contains-cons x b bs has)

pub Contains-occurrence_count : (bs : List ℕ) (b : ℕ) → 1 ≤ occurrence_count b bs → Contains bs b
Contains-occurrence_count [] b some = absurd (omega (arith, some))
Contains-occurrence_count (x ∷ bs) b some = go (nat_eq b x) refl some (Contains-occurrence_count bs b)
  where
    go : (t : Bool) → nat_eq b x ≡ t → 1 ≤ cond t 1 0 + occurrence_count b bs → (1 ≤ occurrence_count b bs → Contains bs b) → Contains (x ∷ bs) b
    go true e k next = (0, omega arith, sym (eqb-true b x e))
    go false e k next = Contains-tail x b bs (next (omega (arith, k)))

pub tail_distinct : (b : ℕ) (bs : List ℕ) → IsDistinct nat_eq (b ∷ bs) → IsDistinct nat_eq bs
unfolding IsDistinct
tail_distinct b bs distinct = distinct.1

pub not_behind : (b : ℕ) (bs : List ℕ) → IsDistinct nat_eq (b ∷ bs) → ¬ (Contains bs b)
not_behind b bs distinct has =
    absurd (omega (arith, once_from_distinct (b ∷ bs) distinct b, count_here b bs, occurrence_count-Contains bs b has))

-- ---- one block's state changed

pub slice_get-set_same : {X : Type 0} (xs : List X) (b : ℕ) (x : X) → b < length xs → slice_get (set xs b x) b ≡ Some x
slice_get-set_same [] b x lt = absurd (omega (arith, lt))
slice_get-set_same (y ∷ xs) zero x lt = refl
slice_get-set_same (y ∷ xs) (suc b) x lt = slice_get-set_same xs b x (omega (arith, lt))

pub slice_get-set_other : {X : Type 0} (xs : List X) (b other : ℕ) (x : X) → other ≢ b → slice_get (set xs b x) other ≡ slice_get xs other
slice_get-set_other [] b other x ne = refl
slice_get-set_other (y ∷ xs) zero zero x ne = absurd (ne refl)
slice_get-set_other (y ∷ xs) zero (suc other) x ne = refl
slice_get-set_other (y ∷ xs) (suc b) zero x ne = refl
slice_get-set_other (y ∷ xs) (suc b) (suc other) x ne = slice_get-set_other xs b other x (λ e. ne (ap suc e))

-- the blocks of the list are those in that state
abbrev pub AreIn : BlockState → BlockStates → List ℕ → Type 0
AreIn state sets bs = (b : ℕ) → (slice_get sets b ≡ Some state) ↔ Contains bs b

module _ (state : BlockState) (sets : BlockStates) (b : ℕ) where
  -- after a change to another state the block isn't in this one
  left : (to : BlockState) → to ≢ state → slice_get (set sets b to) b ≡ Some state → ⊥
  left to ne has =
      let within = slice_get_within (set sets b to) b state has in
      ne (same_Some to state (sym (slice_get-set_same sets b to (omega (arith, within, length-set sets b to))) ∙ has))

  -- a block goes from the state
  pub go_from : (bs : List ℕ) (to : BlockState) → ¬ (Contains bs b) → to ≢ state → AreIn state sets (b ∷ bs) → AreIn state (set sets b to) bs
  go_from bs to not_behind ne_state are other = ⊎_elim
      (λ same. (
        λ has. absurd (left to ne_state (ap (slice_get (set sets b to)) (sym same) ∙ has)),
        λ has. absurd (not_behind (subst (Contains bs) same has)),
      ))
      (λ ne. (
        λ has. ⊎_elim (λ same. absurd (ne (sym same))) (λ behind. behind) (Contains-cons b other bs ((are other).0 (sym (slice_get-set_other sets b other to ne) ∙ has))),
        λ has. slice_get-set_other sets b other to ne ∙ (are other).1 (Contains-tail b other bs has),
      ))
      (cases_eq other b)

-- ---- how many are in a set

pub count_by-set : (p : BlockState → Bool) (sets : BlockStates) (b : ℕ) (was to : BlockState) → slice_get sets b ≡ Some was → count_by p (set sets b to) + cond (p was) 1 0 ≡ count_by p sets + cond (p to) 1 0
count_by-set p sets b was to is =
    ap (λ s. count_by p (set sets b to) + cond (p s) 1 0) (sym (get_or_from_slice_get sets b was Free is))
    ∙ sum_by-set (λ s. cond (p s) 1 0) sets b to Free (slice_get_within sets b was is)

-- none is in it
pub count_by-none : (p : BlockState → Bool) (sets : BlockStates) → ((b : ℕ) (s : BlockState) → slice_get sets b ≡ Some s → p s ≡ false) → count_by p sets ≡ 0
count_by-none p [] none = refl
count_by-none p (s ∷ sets) none =
    sum_by-cons (λ x. cond (p x) 1 0) s sets
    ∙ ap (λ t. cond t 1 0 + count_by p sets) (none 0 s refl)
    ∙ ap (λ n. 0 + n) (count_by-none p sets (λ b x is. none (suc b) x is))

-- a test of one state
pub record IsTestOf (p : BlockState → Bool) (state : BlockState) : Type 0 where
  pub passes : p state ≡ true
  pub only : (s : BlockState) → s ≢ state → p s ≡ false
  pub cases : (s : BlockState) → (s ≡ state) ⊎ (s ≢ state)
  -- some state is another
  pub other : BlockState
  pub differs : other ≢ state

abbrev number_of : Bool → ℕ
number_of t = cond t 1 0

count_by-AreIn : (p : BlockState → Bool) (state : BlockState) → IsTestOf p state → (bs : List ℕ) (sets : BlockStates) → IsDistinct nat_eq bs → AreIn state sets bs → count_by p sets ≡ length bs
count_by-AreIn p state test [] sets distinct are =
    count_by-none p sets (λ b s is. ⊎_elim (λ same. absurd (omega (arith, ((are b).0 (is ∙ ap Some same)).1))) (test.only s) (test.cases s))
count_by-AreIn p state test (b ∷ bs) sets distinct are =
    let here : slice_get sets b ≡ Some state = (are b).1 (Contains-head b bs) in
    let less = count_by-AreIn p state test bs (set sets b test.other) (tail_distinct b bs distinct) (go_from state sets b bs test.other (not_behind b bs distinct) test.differs are) in
    let change = count_by-set p sets b state test.other here in
    let before = ap number_of test.passes in
    let after = ap number_of (test.only test.other test.differs) in
    omega (arith, less, change, before, after)

pub used_test : IsTestOf is_used Used
used_test = record {
  passes = refl;
  only = only;
  cases = cases;
  other = Free;
  differs = λ e. cc;
}
  where
    only : (s : BlockState) → s ≢ Used → is_used s ≡ false
    only Free ne = refl
    only InFlight ne = refl
    only Used ne = absurd (ne refl)

    cases : (s : BlockState) → (s ≡ Used) ⊎ (s ≢ Used)
    cases Free = inr (λ e. cc)
    cases InFlight = inr (λ e. cc)
    cases Used = inl refl

pub in_flight_test : IsTestOf state_in_flight InFlight
in_flight_test = record {
  passes = refl;
  only = only;
  cases = cases;
  other = Free;
  differs = λ e. cc;
}
  where
    only : (s : BlockState) → s ≢ InFlight → state_in_flight s ≡ false
    only Free ne = refl
    only InFlight ne = absurd (ne refl)
    only Used ne = refl

    cases : (s : BlockState) → (s ≡ InFlight) ⊎ (s ≢ InFlight)
    cases Free = inr (λ e. cc)
    cases InFlight = inl refl
    cases Used = inr (λ e. cc)

-- each set is counted by a list of its blocks
pub used_count-AreUsed : (sets : BlockStates) (bs : List ℕ) → IsDistinct nat_eq bs → AreUsed sets bs → used_count sets ≡ length bs
used_count-AreUsed sets bs distinct are = count_by-AreIn is_used Used used_test bs sets distinct are

pub in_flight_count-AreInFlight : (sets : BlockStates) (bs : List ℕ) → IsDistinct nat_eq bs → AreInFlight sets bs → in_flight_count sets ≡ length bs
in_flight_count-AreInFlight sets bs distinct are = count_by-AreIn state_in_flight InFlight in_flight_test bs sets distinct are

-- where no block is free, the two sets have all of them
pub counts_from_none_free : (sets : BlockStates) → ((b : ℕ) → ¬ (IsFree sets b)) → used_count sets + in_flight_count sets ≡ length sets
counts_from_none_free [] none = refl
counts_from_none_free (s ∷ sets) none =
    let behind = counts_from_none_free sets (λ b free. none (suc b) free) in
    let used = sum_by-cons (λ x. cond (is_used x) 1 0) s sets in
    let flying = sum_by-cons (λ x. cond (state_in_flight x) 1 0) s sets in
    omega (arith, behind, used, flying, one_of s (λ e. none 0 (ap Some e)))
  where
    one_of : (s : BlockState) → s ≢ Free → cond (is_used s) 1 0 + cond (state_in_flight s) 1 0 ≡ 1
    one_of Free ne = absurd (ne refl)
    one_of InFlight ne = refl
    one_of Used ne = refl

pub counts_le : (sets : BlockStates) → used_count sets + in_flight_count sets ≤ length sets
counts_le [] = omega arith
counts_le (s ∷ sets) =
    let behind = counts_le sets in
    let used = sum_by-cons (λ x. cond (is_used x) 1 0) s sets in
    let flying = sum_by-cons (λ x. cond (state_in_flight x) 1 0) s sets in
    omega (arith, behind, used, flying, at_most_one s)
  where
    at_most_one : (s : BlockState) → cond (is_used s) 1 0 + cond (state_in_flight s) 1 0 ≤ 1
    at_most_one Free = omega arith
    at_most_one InFlight = omega arith
    at_most_one Used = omega arith
