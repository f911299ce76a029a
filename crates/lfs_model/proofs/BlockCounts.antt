-- How many blocks are in each set, when some change their state, and where all are among some.
use Rattle.std.proofs.Common.{ℕ, ◌≡◌, ◌+◌, ◌≤◌, ◌⊎◌, inl, inr, ⊎_elim, Bool, cond, set, List, [], ◌∷◌, length, Some, Option, None, sym, ap, ◌∙◌, subst, arith}
use Rattle.lfs_model.proofs.Common.{Contains, count_by, slice_get, cases_eq, slice_get_within, same_Some, BlockState, BlockStates, IsFree, state_in_flight, is_used, in_flight_count, used_count, Free, InFlight, Used}
use Rattle.lfs_model.specs.layers.BlockSets.{IsInFlight, IsUsedBlock}
use Rattle.lfs_model.proofs.BlockSets.{Contains-cons, slice_get-set_same, slice_get-set_other, count_by-set, count_by-none, IsTestOf, used_test, in_flight_test}

-- ---- one block's state changed

-- a free block is handed out
pub in_flight-taken : (sets : BlockStates) (b : ℕ) → IsFree sets b → in_flight_count (set sets b InFlight) ≡ in_flight_count sets + 1
in_flight-taken sets b free = let e = count_by-set state_in_flight sets b Free InFlight free in omega (arith, e)

pub used-taken : (sets : BlockStates) (b : ℕ) → IsFree sets b → used_count (set sets b InFlight) ≡ used_count sets
used-taken sets b free = let e = count_by-set is_used sets b Free InFlight free in omega (arith, e)

-- a block in flight is given back
pub in_flight-freed : (sets : BlockStates) (b : ℕ) → IsInFlight sets b → in_flight_count (set sets b Free) + 1 ≡ in_flight_count sets
in_flight-freed sets b flying = let e = count_by-set state_in_flight sets b InFlight Free flying in omega (arith, e)

-- ---- at most so many

-- whether a block is in that state
cases_state : (p : BlockState → Bool) (state : BlockState) → IsTestOf p state → (sets : BlockStates) (b : ℕ) → (slice_get sets b ≡ Some state) ⊎ ((slice_get sets b ≡ Some state) → ⊥)
cases_state p state test sets b = go (slice_get sets b)
  where
    go : (o : Option BlockState) → (o ≡ Some state) ⊎ ((o ≡ Some state) → ⊥)
    go None = inr (λ e. cc)
    go (Some s) = ⊎_elim (λ same. inl (ap Some same)) (λ ne. inr (λ e. ne (same_Some s state e))) (test.cases s)

abbrev number_of : Bool → ℕ
number_of t = cond t 1 0

module _ (p : BlockState → Bool) (state : BlockState) (test : IsTestOf p state) where
  one_less : (sets : BlockStates) (b : ℕ) → slice_get sets b ≡ Some state → count_by p (set sets b test.other) + 1 ≡ count_by p sets
  one_less sets b here =
      let change = count_by-set p sets b state test.other here in
      let before = ap number_of test.passes in
      let after = ap number_of (test.only test.other test.differs) in
      omega (arith, change, before, after)

  -- where all blocks in the state are among some, there are no more
  pub few_in : (bs : List ℕ) (sets : BlockStates) → ((b : ℕ) → slice_get sets b ≡ Some state → Contains bs b) → count_by p sets ≤ length bs
  few_in [] sets all = omega (arith, count_by-none p sets (λ b s is. test.only s (λ e. absurd (omega (arith, (all b (is ∙ ap Some e)).1)))))
  few_in (x ∷ bs) sets all = ⊎_elim
      (λ is.
      let within = slice_get_within sets x state is in
      let behind = few_in bs (set sets x test.other) (λ b here. ⊎_elim
      (λ same. absurd (test.differs (same_Some test.other state (sym (slice_get-set_same sets x test.other within) ∙ ap (slice_get (set sets x test.other)) (sym same) ∙ here))))
      (λ ne. ⊎_elim (λ same. absurd (ne (sym same))) (λ has. has) (Contains-cons x b bs (all b (sym (slice_get-set_other sets x b test.other ne) ∙ here))))
      (cases_eq b x)) in
      omega (arith, behind, one_less sets x is))
      (λ not_here.
      let behind = few_in bs sets (λ b here. ⊎_elim
      (λ same. absurd (not_here (subst (λ k. slice_get sets k ≡ Some state) (sym same) here)))
      (λ has. has)
      (Contains-cons x b bs (all b here))) in
      omega (arith, behind))
      (cases_state p state test sets x)

pub few_flying : (bs : List ℕ) (sets : BlockStates) → ((b : ℕ) → IsInFlight sets b → Contains bs b) → in_flight_count sets ≤ length bs
few_flying bs sets all = few_in state_in_flight InFlight in_flight_test bs sets all

pub few_used : (bs : List ℕ) (sets : BlockStates) → ((b : ℕ) → IsUsedBlock sets b → Contains bs b) → used_count sets ≤ length bs
few_used bs sets all = few_in is_used Used used_test bs sets all
