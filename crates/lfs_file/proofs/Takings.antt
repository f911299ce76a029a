-- Blocks that are allocated from a map.
use Rattle.std.proofs.Common.{ℕ, ◌≡◌, ◌≢◌, ◌+◌, ◌<◌, ◌⊎◌, inl, inr, ⊎_elim, nat_eq, get_or, set, List, [], ◌∷◌, ◌++◌, length, Some, refl, sym, ap, ◌∙◌, subst, arith, length-append}
use Rattle.std.specs.Prelude.{All, Contains}
use Rattle.lfs_file.proofs.Common.{slice_get, cases_eq, cases_lt, ne_eqb, eqb-false, length-set, get_or_at, get_or_append_left, All-append, All-cons, IsDistinct-from_apart, apart_from_distinct, slice_get_within, BlockStates, IsFree, IsInFlight, in_flight_count, used_count, Free, InFlight, slice_get-set_same, slice_get-set_other, ChangesOnlyFree, TakesFreeBlocks}
use Rattle.std.specs.List.{IsDistinct}
use Rattle.lfs_model.proofs.BlockSets.{Contains-head, Contains-tail, counts_from_none_free}

-- a block is one of them, or apart from each
pub member : (bs : List ℕ) (b : ℕ) → Contains bs b ⊎ All (λ x. x ≢ b) bs
member [] b = inr (λ k x l. absurd (omega (arith, l)))
member (x ∷ bs) b = ⊎_elim
    (λ same. inl (subst (Contains (x ∷ bs)) same (Contains-head x bs)))
    (λ ne. ⊎_elim (λ has. inl (Contains-tail x b bs has)) (λ apart. inr (All-cons (λ y. y ≢ b) x bs ne apart)) (member bs b))
    (cases_eq x b)

pub takes_none : (sets : BlockStates) → TakesFreeBlocks sets sets []
unfolding IsDistinct
takes_none sets = record {
  count = refl;
  free = λ k x l. absurd (omega (arith, l));
  distinct = tt;
  taken = λ k x l. absurd (omega (arith, l));
  others = λ b apart. refl;
}

-- blocks that weren't free are as they were
pub others_stay : (old new : BlockStates) (bs : List ℕ) → TakesFreeBlocks old new bs → (b : ℕ) → ¬ (IsFree old b) → slice_get new b ≡ slice_get old b
others_stay old new bs takes b not_free = takes.others b (λ k x l e. not_free (subst (IsFree old) e (takes.free k x l)))

-- a block of these isn't a free one
not_taken : (old mid : BlockStates) (bs : List ℕ) (b : ℕ) → TakesFreeBlocks old mid bs → IsFree mid b → All (λ x. x ≢ b) bs
not_taken old mid bs b takes free k x l e =
    let flying : IsInFlight mid b = subst (IsInFlight mid) e (takes.taken k x l) in
    let both : Some Free ≡ Some InFlight = sym free ∙ flying in cc

distinct_more : (bs : List ℕ) (b : ℕ) → IsDistinct nat_eq bs → All (λ x. x ≢ b) bs → IsDistinct nat_eq (bs ++ b ∷ [])
distinct_more bs b distinct apart = IsDistinct-from_apart nat_eq (bs ++ b ∷ []) (λ i j x less l.
    let all : length (bs ++ b ∷ []) ≡ length bs + 1 = omega (arith, length-append bs (b ∷ [])) in
    let first : get_or (bs ++ b ∷ []) i x ≡ get_or bs i x = get_or_append_left bs (b ∷ []) x i (omega arith) in
    ne_eqb (get_or (bs ++ b ∷ []) i x) (get_or (bs ++ b ∷ []) j x) (λ is. ⊎_elim
    (λ low. eqb-false (get_or bs i x) (get_or bs j x) (apart_from_distinct nat_eq bs i j x distinct less low) (sym first ∙ is ∙ get_or_append_left bs (b ∷ []) x j low))
    (λ last. let here : j ≡ length bs = omega arith in apart i x (omega arith) (sym first ∙ is ∙ ap (λ k. get_or (bs ++ b ∷ []) k x) here ∙ get_or_at bs b [] x (length bs) refl))
    (cases_lt j (length bs))))

-- a block more is taken
pub takes_more : (old mid new : BlockStates) (bs : List ℕ) (b : ℕ) → TakesFreeBlocks old mid bs → IsFree mid b → new ≡ set mid b InFlight → TakesFreeBlocks old new (bs ++ b ∷ [])
takes_more old mid new bs b takes free is =
    let apart : All (λ x. x ≢ b) bs = not_taken old mid bs b takes free in
    let within = slice_get_within mid b Free free in
    let here : IsInFlight new b = ap (λ m. slice_get m b) is ∙ slice_get-set_same mid b InFlight within in
    let there : (other : ℕ) → other ≢ b → slice_get new other ≡ slice_get mid other = λ other ne. ap (λ m. slice_get m other) is ∙ slice_get-set_other mid b other InFlight ne in
    record {
      count = ap length is ∙ length-set mid b InFlight ∙ takes.count;
      free = All-append (IsFree old) bs (b ∷ []) takes.free (All-cons (IsFree old) b [] (sym (takes.others b apart) ∙ free) (λ k x l. absurd (omega (arith, l))));
      distinct = distinct_more bs b takes.distinct apart;
      taken = All-append (IsInFlight new) bs (b ∷ []) (λ k x l. there (get_or bs k x) (apart k x l) ∙ takes.taken k x l) (All-cons (IsInFlight new) b [] here (λ k x l. absurd (omega (arith, l))));
      others = λ other away.
          let ne : other ≢ b = λ e. away (length bs) 0 (omega (arith, length-append bs (b ∷ []))) (get_or_at bs b [] 0 (length bs) refl ∙ sym e) in
          there other ne ∙ takes.others other (λ k x l e. away k x (omega (arith, l, length-append bs (b ∷ []))) (get_or_append_left bs (b ∷ []) x k l ∙ e));
    }

-- some block is free where the two sets don't have all
pub some_free : (sets : BlockStates) → used_count sets + in_flight_count sets < length sets → ((b : ℕ) → ¬ (IsFree sets b)) → ⊥
some_free sets room none = absurd (omega (arith, counts_from_none_free sets none, room))

pub keeps_by : (old new : BlockStates) (bs : List ℕ) → TakesFreeBlocks old new bs → used_count new ≡ used_count old → ChangesOnlyFree old new
keeps_by old new bs takes used = record { count = takes.count; states = others_stay old new bs takes; used = used }

-- what came into flight
pub came : (old new : BlockStates) (bs : List ℕ) → TakesFreeBlocks old new bs → (b : ℕ) → IsInFlight new b → IsInFlight old b ⊎ Contains bs b
came old new bs takes b flying = ⊎_elim (λ has. inr has) (λ apart. inl (sym (takes.others b apart) ∙ flying)) (member bs b)
