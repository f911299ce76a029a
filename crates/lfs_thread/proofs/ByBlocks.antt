-- Addresses, found by their lesser block.
use Rattle.std.proofs.Common.{◌+◌, ◌++◌, ◌≢◌, ◌≤◌, ◌<◌, ◌^◌, length, map, subst, nat_cmp, nat_eq, ℕ, zero, suc, ◌≡◌, ◌⊎◌, inl, inr, ⊎_elim, Bool, true, false, cond, ◌&&◌, ◌==◌, List, [], ◌∷◌, Option, Some, None, refl, sym, ap, ap₂, ◌∙◌, arith, slice_get, option_map, min, max, eq-eqb, eqb-true, length-append, true≢false}
use Rattle.std.proofs.lemmas.Bool.{cases_eq, cases_lt, and_parts, or_cases, or_left, or_right, and_from}
use Rattle.std.specs.Prelude.{All}
use Rattle.lfs_thread.proofs.Common.{AllByRecursion, IsDistinct, length-map, All-from_recursion, same_Some, slice_get_within, same_pair, Each, occurrence_count, count_here, once_from_distinct, distinct_from_once, FindsByLesser, blocks_of_addresses, lesser_of, address_index}
use Rattle.std.specs.Ordering.{is_eq}
use Rattle.std.proofs.lemmas.Bool.Decides.{nat_tests}
use Rattle.std.proofs.lemmas.List.Elements.{All-contains, All-map, All-push}
use Rattle.std.proofs.lemmas.Map.Steps.{length-le_from_distinct_below}
use Rattle.std.proofs.lemmas.Map.Views.{Contains-from_any}
use Rattle.std.proofs.lemmas.Option.{get_or_from_slice_get}
use Rattle.lfs_thread.specs.PairPlaces.{SameAddressAt, greater_of}

-- ---- lists

mapped : {A B : Type 0} (f : A → B) (o : Option A) (y : B) → option_map f o ≡ Some y → (x : A) × (o ≡ Some x) × (f x ≡ y)
mapped f None y e = absurd (cc)
mapped f (Some x) y e = (x, refl, same_Some (f x) y e)

still_there : {X : Type 0} (xs ys : List X) (i : ℕ) (x : X) → slice_get xs i ≡ Some x → slice_get (xs ++ ys) i ≡ Some x
still_there [] ys i x e = absurd (cc)
still_there (a ∷ xs) ys zero x e = e
still_there (a ∷ xs) ys (suc i) x e = still_there xs ys i x e

last_there : {X : Type 0} (xs : List X) (y : X) → slice_get (xs ++ y ∷ []) (length xs) ≡ Some y
last_there [] y = refl
last_there (a ∷ xs) y = last_there xs y

-- the elements of a list with one more at its end
was_or_last : {X : Type 0} (xs : List X) (y : X) (i : ℕ) (x : X) → slice_get (xs ++ y ∷ []) i ≡ Some x → (slice_get xs i ≡ Some x) ⊎ ((i ≡ length xs) × (y ≡ x))
was_or_last [] y zero x e = inr (refl, same_Some y x e)
was_or_last [] y (suc i) x e = absurd (cc)
was_or_last (a ∷ xs) y zero x e = inl e
was_or_last (a ∷ xs) y (suc i) x e = ⊎_elim (λ was. inl was) (λ last. inr (ap suc last.0, last.1)) (was_or_last xs y i x e)

-- ---- the list index of an address

-- two blocks in either order are the lesser and the greater one
pub sorted_from_same : (a b : ℕ × ℕ) → same_pair a b ≡ true → (lesser_of a ≡ lesser_of b) × (greater_of a ≡ greater_of b)
sorted_from_same a b e = ⊎_elim
    (λ f. let both = and_parts (a.0 == b.0) (a.1 == b.1) f in
    let x = eqb-true a.0 b.0 both.0 in let y = eqb-true a.1 b.1 both.1 in (ap₂ min x y, ap₂ max x y))
    (λ f. let both = and_parts (a.0 == b.1) (a.1 == b.0) f in
    let x = eqb-true a.0 b.1 both.0 in let y = eqb-true a.1 b.0 both.1 in (omega arith, omega arith))
    (or_cases (a.0 == b.0 && a.1 == b.1) (a.0 == b.1 && a.1 == b.0) e)

cases_same : (a b : ℕ × ℕ) → lesser_of a ≡ lesser_of b → greater_of a ≡ greater_of b → ((a.0 ≡ b.0) × (a.1 ≡ b.1)) ⊎ ((a.0 ≡ b.1) × (a.1 ≡ b.0))
cases_same a b l g = go (cases_eq a.0 b.0)
  where
    go : (a.0 ≡ b.0) ⊎ (a.0 ≡ b.0 → ⊥) → ((a.0 ≡ b.0) × (a.1 ≡ b.1)) ⊎ ((a.0 ≡ b.1) × (a.1 ≡ b.0))
    go (inl e) = inl (e, omega arith)
    go (inr ne) = inr (omega arith, omega arith)

pub same_from_sorted : (a b : ℕ × ℕ) → lesser_of a ≡ lesser_of b → greater_of a ≡ greater_of b → same_pair a b ≡ true
same_from_sorted a b l g = ⊎_elim
    (λ w. or_left _ _ (and_from _ _ (eq-eqb a.0 b.0 w.0) (eq-eqb a.1 b.1 w.1)))
    (λ w. or_right _ _ (and_from _ _ (eq-eqb a.0 b.1 w.0) (eq-eqb a.1 b.0 w.1)))
    (cases_same a b l g)

-- the address at a list index
pub place_some : (addresses : List (ℕ × ℕ)) (at : ℕ × ℕ) (i : ℕ) → address_index addresses at ≡ Some i → SameAddressAt addresses at i
place_some [] at i e = absurd (cc)
place_some (a ∷ addresses) at i e = go (same_pair a at) refl e (place_some addresses at)
  where
    go : (b : Bool) → same_pair a at ≡ b → cond b (Some 0) (option_map (λ k. suc k) (address_index addresses at)) ≡ Some i
        → ((k : ℕ) → address_index addresses at ≡ Some k → SameAddressAt addresses at k) → SameAddressAt (a ∷ addresses) at i
    go true s f next = record { address = a; there = ap (slice_get (a ∷ addresses)) (sym (same_Some 0 i f)); same = s }
    go false s f next =
        let m = mapped (λ (k : ℕ). suc k) (address_index addresses at) i f in
        let p = next m.0 m.1 in
        record { address = p.address; there = ap (slice_get (a ∷ addresses)) (sym m.2) ∙ p.there; same = p.same }

-- an address without a list index isn't in the list
pub place_none : (addresses : List (ℕ × ℕ)) (at : ℕ × ℕ) → address_index addresses at ≡ None → AllByRecursion (λ a. same_pair a at ≡ false) addresses
place_none [] at e = tt
place_none (a ∷ addresses) at e = go (same_pair a at) refl e (place_none addresses at)
  where
    unmapped : (o : Option ℕ) → option_map (λ k. suc k) o ≡ None → o ≡ None
    unmapped None h = refl
    unmapped (Some k) h = absurd (cc)

    go : (t : Bool) → same_pair a at ≡ t → cond t (Some 0) (option_map (λ k. suc k) (address_index addresses at)) ≡ None → (address_index addresses at ≡ None → AllByRecursion (λ b. same_pair b at ≡ false) addresses)
        → (same_pair a at ≡ false) × AllByRecursion (λ b. same_pair b at ≡ false) addresses
    go true h g next = absurd (cc)
    go false h g next = (h, next (unmapped (address_index addresses at) g))

none_stands : (addresses : List (ℕ × ℕ)) (at : ℕ × ℕ) (i : ℕ) (a : ℕ × ℕ) → AllByRecursion (λ b. same_pair b at ≡ false) addresses → slice_get addresses i ≡ Some a → same_pair a at ≡ true → ⊥
none_stands [] at i a all f s = absurd (cc)
none_stands (b ∷ addresses) at zero a all f s = true≢false (sym s ∙ ap (λ (c : ℕ × ℕ). same_pair c at) (sym (same_Some b a f)) ∙ all.0)
none_stands (b ∷ addresses) at (suc i) a all f s = none_stands addresses at i a all.1 f s

module _ (addresses : List (ℕ × ℕ)) (place : ℕ → Option ℕ) (by : FindsByLesser addresses place) (at : ℕ × ℕ) where
  pub found_place : (i : ℕ) (a : ℕ × ℕ) → place (lesser_of at) ≡ Some i → slice_get addresses i ≡ Some a → greater_of a ≡ greater_of at → address_index addresses at ≡ Some i
  found_place i a e f g = go (address_index addresses at) refl
    where
      same : same_pair a at ≡ true
      same = same_from_sorted a at (same_Some (lesser_of a) (lesser_of at) (ap (option_map lesser_of) (sym f) ∙ by.only (lesser_of at) i e)) g

      go : (o : Option ℕ) → address_index addresses at ≡ o → o ≡ Some i
      go None h = absurd (none_stands addresses at i a (place_none addresses at h) f same)
      go (Some j) h =
          let c = place_some addresses at j h in
          sym (by.each j c.address c.there) ∙ ap place (sorted_from_same c.address at c.same).0 ∙ e

  pub other_place : (i : ℕ) (a : ℕ × ℕ) → place (lesser_of at) ≡ Some i → slice_get addresses i ≡ Some a → (greater_of a ≡ greater_of at → ⊥) → address_index addresses at ≡ None
  other_place i a e f ne = go (address_index addresses at) refl
    where
      go : (o : Option ℕ) → address_index addresses at ≡ o → o ≡ None
      go None h = refl
      go (Some j) h =
          let c = place_some addresses at j h in
          let s = sorted_from_same c.address at c.same in
          let ji : j ≡ i = same_Some j i (sym (by.each j c.address c.there) ∙ ap place s.0 ∙ e) in
          let ca : c.address ≡ a = same_Some c.address a (sym c.there ∙ ap (slice_get addresses) ji ∙ f) in
          absurd (ne (ap greater_of (sym ca) ∙ s.1))

  pub no_place : place (lesser_of at) ≡ None → address_index addresses at ≡ None
  no_place e = go (address_index addresses at) refl
    where
      go : (o : Option ℕ) → address_index addresses at ≡ o → o ≡ None
      go None h = refl
      go (Some j) h =
          let c = place_some addresses at j h in
          absurd (let clash : Some j ≡ None = sym (by.each j c.address c.there) ∙ ap place (sorted_from_same c.address at c.same).0 ∙ e in cc)

  -- the list index is within the list
  pub place_within : (i : ℕ) → place (lesser_of at) ≡ Some i → (a : ℕ × ℕ) × (slice_get addresses i ≡ Some a)
  place_within i e = let m = mapped lesser_of (slice_get addresses i) (lesser_of at) (by.only (lesser_of at) i e) in (m.0, m.1)

-- ---- one more address

equal_keys : (a b : ℕ) → a ≡ b → is_eq (nat_cmp a b) ≡ true
equal_keys a b same = grind (arith, nat_tests)

other_keys : (a b : ℕ) → (a ≡ b → ⊥) → is_eq (nat_cmp a b) ≡ false
other_keys a b differ = grind (arith, nat_tests)

-- a key's value is set, and the others stay
abbrev pub put_at : (ℕ → Option ℕ) → ℕ → ℕ → ℕ → Option ℕ
put_at place key value q = cond (is_eq (nat_cmp key q)) (Some value) (place q)

one_of_two : (b x y : ℕ) → cond (nat_eq b (min x y)) 1 0 ≤ cond (nat_eq b x) 1 0 + cond (nat_eq b y) 1 0
one_of_two b x y = ⊎_elim
    (λ (l : x < y). let e : min x y ≡ x = omega arith in subst (λ (n : ℕ). cond (nat_eq b n) 1 0 ≤ cond (nat_eq b x) 1 0 + cond (nat_eq b y) 1 0) (sym e) (omega arith))
    (λ (l : y ≤ x). let e : min x y ≡ y = omega arith in subst (λ (n : ℕ). cond (nat_eq b n) 1 0 ≤ cond (nat_eq b x) 1 0 + cond (nat_eq b y) 1 0) (sym e) (omega arith))
    (cases_lt x y)

lesser_count : (b : ℕ) (addresses : List (ℕ × ℕ)) → occurrence_count b (map lesser_of addresses) ≤ occurrence_count b (blocks_of_addresses addresses)
lesser_count b [] = omega arith
lesser_count b (a ∷ addresses) = let n = lesser_count b addresses in let o = one_of_two b a.0 a.1 in omega arith

-- pairs that have no block in common have lesser blocks of their own
lesser_once : (addresses : List (ℕ × ℕ)) → IsDistinct nat_eq (blocks_of_addresses addresses) → (b : ℕ) → occurrence_count b (map lesser_of addresses) ≤ 1
lesser_once addresses distinct b = let n = lesser_count b addresses in let o = once_from_distinct (blocks_of_addresses addresses) distinct b in omega arith

apart_from : (n : ℕ) (xs : List (ℕ × ℕ)) (at : ℕ × ℕ) → occurrence_count n (map lesser_of (xs ++ at ∷ [])) ≡ 0 → n ≢ lesser_of at
apart_from n [] at e = λ is. let h = count_here n [] in let k = subst (λ (m : ℕ). occurrence_count n (m ∷ []) ≡ 0) (sym is) e in absurd (omega arith)
apart_from n (x ∷ xs) at e = apart_from n xs at (omega arith)

apart_each : (xs : List (ℕ × ℕ)) (at : ℕ × ℕ) → ((b : ℕ) → occurrence_count b (map lesser_of (xs ++ at ∷ [])) ≤ 1) → Each (λ x. lesser_of x ≢ lesser_of at) xs
apart_each [] at once = tt
apart_each (x ∷ xs) at once = (
  apart_from (lesser_of x) xs at (let o = once (lesser_of x) in let h = count_here (lesser_of x) (map lesser_of (xs ++ at ∷ [])) in omega arith),
  apart_each xs at (λ b. let o = once b in omega arith),
)

-- so their number has 32 bits
pub few_places : (addresses : List (ℕ × ℕ)) (at : ℕ × ℕ) → IsDistinct nat_eq (blocks_of_addresses (addresses ++ at ∷ [])) → All (λ a. lesser_of a < 2 ^ 32) addresses → lesser_of at < 2 ^ 32 → length addresses < 2 ^ 32
few_places addresses at distinct small here =
    let all : List (ℕ × ℕ) = addresses ++ at ∷ [] in
    let each : All (λ b. b < 2 ^ 32) (map lesser_of all) = All-map (λ b. b < 2 ^ 32) lesser_of all (All-push (λ a. lesser_of a < 2 ^ 32) addresses at small here) in
    let most : length (map lesser_of all) ≤ 2 ^ 32 = length-le_from_distinct_below (map lesser_of all) (2 ^ 32) (distinct_from_once (map lesser_of all) (lesser_once all distinct))
    (λ q e. All-contains (λ b. b < 2 ^ 32) (map lesser_of all) q each (Contains-from_any (λ x y same. eqb-true x y same) q (map lesser_of all) e)) in
    let same = length-map all lesser_of in
    let more = length-append addresses (at ∷ []) in
    omega arith

module _ (addresses : List (ℕ × ℕ)) (place new : ℕ → Option ℕ) (by : FindsByLesser addresses place) (at : ℕ × ℕ) (distinct : IsDistinct nat_eq (blocks_of_addresses (addresses ++ at ∷ []))) (here : lesser_of at < 2 ^ 32)
    (put : (q : ℕ) → new q ≡ put_at place (lesser_of at) (length addresses) q) where
  apart : All (λ a. lesser_of a ≢ lesser_of at) addresses
  apart = All-from_recursion (λ a. lesser_of a ≢ lesser_of at) addresses (apart_each addresses at (lesser_once (addresses ++ at ∷ []) distinct))

  put_here : (q : ℕ) → lesser_of at ≡ q → new q ≡ Some (length addresses)
  put_here q e = put q ∙ ap (λ b. cond b (Some (length addresses)) (place q)) (equal_keys (lesser_of at) q e)

  put_other : (q : ℕ) → (lesser_of at ≡ q → ⊥) → new q ≡ place q
  put_other q ne = put q ∙ ap (λ b. cond b (Some (length addresses)) (place q)) (other_keys (lesser_of at) q ne)

  differs : (i : ℕ) (a : ℕ × ℕ) → slice_get addresses i ≡ Some a → lesser_of at ≡ lesser_of a → ⊥
  differs i a e same = subst (λ (x : ℕ × ℕ). lesser_of x ≢ lesser_of at) (get_or_from_slice_get addresses i a a e) (apart i a (slice_get_within addresses i a e)) (sym same)

  each : (i : ℕ) (a : ℕ × ℕ) → (slice_get addresses i ≡ Some a) ⊎ ((i ≡ length addresses) × (at ≡ a)) → new (lesser_of a) ≡ Some i
  each i a (inl e) = put_other (lesser_of a) (differs i a e) ∙ by.each i a e
  each i a (inr last) = put_here (lesser_of a) (ap lesser_of last.1) ∙ ap Some (sym last.0)

  only : (b i : ℕ) → new b ≡ Some i → (lesser_of at ≡ b) ⊎ (lesser_of at ≡ b → ⊥) → option_map lesser_of (slice_get (addresses ++ at ∷ []) i) ≡ Some b
  only b i e (inl same) =
      let n : length addresses ≡ i = same_Some (length addresses) i (sym (put_here b same) ∙ e) in
      ap (λ k. option_map lesser_of (slice_get (addresses ++ at ∷ []) k)) (sym n) ∙ ap (option_map lesser_of) (last_there addresses at) ∙ ap Some same
  only b i e (inr ne) =
      let m = mapped lesser_of (slice_get addresses i) b (by.only b i (sym (put_other b ne) ∙ e)) in
      ap (option_map lesser_of) (still_there addresses (at ∷ []) i m.0 m.1) ∙ ap Some m.2

  pub one_more_place : FindsByLesser (addresses ++ at ∷ []) new
  one_more_place = record {
    each = λ i a e. each i a (was_or_last addresses at i a e);
    only = λ b i e. only b i e (cases_eq (lesser_of at) b);
    small = All-push (λ a. lesser_of a < 2 ^ 32) addresses at by.small here;
  }
