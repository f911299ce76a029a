-- Extending a list in steps.
use Rattle.std.proofs.Common.{ℕ, ◌≡◌, ◌+◌, ◌⊎◌, inl, inr, ⊎_elim, get_or, List, ◌++◌, length, take, drop, Option, Some, None, refl, sym, ap, ◌∙◌, subst, arith, append_assoc, length-drop}
use Rattle.std.specs.Prelude.{All, Contains}
use Rattle.lfs_file.proofs.Common.{slice_get, take_all, take_at, take-append-drop, drop-append-add, All-append, Contains-append_left, Blocks, BlockState, BlockStates, IsFree, IsInFlight, Free, InFlight, Used, CallEvent, LossLeavesAtWorst, HoldsAtLosses, goes_on_by, AllCallsSince-weaker, GrowingList, lasting_blocks, GrowsInFree, IsTakenNotPending, KeepsTakenBytes, TakenStayUnprogrammed, ChangesOnlyFree}

-- whether a block is free
pub cases_free : (sets : BlockStates) (b : ℕ) → IsFree sets b ⊎ (¬ (IsFree sets b))
cases_free sets b = go (slice_get sets b) refl
  where
    go : (s : Option BlockState) → slice_get sets b ≡ s → IsFree sets b ⊎ (¬ (IsFree sets b))
    go None is = inr (λ e. cc)
    go (Some Free) is = inl is
    go (Some InFlight) is = inr (λ e. cc)
    go (Some Used) is = inr (λ e. cc)

pub cases_in_flight : (sets : BlockStates) (b : ℕ) → IsInFlight sets b ⊎ (¬ (IsInFlight sets b))
cases_in_flight sets b = go (slice_get sets b) refl
  where
    go : (s : Option BlockState) → slice_get sets b ≡ s → IsInFlight sets b ⊎ (¬ (IsInFlight sets b))
    go None is = inr (λ e. cc)
    go (Some Free) is = inr (λ e. cc)
    go (Some InFlight) is = inl is
    go (Some Used) is = inr (λ e. cc)

pub Keeps-refl : (sets : BlockStates) → ChangesOnlyFree sets sets
Keeps-refl sets = record { count = refl; states = λ b nf. refl; used = refl }

pub Keeps-trans : {a b c : BlockStates} → ChangesOnlyFree a b → ChangesOnlyFree b c → ChangesOnlyFree a c
Keeps-trans {a} {b} {c} first second = record {
  count = second.count ∙ first.count;
  states = λ k nf. second.states k (λ free. nf (sym (first.states k nf) ∙ free)) ∙ first.states k nf;
  used = second.used ∙ first.used;
}

-- a block that became free was so before
pub free_before : (a b : BlockStates) (k : ℕ) → ChangesOnlyFree a b → IsFree b k → IsFree a k
free_before a b k keeps free = ⊎_elim (λ was. was) (λ nf. absurd (nf (sym (keeps.states k nf) ∙ free))) (cases_free a k)

pub Spares-refl : (map : BlockStates) (pending : List ℕ) (d : Blocks) → KeepsTakenBytes map pending d d
Spares-refl map pending d = record { count = refl; sizes = λ b. refl; same = λ b apart. refl }

pub Spares-trans : (map later : BlockStates) (pending then : List ℕ) (a b c : Blocks) → ((k : ℕ) → IsTakenNotPending map pending k → IsTakenNotPending later then k) → KeepsTakenBytes map pending a b → KeepsTakenBytes later then b c → KeepsTakenBytes map pending a c
Spares-trans map later pending then a b c apart first second = record {
  count = second.count ∙ first.count;
  sizes = λ k. second.sizes k ∙ first.sizes k;
  same = λ k here. second.same k (apart k here) ∙ first.same k here;
}

pub TakenStayUnprogrammed-trans : (map later : BlockStates) (pending then : List ℕ) (a b c : List CallEvent) → ((k : ℕ) → IsTakenNotPending map pending k → IsTakenNotPending later then k) → TakenStayUnprogrammed map pending a b → TakenStayUnprogrammed later then b c → TakenStayUnprogrammed map pending a c
TakenStayUnprogrammed-trans map later pending then a b c apart first second = record { stays = λ k i here was. second.stays k i (apart k here) (first.stays k i here was) }

-- a stop in either of two stretches
pub stops_trans : (map later : BlockStates) (pending then : List ℕ) (from to : Blocks) (a b c : List CallEvent) → ((k : ℕ) → IsTakenNotPending map pending k → IsTakenNotPending later then k)
    → HoldsAtLosses LossLeavesAtWorst a b (KeepsTakenBytes map pending from) → KeepsTakenBytes map pending from to → HoldsAtLosses LossLeavesAtWorst b c (KeepsTakenBytes later then to) → HoldsAtLosses LossLeavesAtWorst a c (KeepsTakenBytes map pending from)
stops_trans map later pending then from to a b c apart first between second =
    goes_on_by first (AllCallsSince-weaker (λ e all left stop. Spares-trans map later pending then from to left apart between (all left stop)) second)

-- ---- a list that grows

pub GrowsInFree-refl : (map : BlockStates) (d : Blocks) (g : GrowingList) → GrowsInFree map d g map d g
GrowsInFree-refl map d g = record {
  apart = λ b here. here;
  flying = λ b is. inl is;
  front = take_all (length (lasting_blocks d g)) (lasting_blocks d g) (omega arith);
  fresh = λ k x l. absurd (omega (arith, l, length-drop (length (lasting_blocks d g)) (lasting_blocks d g)));
  count = refl;
}

-- what a list has longer ones have
pub in_longer : (front all : List ℕ) (b : ℕ) → take (length front) all ≡ front → Contains front b → Contains all b
in_longer front all b is has =
    subst (λ (l : List ℕ). Contains l b) (take-append-drop (length front) all) (Contains-append_left (take (length front) all) (drop (length front) all) b (subst (λ (l : List ℕ). Contains l b) (sym is) has))

pub split : (front all : List ℕ) → take (length front) all ≡ front → all ≡ front ++ drop (length front) all
split front all is = sym (take-append-drop (length front) all) ∙ ap (λ (l : List ℕ). l ++ drop (length front) all) is

drop_front : (front rest : List ℕ) → drop (length front) (front ++ rest) ≡ rest
drop_front front rest = ap (λ n. drop n (front ++ rest)) (let z : length front ≡ length front + 0 = omega arith in z) ∙ drop-append-add front rest 0

pub GrowsInFree-trans : (a b c : BlockStates) (d e f : Blocks) (g h i : GrowingList) → ChangesOnlyFree a b → GrowsInFree a d g b e h → GrowsInFree b e h c f i → GrowsInFree a d g c f i
GrowsInFree-trans a b c d e f g h i keeps first second =
    let x : List ℕ = lasting_blocks d g in
    let y : List ℕ = lasting_blocks e h in
    let z : List ℕ = lasting_blocks f i in
    let all : z ≡ x ++ (drop (length x) y ++ drop (length y) z) =
    split y z second.front ∙ ap (λ (l : List ℕ). l ++ drop (length y) z) (split x y first.front) ∙ append_assoc x (drop (length x) y) (drop (length y) z) in
    record {
      apart = λ k here. second.apart k (first.apart k here);
      flying = λ k is. ⊎_elim (λ was. ⊎_elim (λ long. inl long) (λ has. inr (in_longer y z k second.front has)) (first.flying k was)) (λ has. inr has) (second.flying k is);
      front = ap (take (length x)) all ∙ take_at x (drop (length x) y ++ drop (length y) z) (length x) refl;
      fresh = subst (All (IsFree a)) (sym (ap (drop (length x)) all ∙ drop_front x (drop (length x) y ++ drop (length y) z)))
          (All-append (IsFree a) (drop (length x) y) (drop (length y) z) first.fresh (λ k v l. free_before a b (get_or (drop (length y) z) k v) keeps (second.fresh k v l)));
      count = omega (arith, first.count, second.count);
    }
