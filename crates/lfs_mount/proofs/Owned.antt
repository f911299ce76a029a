-- Blocks can be marked one by one exactly if no block is owned twice.
use Rattle.std.proofs.Common.{Bool, true, false, cond, eqb-true, ℕ, zero, suc, ◌≡◌, ◌≤◌, ◌+◌, ◌<◌, ⊎_elim, inl, inr, List, [], ◌∷◌, ◌++◌, length, set, Some, refl, sym, ap, subst, ◌∙◌, arith, slice_get, nat_eq, append_assoc, append-nil}
use Rattle.std.specs.Prelude.{All, Contains}
use Rattle.std.specs.List.{IsDistinct}
use Rattle.lfs_mount.proofs.Common.{cases_eq, get_or-set_same, get_or-set_other, length-set, All-head, All-tail, same_Some, slice_get_within, slice_get-get_or, get_or_from_slice_get, AreInFlight, AreUsed, BlockState, BlockStates, IsFree, Free, InFlight, Used, Contains-occurrence_count, occurrence_count-Contains, occurrence_count, count_append, count_here, MapUsesBlocks, MarksFreeBlocksUsed, FirstNonFreeBlockIs, HasExactlyUsedBlocks}
use Rattle.lfs_model.specs.layers.BlockSets.{IsUsedBlock}
use Rattle.lfs_mount.proofs.ReadCounts.{marks_length}
use Rattle.lfs_mount.proofs.Found.{get_left, get_right, Part, left, right, part}
use Rattle.lfs_mount.proofs.Searches.{place_once, distinct_by_places}

one_owned : (sets : BlockStates) (bs : List ℕ) (b : ℕ) → HasExactlyUsedBlocks sets bs → IsFree sets b → HasExactlyUsedBlocks (set sets b Used) (bs ++ b ∷ [])
one_owned sets bs b h free = record {
  distinct = distinct_by_places (bs ++ b ∷ []) (λ i m x e f. once i m x (part bs (b ∷ []) i x e) (part bs (b ∷ []) m x f));
  used = λ i x e. each i x (part bs (b ∷ []) i x e);
  free = λ x within none. ⊎_elim
      (λ is. absurd (none (length bs + 0) (get_right bs (b ∷ []) 0 x (ap (λ (y : ℕ). Some y) (sym is)))))
      (λ ne. stays x Free ne (h.free x (omega (arith, within, length-set sets b Used)) (λ i e. none i (get_left bs (b ∷ []) i x e))))
      (cases_eq x b);
}
  where
    lt : b < length sets
    lt = slice_get_within sets b Free free

    here : slice_get (set sets b Used) b ≡ Some Used
    here = slice_get-get_or (set sets b Used) b Free (omega (arith, lt, length-set sets b Used)) ∙ ap (λ (y : BlockState). Some y) (get_or-set_same sets b Used Free lt)

    stays : (x : ℕ) (s : BlockState) → (x ≡ b → ⊥) → slice_get sets x ≡ Some s → slice_get (set sets b Used) x ≡ Some s
    stays x s ne e = slice_get-get_or (set sets b Used) x Free (omega (arith, slice_get_within sets x s e, length-set sets b Used))
        ∙ ap (λ (y : BlockState). Some y) (get_or-set_other sets b x Used Free ne ∙ get_or_from_slice_get sets x s Free e)

    fresh : (i : ℕ) → slice_get bs i ≡ Some b → ⊥
    fresh i e = absurd (let clash : Some Free ≡ Some Used = sym free ∙ h.used i b e in cc)

    last : (j x : ℕ) → slice_get (b ∷ []) j ≡ Some x → (j ≡ 0) × (x ≡ b)
    last zero x e = (refl, sym (same_Some b x e))
    last (suc j) x e = absurd (cc)

    once : (i m x : ℕ) → Part bs (b ∷ []) i x → Part bs (b ∷ []) m x → i ≡ m
    once i m x (left e) (left f) = place_once bs h.distinct i m x e f
    once i m x (left e) (right j p f) = absurd (fresh i (e ∙ ap (λ (y : ℕ). Some y) (last j x f).1))
    once i m x (right j p f) (left e) = absurd (fresh m (e ∙ ap (λ (y : ℕ). Some y) (last j x f).1))
    once i m x (right j p e) (right k q f) = let a = (last j x e).0 in let c = (last k x f).0 in omega arith

    each : (i x : ℕ) → Part bs (b ∷ []) i x → slice_get (set sets b Used) x ≡ Some Used
    each i x (left e) = ⊎_elim (λ is. subst (λ w. slice_get (set sets b Used) w ≡ Some Used) (sym is) here) (λ ne. stays x Used ne (h.used i x e)) (cases_eq x b)
    each i x (right j p e) = subst (λ w. slice_get (set sets b Used) w ≡ Some Used) (sym (last j x e).1) here

-- blocks that were marked are owned, and none of them twice
pub owned_more : (sets : BlockStates) (bs more : List ℕ) (new : BlockStates) → HasExactlyUsedBlocks sets bs → MarksFreeBlocksUsed sets more new → HasExactlyUsedBlocks new (bs ++ more)
owned_more sets bs [] new h e = subst (λ xs. HasExactlyUsedBlocks new xs) (sym (append-nil bs)) (subst (λ (s : BlockStates). HasExactlyUsedBlocks s bs) e h)
owned_more sets bs (b ∷ more) new h (free, marks) = subst (λ xs. HasExactlyUsedBlocks new xs) (append_assoc bs (b ∷ []) more) (owned_more (set sets b Used) (bs ++ b ∷ []) more new (one_owned sets bs b h free) marks)

not_owned : (bs : List ℕ) (b : ℕ) (more : List ℕ) → IsDistinct nat_eq (bs ++ b ∷ more) → (i : ℕ) → slice_get bs i ≡ Some b → ⊥
not_owned bs b more distinct i e =
    let same = place_once (bs ++ b ∷ more) distinct i (length bs + 0) b (get_left bs (b ∷ more) i b e) (get_right bs (b ∷ more) 0 b refl) in
    let lt = slice_get_within bs i b e in
    absurd (omega arith)

-- and blocks that no one owns can be marked
pub can_mark : (sets : BlockStates) (bs more : List ℕ) → HasExactlyUsedBlocks sets bs → All (λ b. b < length sets) more → IsDistinct nat_eq (bs ++ more) → (new : BlockStates) × MarksFreeBlocksUsed sets more new
can_mark sets bs [] h within distinct = (sets, refl)
can_mark sets bs (b ∷ more) h within distinct =
    let apart : (i : ℕ) → slice_get bs i ≡ Some b → ⊥ = not_owned bs b more distinct in
    let free = h.free b (All-head (λ x. x < length sets) b more within) apart in
    let rest = can_mark (set sets b Used) (bs ++ b ∷ []) more (one_owned sets bs b h free)
    (subst (λ n. All (λ x. x < n) more) (sym (length-set sets b Used)) (All-tail (λ x. x < length sets) b more within))
    (subst (IsDistinct nat_eq) (sym (append_assoc bs (b ∷ []) more)) distinct) in
    (rest.0, (free, rest.1))

-- ---- which blocks a map has

pub counted_place : (b : ℕ) (bs : List ℕ) → 1 ≤ occurrence_count b bs → (i : ℕ) × (slice_get bs i ≡ Some b)
counted_place b [] some = absurd (omega arith)
counted_place b (x ∷ bs) some = go (nat_eq b x) refl some (counted_place b bs)
  where
    go : (t : Bool) → nat_eq b x ≡ t → 1 ≤ cond t 1 0 + occurrence_count b bs → (1 ≤ occurrence_count b bs → (i : ℕ) × (slice_get bs i ≡ Some b)) → (i : ℕ) × (slice_get (x ∷ bs) i ≡ Some b)
    go true e k next = (0, ap (λ (y : ℕ). Some y) (sym (eqb-true b x e)))
    go false e k next = let i = next (omega arith) in (suc i.0, i.1)

pub placed_count : (b : ℕ) (bs : List ℕ) (i : ℕ) → slice_get bs i ≡ Some b → 1 ≤ occurrence_count b bs
placed_count b [] i e = absurd (cc)
placed_count b (x ∷ bs) zero e = let h = count_here b bs in subst (λ (y : ℕ). 1 ≤ occurrence_count b (y ∷ bs)) (sym (same_Some x b e)) (omega arith)
placed_count b (x ∷ bs) (suc i) e = let h = placed_count b bs i e in omega arith

module _ (sets : BlockStates) (bs cs : List ℕ) (owns : HasExactlyUsedBlocks sets bs) (same : (b : ℕ) → occurrence_count b cs ≡ occurrence_count b bs) where
  used_if : (b : ℕ) → Contains cs b → IsUsedBlock sets b
  used_if b c = let i = counted_place b bs (let k = occurrence_count-Contains cs b c in let e = same b in omega arith) in owns.used i.0 b i.1

  free_if : (b : ℕ) → b < length sets → occurrence_count b bs ≡ 0 → IsFree sets b
  free_if b within none = owns.free b within (λ i e. absurd (let h = placed_count b bs i e in omega arith))

  in_list : (b : ℕ) (s : BlockState) → slice_get sets b ≡ Some s → (s ≡ Free → ⊥) → 1 ≤ occurrence_count b bs
  in_list b s e taken = go (occurrence_count b bs) refl
    where
      go : (n : ℕ) → occurrence_count b bs ≡ n → 1 ≤ n
      go zero k = absurd (taken (same_Some s Free (sym e ∙ free_if b (slice_get_within sets b s e) k)))
      go (suc n) k = omega arith

  pub are_used : AreUsed sets cs
  are_used b = (λ u. Contains-occurrence_count cs b (let k = in_list b Used u (λ e. absurd (cc)) in let e = same b in omega arith), used_if b)

  pub none_flies : AreInFlight sets []
  none_flies b = (
    λ flies. absurd (
        let i = counted_place b bs (in_list b InFlight flies (λ e. absurd (cc))) in
        let clash : Some InFlight ≡ Some Used = sym flies ∙ owns.used i.0 b i.1 in cc),
    λ (none : Contains [] b). absurd (let below : none.0 < 0 = none.1 in omega arith),
  )

-- the blocks that were there and those that were marked, in any order
pub has_only : (old new : BlockStates) (bs more cs : List ℕ) → HasExactlyUsedBlocks old bs → MarksFreeBlocksUsed old more new → ((b : ℕ) → occurrence_count b cs ≡ occurrence_count b (bs ++ more)) → MapUsesBlocks old new cs
has_only old new bs more cs owns marks same =
    let all = owned_more old bs more new owns marks in
    record { len = marks_length more old new marks; used = are_used new (bs ++ more) cs all same; none_in_flight = none_flies new (bs ++ more) cs all same }

-- ---- a block that was marked before

pub meets_behind : (xs ys : List ℕ) (old mid : BlockStates) (block : ℕ) → MarksFreeBlocksUsed old xs mid → FirstNonFreeBlockIs mid ys block → FirstNonFreeBlockIs old (xs ++ ys) block
meets_behind [] ys old mid block e h = subst (λ (s : BlockStates). FirstNonFreeBlockIs s ys block) (sym e) h
meets_behind (x ∷ xs) ys old mid block (free, m) h = inr (free, meets_behind xs ys _ mid block m h)

pub meets_in : (old : BlockStates) (bs : List ℕ) (block : ℕ) → FirstNonFreeBlockIs old bs block → 1 ≤ occurrence_count block bs
meets_in old [] block h = absurd h
meets_in old (b ∷ bs) block (inl h) = placed_count block (b ∷ bs) 0 (ap (λ (y : ℕ). Some y) h.0)
meets_in old (b ∷ bs) block (inr h) = let k = meets_in _ bs block h.1 in omega arith

is_owned : (sets : BlockStates) (bs : List ℕ) (b : ℕ) → HasExactlyUsedBlocks sets bs → b < length sets → ¬ IsFree sets b → 1 ≤ occurrence_count b bs
is_owned sets bs b h within held = go (occurrence_count b bs) refl
  where
    go : (n : ℕ) → occurrence_count b bs ≡ n → 1 ≤ n
    go zero none = absurd (held (h.free b within (λ i e. absurd (let k = placed_count b bs i e in omega arith))))
    go (suc n) some = omega arith

-- It is owned, too: it is counted twice.
pub meets_twice : (sets : BlockStates) (owned bs : List ℕ) (block : ℕ) → HasExactlyUsedBlocks sets owned → block < length sets → FirstNonFreeBlockIs sets bs block
    → 2 ≤ occurrence_count block owned + occurrence_count block bs
meets_twice sets owned [] block h within m = absurd m
meets_twice sets owned (b ∷ bs) block h within (inl m) =
    let k = is_owned sets owned block h within (λ free. m.1 (subst (IsFree sets) (sym m.0) free)) in
    let here = placed_count block (b ∷ bs) 0 (ap (λ (y : ℕ). Some y) m.0) in
    omega arith
meets_twice sets owned (b ∷ bs) block h within (inr m) =
    let next = meets_twice (set sets b Used) (owned ++ b ∷ []) bs block (one_owned sets owned b h m.0) (omega (arith, within, length-set sets b Used)) m.1 in
    let apart = count_append block owned (b ∷ []) in
    let here = count_append block (b ∷ []) bs in
    omega arith

-- a number that is counted twice occurs at two list indices
pub two_places : (b : ℕ) (xs : List ℕ) → 2 ≤ occurrence_count b xs → (i j : ℕ) × ((i < j) × (slice_get xs i ≡ Some b) × (slice_get xs j ≡ Some b))
two_places b [] twice = absurd (omega arith)
two_places b (x ∷ xs) twice = go (nat_eq b x) refl twice (two_places b xs)
  where
    go : (t : Bool) → nat_eq b x ≡ t → 2 ≤ cond t 1 0 + occurrence_count b xs → (2 ≤ occurrence_count b xs → (i j : ℕ) × ((i < j) × (slice_get xs i ≡ Some b) × (slice_get xs j ≡ Some b)))
        → (i j : ℕ) × ((i < j) × (slice_get (x ∷ xs) i ≡ Some b) × (slice_get (x ∷ xs) j ≡ Some b))
    go true e k next = let p = counted_place b xs (omega arith) in (0, suc p.0, (omega arith, ap (λ (y : ℕ). Some y) (sym (eqb-true b x e)), p.1))
    go false e k next = let p = next (omega arith) in (suc p.0, suc p.1, (omega (arith, p.2.0), p.2.1, p.2.2))
