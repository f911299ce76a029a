-- Blocks that are added to the thread.
use Rattle.std.proofs.Common.{ℕ, ◌≡◌, ◌≢◌, ◌+◌, ◌≤◌, Bool, true, false, cond, nat_eq, List, [], ◌∷◌, length, Option, Some, None, refl, sym, ap, subst, ◌∙◌, arith, set, slice_get, eqb-true}
use Rattle.std.specs.Prelude.{IfNone, IfSome}
use Rattle.lfs_thread.proofs.Common.{ne_eqb, slice_get_within, length-set, BlockStates, Free, InFlight, Used, IsFree, IsInFlight, IsUsedBlock, Disk, CallEvent, slice_get-set_same, slice_get-set_other, occurrence_count, count_here, IsPairAddress, pairs_blocks, PairHeader, AllBlocksUsed, IsKeptOnDisk, header_pairs, FreshInFlight, map_using}
use Rattle.lfs_model.specs.layers.BlockSets.{BlockState}

-- ---- blocks that aren't used are in no pair

pub count_other : (x b : ℕ) (bs : List ℕ) → x ≢ b → occurrence_count x (b ∷ bs) ≡ occurrence_count x bs
count_other x b bs apart = let e : 0 + occurrence_count x bs ≡ occurrence_count x bs = omega arith in ap (λ t. cond t 1 0 + occurrence_count x bs) (ne_eqb x b apart) ∙ e

pub unused_counts : (sets : BlockStates) (x : ℕ) (bs : List ℕ) → ¬ IsUsedBlock sets x → AllBlocksUsed sets bs → occurrence_count x bs ≡ 0
unused_counts sets x [] unused used = refl
unused_counts sets x (b ∷ bs) unused used = count_other x b bs (λ e. unused (subst (IsUsedBlock sets) (sym e) used.0)) ∙ unused_counts sets x bs unused used.1

pub used_at : (sets : BlockStates) (b : ℕ) (bs : List ℕ) → AllBlocksUsed sets bs → 1 ≤ occurrence_count b bs → IsUsedBlock sets b
used_at sets b [] used k = absurd (omega (arith, k))
used_at sets b (x ∷ bs) used k = go (nat_eq b x) refl k (used_at sets b bs used.1)
  where
    go : (t : Bool) → nat_eq b x ≡ t → 1 ≤ cond t 1 0 + occurrence_count b bs → (1 ≤ occurrence_count b bs → IsUsedBlock sets b) → IsUsedBlock sets b
    go true e k next = subst (IsUsedBlock sets) (sym (eqb-true b x e)) used.0
    go false e k next = next (omega (arith, k))

pub two_unused : (sets : BlockStates) (f g : ℕ) (bs : List ℕ) → ¬ IsUsedBlock sets f → ¬ IsUsedBlock sets g → f ≢ g → AllBlocksUsed sets bs → ((b : ℕ) → occurrence_count b bs ≤ 1) → (b : ℕ) → occurrence_count b (f ∷ g ∷ []) + occurrence_count b bs ≤ 1
two_unused sets f g bs ff fg apart used once b = go (nat_eq b f) refl
  where
    second : (t : Bool) → nat_eq b g ≡ t → occurrence_count b (g ∷ []) + occurrence_count b bs ≤ 1
    second true e =
        let same = eqb-true b g e in
        let none = ap (λ x. occurrence_count x bs) same ∙ unused_counts sets g bs fg used in
        let one = ap (λ x. occurrence_count x (g ∷ [])) same ∙ count_here g [] in
        omega arith
    second false e = let o = once b in let z = ap (λ t. cond t 1 0 + occurrence_count b []) e in omega arith

    go : (t : Bool) → nat_eq b f ≡ t → occurrence_count b (f ∷ g ∷ []) + occurrence_count b bs ≤ 1
    go true e =
        let same = eqb-true b f e in
        let none = ap (λ x. occurrence_count x bs) same ∙ unused_counts sets f bs ff used in
        let one = ap (λ x. occurrence_count x (f ∷ g ∷ [])) same ∙ count_here f (g ∷ []) in
        let other = count_other f g [] apart in
        omega arith
    go false e = let s = second (nat_eq b g) refl in let z = ap (λ t. cond t 1 0 + occurrence_count b (g ∷ [])) e in omega arith

pub in_flight_unused : (sets : BlockStates) (b : ℕ) → IsInFlight sets b → ¬ IsUsedBlock sets b
in_flight_unused sets b f u = absurd (let e : Some InFlight ≡ Some Used = sym f ∙ u in cc)

pub free_unused : (sets : BlockStates) (b : ℕ) → IsFree sets b → ¬ IsUsedBlock sets b
free_unused sets b f u = absurd (let e : Some Free ≡ Some Used = sym f ∙ u in cc)

-- two blocks that no pair has, which are in use now
pub record SettlesTwo (old : BlockStates) (fresh : ℕ × ℕ) (new : BlockStates) : Type 0 where
  pub first_unused : ¬ IsUsedBlock old fresh.0
  pub second_unused : ¬ IsUsedBlock old fresh.1
  pub apart : fresh.0 ≢ fresh.1
  pub first : IsUsedBlock new fresh.0
  pub second : IsUsedBlock new fresh.1
  pub others : (b : ℕ) → b ≢ fresh.0 → b ≢ fresh.1 → slice_get new b ≡ slice_get old b
  pub size : length new ≡ length old

pub settles_two : (sets : BlockStates) (fresh : ℕ × ℕ) → FreshInFlight sets fresh → SettlesTwo sets fresh (map_using sets fresh)
settles_two sets fresh t = record {
  first_unused = in_flight_unused sets fresh.0 t.first;
  second_unused = in_flight_unused sets fresh.1 t.second;
  apart = t.apart;
  first = slice_get-set_other (set sets fresh.0 Used) fresh.1 fresh.0 Used t.apart ∙ slice_get-set_same sets fresh.0 Used (slice_get_within sets fresh.0 InFlight t.first);
  second = slice_get-set_same (set sets fresh.0 Used) fresh.1 Used (let l = slice_get_within sets fresh.1 InFlight t.second in let e = length-set sets fresh.0 Used in omega arith);
  others = λ b f g. slice_get-set_other (set sets fresh.0 Used) fresh.1 b Used g ∙ slice_get-set_other sets fresh.0 b Used f;
  size = length-set (set sets fresh.0 Used) fresh.1 Used ∙ length-set sets fresh.0 Used;
}

-- the second block is still in flight once the first is settled
pub second_held : (sets : BlockStates) (fresh : ℕ × ℕ) → FreshInFlight sets fresh → IsInFlight (set sets fresh.0 Used) fresh.1
second_held sets fresh t = slice_get-set_other sets fresh.0 fresh.1 Used (λ e. t.apart (sym e)) ∙ t.second

pub used_still : (sets now : BlockStates) (fresh : ℕ × ℕ) (bs : List ℕ) → SettlesTwo sets fresh now → AllBlocksUsed sets bs → AllBlocksUsed now bs
used_still sets now fresh [] uses used = tt
used_still sets now fresh (b ∷ bs) uses used = (
  uses.others b (λ e. uses.first_unused (subst (IsUsedBlock sets) e used.0)) (λ e. uses.second_unused (subst (IsUsedBlock sets) e used.0)) ∙ used.0,
  used_still sets now fresh bs uses used.1,
)

-- two blocks in flight are an address of the disk
pub held_address : (disk : Disk) (history : List CallEvent) (hs : List PairHeader) (sets : BlockStates) (fresh : ℕ × ℕ) → IsKeptOnDisk disk history hs sets → FreshInFlight sets fresh → IsPairAddress disk fresh
held_address disk history hs sets fresh kept held = record {
  apart = held.apart;
  first = let l = slice_get_within sets fresh.0 InFlight held.first in let s = kept.size in omega arith;
  second = let l = slice_get_within sets fresh.1 InFlight held.second in let s = kept.size in omega arith;
}

-- ---- a block that isn't used changes its state

used_beside : (sets : BlockStates) (x : ℕ) (s : BlockState) (bs : List ℕ) → ¬ IsUsedBlock sets x → AllBlocksUsed sets bs → AllBlocksUsed (set sets x s) bs
used_beside sets x s [] unused used = tt
used_beside sets x s (b ∷ bs) unused used = (slice_get-set_other sets x b s (λ e. unused (subst (IsUsedBlock sets) e used.0)) ∙ used.0, used_beside sets x s bs unused used.1)

pub kept_with : (disk : Disk) (history : List CallEvent) (hs : List PairHeader) (sets now : BlockStates) (x : ℕ) (s : BlockState) → now ≡ set sets x s → ¬ IsUsedBlock sets x → IsKeptOnDisk disk history hs sets → IsKeptOnDisk disk history hs now
kept_with disk history hs sets now x s is unused kept = subst (IsKeptOnDisk disk history hs) (sym is) (record {
  each = kept.each;
  links = kept.links;
  distinct = kept.distinct;
  size = length-set sets x s ∙ kept.size;
  used = used_beside sets x s (pairs_blocks (header_pairs disk hs)) unused kept.used;
})

pub kept_taken : (disk : Disk) (history : List CallEvent) (hs : List PairHeader) (sets now : BlockStates) (o : Option ℕ) → IfSome o (IsFree sets) → IfSome o (λ b. now ≡ set sets b InFlight) → IfNone o (now ≡ sets)
    → IsKeptOnDisk disk history hs sets → IsKeptOnDisk disk history hs now
kept_taken disk history hs sets now None free taken same kept = subst (IsKeptOnDisk disk history hs) (sym same) kept
kept_taken disk history hs sets now (Some b) free taken same kept = kept_with disk history hs sets now b InFlight taken (free_unused sets b free) kept
