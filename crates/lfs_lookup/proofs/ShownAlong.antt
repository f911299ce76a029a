-- A search along all pairs of a directory that may skip a slot.
use Rattle.std.proofs.Common.{ℕ, zero, suc, ◌≡◌, ◌<◌, ◌+◌, false, List, [], ◌∷◌, ◌++◌, length, drop, Option, refl, sym, ap, subst, ◌∙◌, arith, append_assoc, length-append, get_or}
use Rattle.lfs_lookup.proofs.Common.{IsDirectoryPair, HasHardTail, Name, Pair, is_hard_tail, each_append, IsNameAbsentFrom, IsNameAbsentExcept, IsNameAtVisibleSlot, IsNameAtUnskipped, skipped_id}
use Rattle.lfs_lookup.specs.declared.entry.FileOrDirectory.{FileOrDirectory}
use Rattle.lfs_lookup.specs.declared.search.SlotPosition.{SlotPosition}
use Rattle.lfs_lookup.proofs.Walked.{at_index, begun_here}

-- the pair of that number is one of the directory's
pub record LeadsFromFresh (ps : List Pair) (first index : ℕ) (q : Pair) : Type 0 where
  pub rest : List Pair
  pub behind : IsDirectoryPair ps first index q rest

pub reached_first : (ps : List Pair) (first : ℕ) (d : Pair) → first < length ps → LeadsFromFresh ps first first (get_or ps first d)
reached_first ps first d below = let a = at_index ps first d below in record { rest = a.rest; behind = begun_here ps first first (get_or ps first d) a refl }

get_behind : (xs : List Pair) (y : Pair) (ys : List Pair) (d : Pair) → get_or (xs ++ y ∷ ys) (length xs) d ≡ y
get_behind [] y ys d = refl
get_behind (x ∷ xs) y ys d = get_behind xs y ys d

pub reached_next : (ps : List Pair) (first index : ℕ) (q d : Pair) → LeadsFromFresh ps first index q → HasHardTail q → index + 1 < length ps → LeadsFromFresh ps first (index + 1) (get_or ps (index + 1) d)
reached_next ps first index q d r hard below = go r.rest r.behind
  where
    go : (rest : List Pair) → IsDirectoryPair ps first index q rest → LeadsFromFresh ps first (index + 1) (get_or ps (index + 1) d)
    go [] b = absurd (
        let l = ap length b.parts in
        let m = length-append b.front (b.left ++ q ∷ []) in
        let k = length-append b.left (q ∷ []) in
        let n = b.number in
        omega (arith, l, m, k, n, below)
        )
    go (p ∷ rest) b =
        let whole : ps ≡ (b.front ++ (b.left ++ q ∷ [])) ++ p ∷ rest = b.parts ∙ ap (λ z. b.front ++ z) (sym (append_assoc b.left (q ∷ []) (p ∷ rest))) ∙ sym (append_assoc b.front (b.left ++ q ∷ []) (p ∷ rest)) in
        let m = length-append b.front (b.left ++ q ∷ []) in
        let k = length-append b.left (q ∷ []) in
        let n = b.number in
        let count : length (b.front ++ (b.left ++ q ∷ [])) ≡ index + 1 = omega (arith, m, k, n) in
        let is : get_or ps (index + 1) d ≡ p = ap (λ z. get_or z (index + 1) d) whole ∙ ap (λ (i : ℕ). get_or ((b.front ++ (b.left ++ q ∷ [])) ++ p ∷ rest) i d) (sym count) ∙ get_behind (b.front ++ (b.left ++ q ∷ [])) p rest d in
        subst (LeadsFromFresh ps first (index + 1)) (sym is) (record {
          rest = rest;
          behind = record {
            front = b.front;
            left = b.left ++ q ∷ [];
            parts = b.parts ∙ ap (λ z. b.front ++ z) (sym (append_assoc b.left (q ∷ []) (p ∷ rest)));
            begins = b.begins;
            number = omega (arith, k, n);
            joined = each_append HasHardTail b.left (q ∷ []) b.joined (hard, tt);
          };
        })

-- it is in this pair
pub shown_here : (ps : List Pair) (moved : Option SlotPosition) (first : ℕ) (name : Name) (spot : SlotPosition) (q : Pair) (entry : FileOrDirectory) → LeadsFromFresh ps first spot.pair q
    → IsNameAtUnskipped (skipped_id moved spot.pair) q.content.slots name spot.id entry → IsNameAtVisibleSlot ps moved first name spot entry
shown_here ps moved first name spot q entry r s = record { stands = record { pair = q; rest = r.rest; place = r.behind; stands = s.stands }; shows = s.shows; kept = s.kept }

drop_here : (ps : List Pair) (index : ℕ) (d : Pair) → index < length ps → drop index ps ≡ get_or ps index d ∷ drop (index + 1) ps
drop_here [] index d l = absurd (omega arith)
drop_here (p ∷ ps) zero d l = refl
drop_here (p ∷ ps) (suc index) d l = let e : suc index + 1 ≡ suc (index + 1) = omega arith in drop_here ps index d (omega arith) ∙ ap (λ (n : ℕ). get_or ps index d ∷ drop n (p ∷ ps)) (sym e)

-- it is absent as far as this pair, and so of all if it is of those behind
pub absent_on : (ps : List Pair) (moved : Option SlotPosition) (index : ℕ) (name : Name) (d : Pair) (X : Type 0) → index < length ps → (IsNameAbsentFrom moved index (drop index ps) name → X)
    → IsNameAbsentExcept (skipped_id moved index) (get_or ps index d).content.slots name → IsNameAbsentFrom moved (index + 1) (drop (index + 1) ps) name → X
absent_on ps moved index name d X l so here behind = so (subst (λ z. IsNameAbsentFrom moved index z name) (sym (drop_here ps index d l)) (here, λ hard. behind))

pub absent_end : (ps : List Pair) (moved : Option SlotPosition) (index : ℕ) (name : Name) (d : Pair) (X : Type 0) → index < length ps → (IsNameAbsentFrom moved index (drop index ps) name → X)
    → IsNameAbsentExcept (skipped_id moved index) (get_or ps index d).content.slots name → is_hard_tail (get_or ps index d).content.tail ≡ false → X
absent_end ps moved index name d X l so here soft = so (subst (λ z. IsNameAbsentFrom moved index z name) (sym (drop_here ps index d l)) (here, λ hard. absurd (let k = sym soft ∙ hard in cc)))
