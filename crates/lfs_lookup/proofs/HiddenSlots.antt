-- The slot that counts as deleted, by the index of its pair.
use Rattle.std.proofs.Common.{ℕ, zero, suc, ◌≡◌, ◌+◌, ◌==◌, ◌&&◌, Bool, true, false, cond, List, [], ◌∷◌, Option, Some, None, refl, sym, ap, ap₂, subst, ◌∙◌, arith, slice_get, nat_eq}
use Rattle.lfs_lookup.proofs.Common.{AllByRecursion, same_Some, ne_eqb, false_from_ne_true, IsPairAt, Gstate, same_pair, Pair, pairs_blocks, moved_id, pair_back, pair_on, same_number, IsOnlyMovedSlot, skipped_id}
use Rattle.std.specs.List.{IsDistinct}
use Rattle.lfs_lookup.specs.declared.search.SlotPosition.{SlotPosition}
use Rattle.lfs_lookup.proofs.NamedSlots.{same_id}

hides_from : (g : Gstate) (moved : Option SlotPosition) (i : ℕ) (ps : List Pair) → ((k : ℕ) (p : Pair) → slice_get ps k ≡ Some p → skipped_id moved (i + k) ≡ moved_id g p) → IsOnlyMovedSlot g moved i ps
hides_from g moved i [] h = tt
hides_from g moved i (p ∷ ps) h = (
  (let e : i + 0 ≡ i = omega arith in subst (λ (n : ℕ). skipped_id moved n ≡ moved_id g p) e (h 0 p refl)),
  hides_from g moved (i + 1) ps (λ k q at. let e : i + suc k ≡ i + 1 + k = omega arith in subst (λ (n : ℕ). skipped_id moved n ≡ moved_id g q) e (h (suc k) q at)),
)

pub hides_nothing : (g : Gstate) (ps : List Pair) → (g.kind == 0x4ff) ≡ false → IsOnlyMovedSlot g None 0 ps
hides_nothing g ps e = hides_from g None 0 ps (λ k p at. sym (ap (λ b. cond (b && same_pair g.pair p.at) (Some g.id) None) e))

each_get : (P : Pair → Type 0) (ps : List Pair) (k : ℕ) (p : Pair) → AllByRecursion P ps → slice_get ps k ≡ Some p → P p
each_get P [] k p h e = absurd (cc)
each_get P (x ∷ ps) zero p h e = subst P (same_Some x p e) h.0
each_get P (x ∷ ps) (suc k) p h e = each_get P ps k p h.1 e

both_false : (a b : Bool) → b ≡ false → (a && b) ≡ false
both_false true b e = e
both_false false b e = refl

pub hides_nowhere : (g : Gstate) (ps : List Pair) → AllByRecursion (λ p. same_pair p.at g.pair ≡ false) ps → IsOnlyMovedSlot g None 0 ps
hides_nowhere g ps h = hides_from g None 0 ps (λ k p at.
    let not_here = each_get (λ q. same_pair q.at g.pair ≡ false) ps k p h at in
    let other : same_pair g.pair p.at ≡ false = false_from_ne_true (same_pair g.pair p.at) (λ s. absurd (let b = pair_back g.pair p.at s in cc)) in
    sym (ap (λ b. cond b (Some g.id) None) (both_false (g.kind == 0x4ff) (same_pair g.pair p.at) other)))

pub hides_there : (g : Gstate) (ps : List Pair) (spot : SlotPosition) → (g.kind == 0x4ff) ≡ true → spot.id ≡ g.id → IsDistinct nat_eq (pairs_blocks ps) → IsPairAt ps g.pair spot.pair → IsOnlyMovedSlot g (Some spot) 0 ps
hides_there g ps spot kind id distinct begins = hides_from g (Some spot) 0 ps (λ k p at. (let e : 0 + k ≡ k = omega arith in ap (skipped_id (Some spot)) e) ∙ go k p at (same_pair g.pair p.at) refl)
  where
    set : (p : Pair) (b : Bool) → same_pair g.pair p.at ≡ b → moved_id g p ≡ cond b (Some g.id) None
    set p b e = ap₂ (λ x y. cond (x && y) (Some g.id) None) kind e

    go : (k : ℕ) (p : Pair) → slice_get ps k ≡ Some p → (b : Bool) → same_pair g.pair p.at ≡ b → skipped_id (Some spot) k ≡ moved_id g p
    go k p at true e =
        let n : spot.pair ≡ k = same_number ps spot.pair k begins.pair p distinct begins.there at (pair_on begins.pair.at g.pair p.at begins.same e) in
        ap (λ b. cond b (Some spot.id) None) (ap (λ (i : ℕ). spot.pair == i) (sym n) ∙ same_id spot.pair) ∙ ap Some id ∙ sym (set p true e)
    go k p at false e =
        let other : (spot.pair == k) ≡ false = ne_eqb spot.pair k (λ n.
        let is : begins.pair ≡ p = same_Some begins.pair p (sym begins.there ∙ ap (slice_get ps) n ∙ at) in
        let s = pair_back begins.pair.at g.pair begins.same in
        absurd (let f = ap (λ (q : Pair). same_pair g.pair q.at) is in cc)) in
        ap (λ b. cond b (Some spot.id) None) other ∙ sym (set p false e)
