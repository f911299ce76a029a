-- The blocks that an image uses, and their number.
use Rattle.std.proofs.Common.{ℕ, ◌≡◌, ◌⊎◌, ◌==◌, ◌||◌, Bool, true, false, List, [], ◌∷◌, length, refl, sym, subst, eqb-true, inl, inr, arith}
use Rattle.std.specs.Prelude.{◌↔◌, Contains, IsTrue}
use Rattle.lfs_tree.proofs.Common.{list_any, eqb-false, AreUsed, BlockStates, IsUsedBlock, used_count, used_blocks, Contains-cons, Contains-head, Contains-tail, used_count-AreUsed, TreeState, IsSoundState}

contained_any : (bs : List ℕ) (block : ℕ) → Contains bs block → list_any (λ b. b == block) bs ≡ true
contained_any [] block h = absurd (omega (arith, h.1))
contained_any (b ∷ bs) block h = go (b == block) refl (contained_any bs block) (Contains-cons b block bs h)
  where
    go : (c : Bool) → (b == block) ≡ c → (Contains bs block → list_any (λ x. x == block) bs ≡ true) → (b ≡ block) ⊎ Contains bs block → (c || list_any (λ x. x == block) bs) ≡ true
    go true e rest k = refl
    go false e rest (inl same) = absurd (eqb-false b block e same)
    go false e rest (inr k) = rest k

any_contained : (bs : List ℕ) (block : ℕ) → list_any (λ b. b == block) bs ≡ true → Contains bs block
any_contained [] block h = absurd (cc)
any_contained (b ∷ bs) block h = go (b == block) refl (any_contained bs block) h
  where
    go : (c : Bool) → (b == block) ≡ c → (list_any (λ x. x == block) bs ≡ true → Contains bs block) → (c || list_any (λ x. x == block) bs) ≡ true → Contains (b ∷ bs) block
    go true e rest k = subst (λ z. Contains (b ∷ bs) z) (eqb-true b block e) (Contains-head b bs)
    go false e rest k = Contains-tail b block bs (rest k)

-- by the map
pub used_is : (sets : BlockStates) (bs : List ℕ) (block : ℕ) (r : Bool) → AreUsed sets bs → IsTrue r ↔ IsUsedBlock sets block → r ≡ list_any (λ b. b == block) bs
used_is sets bs block true are h = sym (contained_any bs block ((are block).0 (h.0 refl)))
used_is sets bs block false are h = go (list_any (λ b. b == block) bs) refl
  where
    go : (c : Bool) → list_any (λ b. b == block) bs ≡ c → false ≡ c
    go false e = refl
    go true e = absurd (let k = h.1 ((are block).1 (any_contained bs block e)) in cc)

pub count_is : (t : TreeState) → IsSoundState t → used_count t.map ≡ length (used_blocks t.disk t.pairs)
count_is t s = used_count-AreUsed t.map (used_blocks t.disk t.pairs) s.accepted.owned_once s.used
