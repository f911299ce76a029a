-- Steps along the pairs of a directory.
use Rattle.std.proofs.Common.{ℕ, zero, suc, ◌≡◌, ◌+◌, ◌<◌, ◌≤◌, Bool, true, false, cond, List, [], ◌∷◌, ◌++◌, length, drop, Option, Some, None, refl, sym, ap, ◌∙◌, arith, get_or}
use Rattle.lfs_lookup.proofs.Common.{same_Some, Pair, is_hard_tail, joined_pair_count, IsDirectoryPair}

-- the pair at an index
pub record At (ps : List Pair) (index : ℕ) (q : Pair) : Type 0 where
  pub front : List Pair
  pub rest : List Pair
  pub parts : ps ≡ front ++ q ∷ rest
  pub begins : length front ≡ index

pub at_index : (ps : List Pair) (index : ℕ) (d : Pair) → index < length ps → At ps index (get_or ps index d)
at_index [] index d h = absurd (omega arith)
at_index (p ∷ ps) zero d h = record { front = []; rest = ps; parts = refl; begins = refl }
at_index (p ∷ ps) (suc index) d h =
    let r = at_index ps index d (omega arith) in
    record { front = p ∷ r.front; rest = r.rest; parts = ap (λ z. p ∷ z) r.parts; begins = ap suc r.begins }

pub begun_here : (ps : List Pair) (first index : ℕ) (q : Pair) (a : At ps index q) → index ≡ first → IsDirectoryPair ps first index q a.rest
begun_here ps first index q a e = record { front = a.front; left = []; parts = a.parts; begins = a.begins ∙ e; number = (let b = a.begins in omega arith); joined = tt }

-- ---- reads

pub run_on : (ps : List Pair) (index : ℕ) (d : Pair) → index < length ps → is_hard_tail (get_or ps index d).content.tail ≡ true → joined_pair_count (drop index ps) ≡ 1 + joined_pair_count (drop (index + 1) ps)
run_on [] index d l e = absurd (omega arith)
run_on (p ∷ ps) zero d l e = ap (λ b. cond b (1 + joined_pair_count ps) 1) e
run_on (p ∷ ps) (suc index) d l e = let f : suc index + 1 ≡ suc (index + 1) = omega arith in run_on ps index d (omega arith) e ∙ ap (λ (n : ℕ). 1 + joined_pair_count (drop n (p ∷ ps))) (sym f)

-- a directory has a pair
pub run_some : (ps : List Pair) (index : ℕ) → index < length ps → 1 ≤ joined_pair_count (drop index ps)
run_some [] index l = absurd (omega arith)
run_some (p ∷ ps) zero l = go (is_hard_tail p.content.tail)
  where
    go : (b : Bool) → 1 ≤ cond b (1 + joined_pair_count ps) 1
    go true = omega arith
    go false = omega arith
run_some (p ∷ ps) (suc index) l = run_some ps index (omega arith)

-- ---- the next pair

pub leads_on : (b : Bool) (n next : ℕ) → cond b (Some n) None ≡ Some next → (b ≡ true) × (next ≡ n)
leads_on true n next e = (refl, sym (same_Some n next e))
leads_on false n next e = absurd (cc)

pub leads_nowhere : (b : Bool) (n : ℕ) → (let o : Option ℕ = cond b (Some n) None in o) ≡ None → b ≡ false
leads_nowhere true n e = absurd (cc)
leads_nowhere false n e = refl
