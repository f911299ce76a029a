-- The pair in front of another one of the same directory.
use Rattle.std.proofs.Common.{ℕ, ◌≡◌, ◌+◌, Bool, true, false, nat_eq, slice_get, List, [], ◌∷◌, ◌++◌, length, refl, sym, ap, subst, ◌∙◌, arith, append_assoc, length-append}
use Rattle.std.specs.Prelude.{◌≢◌}
use Rattle.std.specs.List.{IsDistinct}
use Rattle.lfs_model.proofs.Common.{same_pair, Pair, pairs_blocks, first_address, is_hard_tail}
use Rattle.lfs_model.specs.session.InDirectory.{IsPairAt}
use Rattle.lfs_model.proofs.Listings.{IsRun}
use Rattle.lfs_model.proofs.Searches.{same_number}
use Rattle.lfs_model.proofs.Pairs.{pair_back, pair_on}
use Rattle.lfs_model.proofs.Sites.{IsSite, Site, begin_of, thread_at}
use Rattle.lfs_model.proofs.Superblocks.{IsChain}
use Rattle.lfs_model.proofs.Writable.{last_tail_is_hard}
use Rattle.lfs_model.proofs.PairLists.{get_behind}

pub record LastPair (xs : List Pair) : Type 0 where
  pub front : List Pair
  pub last : Pair
  pub is : xs ≡ front ++ last ∷ []

pub last_pair : (xs : List Pair) → xs ≢ [] → LastPair xs
last_pair [] n = absurd (n refl)
last_pair (x ∷ []) n = record { front = []; last = x; is = refl }
last_pair (x ∷ y ∷ xs) n = let l = last_pair (y ∷ xs) (λ e. absurd (cc)) in record { front = x ∷ l.front; last = l.last; is = ap (λ z. x ∷ z) l.is }

-- a pair that isn't the first of its directory has others in front of it there
pub not_alone : (chain before left tail : List Pair) (p : Pair) (a : ℕ × ℕ) (first : ℕ) → IsDistinct nat_eq (pairs_blocks (chain ++ ((before ++ left) ++ p ∷ tail))) → same_pair (first_address (left ++ p ∷ [])) a ≡ true
    → IsPairAt (chain ++ ((before ++ left) ++ p ∷ tail)) a first → (length chain + length (before ++ left) ≡ first → ⊥) → left ≢ []
not_alone chain before left tail p a first distinct h b n none =
    let there = ap (λ z. slice_get z (length (chain ++ (before ++ left)))) (sym (append_assoc chain (before ++ left) (p ∷ tail))) ∙ get_behind (chain ++ (before ++ left)) p tail in
    let begins : same_pair p.at a ≡ true = subst (λ z. same_pair (first_address (z ++ p ∷ [])) a ≡ true) none h in
    let e = same_number (chain ++ ((before ++ left) ++ p ∷ tail)) (length (chain ++ (before ++ left))) first p b.pair distinct there b.there (pair_on p.at a b.pair.at begins (pair_back b.pair.at a b.same)) in
    n (sym (length-append chain (before ++ left)) ∙ e)

pub run_hard : (left : List Pair) (x : Pair) (o : Pair) (right : List Pair) → IsRun (left ++ (x ∷ o ∷ right)) → is_hard_tail x.content.tail ≡ true
run_hard [] x o right h = h.0
run_hard (y ∷ []) x o right h = h.1.0
run_hard (y ∷ z ∷ left) x o right h = run_hard (z ∷ left) x o right h.1

pub flag_last : (xs : List Pair) (x : Pair) (b : Bool) → last_tail_is_hard b (xs ++ x ∷ []) ≡ is_hard_tail x.content.tail
flag_last [] x b = refl
flag_last (y ∷ xs) x b = flag_last xs x (is_hard_tail y.content.tail)

-- The pair o at a site has others of its directory in front of it, so it stands behind x, whose hard tail leads to it.
pub record StandsBehind (ps : List Pair) (v : Site) (o : Pair) (index : ℕ) : Type 0 where
  pub w : Site
  pub x : Pair
  pub there : ps ≡ thread_at w (x ∷ o ∷ [])
  pub site : IsSite w (x ∷ o ∷ [])
  pub number : length (w.chain ++ (w.before ++ w.left)) + 1 ≡ index
  pub hard : is_hard_tail x.content.tail ≡ true
  pub begin : begin_of v (o ∷ []) ≡ begin_of w (x ∷ o ∷ [])
  pub led : last_tail_is_hard false (v.before ++ v.left) ≡ true

pub stands_behind : (ps : List Pair) (v : Site) (o : Pair) (index : ℕ) → ps ≡ thread_at v (o ∷ []) → IsSite v (o ∷ []) → index ≡ length v.chain + length (v.before ++ v.left) → v.left ≢ [] → StandsBehind ps v o index
stands_behind ps v o index is at number some = record {
  w = record { chain = v.chain; before = v.before; left = l.front; right = v.right; after = v.after };
  x = l.last;
  there = is ∙ ap (λ z. v.chain ++ z) dirs_is;
  site = record { chain = subst (IsChain v.chain) dirs_is at.chain; ends = at.ends; run = run };
  number =
      let a = length-append v.chain (v.before ++ l.front) in
      let b = length-append v.before l.front in
      let c = length-append v.before v.left in
      let d = ap length l.is in
      let e = length-append l.front (l.last ∷ []) in
      omega arith;
  hard = hard;
  begin = ap first_address (ap (λ z. z ++ o ∷ []) l.is ∙ append_assoc l.front (l.last ∷ []) (o ∷ []));
  led = ap (λ z. last_tail_is_hard false (v.before ++ z)) l.is ∙ ap (last_tail_is_hard false) (sym (append_assoc v.before l.front (l.last ∷ []))) ∙ flag_last (v.before ++ l.front) l.last false ∙ hard;
}
  where
    l : LastPair v.left
    l = last_pair v.left some

    dirs_is : (v.before ++ v.left) ++ o ∷ (v.right ++ v.after) ≡ (v.before ++ l.front) ++ l.last ∷ o ∷ (v.right ++ v.after)
    dirs_is = ap (λ z. (v.before ++ z) ++ o ∷ (v.right ++ v.after)) l.is
        ∙ append_assoc v.before (l.front ++ l.last ∷ []) (o ∷ (v.right ++ v.after))
        ∙ ap (λ z. v.before ++ z) (append_assoc l.front (l.last ∷ []) (o ∷ (v.right ++ v.after)))
        ∙ sym (append_assoc v.before l.front (l.last ∷ o ∷ (v.right ++ v.after)))

    run : IsRun (l.front ++ (l.last ∷ o ∷ v.right))
    run = subst IsRun (ap (λ z. z ++ o ∷ v.right) l.is ∙ append_assoc l.front (l.last ∷ []) (o ∷ v.right)) at.run

    hard : is_hard_tail l.last.content.tail ≡ true
    hard = run_hard l.front l.last o v.right run
